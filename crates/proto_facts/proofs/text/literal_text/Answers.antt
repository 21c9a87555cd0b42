use Rattle.std.proofs.Common.{◌≡◌, ◌∙◌, sym, List, [], drop, append-nil, string_bytes, refl}
use Rattle.std.proofs.lemmas.List.{drop_all}
use Rattle.proto_tree.specs.declared.node.Span.{Span}
use Rattle.proto_facts.proofs.text.literal_text.Goals as goal

pub returns : goal.returns
returns c =
    let items : List Span = c.as_slice-part-items.result.now in
    let none : drop c.parts.part-index items ≡ [] = drop_all c.parts.part-index items c.parts-test.false in
    c.of.ensures ∙ (sym (append-nil (string_bytes c.parts.found)) ∙ (rw none at c.parts.invariant)) ∙ rw c.as_slice-part-items.ensures refl
