use Rattle.std.proofs.Common.{rules, ◌≡◌, ◌+◌, ◌-◌, ◌++◌, [], ◌∷◌, map, take, drop, sym, ap, ap₂, ◌∙◌, arith}
use Rattle.std.proofs.lemmas.List.{nil_from_length}
use Rattle.std.specs.Vec.Iter.{into_iter_items}
use Rattle.lsp_rpc.specs.Symbol.{all_symbols, document_symbols}
use Rattle.lsp_answers.specs.Answers.{symbol_of}
use Rattle.lsp_answers.specs.Views.{found_view}
use Rattle.lsp_answers.proofs.DeclarationsLemmas.{further, next-document, none-left, own_location, pushed}
use Rattle.lsp_answers.proofs.answers.Answers.symbols_of.Goals as goal

pub slice_bounds-symbols_in-end : goal.slice_bounds-symbols_in-end
slice_bounds-symbols_in-end c =
    let at = c.documents in
    let next : into_iter_items at.document-iterator ≡ c.in-Some.document ∷ into_iter_items c.next.new.self = search rules in
    let here = next-document c.args.self.now c.in-Some.document (into_iter_items c.next.new.self) (into_iter_items at.document-iterator) c.args.found.now at.done c.len-in-documents.result next at.invariant.left (c.len-in-documents.ensures ∙ c.in-Some.document.ranges.ok.0) at.invariant.within in
    omega (arith, here.0)

pub symbols_in-requires : goal.symbols_in-requires
symbols_in-requires c =
    let at = c.documents in
    let n = c.len-in-documents.result in
    let next : into_iter_items at.document-iterator ≡ c.in-Some.document ∷ into_iter_items c.next.new.self = search rules in
    let here = next-document c.args.self.now c.in-Some.document (into_iter_items c.next.new.self) (into_iter_items at.document-iterator) c.args.found.now at.done n next at.invariant.left (c.len-in-documents.ensures ∙ c.in-Some.document.ranges.ok.0) at.invariant.within in
    let count : n ≡ at.done + n - at.done = omega arith in
    here.1 ∙ ap (λ k. map (own_location c.args.self.now) (take k (drop at.done c.args.found.now))) count

pub documents-preserved : goal.documents-preserved
documents-preserved c =
    let at = c.documents in
    let n = c.len-in-documents.result in
    let found = c.args.found.now in
    let of = symbol_of c.args.self.now in
    let next : into_iter_items at.document-iterator ≡ c.in-Some.document ∷ into_iter_items c.next.new.self = search rules in
    let here = next-document c.args.self.now c.in-Some.document (into_iter_items c.next.new.self) (into_iter_items at.document-iterator) found at.done n next at.invariant.left (c.len-in-documents.ensures ∙ c.in-Some.document.ranges.ok.0) at.invariant.within in
    let count : at.done + n - at.done ≡ n = omega arith in
    let symbols = c.in_ok-symbols_in.ensures ∙ ap (λ k. map of (map found_view (take k (drop at.done found)))) count in
    record {
      within = here.0;
      symbols = ap all_symbols c.in_ok-push.ensures.items ∙ pushed document_symbols at.symbols.items c.in_ok-symbols_in.field-0 ∙ ap₂ (λ l more. l ++ more) at.invariant.symbols symbols ∙ further of found_view found at.done n;
      left = here.2;
    }

pub returns : goal.returns
returns c =
    let at = c.documents in
    let none : into_iter_items at.document-iterator ≡ [] = nil_from_length (into_iter_items at.document-iterator) (sym at.document-iterator.rest.ok.0 ∙ c.in-None.ensures.steps.0) in
    at.invariant.symbols ∙ ap (λ l. map (symbol_of c.args.self.now) (map found_view l)) (none-left c.args.self.now (into_iter_items at.document-iterator) c.args.found.now at.done none at.invariant.left)
