use Rattle.std.proofs.Common.{rules, ◌≡◌, ◌++◌, ◌∷◌, [], map, sym, ap, ◌∙◌, append_assoc, append-nil}
use Rattle.std.proofs.lemmas.List.{nil_from_length}
use Rattle.std.specs.Vec.Iter.{into_iter_items}
use Rattle.lsp_core.proofs.reply.push_all.Goals as goal

pub loop-body-preserved : goal.loop-body-preserved
loop-body-preserved c =
    let at = c.loop-body in
    let old = at.replies.items in
    let next : into_iter_items at.body-iterator ≡ c.in-Some.body ∷ into_iter_items c.next.new.self = search rules in
    let left = map (λ body. body.items) (into_iter_items c.next.new.self) in
    ap (λ l. l ++ left) c.in_ok-push.ensures ∙ append_assoc old (c.in-Some.body.items ∷ []) left ∙ ap (λ l. old ++ map (λ body. body.items) l) (sym next) ∙ at.invariant

pub returns : goal.returns
returns c =
    let at = c.loop-body in
    let none : into_iter_items at.body-iterator ≡ [] = nil_from_length (into_iter_items at.body-iterator) (sym at.body-iterator.rest.ok.0 ∙ c.in-None.ensures.steps.0) in
    sym (append-nil at.replies.items) ∙ ap (λ l. at.replies.items ++ map (λ body. body.items) l) (sym none) ∙ at.invariant
