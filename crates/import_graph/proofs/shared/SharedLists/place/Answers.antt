use Rattle.std.proofs.Common.{◌≡◌, ◌<◌, [], inr, length, refl, subst, ◌∙◌, arith}
use Rattle.std.specs.Prelude.{Contains}
use Rattle.std.proofs.lemmas.List.{get_or_default}
use Rattle.import_graph.specs.Shared.{list_at}
use Rattle.import_graph.proofs.shared.SharedLists.place.Goals as goal

pub returns-then-has-clause-numbers : goal.returns-then-has-clause-numbers
returns-then-has-clause-numbers c =
    let there : c.args.number < length c.args.self.now.lists.items = omega (arith, c.requires.number, c.args.self.now.lists.ok) in
    let row : c.as_slice.result.now ≡ list_at c.args.self.now c.args.number = c.as_slice.ensures ∙ (c.index.ensures ∙ get_or_default c.args.self.now.lists.items c.args.number _ [] there) in
    inr (refl, subst (λ l. Contains l c.args.file) row (c.has.ensures c.if-has.true))
