use Rattle.std.proofs.Common.{◌∙◌, ap, rules}
use Rattle.std.specs.Vec.Iter.{into_iter_items}
use Rattle.piece_collector.specs.Lending.{given}
use Rattle.piece_collector.proofs.PutBack.{given_by}
use Rattle.piece_collector.proofs.slots.restore_all.Goals as goal

pub returns-clause-entries : goal.returns-clause-entries
returns-clause-entries g c =
    given_by _ (λ f. into_iter_items f.0.now) (λ f k v b w f' t. search rules) _ c.args.slots.now.entries _ c.retain.ensures.filtered
    ∙ ap (given c.args.slots.now.entries) (search rules)
