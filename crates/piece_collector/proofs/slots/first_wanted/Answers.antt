use Rattle.std.proofs.Common.{ap, sym, ◌∙◌, string_bytes}
use Rattle.std.specs.BTreeMap.{get_by_text}
use Rattle.std.specs.List.{find}
use Rattle.piece_collector.specs.Views.{is_wanting}
use Rattle.piece_collector.proofs.Passed.{find_from}
use Rattle.piece_collector.proofs.slots.first_wanted.Goals as goal

pub loop-path-init : goal.loop-path-init
loop-path-init g c =
    find_from (λ q. is_wanting (get_by_text c.args.slots.now q)) c.args.from.now c.args.paths.now.keys c.requires
    ∙ ap (λ ks. find (λ k. is_wanting (get_by_text c.args.slots.now (string_bytes k))) ks) (sym (c.into_iter-path-iterator.ensures.into_iter_gives ∙ c.range-path-items.ensures.between tt))
