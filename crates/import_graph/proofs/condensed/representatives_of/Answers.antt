use Rattle.std.proofs.Common.{◌≡◌, ◌<◌, length, vec_len, arith}
use Rattle.std.proofs.lemmas.List.Elements.{All-push}
use Rattle.import_graph.proofs.Representatives.{stands-push}
use Rattle.import_graph.proofs.condensed.representatives_of.Goals as goal

pub loop-file-preserved : goal.loop-file-preserved
loop-file-preserved c =
    let long : length c.loop-file.found.items ≡ c.loop-file.file = omega (arith, c.loop-file.invariant.length_is, c.loop-file.found.ok) in
    record {
      length_is = omega (arith, c.loop-file.invariant.length_is, c.in_ok-push.ensures.len);
      within = rw c.in_ok-push.ensures.items (All-push (λ g. g < vec_len c.args.components.now.numbers) _ _ c.loop-file.invariant.within c.representative_of.ensures.within);
      stands = rw c.in_ok-push.ensures.items (stands-push _ _ _ _ c.loop-file.invariant.stands (rw long c.representative_of.ensures.stands));
    }
