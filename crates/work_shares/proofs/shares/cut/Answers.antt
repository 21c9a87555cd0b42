use Rattle.std.proofs.Common.{◌≡◌, refl, suc, ◌+◌, ◌-◌, ◌/◌, ◌%◌, ◌++◌, ◌∷◌, [], min, map, length, arith, rules, vec_len}
use Rattle.std.proofs.lemmas.Grind.{common_steps}
use Rattle.std.proofs.lemmas.List.{map-append}
use Rattle.work_shares.specs.declared.shares.Share.{Share}
use Rattle.work_shares.proofs.Balance.{cut_next}
use Rattle.work_shares.proofs.Joined.{one_more_share}
use Rattle.work_shares.proofs.KeptShares.{all_alike}
use Rattle.work_shares.proofs.shares.cut.Goals as goal

pub loop-i-preserved : goal.loop-i-preserved
loop-i-preserved c =
    let here = c.div_ceil-here.result in
    let left : c.args.count - c.loop-i.i ≡ suc (c.args.count - (c.loop-i.i + 1)) = search rules in
    let size : here ≡ vec_len c.loop-i.pieces / (c.args.count - c.loop-i.i) + min 1 (vec_len c.loop-i.pieces % (c.args.count - c.loop-i.i)) = search rules in
    let next : vec_len c.in_ok-rest.rest ≡ vec_len c.loop-i.pieces - here = search rules in
    let sizes : map (λ (s : Share). vec_len s.pieces) c.push.new.self.items ≡ map (λ (s : Share). vec_len s.pieces) c.loop-i.shares.items ++ here ∷ [] = grind (arith, common_steps, map-append) in
    let left_of : c.loop-i.first + length c.loop-i.pieces.items ≡ length c.args.all.pieces.items = search rules in
    let cut = cut_next _ _ here _ _ _ _ left size next sizes c.loop-i.invariant.balanced c.loop-i.invariant.bounded in
    record {
      whole = grind (arith, common_steps);
      kept = all_alike (λ s. s.keeps_links) c.args.all.keeps_links _ _ _ c.in_ok-push.ensures.items c.loop-i.invariant.kept refl;
      read = all_alike (λ s. s.reads_others) c.args.all.reads_others _ _ _ c.in_ok-push.ensures.items c.loop-i.invariant.read refl;
      count = grind (arith, common_steps);
      left = grind (arith, common_steps);
      first = grind (arith, common_steps);
      places = one_more_share _ _ _ _ _ c.in_ok-push.ensures.items c.loop-i.invariant.places c.loop-i.invariant.whole left_of;
      balanced = cut.0;
      bounded = cut.1;
    }
