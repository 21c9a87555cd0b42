use Rattle.std.proofs.Common.{◌≡◌, ◌<◌, [], ◌∷◌, length, get_or, length-append, ap, arith}
use Rattle.std.proofs.lemmas.Option.{get_or_from_slice_get}
use Rattle.work_update.proofs.Updates.{one_numbered}
use Rattle.work_update.proofs.update.numbers_now.Goals as goal

pub loop-file-preserved : goal.loop-file-preserved
loop-file-preserved c =
    let names = c.args.earlier.now.paths in
    let file = c.loop-file.file in
    let so_far = c.loop-file.invariant in
    let there : file < length names = omega (arith, c.loop-file-test.true, c.file_count-count.ensures) in
    let is : get_or names file [] ≡ c.path-path.result.now = get_or_from_slice_get names file c.path-path.result.now [] c.path-path.ensures in record {
      count = omega (arith, so_far.count, ap length c.in_ok-push.ensures.items, length-append c.loop-file.to.items (c.number_now.result ∷ []));
      each = one_numbered names c.args.changed.now c.args.pieces.now c.loop-file.to.items c.push.new.self.items c.number_now.result file c.path-path.result.now so_far.count so_far.each c.in_ok-push.ensures.items there is c.number_now.ensures.unchanged c.number_now.ensures.here c.number_now.ensures.path;
    }
