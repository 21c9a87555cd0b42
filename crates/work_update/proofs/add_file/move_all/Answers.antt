use Rattle.std.proofs.Common.{◌<◌, length, arith}
use Rattle.proto_names.proofs.Walked.{one_more_mapped}
use Rattle.work_links.specs.Laws.{decl_moved}
use Rattle.work_links.specs.Touched.{links_after}
use Rattle.work_update.proofs.add_file.move_all.Goals as goal

pub loop-own-preserved : goal.loop-own-preserved
loop-own-preserved c =
    let walked = c.loop-own.own-items in
    let n = c.loop-own.own-index in
    let far : n < length walked = omega (arith, c.loop-own-test.true, c.loop-own.auto.own-items) in
    let move = links_after (decl_moved c.args.to.now) in
    one_more_mapped c.args.links.now.items walked n c.loop-own.invariant.1 c.own-item.result far move _ c.loop-own.invariant.0 c.in_ok-move_files.ensures
