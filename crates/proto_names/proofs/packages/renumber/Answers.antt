use Rattle.std.proofs.Common.{◌<◌, List, ap, arith, get_or, length}
use Rattle.proto_names.specs.declared.packages.PackagedFile.{PackagedFile}
use Rattle.proto_names.specs.Packages.{moved}
use Rattle.proto_names.proofs.Walked.{one_more_mapped, still_long, still_there}
use Rattle.proto_names.proofs.packages.renumber.Goals as goal

pub number_after-file-requires : goal.number_after-file-requires
number_after-file-requires c =
    let nothing : PackagedFile = c.file-item.result in
    let old : List PackagedFile = c.args.found.now.items in
    let long : c.loop-file.file-index < length c.loop-file.file-items = omega (arith, c.loop-file-test.true, c.loop-file.auto.file-items) in
    let small = c.requires c.loop-file.file-index nothing (still_long old c.loop-file.file-items c.loop-file.file-index c.loop-file.invariant.1 nothing long) in
    let same = ap (λ (p : PackagedFile). p.file) (still_there old c.loop-file.file-items c.loop-file.file-index c.loop-file.invariant.1 nothing long) in
    omega (arith, small, same)

pub loop-file-preserved : goal.loop-file-preserved
loop-file-preserved c =
    let nothing : PackagedFile = c.file-item.result in
    let old : List PackagedFile = c.args.found.now.items in
    let long : c.loop-file.file-index < length c.loop-file.file-items = omega (arith, c.loop-file-test.true, c.loop-file.auto.file-items) in
    one_more_mapped old c.loop-file.file-items c.loop-file.file-index c.loop-file.invariant.1 nothing long (moved c.args.at) _ c.loop-file.invariant.0
    (ap (λ n. record { name = (let p = get_or c.loop-file.file-items c.loop-file.file-index nothing in p.name); file = n }) c.number_after-file.ensures)
