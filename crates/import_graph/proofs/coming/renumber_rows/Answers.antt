use Rattle.std.proofs.Common.{◌<◌, ℕ, List, length, map, arith}
use Rattle.import_graph.specs.Coming.{number_after}
use Rattle.import_graph.proofs.Walked.{one_more_mapped, still_long, still_there}
use Rattle.import_graph.proofs.coming.renumber_rows.Goals as goal

pub renumber-requires : goal.renumber-requires
renumber-requires c =
    let old : List (List ℕ) = c.args.rows.now.items in
    let nothing : List ℕ = c.row-item.result in
    let long : c.loop-row.row-index < length c.loop-row.row-items = omega (arith, c.loop-row-test.true, c.loop-row.auto.row-items) in
    rw (still_there old c.loop-row.row-items c.loop-row.row-index c.loop-row.invariant.1 nothing long)
    (c.requires c.loop-row.row-index nothing (still_long old c.loop-row.row-items c.loop-row.row-index c.loop-row.invariant.1 nothing long))

pub loop-row-preserved : goal.loop-row-preserved
loop-row-preserved c =
    let old : List (List ℕ) = c.args.rows.now.items in
    let nothing : List ℕ = c.row-item.result in
    let long : c.loop-row.row-index < length c.loop-row.row-items = omega (arith, c.loop-row-test.true, c.loop-row.auto.row-items) in
    one_more_mapped old c.loop-row.row-items c.loop-row.row-index c.loop-row.invariant.1 nothing long (map (number_after c.args.at)) _ c.loop-row.invariant.0 c.renumber.ensures
