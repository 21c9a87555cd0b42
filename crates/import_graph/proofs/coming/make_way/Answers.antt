use Rattle.std.proofs.Common.{◌≤◌, sym, arith}
use Rattle.import_graph.proofs.Unmoved.{rows_stay}
use Rattle.import_graph.proofs.coming.make_way.Goals as goal

pub returns-else-at-count : goal.returns-else-at-count
returns-else-at-count c =
    let behind : c.args.count ≤ c.args.at = omega (arith, c.if-at-count.false) in
    sym (rows_stay c.args.at c.args.count behind c.args.rows.now.items c.requires)
