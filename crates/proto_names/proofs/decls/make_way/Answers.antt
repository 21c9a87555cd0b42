use Rattle.std.proofs.Common.{◌≤◌, ◌+◌, sym, arith}
use Rattle.proto_names.proofs.InsertedDecls.{all_before}
use Rattle.proto_names.proofs.decls.make_way.Goals as goal

pub returns-else-saturating_sub-gt1 : goal.returns-else-saturating_sub-gt1
returns-else-saturating_sub-gt1 c =
    let last : c.args.count ≤ c.args.at + 1 = omega (arith, c.saturating_sub.ensures, c.if-saturating_sub-gt1.false) in
    sym (all_before c.args.at c.args.count c.args.decls.now.items last c.requires)
