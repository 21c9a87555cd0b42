use Rattle.std.proofs.Common.{◌<◌, List, length, subst}
use Rattle.proto_decls.specs.declared.fact.ImportFact.{ImportFact}
use Rattle.proto_resolve.proofs.Imports.{as_many}
use Rattle.work_shares.proofs.unchecked.lost_path.Goals as goal

pub names_analysed-requires-clause-import : goal.names_analysed-requires-clause-import
names_analysed-requires-clause-import c =
    let long = as_many c.args.table.now c.args.table.now c.args.file in
    rw (c.graph.ensures, long) (subst (λ (is : List ImportFact). c.loop-number.number < length is) c.requires.imports c.loop-number-test.true)
