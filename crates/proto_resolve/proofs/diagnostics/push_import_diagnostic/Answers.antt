use Rattle.proto_resolve.proofs.Imports.{as_many}
use Rattle.proto_resolve.proofs.diagnostics.push_import_diagnostic.Goals as goal

pub import_of-requires-clause-import : goal.import_of-requires-clause-import
import_of-requires-clause-import g c =
    let long = as_many (g.I.Index.files c.args.index.now) (g.I.Index.files c.args.index.now) c.args.file in
    rw (c.graph-graph.ensures, long) c.requires.number
