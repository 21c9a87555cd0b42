use Rattle.std.proofs.Common.{◌∙◌, ap}
use Rattle.import_graph.specs.Closures.{seers_of}
use Rattle.import_graph.specs.Imports.{graph_of}
use Rattle.work_index.proofs.Known.{own_parts}
use Rattle.work_index.proofs.analysis.Analysis.seen_by.Goals as goal

pub returns : goal.returns
returns c =
    let inside = c.self.inside in
    let parts = own_parts c.args.self.now (record { table = inside.table; files = inside.files; resolutions = inside.resolutions }) c.self.invariant c.self.view_is in
    c.in_ok-seers.ensures.seers ∙ ap (λ graph. seers_of graph c.args.file) (c.graph.ensures ∙ ap graph_of parts.table)
