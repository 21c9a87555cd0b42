use Rattle.std.proofs.Common.{sym, ◌∙◌}
use Rattle.import_graph.proofs.Views.{target_imported}
use Rattle.import_graph.proofs.graph.Graph.closes_cycle.Goals as goal

pub leads_back-requires-clause-imported : goal.leads_back-requires-clause-imported
leads_back-requires-clause-imported c = target_imported c.args.self.now c.args.file c.args.import c.in-Some.target c.requires.import (sym c.import_of.ensures.value ∙ c.in-Some.is)
