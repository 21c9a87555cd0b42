use Rattle.std.proofs.Common.{◌∙◌, ◌++◌, [], ◌∷◌, List, ap, false}
use Rattle.proto_decls.specs.declared.diagnostic.Diag.{Diag}
use Rattle.proto_decls.specs.Facts.{facts_of}
use Rattle.work_index.specs.Workspace.{merged}
use Rattle.work_index.proofs.analyse.push_found.Goals as goal

pub returns-clause-diagnostics : goal.returns-clause-diagnostics
returns-clause-diagnostics c = c.in_ok-push.ensures.items ∙ ap (λ (diagnostics : List Diag). c.args.resolutions.now.diagnostics.items ++ diagnostics ∷ []) (c.in_ok-diagnostics.ensures (record { text = c.args.piece.now.text; reads_others = false }) c.facts_in.ensures ∙ ap (merged (facts_of c.args.piece.now.text)) c.get.ensures)
