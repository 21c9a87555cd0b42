use Rattle.std.proofs.Common.{◌∙◌, ◌++◌, ◌∷◌, [], List, ap, false}
use Rattle.proto_decls.specs.declared.diagnostic.Diag.{Diag}
use Rattle.proto_decls.specs.Facts.{facts_of}
use Rattle.work_index.specs.Workspace.{merged}
use Rattle.work_index.proofs.analyse.push_diagnosed.Goals as goal

pub returns : goal.returns
returns c = λ w reads_others is.
    c.in_ok-push.ensures.items
    ∙ ap (λ (diagnostics : List Diag). c.args.diagnostics.now.items ++ diagnostics ∷ [])
    (c.in_ok-diagnostics_of.ensures (record { text = c.args.piece.now.text; reads_others = false }) c.facts_in.ensures ∙ ap (merged (facts_of c.args.piece.now.text)) (c.get.ensures ∙ c.in_ok-found.ensures w reads_others is))
