use Rattle.std.proofs.Common.{◌∙◌, ap, refl}
use Rattle.proto_decls.specs.declared.fact.FileFacts.{FileFacts}
use Rattle.work_index.proofs.OwnDiags.{own-merged}
use Rattle.work_index.proofs.analyse.diagnostics_of.Goals as goal

pub returns-then-is_empty : goal.returns-then-is_empty
returns-then-is_empty c s is =
    c.in_ok-found.ensures ∙ c.as_slice.ensures ∙ ap (λ (f : FileFacts). f.diags) is ∙ own-merged s c.args.links.now (c.if-is_empty.ensures.0 refl)
