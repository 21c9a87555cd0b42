use Rattle.std.proofs.Common.{Option, string_bytes, subst}
use Rattle.std.specs.Prelude.{IfSome}
use Rattle.work_space.specs.Kept.{IsOf}
use Rattle.work_space.specs.declared.last_analysis.LastAnalysis.{LastAnalysis}
use Rattle.work_space.proofs.Noted.{known_noted}
use Rattle.work_space.proofs.last_analysis.known_after.Goals as goal

pub returns : goal.returns
returns c = λ before after change of.
    let known = c.in_ok-known.field-0 in
    let was : IsOf known before = subst (λ (o : Option LastAnalysis). IfSome o (λ k. IsOf k before)) c.in_ok-known.was of in
    known_noted (string_bytes c.args.path) known c.noted.result before after change was c.noted.ensures.analysis c.noted.ensures.changes
