use mathlib.Core.Bool.{Bool-set}
use base.Stored.{Coded-set}
use Rattle.std.proofs.Common.{◌≡◌, ◌∙◌, true, ap, subst, sym}
use Rattle.std.proofs.Math.Logic.{∥∥₁_elim}
use Rattle.proto_decls.specs.contracts.fact.FileFacts.{the_row}
use Rattle.work_links.specs.Asked.{has_all}
use Rattle.work_index.specs.declared.file_work.KnownText.{KnownText}
use Rattle.work_index.specs.Workspace.{asked_of}
use Rattle.work_index.proofs.file_work.known_in.Goals as goal

pub returns-clause-facts : goal.returns-clause-facts
returns-clause-facts c =
    ∥∥₁_elim c.out.ensures (Coded-set the_row.coded _ _) (λ stands. let known = stands.known c.args.reads_others in ap (λ (k : KnownText). k.facts) c.known.ensures ∙ known.facts_are)

pub returns-clause-asked : goal.returns-clause-asked
returns-clause-asked c =
    ∥∥₁_elim c.out.ensures (Bool-set _ _) (λ stands.
    let known = stands.known c.args.reads_others in
    subst (λ (k : KnownText). has_all k.asked.value (asked_of (record { text = c.args.piece.now.text; reads_others = c.args.reads_others })) ≡ true) (sym c.known.ensures) known.has)
