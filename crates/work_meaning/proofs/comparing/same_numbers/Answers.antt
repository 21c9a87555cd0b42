use Rattle.std.proofs.Common.{◌<◌, length, sym, ◌∙◌, arith}
use Rattle.proto_decls.specs.Problems.{code}
use Rattle.proto_decls.specs.declared.diagnostic.Diag.{Diag}
use Rattle.proto_decls.specs.declared.problem.Problem.TheVariants.{IllegalCharacter}
use Rattle.work_meaning.proofs.Alike.{same_at}
use Rattle.work_meaning.proofs.comparing.same_numbers.Goals as goal

pub returns-then-code : goal.returns-then-code
returns-then-code c =
    let none : Diag = record { start = 0; «end» = 0; message = IllegalCharacter } in
    let there : c.loop-i.i < length c.args.a.now = omega arith in
    let there' : c.loop-i.i < length c.args.b.now = omega arith in (
      λ h. absurd (cc (h)),
      λ same. absurd (c.if-code.true
          (c.code.ensures ∙ same_at (λ (d : Diag). code d.message) c.args.a.now c.args.b.now c.loop-i.i none none there there' same ∙ sym c.code-in-loop-i.ensures)),
    )
