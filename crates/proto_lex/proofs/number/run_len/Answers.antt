use Rattle.std.proofs.Common.{arith, sym}
use Rattle.proto_lex.specs.Numbers.{IsRunRest}
use Rattle.proto_lex.proofs.LongestFront.{Continues-start}
use Rattle.proto_lex.proofs.Numbers.{at_run_byte, at_run_end}
use Rattle.proto_lex.proofs.number.run_len.Goals as goal

pub loop-len-init : goal.loop-len-init
loop-len-init c = record { in_range = omega arith; continues = Continues-start (Unit {0}) (λ _. IsRunRest c.args.hex c.args.first) c.args.bytes.now }

pub loop-len-preserved : goal.loop-len-preserved
loop-len-preserved c = record {
  in_range = omega arith;
  continues = at_run_byte _ _ _ _ _ c.loop-len.invariant.continues c.loop-len-test.true (sym c.if-continues_run.ensures);
}

pub returns-else-continues_run : goal.returns-else-continues_run
returns-else-continues_run c = at_run_end _ _ _ _ _ c.loop-len.invariant.continues c.loop-len.invariant.in_range (λ inside. sym c.if-continues_run.ensures)

pub returns-after-loop-len : goal.returns-after-loop-len
returns-after-loop-len c = at_run_end _ _ _ _ _ c.loop-len.invariant.continues c.loop-len.invariant.in_range (λ inside. absurd (omega arith))
