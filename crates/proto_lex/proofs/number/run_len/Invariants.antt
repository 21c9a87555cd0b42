use Rattle.std.proofs.Common.{length, ◌-◌, ◌≤◌}
use Rattle.proto_lex.specs.Numbers.{IsRunRest}
use Rattle.proto_lex.proofs.LongestFront.{Continues}
use Rattle.proto_lex.proofs.number.run_len.Given as goal

abbrev pub invariant-loop-len : goal.invariant-loop-len
invariant-loop-len l = record { in_range : l.len ≤ length l.bytes; continues : Continues (Unit {0}) (λ _. IsRunRest l.hex l.before) (λ _. IsRunRest l.hex l.first) l.bytes l.len }

abbrev pub decreases-loop-len : goal.decreases-loop-len
decreases-loop-len l = length l.bytes - l.len
