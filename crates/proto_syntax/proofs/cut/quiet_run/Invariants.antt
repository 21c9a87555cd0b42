use Rattle.std.proofs.Common.{ℕ, ◌<◌, ◌-◌, length, drop}
use Rattle.std.specs.Prelude.{IsTrue}
use Rattle.proto_tree.specs.Cut.{is_quiet}
use Rattle.proto_syntax.proofs.cut.quiet_run.Given as goal

abbrev pub invariant-tokens : goal.invariant-tokens
invariant-tokens l = record {
  within : l.run < length l.ts;
  quiet : (k : ℕ) → k < l.run → IsTrue (is_quiet (drop k l.ts));
}

abbrev pub decreases-tokens : goal.decreases-tokens
decreases-tokens l = length l.ts - l.run
