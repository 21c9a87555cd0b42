use Rattle.std.proofs.Common.{◌≡◌, ◌≤◌, ◌<◌, ◌-◌, ℕ, length, slice_index_or}
use Rattle.proto_decls.specs.declared.fact.Decl.{Decl}
use Rattle.proto_names.specs.Outlines.{declared}
use Rattle.proto_names.proofs.kept.start_of_back.Given as goal

-- those from there on say the same
abbrev pub invariant-loop-start : goal.invariant-loop-start
invariant-loop-start l = record {
  from : l.front ≤ l.start;
  within : l.start ≤ length l.before;
  alike : (n : ℕ) (d : Decl) → l.start ≤ n → n < length l.before → declared (slice_index_or l.before n d) ≡ declared (slice_index_or l.after n d);
}

abbrev pub decreases-loop-start : goal.decreases-loop-start
decreases-loop-start l = l.start - l.front
