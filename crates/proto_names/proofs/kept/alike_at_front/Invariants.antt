use Rattle.std.proofs.Common.{◌≡◌, ◌≤◌, ◌<◌, ◌-◌, ℕ, length, slice_index_or}
use Rattle.proto_decls.specs.declared.fact.Decl.{Decl}
use Rattle.proto_names.specs.Outlines.{declared}
use Rattle.proto_names.proofs.kept.alike_at_front.Given as goal

-- those so far say the same
abbrev pub invariant-loop-front : goal.invariant-loop-front
invariant-loop-front l = record {
  before_long : l.end ≤ length l.before;
  after_long : l.end ≤ length l.after;
  within : l.front ≤ l.end;
  alike : (n : ℕ) (d : Decl) → n < l.front → declared (slice_index_or l.before n d) ≡ declared (slice_index_or l.after n d);
}

abbrev pub decreases-loop-front : goal.decreases-loop-front
decreases-loop-front l = l.end - l.front
