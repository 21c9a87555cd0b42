use Rattle.std.proofs.Common.{◌≡◌, length, map, take}
use Rattle.proto_names.specs.Outlines.{declared}
use Rattle.proto_names.proofs.outline.declare_alike.Given as goal

-- those so far say the same
abbrev pub invariant-loop-i : goal.invariant-loop-i
invariant-loop-i l = record { as_many : length l.a ≡ length l.b; so_far : map declared (take l.i l.a) ≡ map declared (take l.i l.b) }
