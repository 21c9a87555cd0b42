use Rattle.std.proofs.Common.{◌≡◌, flat_map}
use Rattle.work_shares.proofs.part_table.merged_entries.Given as goal

-- the files of those so far
abbrev pub invariant-loop-part : goal.invariant-loop-part
invariant-loop-part l = l.entries ≡ flat_map (λ p. p.files) l.yielded
