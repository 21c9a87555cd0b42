use Rattle.std.proofs.Common.{◌≡◌, ◌++◌, drop, map, string_bytes}
use Rattle.work_update.specs.Updates.{numbers_of}
use Rattle.work_update.proofs.update.numbers_of.Given as goal

-- those so far and those of the paths that are left are all
abbrev pub invariant-loop-path : goal.invariant-loop-path
invariant-loop-path l = l.numbers.items ++ numbers_of l.earlier.paths (map string_bytes (drop l.path-index l.changes)) ≡ numbers_of l.earlier.paths (map string_bytes l.changes)
