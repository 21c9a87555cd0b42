use Rattle.std.proofs.Common.{map, string_bytes, take}
use Rattle.std.specs.Prelude.{All}
use Rattle.work_update.specs.Updates.{HasStayed}
use Rattle.work_update.proofs.Updates.{piece_paths}
use Rattle.work_update.proofs.update.have_stayed.Given as goal

-- those so far have
abbrev pub invariant-loop-path : goal.invariant-loop-path
invariant-loop-path l = All (HasStayed l.earlier.paths (piece_paths l.pieces)) (map string_bytes (take l.path-index l.changes))
