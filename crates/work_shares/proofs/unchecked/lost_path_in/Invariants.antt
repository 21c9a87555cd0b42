use Rattle.std.proofs.Common.{◌≡◌, drop}
use Rattle.std.specs.List.{flat_map}
use Rattle.work_shares.specs.Unchecked.{lost_paths}
use Rattle.work_shares.proofs.unchecked.lost_path_in.Given as goal

-- the imports of the files so far name analysed files
abbrev pub invariant-loop-file : goal.invariant-loop-file
invariant-loop-file l = flat_map (lost_paths l.table) (drop l.file-index l.files) ≡ flat_map (lost_paths l.table) l.files
