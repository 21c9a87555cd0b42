use Rattle.std.proofs.Common.{◌≡◌, drop}
use Rattle.std.specs.List.{enumerate_from, flat_map}
use Rattle.work_shares.specs.Unchecked.{lost_path}
use Rattle.work_shares.proofs.unchecked.lost_path.Given as goal

-- the imports so far name analysed files
abbrev pub invariant-loop-number : goal.invariant-loop-number
invariant-loop-number l =
    flat_map (lost_path l.table l.file) (enumerate_from l.number (drop l.number l.imports))
    ≡ flat_map (lost_path l.table l.file) (enumerate_from 0 l.imports)
