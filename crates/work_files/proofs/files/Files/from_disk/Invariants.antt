use Rattle.std.proofs.Common.{◌≡◌, [], length, map}
use Rattle.work_files.specs.Disk.{disk_view}
use Rattle.work_files.specs.Files.{with_disk_files}
use Rattle.work_files.proofs.files.Files.from_disk.Given as goal

-- the files that are left, put over those that were put
abbrev pub invariant-files : goal.invariant-files
invariant-files l = with_disk_files (map disk_view l.files.items) l.found ≡ with_disk_files (map disk_view l.fn.files.items) []

abbrev pub decreases-files : goal.decreases-files
decreases-files l = length l.files.items
