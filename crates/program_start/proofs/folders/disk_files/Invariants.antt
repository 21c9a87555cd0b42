use Rattle.std.proofs.Common.{◌≡◌, ◌++◌, map, string_bytes}
use Rattle.work_files.specs.Disk.{disk_view}
use Rattle.program_start.proofs.folders.disk_files.Given as goal

-- what is listed and what is left are all
abbrev pub invariant-loop-root : goal.invariant-loop-root
invariant-loop-root l =
    map disk_view l.files.items ++ map (λ f. record { root = f.root; path = string_bytes f.path; text = string_bytes f.text }) l.root-iterator.rest.items
    ≡ map (λ f. record { root = f.root; path = string_bytes f.path; text = string_bytes f.text }) l.fn.found.items
