use Rattle.std.proofs.Common.{◌≡◌, map, string_bytes, take}
use Rattle.program_options.specs.Path.{root_url}
use Rattle.program_start.proofs.folders.roots_of.Given as goal

abbrev pub invariant-loop-dir : goal.invariant-loop-dir
invariant-loop-dir l = map string_bytes l.roots.items ≡ map (λ dir. root_url dir.now) (take l.dir-index l.dirs)
