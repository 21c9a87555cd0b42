use Rattle.std.proofs.Common.{◌≡◌, codes, map, replicate, string_bytes}
use Rattle.program_options.specs.Path.{root_url}
use Rattle.program_start.proofs.folders.roots_of_all.Given as goal

abbrev pub invariant-loop-root : goal.invariant-loop-root
invariant-loop-root l = map string_bytes l.roots.items ≡ replicate l._root (root_url (codes "/"))
