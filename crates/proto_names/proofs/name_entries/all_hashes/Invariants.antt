use Rattle.std.proofs.Common.{◌≡◌, map, take}
use Rattle.proto_names.specs.Entries.{hashes_of}
use Rattle.proto_names.proofs.name_entries.all_hashes.Given as goal

-- those so far
abbrev pub invariant-loop-file : goal.invariant-loop-file
invariant-loop-file l = map (λ own. own.items) l.hashes.items ≡ map hashes_of (take l.file-index l.files)
