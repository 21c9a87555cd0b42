use Rattle.std.proofs.Common.{◌≡◌, take, drop, map}
use Rattle.proto_names.specs.Packages.{moved}
use Rattle.proto_names.proofs.packages.renumber.Given as goal

-- those so far have other numbers, the others are as they were
abbrev pub invariant-loop-file : goal.invariant-loop-file
invariant-loop-file l = (take l.file-index l.file-items ≡ map (moved l.at) (take l.file-index l.fn.found.items)) × (drop l.file-index l.file-items ≡ drop l.file-index l.fn.found.items)
