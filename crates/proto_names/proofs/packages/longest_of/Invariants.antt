use Rattle.std.proofs.Common.{take}
use Rattle.proto_names.specs.Packages.{AreNoLonger}
use Rattle.proto_names.proofs.packages.longest_of.Given as goal

-- none so far is longer
abbrev pub invariant-loop-file : goal.invariant-loop-file
invariant-loop-file l = AreNoLonger l.longest (take l.file-index l.files)
