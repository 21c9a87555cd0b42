use Rattle.std.proofs.Common.{◌≡◌, ◌++◌, drop, map}
use Rattle.proto_decls.specs.FullNames.{hash_of}
use Rattle.proto_facts.proofs.twice.path_hashes.Given as goal

-- what is there and what is left are all
abbrev pub invariant-loop-import : goal.invariant-loop-import
invariant-loop-import l = l.hashes.items ++ map (λ i. hash_of i.path) (drop l.import-index l.imports) ≡ map (λ i. hash_of i.path) l.imports
