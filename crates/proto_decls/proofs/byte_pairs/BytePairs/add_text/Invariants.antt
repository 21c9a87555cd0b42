use Rattle.std.proofs.Common.{List, ℕ}
use Rattle.proto_decls.specs.BytePairs.{HasPairs}
use Rattle.proto_decls.proofs.PairLemmas.{HasUpTo}
use Rattle.proto_decls.proofs.byte_pairs.BytePairs.add_text.Given as goal

abbrev pub invariant-loop-next : goal.invariant-loop-next
invariant-loop-next l = record { added : HasUpTo l.self l.text l.next; kept : (other : List ℕ) → HasPairs l.fn.self other → HasPairs l.self other }
