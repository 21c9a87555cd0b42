use Rattle.proto_decls.proofs.PairLemmas.{HasUpTo}
use Rattle.proto_decls.proofs.byte_pairs.BytePairs.have.Given as goal

abbrev pub invariant-loop-next : goal.invariant-loop-next
invariant-loop-next l = HasUpTo l.self l.text l.next
