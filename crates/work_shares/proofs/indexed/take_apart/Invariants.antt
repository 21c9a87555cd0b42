use Rattle.std.proofs.Common.{◌≡◌, List, map, Ok}
use Rattle.work_shares.specs.declared.indexed.IndexedShare.{IndexedShare}
use Rattle.work_shares.proofs.indexed.take_apart.Given as goal

abbrev pub invariant-loop-answer : goal.invariant-loop-answer
invariant-loop-answer l = record {
  all : List IndexedShare;
  none_refused : l.yielded ≡ map Ok all;
  shares : l.shares.items ≡ map (λ n. n.share) all;
  parts : l.parts.items ≡ map (λ n. n.part) all;
}
