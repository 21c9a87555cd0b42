use Rattle.std.proofs.Common.{◌≡◌, ◌+◌, ◌-◌, ◌++◌, map, vec_len}
use Rattle.work_shares.specs.Shares.{pieces_in, AreConsecutive, AreBalanced, AreKept, AreRead}
use Rattle.work_shares.proofs.Balance.{Bounded}
use Rattle.work_shares.proofs.shares.cut.Given as goal

abbrev pub invariant-loop-i : goal.invariant-loop-i
invariant-loop-i l = record {
  whole : pieces_in l.shares.items ++ l.pieces.items ≡ l.fn.all.pieces.items;
  kept : AreKept l.fn.all.keeps_links l.shares.items;
  read : AreRead l.fn.all.reads_others l.shares.items;
  count : vec_len l.shares ≡ l.i;
  left : l.i ≡ l.count → vec_len l.pieces ≡ 0;
  first : l.first + vec_len l.pieces ≡ vec_len l.fn.all.pieces;
  places : AreConsecutive 0 l.shares.items;
  balanced : AreBalanced (map (λ s. vec_len s.pieces) l.shares.items);
  bounded : Bounded (vec_len l.pieces) (l.count - l.i) (map (λ s. vec_len s.pieces) l.shares.items);
}
