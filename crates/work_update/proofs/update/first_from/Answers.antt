use Rattle.std.proofs.Common.{◌≡◌, ◌≤◌, ◌==◌, ℕ, [], false, not, below_more, get_or, nat_cmp, Ordering, Less, Equal, Greater, refl, sym, ap, ◌∙◌}
use Rattle.std.specs.Cmp.Lexicographic.{slice_cmp}
use Rattle.std.specs.Ordering.{ordering_index}
use Rattle.std.proofs.lemmas.Bool.{false≢true}
use Rattle.work_update.proofs.Updates.{piece_path, piece_paths}
use Rattle.work_update.proofs.update.first_from.Goals as goal

is_less : (o : Ordering) → not (ordering_index o == 0) ≡ false → o ≡ Less
is_less Less is = refl
is_less Equal is = absurd (false≢true (sym is))
is_less Greater is = absurd (false≢true (sym is))

pub loop-at-preserved : goal.loop-at-preserved
loop-at-preserved c = λ k far near. below_more Passed c.loop-at.at (λ j less from. c.loop-at.invariant j from less) (λ from. here) k near far
  where
    Passed : ℕ → Type 0
    Passed k = c.args.from ≤ k → slice_cmp nat_cmp (get_or (piece_paths c.args.pieces.now) k []) c.args.path.now ≡ Less

    here : slice_cmp nat_cmp (get_or (piece_paths c.args.pieces.now) c.loop-at.at []) c.args.path.now ≡ Less
    here =
        ap (λ p. slice_cmp nat_cmp p c.args.path.now) (piece_path c.args.pieces.now c.loop-at.at c.index-pieces-at.result c.loop-at-test.true c.index-pieces-at.is ∙ sym c.path.ensures)
        ∙ sym c.cmp.ensures
        ∙ is_less c.cmp.result (sym c.ne.ensures ∙ c.if-ne.false)
