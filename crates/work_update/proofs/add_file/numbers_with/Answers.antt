use Rattle.std.proofs.Common.{◌≡◌, ◌∙◌, ◌+◌, ◌++◌, ◌∷◌, ℕ, List, Option, [], Some, cond, ap, ap₂, sym, arith}
use Rattle.std.proofs.lemmas.List.FromFn.{map-range_with_len_more}
use Rattle.work_update.proofs.Arrived.{higher, lower, number}
use Rattle.work_update.proofs.add_file.numbers_with.Goals.{then-file-at, else-file-at}
use Rattle.work_update.proofs.add_file.numbers_with.Goals as goal

pub loop-file-preserved : goal.loop-file-preserved
loop-file-preserved c =
    let at = c.args.at in
    let file = c.loop-file.file in
    let is : Some c.if-file-at.push ≡ number at file = elim c.if-file-at.branch [
      | then-file-at w ↦ ap (λ n. Some n) w.push-is ∙ sym (ap (λ b. Some (cond b file (file + 1))) (lower file at w.if-file-at.true))
      | else-file-at w ↦ ap (λ n. Some n) w.push-is ∙ sym (ap (λ b. Some (cond b file (file + 1))) (higher file at (omega (arith, w.if-file-at.false))))
    ] in
    c.in_ok-push.ensures.items
    ∙ ap₂ (λ (to : List (Option ℕ)) (o : Option ℕ). to ++ o ∷ []) c.loop-file.invariant is
    ∙ sym (map-range_with_len_more (number at) 0 file file (omega arith))
