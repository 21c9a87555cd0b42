use Rattle.std.proofs.Common.{◌≡◌, ◌∙◌, ◌+◌, ◌<◌, ℕ, Bool, true, false, List, [], ◌∷◌, ◌++◌, ap, append-nil, filter, get_or, length, refl, sym, take}
use Rattle.std.proofs.lemmas.List.{take_all, take_more}
use Rattle.std.proofs.lemmas.List.Elements.{filter-append}
use Rattle.work_index.specs.Workspace.{no_file}
use Rattle.work_check.specs.Listing.{is_wanted}
use Rattle.work_check.proofs.listed.Listed.wanted.Goals.{then-wants+in_ok-push, else-wants}
use Rattle.work_check.proofs.listed.Listed.wanted.Goals as goal

-- what passes among one more item
module _ (p : ℕ → Bool) (xs : List ℕ) (k : ℕ) (lt : k < length xs) where
  more : filter p (take (k + 1) xs) ≡ filter p (take k xs) ++ filter p (get_or xs k 0 ∷ [])
  more = ap (filter p) (take_more xs k 0 lt) ∙ filter-append p (take k xs) (get_or xs k 0 ∷ [])

  passes : p (get_or xs k 0) ≡ true → filter p (take (k + 1) xs) ≡ filter p (take k xs) ++ get_or xs k 0 ∷ []
  passes is =
      let one : filter p (get_or xs k 0 ∷ []) ≡ get_or xs k 0 ∷ [] = rw is refl in
      more ∙ ap (λ (ys : List ℕ). filter p (take k xs) ++ ys) one

  fails : p (get_or xs k 0) ≡ false → filter p (take (k + 1) xs) ≡ filter p (take k xs)
  fails is =
      let none : filter p (get_or xs k 0 ∷ []) ≡ [] = rw is refl in
      more ∙ (ap (λ (ys : List ℕ). filter p (take k xs) ++ ys) none ∙ append-nil (filter p (take k xs)))

pub loop-file-preserved : goal.loop-file-preserved
loop-file-preserved c =
    let l = c.args.self.now in
    let test : ℕ → Bool = λ n. is_wanted l.how (get_or l.files n no_file).0 in
    let xs = c.args.files.now in
    let k = c.loop-file.file-index in
    let is = c.wants.ensures in
    elim c.if-wants.branch [
      | then-wants+in_ok-push w ↦ rw w.found-is
          (w.in_ok-push.ensures.items ∙ (ap (λ (ys : List ℕ). ys ++ get_or xs k 0 ∷ []) c.loop-file.invariant ∙ sym (passes test xs k c.loop-file-test.true (sym is ∙ w.if-wants.true))))
      | else-wants w ↦ rw w.found-is (c.loop-file.invariant ∙ sym (fails test xs k c.loop-file-test.true (sym is ∙ w.if-wants.false)))
    ]

pub returns : goal.returns
returns c =
    let l = c.args.self.now in
    c.loop-file.invariant ∙ ap (filter (λ n. is_wanted l.how (get_or l.files n no_file).0)) (take_all c.loop-file.file-index c.args.files.now c.loop-file-test.false)
