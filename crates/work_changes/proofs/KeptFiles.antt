-- Files that stay where the texts of some change.
use Rattle.std.proofs.Common.{◌≡◌, ◌≢◌, ◌<◌, ◌+◌, ◌==◌, ℕ, List, [], ◌∷◌, Bool, true, false, length, get_or, set, drop, map, refl, sym, ap, subst, ◌∙◌, add-one, arith, drop-cons}
use Rattle.std.specs.Prelude.{Contains}
use Rattle.std.proofs.lemmas.Bool.{false≢true}
use Rattle.std.proofs.lemmas.Bool.Decides.{nat_tests}
use Rattle.std.proofs.lemmas.List.{length-map, length-set, get_or-set_other, get_or-set_same, ext_get_or}
use Rattle.work_index.specs.Workspace.{Workspace, no_file}
use Rattle.work_changes.specs.Changes.{AreKeptBut}
use Rattle.work_changes.proofs.LinkedAgain.{outside}

equal : (n f : ℕ) → (n == f) ≡ true → n ≡ f
equal n f is = grind (arith, nat_tests)

apart : (n f : ℕ) → (n == f) ≡ false → n ≢ f
apart n f is same = false≢true (sym is ∙ (let at : (n == f) ≡ true = grind (arith, nat_tests) in at))

-- one more of the files has its new text
one : (f : ℕ) (rest : List ℕ) (kept w : Workspace) → f < length w → AreKeptBut (f ∷ rest) kept w → AreKeptBut rest (set kept f (get_or w f no_file)) w
one f rest kept w there so_far = record {
  count = length-set kept f (get_or w f no_file) ∙ so_far.count;
  others = λ n out. by n out (n == f) refl;
}
  where
    by : (n : ℕ) → (Contains rest n → ⊥) → (b : Bool) → (n == f) ≡ b → get_or (set kept f (get_or w f no_file)) n no_file ≡ get_or w n no_file
    by n out true same =
        let here : n ≡ f = equal n f same in
        ap (λ m. get_or (set kept f (get_or w f no_file)) m no_file) here ∙ get_or-set_same kept f (get_or w f no_file) no_file (omega (arith, there, so_far.count)) ∙ ap (λ m. get_or w m no_file) (sym here)
    by n out false other = let elsewhere = apart n f other in get_or-set_other kept f n (get_or w f no_file) no_file elsewhere ∙ so_far.others n (outside f n rest elsewhere out)

-- of the files that are listed, the first k have theirs, and the next one gets it
pub next_kept : (changed : List ℕ) (k : ℕ) (kept later w : Workspace) → k < length changed → get_or changed k 0 < length w → later ≡ set kept (get_or changed k 0) (get_or w (get_or changed k 0) no_file)
    → AreKeptBut (drop k changed) kept w → AreKeptBut (drop (k + 1) changed) later w
next_kept changed k kept later w there within put so_far =
    let split : drop k changed ≡ get_or changed k 0 ∷ drop (k + 1) changed = rw (add-one k) (drop-cons changed k 0 there) in
    subst (λ (files : Workspace). AreKeptBut (drop (k + 1) changed) files w) (sym put)
    (one (get_or changed k 0) (drop (k + 1) changed) kept w within (subst (λ rest. AreKeptBut rest kept w) split so_far))

-- once all have theirs, the files are those of the workspace
pub all_kept : (kept w : Workspace) → AreKeptBut [] kept w → kept ≡ w
all_kept kept w are = ext_get_or no_file kept w are.count (λ n lt. are.others n (λ has. absurd (omega (arith, has.1))))

-- where the workspace before the changes is known, all other files stay
pub none_kept : (old kept w : Workspace) (changed : List ℕ) → kept ≡ old → map (λ f. f.0) old ≡ map (λ f. f.0) w → ((n : ℕ) → (Contains changed n → ⊥) → get_or old n no_file ≡ get_or w n no_file) → AreKeptBut changed kept w
none_kept old kept w changed are same others = record {
  count = ap length are ∙ sym (length-map old (λ f. f.0)) ∙ ap length same ∙ length-map w (λ f. f.0);
  others = λ n out. ap (λ (files : Workspace). get_or files n no_file) are ∙ others n out;
}
