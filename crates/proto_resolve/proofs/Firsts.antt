-- The first of declarations that are by file, in a file and in the files of a view.
use Rattle.std.proofs.Common.{◌≡◌, ◌∙◌, sym, inl, inr, ℕ, zero, suc, ◌+◌, ◌<◌, ◌≤◌, ◌==◌, List, [], ◌∷◌, Bool, true, false, ◌&&◌, ◌||◌, not, Some, None, find, length, get_or, drop, nat_lt, refl, arith}
use Rattle.std.specs.Prelude.{All, is_some}
use Rattle.std.specs.List.{list_any}
use Rattle.std.specs.List.Sorted.{IsNonDecreasingBy, IsPartitionPoint, IsStrictlyIncreasing}
use Rattle.std.proofs.lemmas.Bool.{cases_Bool, cases_eq, cases_lt}
use Rattle.std.proofs.lemmas.Bool.Decides.{nat_tests}
use Rattle.std.proofs.lemmas.List.{drop_all, drop_more, get_or-drop, length-drop}
use Rattle.std.proofs.lemmas.List.Elements.{All-head, All-tail, All-from_get_or}
use Rattle.std.proofs.lemmas.List.Kept.{AllPairs-from_increasing}
use Rattle.proto_names.specs.declared.decl_ref.DeclRef.{DeclRef}
use Rattle.proto_names.specs.Files.{is_seen}

module _ {X : Type 0} (p : X → Bool) where
  pub find_none : (xs : List X) → All (λ x. p x ≡ false) xs → find p xs ≡ None
  find_none [] all = refl
  find_none (x ∷ xs) all = rw (All-head (λ x. p x ≡ false) x xs all) (find_none xs (All-tail (λ x. p x ≡ false) x xs all))

  pub find_at : (xs : List X) (i : ℕ) (d : X) → i < length xs → ((k : ℕ) → k < i → p (get_or xs k d) ≡ false) → p (get_or xs i d) ≡ true
      → find p xs ≡ Some (get_or xs i d)
  find_at [] i d lt before at = absurd (omega (arith, lt))
  find_at (x ∷ xs) zero d lt before at = rw at refl
  find_at (x ∷ xs) (suc i) d lt before at = rw (before 0 (omega arith)) (find_at xs i d (omega (arith, lt)) (λ k below. before (suc k) (omega (arith, below))) at)

  pub find_passes : (xs : List X) (x : X) → find p xs ≡ Some x → p x ≡ true
  find_passes [] x e = absurd (cc (e))
  find_passes (y ∷ ys) x e = elim (cases_Bool (p y)) [
    | inl passes ↦ let some : Some y ≡ Some x = rw passes at e in let same : y ≡ x = cc (some) in rw (← same) passes
    | inr fails ↦ find_passes ys x (rw fails at e)
  ]

  pub found_has : (P : X → Type 0) (xs : List X) (x : X) → All P xs → find p xs ≡ Some x → P x
  found_has P [] x all e = absurd (cc (e))
  found_has P (y ∷ ys) x all e = elim (cases_Bool (p y)) [
    | inl passes ↦ let some : Some y ≡ Some x = rw passes at e in let same : y ≡ x = cc (some) in rw (← same) (All-head P y ys all)
    | inr fails ↦ found_has P ys x (All-tail P y ys all) (rw fails at e)
  ]

abbrev pub is_own : ℕ → DeclRef → Bool
is_own f r = r.file == f

abbrev pub is_visible : List ℕ → DeclRef → Bool
is_visible view r = is_seen view r.file

pub differs : (a b : ℕ) → (a ≡ b → ⊥) → (a == b) ≡ false
differs a b other = grind (arith, nat_tests)

pub agrees : (a b : ℕ) → a ≡ b → (a == b) ≡ true
agrees a b same = grind (arith, nat_tests)

-- the place behind the files before one
module _ (rs : List DeclRef) (sorted : IsNonDecreasingBy (λ r. r.file) rs) (f i : ℕ) (point : IsPartitionPoint (λ r. nat_lt r.file f ≡ true) (λ r. nat_lt r.file f ≡ false) rs i) where
  before : (k : ℕ) (d : DeclRef) → k < i → is_own f (get_or rs k d) ≡ false
  before k d lt = let e = point.0 k d (omega arith) lt in grind (arith, nat_tests)

  pub at_place : (d : DeclRef) → i < length rs → (let r = get_or rs i d in r.file) ≡ f → find (is_own f) rs ≡ Some (get_or rs i d)
  at_place d lt same = find_at (is_own f) rs i d lt (λ k below. before k d below) (agrees (let r = get_or rs i d in r.file) f same)

  pub past_all : length rs ≤ i → find (is_own f) rs ≡ None
  past_all le = find_none (is_own f) rs (λ k d lt. before k d (omega (arith, le, lt)))

  pub not_there : (d : DeclRef) → i < length rs → ((let r = get_or rs i d in r.file) ≡ f → ⊥) → find (is_own f) rs ≡ None
  not_there d lt other = find_none (is_own f) rs (All-from_get_or (λ r. is_own f r ≡ false) rs d (λ k within. elim (cases_lt k i) [
    | inl lower ↦ before k d lower
    | inr from ↦
        let e = point.1 i d (omega arith) lt in
        let up : f ≤ (let r = get_or rs i d in r.file) = grind (arith, nat_tests) in
        differs (let r = get_or rs k d in r.file) f (λ same. other (omega (arith, up, sorted i k d from within, same)))
  ]))

-- a file that has none of the declarations changes nothing
pub no_first : (g : ℕ) (gs : List ℕ) (rs : List DeclRef) → find (is_own g) rs ≡ None → find (is_visible (g ∷ gs)) rs ≡ find (is_visible gs) rs
no_first g gs [] e = refl
no_first g gs (r ∷ rs) e = elim (cases_eq r.file g) [
  | inl same ↦ let some : Some r ≡ None = rw (agrees r.file g same) at e in absurd (cc (some))
  | inr other ↦ let later : find (is_own g) rs ≡ None = rw (differs r.file g other) at e in rw (differs g r.file (λ same. other (sym same)), no_first g gs rs later) refl
]

tail_sorted : (r : DeclRef) (rs : List DeclRef) → IsNonDecreasingBy (λ r. r.file) (r ∷ rs) → IsNonDecreasingBy (λ r. r.file) rs
tail_sorted r rs sorted i j d le lt = sorted (suc i) (suc j) d (omega (arith, le)) (omega (arith, lt))

head_least : (r : DeclRef) (rs : List DeclRef) → IsNonDecreasingBy (λ r. r.file) (r ∷ rs) → All (λ s. r.file ≤ s.file) rs
head_least r rs sorted k d lt = sorted 0 (suc k) d (omega arith) (omega (arith, lt))

is_above : (f : ℕ) (gs : List ℕ) → All (λ h. f < h) gs → is_seen gs f ≡ false
is_above f [] all = refl
is_above f (h ∷ gs) all = rw (differs h f (λ same. absurd (omega (arith, same, All-head (λ h. f < h) h gs all)))) (is_above f gs (All-tail (λ h. f < h) h gs all))

-- the first of the least file of the view is the first of all
pub the_first : (g : ℕ) (gs : List ℕ) (rs : List DeclRef) (x : DeclRef) → All (λ h. g < h) gs → IsNonDecreasingBy (λ r. r.file) rs → find (is_own g) rs ≡ Some x
    → find (is_visible (g ∷ gs)) rs ≡ Some x
the_first g gs [] x up sorted e = absurd (cc (e))
the_first g gs (r ∷ rs) x up sorted e = elim (cases_eq r.file g) [
  | inl same ↦ let some : Some r ≡ Some x = rw (agrees r.file g same) at e in rw (agrees g r.file (sym same)) some
  | inr other ↦
      let later : find (is_own g) rs ≡ Some x = rw (differs r.file g other) at e in
      let own : is_own g x ≡ true = find_passes (is_own g) rs x later in
      let there : x.file ≡ g = grind (arith, nat_tests) in
      let least : r.file ≤ x.file = found_has (is_own g) (λ s. r.file ≤ s.file) rs x (head_least r rs sorted) later in
      let unseen : is_seen gs r.file ≡ false = is_above r.file gs (λ k d lt. omega (arith, up k d lt, there, least, other)) in
      rw (differs g r.file (λ same. other (sym same)), unseen) (the_first g gs rs x up (tail_sorted r rs sorted) later)
]

-- the same, file by file
module _ (files : List ℕ) (i : ℕ) (d : ℕ) (rs : List DeclRef) where
  pub step_none : i < length files → find (is_own (get_or files i d)) rs ≡ None → find (is_visible (drop i files)) rs ≡ find (is_visible (drop (i + 1) files)) rs
  step_none lt e = rw (drop_more files i d lt) (no_first (get_or files i d) (drop (i + 1) files) rs e)

  later_above : IsStrictlyIncreasing files → i < length files → All (λ h. get_or files i d < h) (drop (i + 1) files)
  later_above up lt = All-from_get_or (λ h. get_or files i d < h) (drop (i + 1) files) d (λ k within.
      rw (get_or-drop (i + 1) files k d) (AllPairs-from_increasing files up i ((i + 1) + k) d (omega arith) (omega (arith, within, length-drop (i + 1) files))))

  pub step_some : IsStrictlyIncreasing files → IsNonDecreasingBy (λ r. r.file) rs → i < length files → (x : DeclRef) → find (is_own (get_or files i d)) rs ≡ Some x
      → find (is_visible (drop i files)) rs ≡ Some x
  step_some up sorted lt x e = rw (drop_more files i d lt) (the_first (get_or files i d) (drop (i + 1) files) rs x (later_above up lt) sorted e)

-- a declaration of another file of the view
abbrev pub is_another : ℕ → List ℕ → DeclRef → Bool
is_another f view r = not (r.file == f) && is_seen view r.file

neither : (b : Bool) → ((b && false) || false) ≡ false
neither true = refl
neither false = refl

pub nobody : (rs : List DeclRef) (f : ℕ) → list_any (is_another f []) rs ≡ false
nobody [] f = refl
nobody (r ∷ rs) f = rw (nobody rs f) (neither (not (r.file == f)))

here : (g s t l m : Bool) → l ≡ ((g && m) || t) → ((g && true) || l) ≡ ((g && true) || ((g && s) || t))
here true s t l m e = refl
here false s t l m e = e

elsewhere : (n s g m t l : Bool) → l ≡ ((g && m) || t) → ((n && s) || l) ≡ ((g && m) || ((n && s) || t))
elsewhere true true true true t l e = refl
elsewhere true true true false t l e = refl
elsewhere true true false m t l e = refl
elsewhere true false g m t l e = e
elsewhere false s g m t l e = e

-- a file of the view has one of the declarations, or a later one has
pub one_or_later : (f g : ℕ) (gs : List ℕ) (rs : List DeclRef)
    → list_any (is_another f (g ∷ gs)) rs ≡ ((not (g == f) && is_some (find (is_own g) rs)) || list_any (is_another f gs) rs)
one_or_later f g gs [] = sym (neither (not (g == f)))
one_or_later f g gs (r ∷ rs) = elim (cases_eq r.file g) [
  | inl same ↦ rw (agrees r.file g same, agrees g r.file (sym same), same) (here (not (g == f)) (is_seen gs g) (list_any (is_another f gs) rs) (list_any (is_another f (g ∷ gs)) rs) (is_some (find (is_own g) rs)) (one_or_later f g gs rs))
  | inr other ↦ rw (differs r.file g other, differs g r.file (λ same. other (sym same)))
      (elsewhere (not (r.file == f)) (is_seen gs r.file) (not (g == f)) (is_some (find (is_own g) rs)) (list_any (is_another f gs) rs) (list_any (is_another f (g ∷ gs)) rs) (one_or_later f g gs rs))
]

module _ (files : List ℕ) (i : ℕ) (d : ℕ) (f : ℕ) (rs : List DeclRef) where
  pub step_any : i < length files → list_any (is_another f (drop i files)) rs
      ≡ ((not (get_or files i d == f) && is_some (find (is_own (get_or files i d)) rs)) || list_any (is_another f (drop (i + 1) files)) rs)
  step_any lt = rw (drop_more files i d lt) (one_or_later f (get_or files i d) (drop (i + 1) files) rs)

  pub step_past : i < length files → (not (get_or files i d == f) && is_some (find (is_own (get_or files i d)) rs)) ≡ false
      → list_any (is_another f (drop i files)) rs ≡ list_any (is_another f (drop (i + 1) files)) rs
  step_past lt e = step_any lt ∙ rw e refl

  pub step_there : i < length files → (not (get_or files i d == f) && is_some (find (is_own (get_or files i d)) rs)) ≡ true
      → list_any (is_another f (drop i files)) rs ≡ true
  step_there lt e = step_any lt ∙ rw e refl

pub none_left : (files : List ℕ) (i : ℕ) (rs : List DeclRef) → length files ≤ i → find (is_visible (drop i files)) rs ≡ None
none_left files i rs le = rw (drop_all i files le) (find_none (is_visible []) rs (λ k d lt. refl))

pub nobody_left : (files : List ℕ) (i f : ℕ) (rs : List DeclRef) → length files ≤ i → list_any (is_another f (drop i files)) rs ≡ false
nobody_left files i f rs le = rw (drop_all i files le) (nobody rs f)
