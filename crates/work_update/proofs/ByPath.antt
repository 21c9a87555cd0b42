-- The files of a workspace by their paths, which ascend.
use Rattle.std.proofs.Common.{◌≡◌, ◌≢◌, ◌<◌, ◌≤◌, ◌+◌, ℕ, zero, suc, List, [], ◌∷◌, Bool, true, false, not, cond, nat_lt, Option, Some, None, length, get_or, map, option_map, nat_cmp, refl, sym, ap, subst, ◌∙◌, arith}
use Rattle.std.specs.Prelude.{bytes_eq}
use Rattle.std.specs.Cmp.Lexicographic.{slice_cmp, bytes_decides}
use Rattle.std.specs.List.{AllByRecursion, position, position_or_len}
use Rattle.std.specs.List.Sorted.{IsStrictlySortedBy}
use Rattle.std.specs.Map.{lookup}
use Rattle.std.specs.Ordering.{is_eq}
use Rattle.std.specs.declared.cmp.Ordering.TheVariants.{Less}
use Rattle.std.proofs.lemmas.Bool.{false≢true}
use Rattle.std.proofs.lemmas.Bool.Decides.{nat_tests}
use Rattle.std.proofs.lemmas.Cmp.{nat_list_cmp_total, nat_list_eq_equiv}
use Rattle.std.proofs.lemmas.List.{length-map}
use Rattle.std.proofs.lemmas.List.Quantifiers.{position-Some}
use Rattle.std.proofs.lemmas.Map.Text.{is_eq-slice_cmp}
use Rattle.std.proofs.lemmas.Simd.{map-map}
use Rattle.collector_laws.proofs.Lists.{one_list}
use Rattle.work_index.specs.Workspace.{SourceAt, Workspace, no_file, sources_of}
use Rattle.work_update.specs.Updates.{IsInOrder, sources_by_path}

-- each path comes after p
abbrev pub AreBehind : List ℕ → List (List ℕ) → Type 0
AreBehind p paths = AllByRecursion (λ q. slice_cmp nat_cmp p q ≡ Less) paths

-- what comes after a path comes after each one before it
pub behind-later : (p q : List ℕ) (paths : List (List ℕ)) → slice_cmp nat_cmp p q ≡ Less → AreBehind q paths → AreBehind p paths
behind-later p q [] less all = tt
behind-later p q (r ∷ paths) less all = (nat_list_cmp_total.trans p q r less all.0, behind-later p q paths less all.1)

abbrev pub paths : Workspace → List (List ℕ)
paths w = map (λ f. f.0) w

pub symm : (p q : List ℕ) → bytes_eq p q ≡ bytes_eq q p
symm p q = nat_list_eq_equiv.symm p q

pub unequal : (p q : List ℕ) → p ≢ q → bytes_eq p q ≡ false
unequal p q apart = by (bytes_eq p q) refl
  where
    by : (b : Bool) → bytes_eq p q ≡ b → b ≡ false
    by false is = refl
    by true is = absurd (apart ((bytes_decides p q).0 is))

-- ---- the file of a number

at-behind : (p : List ℕ) (w : Workspace) (n : ℕ) (d : SourceAt) → AreBehind p (paths w) → n < length w → slice_cmp nat_cmp p (get_or w n d).0 ≡ Less
at-behind p [] n d all there = absurd (omega (arith, there))
at-behind p (e ∷ w) zero d all there = all.0
at-behind p (e ∷ w) (suc n) d all there = at-behind p w n d all.1 (omega (arith, there))

pub text-at : (w : Workspace) (n : ℕ) (d : SourceAt) → IsInOrder w → n < length w → lookup (bytes_eq (get_or w n d).0) w ≡ Some (get_or w n d).1
unfolding IsStrictlySortedBy
text-at [] n d order there = absurd (omega (arith, there))
text-at (e ∷ w) zero d order there = ap (λ b. cond b (Some e.1) (lookup (bytes_eq e.0) w)) ((bytes_decides e.0 e.0).1 refl)
text-at (e ∷ w) (suc n) d order there =
    let p = (get_or w n d).0 in
    let other : bytes_eq p e.0 ≡ false = nat_list_eq_equiv.symm p e.0 ∙ sym (is_eq-slice_cmp e.0 p) ∙ ap is_eq (at-behind e.0 w n d order.0 (omega (arith, there))) in
    ap (λ b. cond b (Some e.1) (lookup (bytes_eq p) w)) other ∙ text-at w n d order.1 (omega (arith, there))

pub path-at : (w : Workspace) (n : ℕ) (d : SourceAt) → n < length w → get_or (paths w) n d.0 ≡ (get_or w n d).0
path-at [] n d there = absurd (omega (arith, there))
path-at (e ∷ w) zero d there = refl
path-at (e ∷ w) (suc n) d there = path-at w n d (omega (arith, there))

-- files of one path are one
pub one_place : (w : Workspace) (n k : ℕ) (d : SourceAt) → IsInOrder w → n < length w → k < length w → (get_or w n d).0 ≡ (get_or w k d).0 → n ≡ k
unfolding IsStrictlySortedBy
one_place [] n k d order there there' same = absurd (omega (arith, there))
one_place (e ∷ w) zero zero d order there there' same = refl
one_place (e ∷ w) zero (suc k) d order there there' same = absurd (false≢true (sym (ap is_eq (at-behind e.0 w k d order.0 (omega (arith, there')))) ∙ is_eq-slice_cmp e.0 (get_or w k d).0 ∙ (bytes_decides e.0 (get_or w k d).0).1 same))
one_place (e ∷ w) (suc n) zero d order there there' same = absurd (false≢true (sym (ap is_eq (at-behind e.0 w n d order.0 (omega (arith, there)))) ∙ is_eq-slice_cmp e.0 (get_or w n d).0 ∙ (bytes_decides e.0 (get_or w n d).0).1 (sym same)))
one_place (e ∷ w) (suc n) (suc k) d order there there' same = ap suc (one_place w n k d order.1 (omega (arith, there)) (omega (arith, there')) same)

-- ---- the number of a path

found_by : {X : Type 0} (p : X → Bool) (xs : List X) (n : ℕ) (d : X) → n < length xs → p (get_or xs n d) ≡ true → position_or_len p xs ≤ n
found_by p [] n d there is = absurd (omega (arith, there))
found_by p (x ∷ xs) zero d there is = rw is (omega arith)
found_by p (x ∷ xs) (suc n) d there is = by (p x) (found_by p xs n d (omega (arith, there)) is)
  where
    by : (b : Bool) → position_or_len p xs ≤ n → cond (not b) (1 + position_or_len p xs) 0 ≤ suc n
    by true rest = omega arith
    by false rest = omega (arith, rest)

not_found : {X : Type 0} (p : X → Bool) (xs : List X) (n : ℕ) (d : X) → position p xs ≡ None → n < length xs → p (get_or xs n d) ≡ false
not_found p xs n d none there = by (p (get_or xs n d)) refl
  where
    by : (b : Bool) → p (get_or xs n d) ≡ b → b ≡ false
    by false is = refl
    by true is =
        let first : position_or_len p xs ≤ n = found_by p xs n d there is in
        let less : nat_lt (position_or_len p xs) (length xs) ≡ true = grind (arith, nat_tests) in
        let some : Some (position_or_len p xs) ≡ None = sym (ap (λ b. cond b (Some (position_or_len p xs)) None) less) ∙ none in
        cc

-- the file whose number is that of a path has the path
pub at_position : (path : List ℕ) (w : Workspace) (n : ℕ) → position (λ q. bytes_eq q path) (paths w) ≡ Some n → (n < length w) × ((get_or w n no_file).0 ≡ path)
at_position path w n is =
    let found = position-Some (λ q. bytes_eq q path) (paths w) n [] is in
    let there : n < length w = omega (arith, found.0, length-map w (λ f. f.0)) in
    (there, sym (path-at w n no_file there) ∙ (bytes_decides _ path).0 found.1)

-- a path that has no number is that of no file
pub none-at : (path : List ℕ) (w : Workspace) → position (λ q. bytes_eq q path) (paths w) ≡ None → (n : ℕ) → n < length w → bytes_eq (get_or w n no_file).0 path ≡ false
none-at path w none n there = ap (λ q. bytes_eq q path) (sym (path-at w n no_file there)) ∙ not_found (λ q. bytes_eq q path) (paths w) n [] none (omega (arith, there, length-map w (λ f. f.0)))

-- the number of a file's path is its own
pub own_position : (w : Workspace) (n : ℕ) → IsInOrder w → n < length w → position (λ q. bytes_eq q (get_or w n no_file).0) (paths w) ≡ Some n
own_position w n order there = by (position (λ q. bytes_eq q path) (paths w)) refl
  where
    path : List ℕ
    path = (get_or w n no_file).0

    by : (o : Option ℕ) → position (λ q. bytes_eq q path) (paths w) ≡ o → o ≡ Some n
    by None is = absurd (false≢true (sym (none-at path w is n there) ∙ (bytes_decides path path).1 refl))
    by (Some k) is = let found = at_position path w k is in ap (λ m. Some m) (one_place w k n no_file order found.0 there found.1)

-- no text stands at a path that is that of no file
pub no_text : (path : List ℕ) (w : Workspace) → ((n : ℕ) → n < length w → bytes_eq (get_or w n no_file).0 path ≡ false) → sources_by_path w path ≡ None
no_text path [] unknown = refl
no_text path (e ∷ w) unknown =
    ap (λ b. cond b (Some e.1) (lookup (bytes_eq path) w)) (symm path e.0 ∙ unknown 0 (omega arith))
    ∙ no_text path w (λ n less. unknown (suc n) (omega (arith, less)))

-- ---- the paths alone

abbrev marked : Workspace → List (List ℕ × Bool)
marked w = map (λ f. (f.0, true)) w

marked_paths : (w : Workspace) → map (λ e. e.0) (marked w) ≡ paths w
marked_paths [] = refl
marked_paths (f ∷ w) = ap (λ ps. f.0 ∷ ps) (marked_paths w)

marked-at : (path : List ℕ) (w : Workspace) → lookup (bytes_eq path) (marked w) ≡ option_map (λ source. true) (sources_by_path w path)
marked-at path [] = refl
marked-at path (f ∷ w) = by (bytes_eq path f.0) (marked-at path w)
  where
    by : (b : Bool) → lookup (bytes_eq path) (marked w) ≡ option_map (λ source. true) (sources_by_path w path) → cond b (Some true) (lookup (bytes_eq path) (marked w)) ≡ option_map (λ source. true) (cond b (Some f.1) (sources_by_path w path))
    by true rest = refl
    by false rest = rest

-- files with texts at the same paths have the same paths
pub same_paths : (old new : Workspace) → IsInOrder old → IsInOrder new → ((path : List ℕ) → option_map (λ source. true) (sources_by_path old path) ≡ option_map (λ source. true) (sources_by_path new path)) → paths old ≡ paths new
same_paths old new before after same =
    let P : List (List ℕ) → Type 0 = λ ps. IsStrictlySortedBy (slice_cmp nat_cmp) ps in
    sym (marked_paths old)
    ∙ ap (map (λ (e : List ℕ × Bool). e.0)) (one_list (marked old) (marked new) (subst P (sym (marked_paths old)) before) (subst P (sym (marked_paths new)) after) (λ path. marked-at path old ∙ same path ∙ sym (marked-at path new)))
    ∙ marked_paths new

-- the files of some texts ascend by path where the texts do, however they are read
pub sources-ascend : (reads_others : Bool) (texts : List (List ℕ × List ℕ)) → IsStrictlySortedBy (slice_cmp nat_cmp) (map (λ f. f.0) texts) → IsInOrder (sources_of reads_others texts)
sources-ascend reads_others texts ascend =
    subst (λ ps. IsStrictlySortedBy (slice_cmp nat_cmp) ps) (sym (map-map (λ (f : SourceAt). f.0) (λ file. (file.0, record { text = file.1; reads_others = reads_others })) texts)) ascend
