-- How many lines and errors the files have that are asked for.
use Rattle.std.proofs.Common.{◌≡◌, ℕ, zero, suc, ◌+◌, ◌-◌, ◌<◌, ◌≤◌, ◌^◌, min, Bool, true, false, ◌||◌, nat_lt, List, [], ◌∷◌, length, drop, get_or, refl, ap, ap₂, sym, ◌∙◌, arith, cond, add-one, drop-cons, Vec, None}
use Rattle.std.specs.List.{enumerate_from, list_any, sum_by, count_by}
use Rattle.std.proofs.lemmas.Bool.{lt-ltb}
use Rattle.std.proofs.lemmas.List.{drop_all, length-map}
use Rattle.std.proofs.lemmas.List.Sums.{sum_by-cons}
use Rattle.std.proofs.lemmas.List.FromFn.{length-enumerate_from}
use Rattle.std.specs.declared.alloc.Global.{Global}
use Rattle.std.specs.declared.string.String.{String}
use Rattle.check_lines.specs.declared.format.Format.{Format}
use Rattle.work_index.specs.Workspace.{SourceAt, Workspace, analysis, diagnostics_of, no_file}
use Rattle.work_check.specs.Listing.{is_error, error_count, has_errors}
use Rattle.work_check.proofs.LinesLemmas.{split}

-- ---- what each file has so many of, one file after the other

abbrev pub Counting : Type 0
Counting = ℕ × SourceAt → ℕ

-- those of the files from a number on
abbrev pub left_of : Counting → ℕ → Workspace → ℕ
left_of of n w = sum_by of (enumerate_from n (drop n w))

-- so many were counted in the files before a number, or the highest number if there are more
pub record AreCounted (of : Counting) (count n : ℕ) (w : Workspace) : Type 0 where
  pub done : ℕ
  pub counted : count ≡ min done (2 ^ 64 - 1)
  pub others : sum_by of (enumerate_from 0 w) ≡ done + left_of of n w

pub none-counted : (of : Counting) (w : Workspace) → AreCounted of 0 0 w
none-counted of w = record { done = 0; counted = refl; others = omega arith }

pub more-counted : (of : Counting) (w : Workspace) (count n more new : ℕ) → n < length w → AreCounted of count n w → more ≡ of (n, get_or w n no_file)
    → new ≡ min (count + more) (2 ^ 64 - 1) → AreCounted of new (n + 1) w
more-counted of w count n more new there at is sum =
    let rest = enumerate_from (n + 1) (drop (n + 1) w) in
    let next : left_of of n w ≡ more + left_of of (n + 1) w =
    ap (λ xs. sum_by of (enumerate_from n xs)) (split w n no_file there) ∙ sum_by-cons of (n, get_or w n no_file) rest ∙ ap (λ k. k + sum_by of rest) (sym is) in
    record { done = at.done + more; counted = sum ∙ ap (λ k. min (k + more) (2 ^ 64 - 1)) at.counted ∙ omega arith; others = omega (arith, at.others, next) }

pub all-counted : (of : Counting) (w : Workspace) (count n : ℕ) → length w ≤ n → AreCounted of count n w → count ≡ min (sum_by of (enumerate_from 0 w)) (2 ^ 64 - 1)
all-counted of w count n none at =
    let gone : left_of of n w ≡ 0 = ap (λ xs. sum_by of (enumerate_from n xs)) (drop_all n w none) in
    at.counted ∙ ap (λ k. min k (2 ^ 64 - 1)) (omega (arith, at.others, gone))

-- ---- there are errors

some_of : (a b : ℕ) → nat_lt 0 (a + b) ≡ (nat_lt 0 a || nat_lt 0 b)
some_of zero b = ap (nat_lt 0) (omega arith)
some_of (suc a) b = lt-ltb 0 (suc a + b) (omega arith) ∙ ap (λ t. t || nat_lt 0 b) (sym (lt-ltb 0 (suc a) (omega arith)))

pub some-min : (a : ℕ) → nat_lt 0 (min a (2 ^ 64 - 1)) ≡ nat_lt 0 a
some-min zero = refl
some-min (suc a) = lt-ltb 0 (min (suc a) (2 ^ 64 - 1)) (omega arith) ∙ sym (lt-ltb 0 (suc a) (omega arith))

some_cond : (b : Bool) → b ≡ nat_lt 0 (cond b 1 0)
some_cond true = refl
some_cond false = refl

-- one passes a test where some do
some_pass : {A : Type 0} (p : A → Bool) (xs : List A) → list_any p xs ≡ nat_lt 0 (count_by p xs)
some_pass p [] = refl
some_pass p (x ∷ xs) =
    ap₂ (λ s t. s || t) (some_cond (p x)) (some_pass p xs) ∙ sym (some_of (cond (p x) 1 0) (count_by p xs)) ∙ ap (nat_lt 0) (sym (sum_by-cons (λ y. cond (p y) 1 0) x xs))

-- one passes in one of the lists from a number on where some do
pub some_pass_from : {A B : Type 0} (p : A → Bool) (ds : List (List A)) (xs : List B) (n : ℕ) → length ds ≡ n + length xs
    → list_any (list_any p) (drop n ds) ≡ nat_lt 0 (sum_by (λ (f : ℕ × B). count_by p (get_or ds f.0 [])) (enumerate_from n xs))
some_pass_from p ds [] n long = ap (list_any (list_any p)) (drop_all n ds (omega (arith, long)))
some_pass_from {A} {B} p ds (x ∷ xs) n long =
    let here = get_or ds n [] in
    let F : ℕ × B → ℕ = λ f. count_by p (get_or ds f.0 []) in
    let rest = enumerate_from (n + 1) xs in
    let cut : drop n ds ≡ here ∷ drop (n + 1) ds = rw (add-one n) (drop-cons ds n [] (omega (arith, long))) in
    let more = some_pass_from p ds xs (n + 1) (omega (arith, long)) in
    ap (list_any (list_any p)) cut ∙ ap₂ (λ s t. s || t) (some_pass p here) more ∙ sym (some_of (count_by p here) (sum_by F rest)) ∙ ap (nat_lt 0) (sym (sum_by-cons F (n, x) rest))

-- a check of all files counts errors where there are some
pub all-errors : (format : Format) (folders : Vec (String Global) Global) (w : Workspace) → nat_lt 0 (min (error_count (record { format = format; folders = folders; only = None }) w) (2 ^ 64 - 1)) ≡ has_errors w
all-errors format folders w =
    let ds = (let a = analysis w in a.diagnostics) in
    let long : length ds ≡ 0 + length w = length-map (enumerate_from 0 w) (diagnostics_of w) ∙ length-enumerate_from 0 w ∙ omega arith in
    some-min (error_count (record { format = format; folders = folders; only = None }) w) ∙ sym (some_pass_from is_error ds w 0 long)
