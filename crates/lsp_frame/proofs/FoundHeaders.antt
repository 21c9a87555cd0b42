-- The header part that is found at the front of a stream.
use Rattle.std.proofs.Common.{◌≡◌, ℕ, zero, suc, ◌-◌, ◌<◌, ◌≤◌, true, false, inl, inr, Bool, cond, List, ◌++◌, length, take, arith, ap, ◌∙◌, refl, Option, None, Some}
use Rattle.std.proofs.lemmas.Bool.Decides.{eqb_tells}
use Rattle.std.proofs.lemmas.List.{length-take-le, take-take}
use Rattle.lsp_frame.specs.Header.{is_whole_header}
use Rattle.lsp_frame.specs.Stream.{least_below, header_len, max_header}
use Rattle.lsp_frame.proofs.Headers.{NoneBelow, NoneWhole, header_len-at}
use Rattle.lsp_frame.proofs.StreamLemmas.{least_below-passes}

cond_none : (b : Bool) (m : ℕ) → cond b (Some m) None ≡ None → b ≡ false
cond_none true m e = cc
cond_none false m e = refl

cond_some : (b : Bool) (m n : ℕ) → cond b (Some m) None ≡ Some n → m ≡ n
cond_some true m n e = cc
cond_some false m n e = cc

least_below-nothing : (m : ℕ) (p : ℕ → Bool) → least_below m p ≡ None → NoneBelow p m
unfolding least_below
least_below-nothing zero p e k lt = absurd (omega (arith, lt))
least_below-nothing (suc m) p e k lt = by_cases (least_below m p) refl (λ h. least_below-nothing m p h)
  where
    by_cases : (before : Option ℕ) → least_below m p ≡ before → (least_below m p ≡ None → NoneBelow p m) → p k ≡ false
    by_cases None is earlier = elim (eqb_tells k m) [
      | inl here ↦ ap p here.1 ∙ cond_none (p m) m (rw is at e)
      | inr other ↦ earlier is k (omega (arith, lt, other.1))
    ]
    by_cases (Some j) is earlier = let no : Some j ≡ None = (rw is at e) in cc

least_below-least : (m n : ℕ) (p : ℕ → Bool) → least_below m p ≡ Some n → NoneBelow p n
unfolding least_below
least_below-least zero n p e k lt = cc
least_below-least (suc m) n p e k lt = by_cases (least_below m p) refl (λ h. least_below-least m n p h)
  where
    by_cases : (before : Option ℕ) → least_below m p ≡ before → (least_below m p ≡ Some n → NoneBelow p n) → p k ≡ false
    by_cases None is earlier = let same : m ≡ n = cond_some (p m) m n (rw is at e) in least_below-nothing m p is k (omega (arith, lt, same))
    by_cases (Some j) is earlier = earlier (is ∙ (rw is at e)) k lt

-- a header part that is there
pub record HeaderAt (bytes : List ℕ) (n : ℕ) : Type 0 where
  pub some : 0 < n
  pub fits : n ≤ max_header
  pub within : n ≤ length bytes
  pub whole : is_whole_header (take n bytes) ≡ true
  pub none_before : NoneWhole bytes (n - 1)

pub header_at : (bytes : List ℕ) (n : ℕ) → header_len bytes ≡ Some n → HeaderAt bytes n
unfolding header_len
header_at bytes zero e = let passes = least_below-passes _ 0 _ e in cc
header_at bytes (suc n) e =
    let passes = least_below-passes _ (suc n) _ e in
    let none = least_below-least _ (suc n) _ e in
    record { some = omega arith; fits = omega (arith, passes.0); within = omega (arith, passes.0); whole = passes.1; none_before = λ k le. none k (omega (arith, le)) }

-- the same header part, whatever is behind it
pub header_kept : (bytes other : List ℕ) (n : ℕ) → HeaderAt bytes n → header_len (take n bytes ++ other) ≡ Some (length (take n bytes))
header_kept bytes other n h =
    let within = h.within in
    let len : length (take n bytes) ≡ n = length-take-le n bytes within in
    header_len-at (take n bytes) other (omega (arith, len, h.some)) (omega (arith, len, h.fits))
    (λ k le. let inner : k ≤ n = omega (arith, le, len) in rw (take-take k n bytes inner) (h.none_before k (omega (arith, le, len))))
    h.whole
