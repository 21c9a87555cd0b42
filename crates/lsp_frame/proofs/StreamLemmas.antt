-- What a stream begins with, and its frames.
use Rattle.std.proofs.Common.{◌≡◌, ℕ, zero, suc, ◌<◌, ◌≤◌, true, false, Bool, cond, List, length, take, drop, arith, ap, sym, ◌∙◌, refl, Option, None, Some, Result, Ok, Err}
use Rattle.std.specs.Prelude.{nat_lt}
use Rattle.std.proofs.lemmas.List.{length-drop}
use Rattle.lsp_frame.specs.Header.{body_length}
use Rattle.lsp_frame.specs.declared.fault.FrameFault.{FrameFault}
use Rattle.lsp_frame.specs.declared.fault.FrameFault.TheVariants.{Truncated}
use Rattle.lsp_frame.specs.Stream.{least_below, header_len, without_header, StreamEnd, BadFrame, FirstFrame, Whole, NoFrame, first_frame, behind_header, frames, frames_within, and_then, with_body, no_frames}

cond_some-cases : (b : Bool) (m n : ℕ) → cond b (Some m) None ≡ Some n → (b ≡ true) × (m ≡ n)
cond_some-cases true m n e = (refl, cc)
cond_some-cases false m n e = cc

pub least_below-passes : (m n : ℕ) (p : ℕ → Bool) → least_below m p ≡ Some n → (n < m) × (p n ≡ true)
unfolding least_below
least_below-passes zero n p e = cc
least_below-passes (suc m) n p e = by_cases (least_below m p) refl (λ h. least_below-passes m n p h)
  where
    by_cases : (before : Option ℕ) → least_below m p ≡ before → (least_below m p ≡ Some n → (n < m) × (p n ≡ true)) → (n < suc m) × (p n ≡ true)
    by_cases None is earlier = let here = cond_some-cases (p m) m n (rw is at e) in (omega (arith, here.1), ap p (sym here.1) ∙ here.0)
    by_cases (Some k) is earlier = let found = earlier (is ∙ (rw is at e)) in (omega (arith, found.0), found.1)

-- a header part is not empty, and is there
header_len-within : (bytes : List ℕ) (n : ℕ) → header_len bytes ≡ Some n → (0 < n) × (n ≤ length bytes)
unfolding header_len
header_len-within bytes zero e = let passes = least_below-passes _ 0 _ e in cc
header_len-within bytes (suc n) e = let passes = least_below-passes _ (suc n) _ e in (omega arith, omega (arith, passes.0))

pub whole-cases : (short : Bool) (front_body front_rest body rest : List ℕ) (end : StreamEnd) → cond short (NoFrame end) (Whole front_body front_rest) ≡ Whole body rest → (front_body ≡ body) × (front_rest ≡ rest)
whole-cases true front_body front_rest body rest end e = cc
whole-cases false front_body front_rest body rest end e = (cc, cc)

-- what is behind a frame is shorter
pub first_frame-shorter : (bytes body rest : List ℕ) → first_frame bytes ≡ Whole body rest → length rest < length bytes
unfolding first_frame
first_frame-shorter bytes body rest e = by_header (header_len bytes) refl
  where
    by_length : (n : ℕ) (announced : Result ℕ FrameFault) → 0 < n → n ≤ length bytes → behind_header (drop n bytes) announced ≡ Whole body rest → length rest < length bytes
    by_length n (Err fault) some within is = cc
    by_length n (Ok len) some within is =
        let cut = whole-cases (nat_lt (length (drop n bytes)) len) (take len (drop n bytes)) (drop len (drop n bytes)) body rest (BadFrame Truncated) is in
        omega (arith, ap length cut.1, length-drop len (drop n bytes), length-drop n bytes)

    by_header : (found : Option ℕ) → header_len bytes ≡ found → length rest < length bytes
    by_header None is = let no : NoFrame (without_header bytes) ≡ Whole body rest = (rw is at e) in cc
    by_header (Some n) is = let within = header_len-within bytes n is in by_length n (body_length (take n bytes)) within.0 within.1 (rw is at e)

enough : (n m : ℕ) (bytes : List ℕ) → length bytes < n → length bytes < m → frames_within n bytes ≡ frames_within m bytes
unfolding frames_within
enough zero m bytes few less = absurd (omega (arith, few))
enough (suc n) zero bytes few less = absurd (omega (arith, less))
enough (suc n) (suc m) bytes few less = by_front (first_frame bytes) refl (λ rest shorter. enough n m rest (omega (arith, shorter, few)) (omega (arith, shorter, less)))
  where
    by_front : (begins : FirstFrame) → first_frame bytes ≡ begins → ((rest : List ℕ) → length rest < length bytes → frames_within n rest ≡ frames_within m rest) → and_then (frames_within n) (first_frame bytes) ≡ and_then (frames_within m) (first_frame bytes)
    by_front (NoFrame end) is behind = rw is refl
    by_front (Whole body rest) is behind = rw is (ap (with_body body) (behind rest (first_frame-shorter bytes body rest is)))

pub frames-whole : (bytes body rest : List ℕ) → first_frame bytes ≡ Whole body rest → frames bytes ≡ with_body body (frames rest)
unfolding frames frames_within
frames-whole bytes body rest is =
    let shorter = first_frame-shorter bytes body rest is in
    ap (and_then (frames_within (length bytes))) is ∙ ap (with_body body) (enough (length bytes) (suc (length rest)) rest shorter (omega arith))

pub frames-end : (bytes : List ℕ) (end : StreamEnd) → first_frame bytes ≡ NoFrame end → frames bytes ≡ no_frames end
unfolding frames frames_within
frames-end bytes end is = ap (and_then (frames_within (length bytes))) is
