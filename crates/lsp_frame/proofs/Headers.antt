-- Where a header part ends.
use Rattle.std.proofs.Common.{◌≡◌, ℕ, zero, suc, ◌+◌, ◌-◌, ◌<◌, ◌≤◌, ◌⊎◌, min, true, false, inl, inr, Bool, List, [], ◌∷◌, ◌++◌, eqb, length, take, drop, arith, ap, sym, ◌∙◌, refl, Option, None, Some, length-append}
use Rattle.std.proofs.lemmas.List.{take-append-le, take_all, append-nil, drop_all, drop_at}
use Rattle.std.proofs.lemmas.Bool.Decides.{eqb_tells}
use Rattle.lsp_frame.specs.Header.{is_whole_header}
use Rattle.std.specs.Prelude.{nat_le, IfSome}
use Rattle.std.specs.Io.KnownBytes.{Consumes, Keeps}
use Rattle.std.proofs.KnownBytes.{Consumes-trans, Consumes-kept}
use Rattle.std.proofs.lemmas.Bool.{le-leb, cases_Bool}
use Rattle.std.proofs.lemmas.Bool.Decides.{nat_tests}
use Rattle.lsp_frame.specs.Steps.{TakesByte, StopsInHeader, FillsInHeader}
use Rattle.lsp_frame.specs.declared.fault.FrameFault.TheVariants.{HeaderTooLong, Truncated}
use Rattle.lsp_frame.specs.Stream.{least_below, header_len, max_header, without_header, StreamEnd, InputEnd, BadFrame}

-- no number below n passes
abbrev pub NoneBelow : (ℕ → Bool) → ℕ → Type 0
NoneBelow p n = (k : ℕ) → k < n → p k ≡ false

pub least_below-none : (n : ℕ) (p : ℕ → Bool) → NoneBelow p n → least_below n p ≡ None
unfolding least_below
least_below-none zero p none = refl
least_below-none (suc n) p none = rw (least_below-none n p (λ k lt. none k (omega arith)), none n (omega arith)) refl

pub least_below-at : (m n : ℕ) (p : ℕ → Bool) → n < m → NoneBelow p n → p n ≡ true → least_below m p ≡ Some n
unfolding least_below
least_below-at zero n p lt none here = absurd (omega arith)
least_below-at (suc m) n p lt none here = elim (eqb_tells n m) [
  | inl e ↦ rw (← e.1, least_below-none n p none, here) refl
  | inr e ↦ rw (least_below-at m n p (omega (arith, e.1)) none here) refl
]

-- no front of the bytes up to n bytes is a whole header part
abbrev pub NoneWhole : List ℕ → ℕ → Type 0
NoneWhole bytes n = (k : ℕ) → k ≤ n → is_whole_header (take k bytes) ≡ false

pub header_len-at : (header rest : List ℕ) → 0 < length header → length header ≤ max_header → NoneWhole header (length header - 1) → is_whole_header header ≡ true → header_len (header ++ rest) ≡ Some (length header)
unfolding header_len
header_len-at header rest some fits none here =
    least_below-at _ (length header) (λ n. is_whole_header (take n (header ++ rest))) (omega (arith, length-append header rest))
    (λ k lt. let within : k ≤ length header = omega arith in rw (take-append-le k header rest) (none k (omega arith)))
    (let all : length header ≤ length header = omega arith in rw (take-append-le (length header) header rest, take_all (length header) header) here)

pub header_len-none : (bytes : List ℕ) (n : ℕ) → min max_header (length bytes) ≤ n → NoneWhole bytes n → header_len bytes ≡ None
unfolding header_len
header_len-none bytes n le none = least_below-none _ (λ k. is_whole_header (take k bytes)) (λ k lt. none k (omega arith))

pub NoneWhole-nil : NoneWhole [] 0
NoneWhole-nil zero le = refl
NoneWhole-nil (suc k) le = absurd (omega (arith, le))

-- one more byte, which ends no header part
pub NoneWhole-push : (bytes : List ℕ) (n b : ℕ) → length bytes ≡ n → NoneWhole bytes n → is_whole_header (bytes ++ b ∷ []) ≡ false → NoneWhole (bytes ++ b ∷ []) (n + 1)
NoneWhole-push bytes n b len none here k le = elim (eqb_tells k (n + 1)) [
  | inl e ↦ let all : length (bytes ++ b ∷ []) ≤ k = omega (arith, e.1, length-append bytes (b ∷ [])) in rw (take_all k (bytes ++ b ∷ [])) here
  | inr e ↦ let within : k ≤ length bytes = omega (arith, e.1) in rw (take-append-le k bytes (b ∷ [])) (none k (omega (arith, e.1)))
]

NoneWhole-front : (front rest : List ℕ) (n : ℕ) → n ≤ length front → NoneWhole front n → NoneWhole (front ++ rest) n
NoneWhole-front front rest n le none k lt = let within : k ≤ length front = omega arith in rw (take-append-le k front rest) (none k lt)

-- the bytes end so, no header part stands at their front, and this is left of them
abbrev pub HeaderEnds : List ℕ → Option (List ℕ) → StreamEnd → Type 0
HeaderEnds bytes left end = (header_len bytes ≡ None) × (without_header bytes ≡ end) × (left ≡ Some (drop max_header bytes))

ended : (items : List ℕ) → NoneWhole items (length items) → header_len items ≡ None
ended items none = header_len-none items (length items) (omega arith) none

-- all bytes of a short stream were taken
all_taken : (b c : Option (List ℕ)) (rest items : List ℕ) → b ≡ Some rest → TakesByte b c None → length items < max_header → (rest ≡ []) × (c ≡ Some (drop max_header items))
all_taken None c rest items is end few = cc
all_taken (Some xs) None rest items is end few = absurd end.0
all_taken (Some xs) (Some ys) rest items is end few =
    let same : xs ≡ rest = cc in
    let none : drop max_header items ≡ [] = drop_all max_header items (omega (arith, few)) in
    (sym same ∙ end.1, ap Some (end.0 ∙ end.1 ∙ sym none))

pub ended_empty : (a b c : Option (List ℕ)) (items : List ℕ) → Consumes a b items → TakesByte b c None → length items ≡ 0 → NoneWhole items (length items) → IfSome a (λ bytes. HeaderEnds bytes c InputEnd)
ended_empty None b c items taken end len none = tt
ended_empty (Some bytes) None c items taken end len none = absurd taken
ended_empty (Some bytes) (Some rest) c [] taken end len none =
    let all = all_taken (Some rest) c rest [] refl end (omega arith) in
    let empty = taken ∙ all.0 in rw empty (ended [] none, refl, all.1)
ended_empty (Some bytes) (Some rest) c (x ∷ items) taken end len none = absurd (omega (arith, len))

le-no : (a b : ℕ) → b < a → nat_le a b ≡ false
le-no a b lt = grind (arith, nat_tests)

not-zero : (a : ℕ) → 0 < a → eqb a 0 ≡ false
not-zero (suc a) lt = grind (arith, nat_tests)
not-zero zero lt = absurd (omega (arith, lt))

pub ended_within : (a b c : Option (List ℕ)) (items : List ℕ) → Consumes a b items → TakesByte b c None → 0 < length items → length items < 8192 → NoneWhole items (length items) → IfSome a (λ bytes. HeaderEnds bytes c (BadFrame Truncated))
ended_within None b c items taken end some few none = tt
ended_within (Some bytes) None c items taken end some few none = absurd taken
ended_within (Some bytes) (Some rest) c items taken end some few none =
    let last = all_taken (Some rest) c rest items refl end few in
    let all : bytes ≡ items = taken ∙ ap (λ l. items ++ l) last.0 ∙ append-nil items in
    rw all (ended items none, rw (le-no 8192 (length items) few, not-zero (length items) some) refl, last.1)

pub too_long : (a b : Option (List ℕ)) (items : List ℕ) → Consumes a b items → length items ≡ 8192 → NoneWhole items (length items) → IfSome a (λ bytes. HeaderEnds bytes b (BadFrame HeaderTooLong))
too_long None b items taken len none = tt
too_long (Some bytes) None items taken len none = absurd taken
too_long (Some bytes) (Some rest) items taken len none =
    let long : 8192 ≤ length (items ++ rest) = omega (arith, length-append items rest) in
    rw taken (
      header_len-none (items ++ rest) (length items) (omega arith) (NoneWhole-front items rest (length items) (omega arith) none),
      rw (le-leb 8192 (length (items ++ rest)) long) refl,
      ap Some (sym (drop_at items rest max_header len)),
    )

header_taken : (a c : Option (List ℕ)) (all : List ℕ) → Consumes a c all → 0 < length all → length all ≤ 8192 → NoneWhole all (length all - 1) → is_whole_header all ≡ true → IfSome a (λ bytes. (header_len bytes ≡ Some (length all)) × Consumes (Some bytes) c all)
header_taken None c all taken some few none here = tt
header_taken (Some bytes) None all taken some few none here = absurd taken
header_taken (Some bytes) (Some rest) all taken some few none here =
    (ap header_len taken ∙ header_len-at all rest some few none here, taken)

pub closed : (a b c : Option (List ℕ)) (items all : List ℕ) (x n : ℕ) → Consumes a b items → TakesByte b c (Some x) → all ≡ items ++ x ∷ [] → length items ≡ n → n < 8192 → NoneWhole items n → is_whole_header all ≡ true → IfSome a (λ bytes. (header_len bytes ≡ Some (length all)) × Consumes (Some bytes) c all)
closed a b c items all x n taken next grown len few none here =
    let more : length all ≡ n + 1 = ap length grown ∙ length-append items (x ∷ []) ∙ ap (λ k. k + 1) len in
    let whole : Consumes a c all = rw grown (Consumes-trans a b c items (x ∷ []) taken next) in
    let before : NoneWhole all (length all - 1) = rw (more, grown) (NoneWhole-front items (x ∷ []) (n + 1 - 1) (omega arith) (λ k le. none k (omega arith))) in
    header_taken a c all whole (omega arith) (omega arith) before here

-- the source failed behind these bytes, in which no header part ends
pub stopped_in_header : (a b c : Option (List ℕ)) (items : List ℕ) → Consumes a b items → Keeps b c → length items < 8192 → NoneWhole items (length items) → IfSome a (λ bytes. StopsInHeader bytes c)
stopped_in_header None b c items taken kept few none = tt
stopped_in_header (Some bytes) b c items taken kept few none = record { taken = items; consumed = Consumes-kept (Some bytes) b c items taken kept; none = ended items none; short = few }

-- memory was refused for one more byte of a header part
header_ends : (items : List ℕ) (x n : ℕ) → length items ≡ n → n < 8192 → NoneWhole items n → (header_len (items ++ x ∷ []) ≡ None) ⊎ (header_len (items ++ x ∷ []) ≡ Some (length (items ++ x ∷ [])))
header_ends items x n len few none =
    let all = items ++ x ∷ [] in
    let more : length all ≡ n + 1 = length-append items (x ∷ []) ∙ ap (λ k. k + 1) len in
    let before : NoneWhole all (length all - 1) = rw more (NoneWhole-front items (x ∷ []) (n + 1 - 1) (omega arith) (λ k le. none k (omega arith))) in
    elim (cases_Bool (is_whole_header all)) [
      | inl here ↦ inr (ap header_len (sym (append-nil all)) ∙ header_len-at all [] (omega (arith, more)) (omega (arith, more)) before here)
      | inr open_still ↦ inl (header_len-none all (n + 1) (omega (arith, more)) (NoneWhole-push items n x len none open_still))
    ]

pub filled_in_header : (a b c : Option (List ℕ)) (items : List ℕ) (x n : ℕ) → Consumes a b items → TakesByte b c (Some x) → length items ≡ n → n < 8192 → NoneWhole items n → IfSome a (λ bytes. FillsInHeader bytes c)
filled_in_header None b c items x n taken next len few none = tt
filled_in_header (Some bytes) b c items x n taken next len few none =
    record {
      taken = items ++ x ∷ [];
      consumed = Consumes-trans (Some bytes) b c items (x ∷ []) taken next;
      ends = header_ends items x n len few none;
      within = omega (arith, length-append items (x ∷ []), len, few);
    }
