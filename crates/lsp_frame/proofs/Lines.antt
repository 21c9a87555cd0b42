-- The lines of a header part.
use Rattle.std.proofs.Common.{◌≡◌, ℕ, suc, ◌+◌, ◌<◌, ◌≤◌, true, false, inl, inr, append_assoc, cond, nat_eq, nat_lt, List, [], ◌∷◌, ◌++◌, length, take, drop, get_or, arith, ap, sym, ◌∙◌, ◌&&◌, refl, take-append-drop, one-add, add-one, eqb}
use Rattle.std.proofs.lemmas.List.{drop_more, length-take, get_or-take}
use Rattle.std.proofs.lemmas.Bool.Decides.{eqb_tells}
use Rattle.std.proofs.lemmas.Bool.{lt-ltb}
use Rattle.std.specs.List.{starts_with, take_while}
use Rattle.lsp_frame.specs.Grammar.{HasNoLineEnd}
use Rattle.lsp_frame.specs.Header.{line_end, between_line_ends, prepend_byte, header_lines, is_some_line}
use Rattle.lsp_frame.specs.Steps.{up_to_empty}

pub HasNoLineEnd-tail : (b : ℕ) (bytes : List ℕ) → HasNoLineEnd (b ∷ bytes) → HasNoLineEnd bytes
HasNoLineEnd-tail b bytes none k lt cr lf = none (suc k) (omega (arith, lt)) cr (rw add-one (rw add-one at lf))

pub no_end_here : (b : ℕ) (bytes : List ℕ) → HasNoLineEnd (b ∷ bytes) → (eqb b 13 && starts_with nat_eq bytes (10 ∷ [])) ≡ false
no_end_here b [] none = elim (eqb b 13) as (λ v. (v && false) ≡ false) [ true ↦ refl | false ↦ refl ]
no_end_here b (c ∷ bytes) none = elim (eqb_tells b 13) [
  | inl p ↦ elim (eqb_tells 10 c) [
    | inl q ↦ absurd (none 0 (omega arith) p.1 (sym q.1))
    | inr q ↦ rw (p.0, q.0) refl
  ]
  | inr p ↦ rw p.0 refl
]

-- there is always a first stretch
pub some_stretch : (bytes : List ℕ) → (stretch : List ℕ) × (others : List (List ℕ)) × (between_line_ends bytes ≡ stretch ∷ others)
some_stretch [] = ([], [], refl)
some_stretch (b ∷ bytes) =
    let before = some_stretch bytes in
    let test = eqb b 13 && starts_with nat_eq before.0 (10 ∷ []) in
    let known = ap (prepend_byte b) before.2 in
    let cases : (stretch : List ℕ) × (others : List (List ℕ)) × (cond test ([] ∷ drop 1 before.0 ∷ before.1) ((b ∷ before.0) ∷ before.1) ≡ stretch ∷ others) = elim test as (λ t. (stretch : List ℕ) × (others : List (List ℕ)) × (cond t ([] ∷ drop 1 before.0 ∷ before.1) ((b ∷ before.0) ∷ before.1) ≡ stretch ∷ others)) [
      | true ↦ ([], drop 1 before.0 ∷ before.1, refl)
      | false ↦ (b ∷ before.0, before.1, refl)
    ] in
    (cases.0, cases.1, known ∙ cases.2)

pub end_before : (stretch : List ℕ) (others : List (List ℕ)) → prepend_byte 13 (prepend_byte 10 (stretch ∷ others)) ≡ [] ∷ stretch ∷ others
end_before stretch others = refl

-- a line, its end and the rest
pub between_line_ends-line : (line rest : List ℕ) → HasNoLineEnd line → between_line_ends (line ++ line_end ++ rest) ≡ line ∷ between_line_ends rest
between_line_ends-line [] rest none = let first = some_stretch rest in rw first.2 (end_before first.0 first.1)
between_line_ends-line (b ∷ line) rest none =
    ap (prepend_byte b) (between_line_ends-line line rest (HasNoLineEnd-tail b line none)) ∙ rw (no_end_here b line none) refl

pub between_line_ends-no_end : (bytes : List ℕ) → HasNoLineEnd bytes → between_line_ends bytes ≡ bytes ∷ []
between_line_ends-no_end [] none = refl
between_line_ends-no_end (b ∷ bytes) none =
    ap (prepend_byte b) (between_line_ends-no_end bytes (HasNoLineEnd-tail b bytes none)) ∙ rw (no_end_here b bytes none) refl

-- no `\r\n` ends within the first n bytes
abbrev pub HasNoLineEndBelow : List ℕ → ℕ → Type 0
HasNoLineEndBelow bytes n = (k : ℕ) → k + 1 < n → get_or bytes k 0 ≡ 13 → get_or bytes (k + 1) 0 ≡ 10 → ⊥

HasNoLineEnd-take : (bytes : List ℕ) (n m : ℕ) → n ≤ m → HasNoLineEndBelow bytes m → HasNoLineEnd (take n bytes)
HasNoLineEnd-take bytes n m le none k lt cr lf =
    let short : k + 1 < n = omega (arith, length-take n bytes, lt) in
    let here : get_or (take n bytes) k 0 ≡ get_or bytes k 0 = get_or-take n bytes k 0 (omega arith) in
    let next : get_or (take n bytes) (k + 1) 0 ≡ get_or bytes (k + 1) 0 = get_or-take n bytes (k + 1) 0 short in
    none k (omega arith) (sym here ∙ cr) (sym next ∙ lf)

pub no_end_at_all : (bytes : List ℕ) (n : ℕ) → length bytes ≤ n → HasNoLineEndBelow bytes n → between_line_ends bytes ≡ bytes ∷ []
no_end_at_all bytes n le none = between_line_ends-no_end bytes (λ k lt cr lf. none k (omega arith) cr lf)

-- the first end of a line is at n
pub between_line_ends-at : (bytes : List ℕ) (n m : ℕ) → n ≤ m → n + 1 < length bytes → HasNoLineEndBelow bytes m → get_or bytes n 0 ≡ 13 → get_or bytes (n + 1) 0 ≡ 10 → between_line_ends bytes ≡ take n bytes ∷ between_line_ends (drop (n + 2) bytes)
between_line_ends-at bytes n m le lt none cr lf =
    let here : drop n bytes ≡ 13 ∷ drop (n + 1) bytes = drop_more bytes n 0 (omega arith) ∙ ap (λ x. x ∷ drop (n + 1) bytes) cr in
    let next : drop (n + 1) bytes ≡ 10 ∷ drop (n + 1 + 1) bytes = drop_more bytes (n + 1) 0 (omega arith) ∙ ap (λ x. x ∷ drop (n + 1 + 1) bytes) lf in
    let two : n + 1 + 1 ≡ n + 2 = omega arith in
    let whole : bytes ≡ take n bytes ++ line_end ++ drop (n + 2) bytes =
    sym (take-append-drop n bytes) ∙ ap (λ l. take n bytes ++ l) (here ∙ ap (λ l. 13 ∷ l) (next ∙ ap (λ k. 10 ∷ drop k bytes) two)) ∙ sym (append_assoc (take n bytes) line_end (drop (n + 2) bytes)) in
    ap between_line_ends whole ∙ between_line_ends-line (take n bytes) (drop (n + 2) bytes) (HasNoLineEnd-take bytes n m le none)

-- the lines up to the blank one
pub header_lines-first : (line : List ℕ) (others : List (List ℕ)) → take_while is_some_line (line ∷ others) ≡ up_to_empty line (take_while is_some_line others)
header_lines-first [] others = refl
header_lines-first (b ∷ line) others =
    let some : nat_lt 0 (suc (length line)) ≡ true = lt-ltb 0 (suc (length line)) (omega arith) in
    rw (some, one-add) refl

pub header_lines-cut : (bytes line rest : List ℕ) → between_line_ends bytes ≡ line ∷ between_line_ends rest → header_lines bytes ≡ up_to_empty line (header_lines rest)
header_lines-cut bytes line rest e = ap (take_while is_some_line) e ∙ header_lines-first line (between_line_ends rest)
