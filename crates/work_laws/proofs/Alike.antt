-- An offset has the same position in two texts that are the same up to it and both go on with a line feed or both don't.
use Rattle.std.proofs.Common.{◌≡◌, ◌⊎◌, ◌∙◌, inl, inr, ℕ, ◌+◌, ◌-◌, ◌<◌, ◌≤◌, Bool, true, false, cond, List, [], ◌∷◌, ◌++◌, length, get_or, take, drop, refl, sym, ap, subst, arith, add-zero, lt-ltb, le-ltb, IsUtf8, length-append, length-take-le, get_or-take, take-append-drop}
use Rattle.std.specs.Prelude.{◌==◌, ◌&&◌, ◌||◌, nat_lt, not}
use Rattle.std.specs.Char.{encode_utf8}
use Rattle.std.specs.Str.{chars, encode_utf8_all, IsCharBoundary}
use Rattle.std.proofs.lemmas.Bool.{cases_eq, ne_eqb}
use Rattle.std.proofs.lemmas.List.{get_or-drop}
use Rattle.std.proofs.lemmas.Str.{IsUtf8-take, IsUtf8-drop, byte_from_char, char_from_byte, chars-append, encodes-chars, len_utf8_bounds, length-encode}
use Rattle.doc_text.specs.declared.encoding.Encoding.{Encoding}
use Rattle.doc_text.specs.declared.encoding.Encoding.TheVariants.{Utf8}
use Rattle.doc_text.specs.Laws.{IsInsideLineEnd, PositionsComeBack}
use Rattle.doc_text.specs.Lines.{content, ends_line, is_lf_or_cr, lines, onto_first}
use Rattle.doc_text.specs.Positions.{char_units, fitting, in_line, next_line, offset_of, position_in, position_of, units}

-- ---- bytes and characters

bytes_some : (c : ℕ) → 0 < char_units Utf8 c
bytes_some c = let bounds = len_utf8_bounds c in omega (arith, length-encode c, bounds)

units_bytes : (cs : List ℕ) → units Utf8 cs ≡ length (encode_utf8_all cs)
units_bytes [] = refl
units_bytes (c ∷ cs) = ap (λ n. char_units Utf8 c + n) (units_bytes cs) ∙ sym (length-append (encode_utf8 c) (encode_utf8_all cs))

-- a text begins with a line feed where its characters do
first_feed : (cs : List ℕ) → (get_or (encode_utf8_all cs) 0 0 == 10) ≡ (get_or cs 0 0 == 10)
first_feed [] = refl
first_feed (c ∷ cs) = by (cases_eq c 10)
  where
    by : (c ≡ 10) ⊎ (c ≡ 10 → ⊥) → (get_or (encode_utf8 c ++ encode_utf8_all cs) 0 0 == 10) ≡ (c == 10)
    by (inl feed) = ap (λ b. b == 10) (byte_from_char (encode_utf8 c ++ encode_utf8_all cs) (encode_utf8_all cs) c refl (omega arith))
    by (inr other) =
        ne_eqb (get_or (encode_utf8 c ++ encode_utf8_all cs) 0 0) 10
        (λ feed. other (char_from_byte (encode_utf8 c ++ encode_utf8_all cs) (encode_utf8_all cs) c refl (omega arith) (omega (arith, length-append (encode_utf8 c) (encode_utf8_all cs), bytes_some c)) ∙ feed))
        ∙ sym (ne_eqb c 10 other)

-- ---- lines

-- the first of the lines, and those behind it; it has a byte unless it is the only one
record FirstLine (ls : List (List ℕ)) : Type 0 where
  first : List ℕ
  others : List (List ℕ)
  is : ls ≡ first ∷ others
  some : (others ≡ []) ⊎ (0 < units Utf8 first)

first_line : (cs : List ℕ) → FirstLine (lines cs)
first_line [] = record { first = []; others = []; is = refl; some = inl refl }
first_line (c ∷ cs) = by (ends_line c cs) (first_line cs)
  where
    by : (b : Bool) → FirstLine (lines cs) → FirstLine (cond b ((c ∷ []) ∷ lines cs) (onto_first c (lines cs)))
    by true more = record { first = c ∷ []; others = lines cs; is = refl; some = inr (omega (arith, bytes_some c)) }
    by false more = record { first = c ∷ more.first; others = more.others; is = ap (onto_first c) more.is; some = inr (omega (arith, bytes_some c)) }

fitting-none : (cs : List ℕ) → fitting Utf8 0 cs ≡ []
fitting-none [] = refl
fitting-none (c ∷ cs) = ap (λ b. cond b [] (c ∷ fitting Utf8 (0 - char_units Utf8 c) cs)) (lt-ltb 0 (char_units Utf8 c) (bytes_some c))

less_same : (a b : ℕ) → (a + b) - a ≡ b
less_same a b = omega arith

module _ (e : Encoding) where
  -- the offset lies in the first line of both, behind as many characters
  record AreInFirst (l : List ℕ) (ls : List (List ℕ)) (m : List ℕ) (ms : List (List ℕ)) (n : ℕ) : Type 0 where
    one : (ls ≡ []) ⊎ (n < units Utf8 l)
    two : (ms ≡ []) ⊎ (n < units Utf8 m)
    run : fitting Utf8 n (content l) ≡ fitting Utf8 n (content m)

  -- the first line is the same, the offset lies behind it, and has one position in the lines that follow
  record ArePastFirst (l : List ℕ) (ls : List (List ℕ)) (m : List ℕ) (ms : List (List ℕ)) (n : ℕ) : Type 0 where
    same : l ≡ m
    past : units Utf8 l ≤ n
    one : FirstLine ls
    two : FirstLine ms
    behind : position_in e ls (n - units Utf8 l) ≡ position_in e ms (n - units Utf8 m)

  record AreAlike (ls ms : List (List ℕ)) (n : ℕ) : Type 0 where
    l : List ℕ
    m : List ℕ
    others : List (List ℕ)
    rest : List (List ℕ)
    one : ls ≡ l ∷ others
    two : ms ≡ m ∷ rest
    alike : AreInFirst l others m rest n ⊎ ArePastFirst l others m rest n

  in_first : (l : List ℕ) (ls : List (List ℕ)) (n : ℕ) → (ls ≡ []) ⊎ (n < units Utf8 l) → position_in e (l ∷ ls) n ≡ in_line e l n
  in_first l ls n (inl none) = ap (λ ls. position_in e (l ∷ ls) n) none
  in_first l [] n (inr lt) = refl
  in_first l (m ∷ ls) n (inr lt) = ap (λ b. cond b (in_line e l n) (next_line (position_in e (m ∷ ls) (n - units Utf8 l)))) (lt-ltb n (units Utf8 l) lt)

  past_first : (l : List ℕ) (ls : List (List ℕ)) (n : ℕ) → FirstLine ls → units Utf8 l ≤ n → position_in e (l ∷ ls) n ≡ next_line (position_in e ls (n - units Utf8 l))
  past_first l ls n more past =
      ap (λ ls. position_in e (l ∷ ls) n) more.is
      ∙ ap (λ b. cond b (in_line e l n) (next_line (position_in e (more.first ∷ more.others) (n - units Utf8 l)))) (le-ltb n (units Utf8 l) past)
      ∙ ap (λ ls. next_line (position_in e ls (n - units Utf8 l))) (sym more.is)

  one-position : (l : List ℕ) (ls : List (List ℕ)) (m : List ℕ) (ms : List (List ℕ)) (n : ℕ) → AreInFirst l ls m ms n ⊎ ArePastFirst l ls m ms n → position_in e (l ∷ ls) n ≡ position_in e (m ∷ ms) n
  one-position l ls m ms n (inl h) = in_first l ls n h.one ∙ ap (λ run. record { line = 0; character = units e run }) h.run ∙ sym (in_first m ms n h.two)
  one-position l ls m ms n (inr h) =
      past_first l ls n h.one h.past ∙ ap next_line h.behind ∙ sym (past_first m ms n h.two (subst (λ l. units Utf8 l ≤ n) h.same h.past))

  alike-position : (ls ms : List (List ℕ)) (n : ℕ) → AreAlike ls ms n → position_in e ls n ≡ position_in e ms n
  alike-position ls ms n h =
      ap (λ ls. position_in e ls n) h.one ∙ one-position h.l h.others h.m h.rest n h.alike ∙ ap (λ ls. position_in e ls n) (sym h.two)

  -- one character more in front of the first line
  fitting-onto : (c n : ℕ) (l m : List ℕ) → fitting Utf8 n (content l) ≡ fitting Utf8 n (content m) → fitting Utf8 (char_units Utf8 c + n) (content (c ∷ l)) ≡ fitting Utf8 (char_units Utf8 c + n) (content (c ∷ m))
  fitting-onto c n l m run = by (is_lf_or_cr c)
    where
      here : (k : ℕ) → k ≡ n → (b : Bool) → cond {A = List ℕ} b [] (c ∷ fitting Utf8 k (content l)) ≡ cond b [] (c ∷ fitting Utf8 k (content m))
      here k is true = refl
      here k is false = ap (λ run. c ∷ run) (ap (λ k. fitting Utf8 k (content l)) is ∙ run ∙ ap (λ k. fitting Utf8 k (content m)) (sym is))

      by : (b : Bool) → fitting Utf8 (char_units Utf8 c + n) (cond b [] (c ∷ content l)) ≡ fitting Utf8 (char_units Utf8 c + n) (cond b [] (c ∷ content m))
      by true = refl
      by false = here ((char_units Utf8 c + n) - char_units Utf8 c) (less_same (char_units Utf8 c) n) (nat_lt (char_units Utf8 c + n) (char_units Utf8 c))

  longer : (c n : ℕ) (l : List ℕ) (ls : List (List ℕ)) → (ls ≡ []) ⊎ (n < units Utf8 l) → (ls ≡ []) ⊎ (char_units Utf8 c + n < units Utf8 (c ∷ l))
  longer c n l ls (inl none) = inl none
  longer c n l ls (inr lt) = inr (omega arith)

  minus : (a b n : ℕ) → (a + n) - (a + b) ≡ n - b
  minus a b n = omega arith

  onto-both : (c n : ℕ) (l : List ℕ) (ls : List (List ℕ)) (m : List ℕ) (ms : List (List ℕ)) → AreInFirst l ls m ms n ⊎ ArePastFirst l ls m ms n
      → AreInFirst (c ∷ l) ls (c ∷ m) ms (char_units Utf8 c + n) ⊎ ArePastFirst (c ∷ l) ls (c ∷ m) ms (char_units Utf8 c + n)
  onto-both c n l ls m ms (inl h) = inl (record { one = longer c n l ls h.one; two = longer c n m ms h.two; run = fitting-onto c n l m h.run })
  onto-both c n l ls m ms (inr h) = inr (record {
    same = ap (λ l. c ∷ l) h.same;
    past = let past = h.past in omega (arith, past);
    one = h.one;
    two = h.two;
    behind = ap (position_in e ls) (minus (char_units Utf8 c) (units Utf8 l) n) ∙ h.behind ∙ ap (position_in e ms) (sym (minus (char_units Utf8 c) (units Utf8 m) n));
  })

  module _ (ys zs : List ℕ) (alike : (get_or ys 0 0 == 10) ≡ (get_or zs 0 0 == 10)) where
    next-alike : (xs : List ℕ) → (get_or (xs ++ ys) 0 0 == 10) ≡ (get_or (xs ++ zs) 0 0 == 10)
    next-alike [] = alike
    next-alike (x ∷ xs) = refl

    ends-alike : (c : ℕ) (xs : List ℕ) → ends_line c (xs ++ ys) ≡ ends_line c (xs ++ zs)
    ends-alike c xs = ap (λ b. (c == 10) || ((c == 13) && not b)) (next-alike xs)

    lines-alike : (xs : List ℕ) → AreAlike (lines (xs ++ ys)) (lines (xs ++ zs)) (units Utf8 xs)
    lines-alike [] =
        let a = first_line ys in
        let b = first_line zs in
        record {
          l = a.first;
          m = b.first;
          others = a.others;
          rest = b.others;
          one = a.is;
          two = b.is;
          alike = inl (record { one = a.some; two = b.some; run = fitting-none (content a.first) ∙ sym (fitting-none (content b.first)) });
        }
    lines-alike (c ∷ xs) = subst (λ b. AreAlike (lines (c ∷ (xs ++ ys))) (cond b ((c ∷ []) ∷ lines (xs ++ zs)) (onto_first c (lines (xs ++ zs)))) (char_units Utf8 c + units Utf8 xs)) (ends-alike c xs) (by (ends_line c (xs ++ ys)) (lines-alike xs))
      where
        by : (b : Bool) → AreAlike (lines (xs ++ ys)) (lines (xs ++ zs)) (units Utf8 xs) → AreAlike (cond b ((c ∷ []) ∷ lines (xs ++ ys)) (onto_first c (lines (xs ++ ys)))) (cond b ((c ∷ []) ∷ lines (xs ++ zs)) (onto_first c (lines (xs ++ zs)))) (char_units Utf8 c + units Utf8 xs)
        by true h =
            let behind = alike-position (lines (xs ++ ys)) (lines (xs ++ zs)) (units Utf8 xs) h in
            let less : (char_units Utf8 c + units Utf8 xs) - (char_units Utf8 c + 0) ≡ units Utf8 xs = omega arith in
            record {
              l = c ∷ [];
              m = c ∷ [];
              others = lines (xs ++ ys);
              rest = lines (xs ++ zs);
              one = refl;
              two = refl;
              alike = inr (record {
                same = refl;
                past = omega arith;
                one = first_line (xs ++ ys);
                two = first_line (xs ++ zs);
                behind = ap (position_in e (lines (xs ++ ys))) less ∙ behind ∙ ap (position_in e (lines (xs ++ zs))) (sym less);
              });
            }
        by false h =
            record {
              l = c ∷ h.l;
              m = c ∷ h.m;
              others = h.others;
              rest = h.rest;
              one = ap (onto_first c) h.one;
              two = ap (onto_first c) h.two;
              alike = onto-both c (units Utf8 xs) h.l h.others h.m h.rest h.alike;
            }

    places-alike : (xs : List ℕ) → position_in e (lines (xs ++ ys)) (units Utf8 xs) ≡ position_in e (lines (xs ++ zs)) (units Utf8 xs)
    places-alike xs = alike-position (lines (xs ++ ys)) (lines (xs ++ zs)) (units Utf8 xs) (lines-alike xs)

-- ---- as bytes

-- the other text is the same up to an offset, and has the same byte there, or ends there too
pub record IsSameUpTo (text other : List ℕ) (n : ℕ) : Type 0 where
  pub within : n ≤ length text
  pub also : n ≤ length other
  pub taken : take n other ≡ take n text
  pub next : get_or other n 0 ≡ get_or text n 0

-- its characters: those before the offset, and those behind it
split : (text : List ℕ) (n : ℕ) → IsUtf8 text → IsCharBoundary text n → chars text ≡ chars (take n text) ++ chars (drop n text)
split text n utf8 cut = ap chars (sym (take-append-drop n text)) ∙ chars-append (take n text) (drop n text) (IsUtf8-take text n utf8 cut)

first_of : (text : List ℕ) (n : ℕ) → IsUtf8 text → IsCharBoundary text n → (get_or (chars (drop n text)) 0 0 == 10) ≡ (get_or text n 0 == 10)
first_of text n utf8 cut =
    sym (first_feed (chars (drop n text))) ∙ ap (λ bs. get_or bs 0 0 == 10) (encodes-chars (drop n text) (IsUtf8-drop text n utf8 cut))
    ∙ ap (λ b. b == 10) (get_or-drop n text 0 0 ∙ ap (λ i. get_or text i 0) (add-zero n))

pub positions-alike : (e : Encoding) (text other : List ℕ) (n : ℕ) → IsUtf8 text → IsUtf8 other → IsCharBoundary text n → IsCharBoundary other n → IsSameUpTo text other n
    → position_of e text n ≡ position_of e other n
unfolding position_of
positions-alike e text other n utf8 also cut other_cut same =
    let xs = chars (take n text) in
    let ys = chars (drop n text) in
    let zs = chars (drop n other) in
    let first : chars text ≡ xs ++ ys = split text n utf8 cut in
    let second : chars other ≡ xs ++ zs = split other n also other_cut ∙ ap (λ bs. chars bs ++ zs) same.taken in
    let size : units Utf8 xs ≡ n = units_bytes xs ∙ ap length (encodes-chars (take n text) (IsUtf8-take text n utf8 cut)) ∙ length-take-le n text same.within in
    let alike : (get_or ys 0 0 == 10) ≡ (get_or zs 0 0 == 10) = first_of text n utf8 cut ∙ ap (λ b. b == 10) (sym same.next) ∙ sym (first_of other n also other_cut) in
    ap (λ cs. position_in e (lines cs) n) first
    ∙ ap (λ m. position_in e (lines (xs ++ ys)) m) (sym size)
    ∙ places-alike e ys zs alike xs
    ∙ ap (λ m. position_in e (lines (xs ++ zs)) m) size
    ∙ ap (λ cs. position_in e (lines cs) n) (sym second)

-- it lies inside a line end of both or of neither
inside-alike : (text other : List ℕ) (n : ℕ) → IsSameUpTo text other n → IsInsideLineEnd other n → IsInsideLineEnd text n
inside-alike text other n same h =
    let before : n - 1 < n = omega (arith, h.0) in (
      h.0,
      sym (get_or-take n text (n - 1) 0 before) ∙ ap (λ bs. get_or bs (n - 1) 0) (sym same.taken) ∙ get_or-take n other (n - 1) 0 before ∙ h.1,
      sym same.next ∙ h.2,
    )

-- the position that the offset has in the one text leads back to it in the other
pub comes-back : PositionsComeBack → (e : Encoding) (text other : List ℕ) (n : ℕ) → IsUtf8 text → IsUtf8 other → IsCharBoundary text n → IsCharBoundary other n
    → IsSameUpTo text other n → (IsInsideLineEnd text n → ⊥) → offset_of e (position_of e text n) other ≡ n
comes-back back e text other n utf8 also cut other_cut same outside =
    ap (λ p. offset_of e p other) (positions-alike e text other n utf8 also cut other_cut same)
    ∙ back e other n also other_cut (λ inside. outside (inside-alike text other n same inside))
