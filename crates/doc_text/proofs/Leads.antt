-- The byte at which a character begins.
use Rattle.std.proofs.Common.{◌≡◌, ℕ, ◌+◌, ◌/◌, ◌%◌, ◌<◌, ◌≤◌, Bool, true, false, cond, List, [], ◌∷◌, ◌++◌, length, get_or, drop, refl, ap, sym, ◌∙◌, subst, arith, lt-ltb, le-ltb, ltb, ⊎_elim, inl, inr, IsUtf8, length-append, add-zero}
use Rattle.std.specs.Prelude.{◌==◌, ◌&&◌}
use Rattle.std.specs.Char.{encode_utf8, len_utf8}
use Rattle.std.specs.Char.Escape.{encode_utf16}
use lib.Utf8.{scalar}
use Rattle.std.specs.Str.{NonePass, chars, all_scalars, encode_utf8_all}
use Rattle.std.proofs.lemmas.Bool.{cases_lt, cases_eq, ne_eqb}
use Rattle.std.proofs.lemmas.List.{get_or-drop, length-drop}
use Rattle.std.proofs.lemmas.Str.{encode_ascii, chars-encodes, length-encode, drop_past_char}
use Rattle.doc_text.specs.declared.encoding.Encoding.{Encoding}
use Rattle.doc_text.specs.declared.encoding.Encoding.TheVariants.{Utf16, Utf8, Utf32}
use Rattle.doc_text.specs.Lines.{is_lf_or_cr, ends_line}
use Rattle.doc_text.specs.Positions.{char_units}
use Rattle.doc_text.specs.Bytes.{lead_len, lead_units}

and_right : (a b : Bool) → (a && b) ≡ true → b ≡ true
and_right true b both = both
and_right false b both = cc (both)

-- what the first byte says of its character
pub record LeadOf (b c : ℕ) : Type 0 where
  pub len : lead_len b ≡ length (encode_utf8 c)
  pub units : (e : Encoding) → lead_units e b ≡ char_units e c
  pub feed : (b == 10) ≡ (c == 10)
  pub return : (b == 13) ≡ (c == 13)

pub record Lead (c : ℕ) : Type 0 where
  pub byte : ℕ
  pub others : List ℕ
  pub is : encode_utf8 c ≡ byte ∷ others
  pub lead : LeadOf byte c
  pub plain : NonePass is_lf_or_cr others

lead_of : (b c : ℕ) → lead_len b ≡ length (encode_utf8 c) → (cond (ltb b 240) 1 2) ≡ length (encode_utf16 c) → (b == 10) ≡ (c == 10) → (b == 13) ≡ (c == 13) → LeadOf b c
lead_of b c len wide feed return = record { len = len; units = all; feed = feed; return = return }
  where
    all : (e : Encoding) → lead_units e b ≡ char_units e c
    all Utf16 = wide
    all Utf8 = len
    all Utf32 = refl

eqb_apart : (a b : ℕ) → b < a → (a == b) ≡ false
eqb_apart a b above = ne_eqb a b (λ same. omega arith)

continuation_plain : (x : ℕ) → is_lf_or_cr (128 + x) ≡ false
continuation_plain x = rw (eqb_apart (128 + x) 10 (omega arith), eqb_apart (128 + x) 13 (omega arith)) refl

one_byte : (c : ℕ) → c < 128 → Lead c
one_byte c ascii =
    let is = encode_ascii c ascii in
    let narrow = lt-ltb c 240 (omega arith) in
    let short = lt-ltb c 65536 (omega arith) in
    let small = lt-ltb c 128 ascii in
    record { byte = c; others = []; is = is; lead = lead_of c c (rw (is, small) refl) (rw (narrow, short) refl) refl refl; plain = tt }

two_is : (c : ℕ) → 128 ≤ c → c < 2048 → encode_utf8 c ≡ (192 + c / 64) ∷ (128 + c % 64) ∷ []
unfolding encode_utf8
two_is c past below = rw (le-ltb c 128 past, lt-ltb c 2048 below) refl

two_bytes : (c : ℕ) → 128 ≤ c → c < 2048 → Lead c
two_bytes c past below =
    let is : encode_utf8 c ≡ (192 + c / 64) ∷ (128 + c % 64) ∷ [] = two_is c past below in
    record {
      byte = 192 + c / 64;
      others = (128 + c % 64) ∷ [];
      is = is;
      lead = lead_of (192 + c / 64) c
          (rw (is, le-ltb (192 + c / 64) 128 (omega arith), lt-ltb (192 + c / 64) 224 (omega arith)) refl)
          (rw (lt-ltb (192 + c / 64) 240 (omega arith), lt-ltb c 65536 (omega arith)) refl)
          (rw (eqb_apart (192 + c / 64) 10 (omega arith), eqb_apart c 10 (omega arith)) refl)
          (rw (eqb_apart (192 + c / 64) 13 (omega arith), eqb_apart c 13 (omega arith)) refl);
      plain = (continuation_plain (c % 64), tt);
    }

three_is : (c : ℕ) → 2048 ≤ c → c < 65536 → encode_utf8 c ≡ (224 + c / 4096) ∷ (128 + (c / 64) % 64) ∷ (128 + c % 64) ∷ []
unfolding encode_utf8
three_is c past below = rw (le-ltb c 128 (omega arith), le-ltb c 2048 past, lt-ltb c 65536 below) refl

three_bytes : (c : ℕ) → 2048 ≤ c → c < 65536 → Lead c
three_bytes c past below =
    let is : encode_utf8 c ≡ (224 + c / 4096) ∷ (128 + (c / 64) % 64) ∷ (128 + c % 64) ∷ [] = three_is c past below in
    record {
      byte = 224 + c / 4096;
      others = (128 + (c / 64) % 64) ∷ (128 + c % 64) ∷ [];
      is = is;
      lead = lead_of (224 + c / 4096) c
          (rw (is, le-ltb (224 + c / 4096) 128 (omega arith), le-ltb (224 + c / 4096) 224 (omega arith), lt-ltb (224 + c / 4096) 240 (omega arith)) refl)
          (rw (lt-ltb (224 + c / 4096) 240 (omega arith), lt-ltb c 65536 (omega arith)) refl)
          (rw (eqb_apart (224 + c / 4096) 10 (omega arith), eqb_apart c 10 (omega arith)) refl)
          (rw (eqb_apart (224 + c / 4096) 13 (omega arith), eqb_apart c 13 (omega arith)) refl);
      plain = (continuation_plain ((c / 64) % 64), (continuation_plain (c % 64), tt));
    }

four_is : (c : ℕ) → 65536 ≤ c → encode_utf8 c ≡ (240 + c / 262144) ∷ (128 + (c / 4096) % 64) ∷ (128 + (c / 64) % 64) ∷ (128 + c % 64) ∷ []
unfolding encode_utf8
four_is c past = rw (le-ltb c 128 (omega arith), le-ltb c 2048 (omega arith), le-ltb c 65536 past) refl

four_bytes : (c : ℕ) → 65536 ≤ c → Lead c
four_bytes c past =
    let is : encode_utf8 c ≡ (240 + c / 262144) ∷ (128 + (c / 4096) % 64) ∷ (128 + (c / 64) % 64) ∷ (128 + c % 64) ∷ [] = four_is c past in
    record {
      byte = 240 + c / 262144;
      others = (128 + (c / 4096) % 64) ∷ (128 + (c / 64) % 64) ∷ (128 + c % 64) ∷ [];
      is = is;
      lead = lead_of (240 + c / 262144) c
          (rw (is, le-ltb (240 + c / 262144) 128 (omega arith), le-ltb (240 + c / 262144) 224 (omega arith), le-ltb (240 + c / 262144) 240 (omega arith)) refl)
          (rw (le-ltb (240 + c / 262144) 240 (omega arith), le-ltb c 65536 past) refl)
          (rw (eqb_apart (240 + c / 262144) 10 (omega arith), eqb_apart c 10 (omega arith)) refl)
          (rw (eqb_apart (240 + c / 262144) 13 (omega arith), eqb_apart c 13 (omega arith)) refl);
      plain = (continuation_plain ((c / 4096) % 64), (continuation_plain ((c / 64) % 64), (continuation_plain (c % 64), tt)));
    }

pub lead : (c : ℕ) → Lead c
lead c =
    ⊎_elim (one_byte c) (λ past. ⊎_elim (two_bytes c past) (λ more. ⊎_elim (three_bytes c more) (four_bytes c) (cases_lt c 65536)) (cases_lt c 2048)) (cases_lt c 128)

-- the character at an offset of a text
pub record CharAt (text : List ℕ) (at : ℕ) : Type 0 where
  pub code : ℕ
  pub is : chars (drop at text) ≡ code ∷ chars (drop (at + lead_len (get_or text at 0)) text)
  pub utf8 : IsUtf8 (drop (at + lead_len (get_or text at 0)) text)
  pub in_range : at + lead_len (get_or text at 0) ≤ length text
  pub lead : LeadOf (get_or text at 0) code
  pub bytes : drop at text ≡ encode_utf8 code ++ drop (at + lead_len (get_or text at 0)) text
  pub ends : ends_line (get_or text at 0) (drop (at + 1) text) ≡ ends_line code (chars (drop (at + lead_len (get_or text at 0)) text))

-- a text begins with a line feed where its characters do
pub first_feed : (cs : List ℕ) → (get_or (encode_utf8_all cs) 0 0 == 10) ≡ (get_or cs 0 0 == 10)
first_feed [] = refl
first_feed (c ∷ cs) = let first = lead c in rw (first.is) first.lead.feed

feed_next : (bs : List ℕ) → IsUtf8 bs → (get_or bs 0 0 == 10) ≡ (get_or (chars bs) 0 0 == 10)
feed_next bs utf8 =
    subst (λ b. (get_or b 0 0 == 10) ≡ (get_or (chars b) 0 0 == 10)) utf8.1.1
    (rw (chars-encodes utf8.0 utf8.1.0) (first_feed utf8.0))

ends_same : (b c : ℕ) (bs ds : List ℕ) → LeadOf b c → (b ≡ 13 → (get_or bs 0 0 == 10) ≡ (get_or ds 0 0 == 10)) → ends_line b bs ≡ ends_line c ds
ends_same b c bs ds lead next =
    elim (cases_eq b 13) [
      | inl return ↦ rw (lead.feed, lead.return, next return) refl
      | inr other ↦ let no : (b == 13) ≡ false = ne_eqb b 13 other in rw (← lead.feed, ← lead.return, no) refl
    ]

char_in : (text : List ℕ) (at : ℕ) (cs : List ℕ) → all_scalars cs ≡ true → encode_utf8_all cs ≡ drop at text → at < length text → CharAt text at
char_in text at [] are is inside = absurd (omega (arith, ap length is, length-drop at text))
char_in text at (c ∷ cs) are is inside =
    let first = lead c in
    let after_are : all_scalars cs ≡ true = and_right (scalar c) (all_scalars cs) are in
    let here : get_or text at 0 ≡ first.byte = ap (λ i. get_or text i 0) (sym (add-zero at)) ∙ sym (get_or-drop at text 0 0) ∙ ap (λ l. get_or l 0 0) (sym is) ∙ rw (first.is) refl in
    let len : lead_len (get_or text at 0) ≡ len_utf8 c = ap lead_len here ∙ first.lead.len ∙ length-encode c in
    let after : drop (at + lead_len (get_or text at 0)) text ≡ encode_utf8_all cs = rw (len) (drop_past_char text (encode_utf8_all cs) at c (sym is)) in
    let size = ap length is ∙ length-drop at text in
    let lead_is : LeadOf (get_or text at 0) c = subst (λ b. LeadOf b c) (sym here) first.lead in
    record {
      code = c;
      is = ap chars (sym is) ∙ chars-encodes (c ∷ cs) are ∙ ap (λ l. c ∷ l) (sym (chars-encodes cs after_are) ∙ ap chars (sym after));
      utf8 = (cs, (after_are, sym after));
      in_range = omega (arith, len, size, length-append (encode_utf8 c) (encode_utf8_all cs), length-encode c);
      lead = lead_is;
      bytes = sym is ∙ ap (λ l. encode_utf8 c ++ l) (sym after);
      ends = ends_same (get_or text at 0) c (drop (at + 1) text) (chars (drop (at + lead_len (get_or text at 0)) text)) lead_is
          (λ return.
          let one : lead_len (get_or text at 0) ≡ 1 = ap lead_len return in
          rw (one) (feed_next (drop (at + 1) text) (subst IsUtf8 (ap (λ n. drop (at + n) text) one) (cs, (after_are, sym after)))));
    }

pub char_at : (text : List ℕ) (at : ℕ) → at < length text → IsUtf8 (drop at text) → CharAt text at
char_at text at inside utf8 = char_in text at utf8.0 utf8.1.0 utf8.1.1 inside
