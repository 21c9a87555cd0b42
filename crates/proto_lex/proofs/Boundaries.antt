-- In UTF-8 text, tokens begin and end between characters, and a bad character is one character.
use Rattle.std.proofs.Common.{lt-ltb, le-ltb, ◌≡◌, ℕ, suc, zero, ◌+◌, ◌-◌, ◌<◌, ◌≤◌, inl, inr, Bool, true, false, List, [], ◌∷◌, ◌++◌, length, get_or, take, drop, add-one, refl, ap, sym, ◌∙◌, subst, arith, length-take-le, get_or-take, ⊎_elim, IsUtf8, cond, append-nil, length-append}
use Rattle.std.specs.Prelude.{not, ◌==◌, ◌≢◌, MatchBool, nat_eq}
use Rattle.std.specs.List.{AllPass, prefix_len, starts_with, All}
use Rattle.std.specs.Str.{IsCharBoundary, encode_utf8_all, all_scalars}
use Rattle.std.proofs.lemmas.Bool.{cases_lt, cases_eq}
use Rattle.std.proofs.lemmas.Bool.Decides.{nat_tests, Decides-eqb}
use Rattle.std.proofs.lemmas.List.{take_more}
use Rattle.std.proofs.lemmas.List.Elements.{All-get_or, All-push, All-nil, All-cons}
use Rattle.std.proofs.lemmas.List.Sums.{prefix_len_stops, prefix_len-le-length}
use Rattle.std.proofs.lemmas.Str.{IsUtf8-drop, IsCharBoundary-end, IsCharBoundary-before_ascii, IsCharBoundary-after_ascii, IsCharBoundary-from_rest, length-encode, len_utf8_bounds, length-le-encodes, IsCharBoundary-at_seam, IsCharBoundary-start, IsUtf8-past_char, IsUtf8-between}
use Rattle.std.specs.Char.{encode_utf8, IsScalar}
use lib.Utf8.{scalar}
use Rattle.std.proofs.lemmas.Slice.Eq.{starts_is}
use Rattle.proto_lex.specs.Characters.{IsCut, IsSingle}
use Rattle.proto_lex.specs.declared.token.Token.{Token}
use Rattle.proto_lex.specs.declared.token.Kind.{Kind}
use Rattle.proto_lex.specs.declared.token.Kind.TheVariants.{Ident, Int, Float, Str, Symbol, Bad}
use Rattle.proto_lex.specs.declared.token.Reason.TheVariants.{Character, Number, String, Comment}
use Rattle.proto_lex.specs.declared.bytes.Class.TheVariants as class
use Rattle.proto_lex.specs.Bytes.{class_of, is_letter, is_name_byte, is_quote, is_space, is_symbol, is_continuation}
use Rattle.proto_lex.specs.Numbers.{IsNumberRun, IsRunRest, continues_run, is_sign}
use Rattle.proto_lex.specs.Forms.{IsForm, IsString, IsStringRest, IsCommentRest, IsOpenComment}
use Rattle.proto_lex.specs.Tokens.{IsToken, IsGap, done, trivia, IsTokenAt, AreTokensFrom, AreTokens, byte_order_mark_len}
use Rattle.proto_lex.specs.Trivia.{IsTrivia}
use Rattle.proto_lex.proofs.Numbers.{number_start}
use Rattle.proto_lex.proofs.Bools.{and_left}
use Rattle.proto_lex.proofs.Cuts.{token_some}

-- bytes past ASCII begin nothing
name_byte_false : (b : ℕ) → 128 ≤ b → is_name_byte b ≡ false
unfolding is_name_byte is_letter
name_byte_false b past = grind (arith, nat_tests)

sign_false : (b : ℕ) → 128 ≤ b → is_sign b ≡ false
unfolding is_sign
sign_false b past = grind (arith, nat_tests)

past_is_other : (b : ℕ) → 128 ≤ b → class_of b ≡ class.Other
unfolding class_of is_letter is_quote is_space is_symbol
past_is_other b past = grind (arith, nat_tests)

-- the class of an ASCII byte, and of no other
ascii_class : (b : ℕ) → (class_of b ≡ class.Other → ⊥) → b < 128
ascii_class b no_other = ⊎_elim (λ ascii. ascii) (λ past. absurd (no_other (past_is_other b past))) (cases_lt b 128)

name_byte_ascii : (b : ℕ) → is_name_byte b ≡ true → b < 128
name_byte_ascii b word = ⊎_elim (λ ascii. ascii) (λ past. let no = name_byte_false b past in cc) (cases_lt b 128)

run_false : (hex : Bool) (before b : ℕ) → 128 ≤ b → continues_run hex before b ≡ false
unfolding continues_run
run_false hex before b past = rw (name_byte_false b past, sign_false b past) (grind (arith, nat_tests))

run_ascii : (hex : Bool) (before b : ℕ) → continues_run hex before b ≡ true → b < 128
run_ascii hex before b goes = ⊎_elim (λ ascii. ascii) (λ past. let no = run_false hex before b past in cc) (cases_lt b 128)

-- the last byte of what ends in ASCII
abbrev EndsAscii : List ℕ → Type 0
EndsAscii bs = (m : ℕ) → length bs ≡ suc m → get_or bs m 0 < 128

run_ends : (hex : Bool) (before : ℕ) (bs : List ℕ) → IsRunRest hex before bs → EndsAscii bs
run_ends hex before [] rest m size = omega arith
run_ends hex before (b ∷ []) rest zero size = run_ascii hex before b rest.0
run_ends hex before (b ∷ []) rest (suc m) size = omega arith
run_ends hex before (b ∷ c ∷ bs) rest zero size = omega arith
run_ends hex before (b ∷ c ∷ bs) rest (suc m) size = run_ends hex b (c ∷ bs) rest.1 m (omega arith)

number_ends : (bs : List ℕ) → IsNumberRun bs → EndsAscii bs
number_ends [] run m size = absurd run
number_ends (b ∷ bs) run zero size =
    elim (number_start b bs run.0) [ inl digit ↦ ascii_class b (λ other. cc) | inr dot ↦ omega arith ]
number_ends (b ∷ []) run (suc m) size = omega arith
number_ends (b ∷ c ∷ bs) run (suc m) size = run_ends _ b (c ∷ bs) run.1 m (omega arith)

string_ends : (q : ℕ) (bs : List ℕ) → q < 128 → IsStringRest q true bs → EndsAscii bs
string_ends q [] quote rest m size = omega arith
string_ends q (b ∷ []) quote rest zero size = omega (arith, rest)
string_ends q (b ∷ []) quote rest (suc m) size = omega arith
string_ends q (b ∷ c ∷ bs) quote rest zero size = omega arith
string_ends q (b ∷ c ∷ bs) quote (inl plain) (suc m) size = string_ends q (c ∷ bs) quote plain.1 m (omega arith)
string_ends q (b ∷ c ∷ []) quote (inr pair) (suc m) size = cc (pair.2)
string_ends q (b ∷ c ∷ d ∷ bs) quote (inr pair) (suc zero) size = omega arith
string_ends q (b ∷ c ∷ d ∷ bs) quote (inr pair) (suc (suc m)) size = string_ends q (d ∷ bs) quote pair.2 m (omega arith)

comment_ends : (bs : List ℕ) → IsCommentRest true bs → EndsAscii bs
comment_ends [] rest m size = omega arith
comment_ends (b ∷ []) rest m size = cc (rest)
comment_ends (b ∷ c ∷ bs) rest zero size = omega arith
comment_ends (b ∷ c ∷ []) (inl ends) (suc zero) size = omega (arith, ends.1)
comment_ends (b ∷ c ∷ []) (inl ends) (suc (suc m)) size = omega arith
comment_ends (b ∷ c ∷ d ∷ bs) (inl ends) (suc m) size = cc (ends.3)
comment_ends (b ∷ c ∷ bs) (inr goes) (suc m) size = comment_ends (c ∷ bs) goes.1 m (omega arith)

-- what may stand behind an open string or comment
string_extends : (q : ℕ) (bs : List ℕ) (x : ℕ) → IsStringRest q false bs → x ≢ 10 → (closed : Bool) × IsStringRest q closed (bs ++ x ∷ [])
string_extends q [] x rest no_feed =
    elim (cases_eq x q) [ inl same ↦ (true, same) | inr differs ↦ (false, (differs, no_feed)) ]
string_extends q (b ∷ []) x rest no_feed =
    elim (cases_eq b 92) [
      | inl backslash ↦ (false, inr (backslash, no_feed, refl))
      | inr plain ↦ let more = string_extends q [] x refl no_feed in (more.0, inl ((rest.0, plain, rest.1), more.1))
    ]
string_extends q (b ∷ c ∷ bs) x (inl plain) no_feed = let more = string_extends q (c ∷ bs) x plain.1 no_feed in (more.0, inl (plain.0, more.1))
string_extends q (b ∷ c ∷ bs) x (inr pair) no_feed = let more = string_extends q bs x pair.2 no_feed in (more.0, inr (pair.0, pair.1, more.1))

comment_extends : (bs : List ℕ) (x : ℕ) → IsCommentRest false bs → (closed : Bool) × IsCommentRest closed (bs ++ x ∷ [])
comment_extends [] x rest = (false, refl)
comment_extends (b ∷ []) x rest =
    elim (cases_eq b 42) [
      | inl star ↦ elim (cases_eq x 47) [ inl slash ↦ (true, inl (star, slash, refl, refl)) | inr no_slash ↦ (false, inr ((λ _ slash. no_slash slash), refl)) ]
      | inr no_star ↦ (false, inr ((λ star _. no_star star), refl))
    ]
comment_extends (b ∷ c ∷ bs) x (inl ends) = cc (ends.2)
comment_extends (b ∷ c ∷ bs) x (inr goes) = let more = comment_extends (c ∷ bs) x goes.1 in (more.0, inr (goes.0, more.1))

-- a text may be cut behind bytes that end in ASCII
cut_behind : (rest : List ℕ) (n : ℕ) → IsUtf8 rest → 0 < n → n ≤ length rest → EndsAscii (take n rest) → IsCharBoundary rest n
cut_behind rest zero utf8 some within ends = absurd (omega arith)
cut_behind rest (suc m) utf8 some within ends =
    let last = ends m (length-take-le (suc m) rest within) in
    let same = get_or-take (suc m) rest m 0 (omega arith) in
    subst (IsCharBoundary rest) (add-one m) (IsCharBoundary-after_ascii rest m utf8 (omega arith) (omega (arith, last, same)))

-- a token that one byte more would lengthen reaches the end
reaches_end : (rest : List ℕ) (k : Kind) (n : ℕ) → IsToken rest k n → (n < length rest → (l : Kind) × IsForm l (take n rest ++ get_or rest n 0 ∷ [])) → n ≡ length rest
reaches_end rest k n token more =
    ⊎_elim
    (λ inside. let longer = more inside in
    absurd (token.longest longer.0 (n + 1) (omega arith) (omega arith) (subst (IsForm longer.0) (sym (take_more rest n 0 inside)) longer.1)))
    (λ past. omega (arith, token.in_range))
    (cases_lt n (length rest))

cut_at_end : (rest : List ℕ) (n : ℕ) → n ≡ length rest → IsCharBoundary rest n
cut_at_end rest n whole = subst (IsCharBoundary rest) (sym whole) (IsCharBoundary-end rest)

-- behind an open string stands a line feed, or nothing
string_form : (closed : Bool) (xs : List ℕ) → IsString closed xs → (k : Kind) × IsForm k xs
string_form true xs form = (Str, form)
string_form false xs form = (Bad String, form)

string_longer : (xs : List ℕ) (x : ℕ) → IsString false xs → x ≢ 10 → (k : Kind) × IsForm k (xs ++ x ∷ [])
string_longer [] x form no_feed = absurd form
string_longer (q ∷ bs) x form no_feed =
    let more = string_extends q bs x form.1 no_feed in string_form more.0 (q ∷ (bs ++ x ∷ [])) (form.0, more.1)

open_string_cut : (rest : List ℕ) (n : ℕ) → IsToken rest (Bad String) n → IsCharBoundary rest n
open_string_cut rest n token =
    elim (cases_eq (get_or rest n 0) 10) [
      | inl feed ↦ ⊎_elim (λ inside. IsCharBoundary-before_ascii rest n inside (omega (arith, feed)))
          (λ past. cut_at_end rest n (omega (arith, token.in_range))) (cases_lt n (length rest))
      | inr no_feed ↦ cut_at_end rest n (reaches_end rest (Bad String) n token (λ inside. string_longer (take n rest) (get_or rest n 0) token.form no_feed))
    ]

-- behind an open comment stands nothing
abbrev IsCommentForm : Bool → List ℕ → Type 0
IsCommentForm closed [] = ⊥
IsCommentForm closed (b ∷ []) = ⊥
IsCommentForm closed (b ∷ c ∷ bs) = (b ≡ 47) × (c ≡ 42) × IsCommentRest closed bs

comment_longer : (xs : List ℕ) (x : ℕ) → IsOpenComment xs → (closed : Bool) × IsCommentForm closed (xs ++ x ∷ [])
comment_longer [] x form = absurd form
comment_longer (b ∷ []) x form = absurd form
comment_longer (b ∷ c ∷ bs) x form = let more = comment_extends bs x form.2 in (more.0, (form.0, form.1, more.1))

closed_is_trivia : (rest : List ℕ) (m : ℕ) → m ≤ length rest → IsCommentForm true (take m rest) → IsTrivia rest m
closed_is_trivia rest zero within form = absurd form
closed_is_trivia [] (suc m) within form = absurd (omega arith)
closed_is_trivia (b ∷ rest) (suc zero) within form = absurd form
closed_is_trivia (b ∷ []) (suc (suc m)) within form = absurd (omega arith)
closed_is_trivia (b ∷ c ∷ rest) (suc (suc m)) within form = inr (inr (form.0, form.1, m, (omega arith), (omega arith), form.2))

open_form : (xs : List ℕ) → IsCommentForm false xs → IsOpenComment xs
open_form [] form = form
open_form (b ∷ []) form = form
open_form (b ∷ c ∷ bs) form = form

open_or_trivia : (rest : List ℕ) (m : ℕ) (closed : Bool) → m ≤ length rest → IsCommentForm closed (take m rest) → ((k : ℕ) → IsTrivia rest k → ⊥) → IsOpenComment (take m rest)
open_or_trivia rest m true within form no_trivia = absurd (no_trivia m (closed_is_trivia rest m within form))
open_or_trivia rest m false within form no_trivia = open_form (take m rest) form

open_comment_cut : (rest : List ℕ) (n : ℕ) → IsToken rest (Bad Comment) n → IsCharBoundary rest n
open_comment_cut rest n token =
    cut_at_end rest n (reaches_end rest (Bad Comment) n token (λ inside.
    let more = comment_longer (take n rest) (get_or rest n 0) token.form in
    let next = take_more rest n 0 inside in
    (Bad Comment, subst IsOpenComment next (open_or_trivia rest (n + 1) more.0 (omega arith) (subst (IsCommentForm more.0) (sym next) more.1) token.no_trivia))))

-- behind a character past ASCII stands no continuation byte
continues_true : (x : ℕ) → 128 ≤ x → x < 192 → is_continuation x ≡ true
unfolding is_continuation
continues_true x low high = grind (arith, nat_tests)

other_longer : (xs : List ℕ) (x : ℕ) → IsForm (Bad Character) xs → 128 ≤ get_or xs 0 0 → 128 ≤ x → x < 192 → IsForm (Bad Character) (xs ++ x ∷ [])
other_longer [] x form past low high = absurd form
other_longer (b ∷ bs) x form past low high =
    let wide = le-ltb b 128 past in
    let was : AllPass is_continuation bs = subst (λ t. MatchBool t (bs ≡ []) (AllPass is_continuation bs)) wide form.1 in
    let all = All-push (λ y. is_continuation y ≡ true) bs x was (continues_true x low high) in
    (form.0, subst (λ t. MatchBool t (bs ++ x ∷ [] ≡ []) (AllPass is_continuation (bs ++ x ∷ []))) (sym wide) all)

other_ends : (xs : List ℕ) → IsForm (Bad Character) xs → get_or xs 0 0 < 128 → EndsAscii xs
other_ends [] form ascii m size = absurd form
other_ends (b ∷ bs) form ascii zero size = ascii
other_ends (b ∷ bs) form ascii (suc m) size =
    let none : bs ≡ [] = subst (λ t. MatchBool t (bs ≡ []) (AllPass is_continuation bs)) (lt-ltb b 128 ascii) form.1 in
    let empty = ap length none in
    omega (arith, size, empty)

character_cut : (rest : List ℕ) (n : ℕ) → IsUtf8 rest → 0 < n → IsToken rest (Bad Character) n → IsCharBoundary rest n
character_cut rest n utf8 some token =
    ⊎_elim (λ ascii. cut_behind rest n utf8 some token.in_range (other_ends (take n rest) token.form ascii))
    (λ past. (
      token.in_range,
      λ inside low. ⊎_elim
          (λ high. absurd (token.longest (Bad Character) (n + 1) (omega arith) (omega arith)
          (subst (IsForm (Bad Character)) (sym (take_more rest n 0 inside)) (other_longer (take n rest) (get_or rest n 0) token.form past low high))))
          (λ lead. lead) (cases_lt (get_or rest n 0) 192),
    ))
    (cases_lt (get_or (take n rest) 0 0) 128)

-- the other kinds end in ASCII
ident_ends : (xs : List ℕ) → IsForm Ident xs → EndsAscii xs
ident_ends [] form m size = absurd form
ident_ends (b ∷ bs) form zero size = ascii_class b (λ other. cc (other, form.0))
ident_ends (b ∷ bs) form (suc m) size = name_byte_ascii (get_or bs m 0) (All-get_or (λ y. is_name_byte y ≡ true) bs m 0 (omega arith) form.1)

symbol_ends : (xs : List ℕ) → IsForm Symbol xs → EndsAscii xs
symbol_ends [] form m size = absurd form
symbol_ends (b ∷ bs) form zero size = ascii_class b (λ other. cc (other, form.0))
symbol_ends (b ∷ bs) form (suc m) size = let empty = ap length form.1 in omega (arith, size, empty)

closed_string_ends : (xs : List ℕ) → IsForm Str xs → EndsAscii xs
closed_string_ends [] form m size = absurd form
closed_string_ends (q ∷ bs) form zero size = ascii_class q (λ other. cc (other, form.0))
closed_string_ends (q ∷ bs) form (suc m) size = string_ends q bs (ascii_class q (λ other. cc (other, form.0))) form.1 m (omega arith)

token_cut : (rest : List ℕ) (k : Kind) (n : ℕ) → IsUtf8 rest → 0 < n → IsToken rest k n → IsCharBoundary rest n
token_cut rest Ident n utf8 some token = cut_behind rest n utf8 some token.in_range (ident_ends (take n rest) token.form)
token_cut rest Int n utf8 some token = cut_behind rest n utf8 some token.in_range (number_ends (take n rest) token.form.0)
token_cut rest Float n utf8 some token = cut_behind rest n utf8 some token.in_range (number_ends (take n rest) token.form.0)
token_cut rest (Bad Number) n utf8 some token = cut_behind rest n utf8 some token.in_range (number_ends (take n rest) token.form.0)
token_cut rest Str n utf8 some token = cut_behind rest n utf8 some token.in_range (closed_string_ends (take n rest) token.form)
token_cut rest Symbol n utf8 some token = cut_behind rest n utf8 some token.in_range (symbol_ends (take n rest) token.form)
token_cut rest (Bad String) n utf8 some token = open_string_cut rest n token
token_cut rest (Bad Comment) n utf8 some token = open_comment_cut rest n token
token_cut rest (Bad Character) n utf8 some token = character_cut rest n utf8 some token

-- a text may be cut behind trivia
space_ends : (b : ℕ) → b < 128 → EndsAscii (b ∷ [])
space_ends b ascii zero size = ascii
space_ends b ascii (suc m) size = omega arith

line_cut : (b c : ℕ) (bs : List ℕ) (len : ℕ) → len ≡ prefix_len (λ x. not (x == 10)) bs → IsCharBoundary (b ∷ c ∷ bs) (suc (suc len))
line_cut b c bs len is_len =
    ⊎_elim
    (λ inside.
    let stops = prefix_len_stops (λ x. not (x == 10)) bs 0 (omega (arith, is_len, inside)) in
    let feed : get_or bs len 0 ≡ 10 = is_feed (get_or bs len 0) (ap (λ i. not (get_or bs i 0 == 10)) is_len ∙ stops) in
    IsCharBoundary-before_ascii (b ∷ c ∷ bs) (suc (suc len)) (omega arith) (omega (arith, feed)))
    (λ past. let within = prefix_len-le-length (λ x. not (x == 10)) bs in cut_at_end (b ∷ c ∷ bs) (suc (suc len)) (omega (arith, within, is_len)))
    (cases_lt len (length bs))
  where
    is_feed : (x : ℕ) → not (x == 10) ≡ false → x ≡ 10
    is_feed x test = grind (arith, nat_tests)

block_ends : (b c : ℕ) (bs : List ℕ) → IsCommentRest true bs → EndsAscii (b ∷ c ∷ bs)
block_ends b c bs rest zero size = omega arith
block_ends b c [] rest (suc zero) size = cc (rest)
block_ends b c (d ∷ bs) rest (suc zero) size = omega arith
block_ends b c bs rest (suc (suc m)) size = comment_ends bs rest m (omega arith)

trivia_cut : (rest : List ℕ) (n : ℕ) → IsUtf8 rest → IsTrivia rest n → IsCharBoundary rest n
trivia_cut [] n utf8 (inl space) = absurd space
trivia_cut [] n utf8 (inr (inl line)) = absurd line
trivia_cut [] n utf8 (inr (inr block)) = absurd block
trivia_cut (b ∷ bs) n utf8 (inl space) =
    subst (IsCharBoundary (b ∷ bs)) (sym space.1)
    (cut_behind (b ∷ bs) 1 utf8 (omega arith) (omega arith) (space_ends b (ascii_class b (λ other. cc (other, space.0)))))
trivia_cut (b ∷ []) n utf8 (inr (inl line)) = absurd line
trivia_cut (b ∷ []) n utf8 (inr (inr block)) = absurd block
trivia_cut (b ∷ c ∷ bs) n utf8 (inr (inl line)) =
    let len = prefix_len (λ x. not (x == 10)) bs in
    let is_n : suc (suc len) ≡ n = omega (arith, line.2) in
    subst (IsCharBoundary (b ∷ c ∷ bs)) is_n (line_cut b c bs len refl)
trivia_cut (b ∷ c ∷ bs) n utf8 (inr (inr block)) =
    let is_n : suc (suc block.2) ≡ n = omega (arith, block.3) in
    subst (IsCharBoundary (b ∷ c ∷ bs)) is_n
    (cut_behind (b ∷ c ∷ bs) (suc (suc block.2)) utf8 (omega arith) (omega (arith, block.4)) (block_ends b c (take block.2 bs) block.5))

gap_cut : (text : List ℕ) (i j : ℕ) → IsUtf8 text → IsCharBoundary text i → IsGap text i j → IsCharBoundary text j
gap_cut text i j utf8 cut done = cut
gap_cut text i j utf8 cut (trivia n is_trivia after) =
    gap_cut text (i + n) j utf8 (IsCharBoundary-from_rest text i n cut.0 (trivia_cut (drop i text) n (IsUtf8-drop text i utf8 cut) is_trivia)) after

token_at_cut : (text : List ℕ) (t : Token) → IsUtf8 text → IsCharBoundary text t.start → IsTokenAt text t → IsCharBoundary text t.end
token_at_cut text t utf8 cut at_t =
    let len = t.end - t.start in
    let is_end : t.start + len ≡ t.end = omega (arith, at_t.ordered) in
    subst (IsCharBoundary text) is_end
    (IsCharBoundary-from_rest text t.start len cut.0
    (token_cut (drop t.start text) t.kind len (IsUtf8-drop text t.start utf8 cut) (token_some (drop t.start text) t.kind len at_t.token) at_t.token))

-- a bad character is one character
continuation_low : (x : ℕ) → is_continuation x ≡ true → 128 ≤ x
unfolding is_continuation
continuation_low x goes = grind (arith, nat_tests)

continuation_high : (x : ℕ) → is_continuation x ≡ true → x < 192
unfolding is_continuation
continuation_high x goes = grind (arith, nat_tests)

no_second : (bs : List ℕ) (k : ℕ) → IsForm (Bad Character) bs → 0 < k → k < length bs → IsCharBoundary bs k → ⊥
no_second [] k form some inside cut = form
no_second (b ∷ bs) zero form some inside cut = omega arith
no_second (b ∷ bs) (suc k) form some inside cut =
    ⊎_elim
    (λ ascii. let none : bs ≡ [] = subst (λ t. MatchBool t (bs ≡ []) (AllPass is_continuation bs)) (lt-ltb b 128 ascii) form.1 in
    let empty = ap length none in omega (arith, inside, empty))
    (λ past. let all : AllPass is_continuation bs = subst (λ t. MatchBool t (bs ≡ []) (AllPass is_continuation bs)) (le-ltb b 128 past) form.1 in
    let goes = All-get_or (λ y. is_continuation y ≡ true) bs k 0 (omega arith) all in
    let lead = cut.1 inside (continuation_low (get_or bs k 0) goes) in
    let high = continuation_high (get_or bs k 0) goes in
    omega (arith, lead, high))
    (cases_lt b 128)

single : (bs cs : List ℕ) → IsUtf8 bs → all_scalars cs ≡ true → encode_utf8_all cs ≡ bs → IsForm (Bad Character) bs → (c : ℕ) × IsScalar c × (bs ≡ encode_utf8 c)
single [] [] utf8 scalars spelled form = absurd form
single (b ∷ bs) [] utf8 scalars spelled form = cc (spelled)
single bs (c ∷ []) utf8 scalars spelled form = (c, and_left (scalar c) true scalars, sym spelled ∙ append-nil (encode_utf8 c))
single bs (c ∷ d ∷ ds) utf8 scalars spelled form =
    let rest = encode_utf8_all (d ∷ ds) in
    let parts : bs ≡ encode_utf8 c ++ rest = sym spelled in
    let size = ap length parts ∙ length-append (encode_utf8 c) rest in
    let first = length-encode c in
    let bounds = len_utf8_bounds c in
    let more = length-le-encodes (d ∷ ds) in
    absurd (no_second bs (length (encode_utf8 c)) form (omega (arith, first, bounds.0)) (omega (arith, size, more))
    (IsCharBoundary-at_seam bs (encode_utf8 c) rest parts (IsUtf8-past_char bs rest c utf8 parts)))

-- the mark at the front is a character
byte_order_mark_spelled : encode_utf8 65279 ≡ 239 ∷ 187 ∷ 191 ∷ []
unfolding encode_utf8
byte_order_mark_spelled = refl

byte_order_mark_cut_by : (text : List ℕ) (t : Bool) → IsUtf8 text → t ≡ starts_with nat_eq text (239 ∷ 187 ∷ 191 ∷ []) → IsCharBoundary text (cond t 3 0)
byte_order_mark_cut_by text false utf8 is = IsCharBoundary-start text utf8
byte_order_mark_cut_by text true utf8 is =
    let found : text ≡ (239 ∷ 187 ∷ 191 ∷ []) ++ drop 3 text = (starts_is Decides-eqb text (239 ∷ 187 ∷ 191 ∷ []) true is).0 refl in
    IsCharBoundary-at_seam text (239 ∷ 187 ∷ 191 ∷ []) (drop 3 text) found
    (IsUtf8-past_char text (drop 3 text) 65279 utf8 (found ∙ ap (λ l. l ++ drop 3 text) (sym byte_order_mark_spelled)))

byte_order_mark_cut : (text : List ℕ) → IsUtf8 text → IsCharBoundary text (byte_order_mark_len text)
byte_order_mark_cut text utf8 = byte_order_mark_cut_by text (starts_with nat_eq text (239 ∷ 187 ∷ 191 ∷ [])) utf8 refl

cuts_from : (text : List ℕ) (at : ℕ) (ts : List Token) → IsUtf8 text → IsCharBoundary text at → AreTokensFrom text at ts → All (IsCut text) ts
cuts_from text at [] utf8 cut f = All-nil (IsCut text)
cuts_from text at (t ∷ ts) utf8 cut f =
    let start = gap_cut text at t.start utf8 cut f.0 in
    let stop = token_at_cut text t utf8 start f.1 in
    All-cons (IsCut text) t ts (start, stop) (cuts_from text t.end ts utf8 stop f.2)

pub tokens_are_cut : (text : List ℕ) (ts : List Token) → IsUtf8 text → AreTokens text ts → All (IsCut text) ts
tokens_are_cut text ts utf8 f = cuts_from text (byte_order_mark_len text) ts utf8 (byte_order_mark_cut text utf8) f

characters_from : (text : List ℕ) (at : ℕ) (ts : List Token) → IsUtf8 text → IsCharBoundary text at → AreTokensFrom text at ts → All (IsSingle text) ts
characters_from text at [] utf8 cut f = All-nil (IsSingle text)
characters_from text at (t ∷ ts) utf8 cut f =
    let start = gap_cut text at t.start utf8 cut f.0 in
    let stop = token_at_cut text t utf8 start f.1 in
    let bytes = take (t.end - t.start) (drop t.start text) in
    let text_between : IsUtf8 bytes = IsUtf8-between text t.start t.end utf8 (omega (arith, f.1.ordered)) start stop in
    All-cons (IsSingle text) t ts
    (λ is_bad. single bytes text_between.0 text_between text_between.1.0 text_between.1.1 (subst (λ k. IsForm k bytes) is_bad f.1.token.form))
    (characters_from text t.end ts utf8 stop f.2)

pub characters_are_single : (text : List ℕ) (ts : List Token) → IsUtf8 text → AreTokens text ts → All (IsSingle text) ts
characters_are_single text ts utf8 f = characters_from text (byte_order_mark_len text) ts utf8 (byte_order_mark_cut text utf8) f
