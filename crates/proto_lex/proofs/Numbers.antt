-- Runs that begin as a number does.
use Rattle.std.proofs.Common.{◌≡◌, ℕ, suc, zero, ◌+◌, ◌<◌, ◌≤◌, ◌⊎◌, inl, inr, Bool, true, false, cond, List, [], ◌∷◌, length, get_or, take, drop, refl, ap, sym, ◌∙◌, subst, arith, lt-ltb, add-zero, get_or-drop, length-drop}
use Rattle.std.specs.Prelude.{◌&&◌, ◌==◌, ◌||◌}
use Rattle.proto_lex.specs.declared.token.Kind.{Kind}
use Rattle.proto_lex.specs.declared.token.Kind.TheVariants.{Ident, Int, Float, Str, Symbol, Bad}
use Rattle.proto_lex.specs.declared.token.Reason.TheVariants.{Character, Number, String, Comment}
use Rattle.proto_lex.specs.declared.bytes.Class.TheVariants as class
use Rattle.proto_lex.specs.Bytes.{class_of, is_letter, is_name_byte, is_quote, is_space, is_symbol}
use Rattle.std.specs.Char.{is_ascii_digit}
use Rattle.std.proofs.Math.Numerals.{one-add}
use Rattle.proto_lex.specs.Forms.{IsOpenComment, IsForm}
use Rattle.proto_lex.specs.Numbers.{IsNumberRun, BeginsWithNumber, IsRunRest, continues_run, is_hex, is_hex_mark, is_int, is_float, number_kind}
use Rattle.proto_lex.specs.Scanner.{IsLongestFront}
use Rattle.proto_lex.specs.Tokens.{IsToken}
use Rattle.proto_lex.specs.Trivia.{IsTrivia}
use Rattle.proto_lex.proofs.LongestFront.{IsLongestFront-cons, Continues, Continues-more}
use Rattle.proto_lex.proofs.Fronts.{token_from, dot_is_symbol, slash_is_symbol}

-- one byte more
pub run_cons : (hex : Bool) (before b : ℕ) (bs : List ℕ) (n : ℕ) (c : Unit {0}) → continues_run hex before b ≡ true
    → IsLongestFront (Unit {0}) (λ _. IsRunRest hex b) bs n c → IsLongestFront (Unit {0}) (λ _. IsRunRest hex before) (b ∷ bs) (suc n) c
run_cons hex before b bs n c goes =
    IsLongestFront-cons (Unit {0}) (λ _. IsRunRest hex b) (λ _. IsRunRest hex before) b bs n c (λ xs rest. (goes, rest)) (λ d xs rest. rest.1)

-- the run stops
run_over : (hex : Bool) (before : ℕ) (bs : List ℕ) → (0 < length bs → continues_run hex before (get_or bs 0 0) ≡ false) → (m : ℕ) → 0 < m → m ≤ length bs → IsRunRest hex before (take m bs) → ⊥
run_over hex before bs stops zero above within rest = omega arith
run_over hex before [] stops (suc m) above within rest = omega arith
run_over hex before (b ∷ bs) stops (suc m) above within rest =
    let stopped = stops (omega arith) in
    cc (stopped, rest.0)

pub run_stops : (hex : Bool) (before : ℕ) (bs : List ℕ) → (0 < length bs → continues_run hex before (get_or bs 0 0) ≡ false) → IsLongestFront (Unit {0}) (λ _. IsRunRest hex before) bs 0 tt
run_stops hex before bs stops = record { in_range = omega arith; form = tt; longest = λ d. run_over hex before bs stops }

-- whether a run is hexadecimal shows in its first two bytes
pub hex_cons : (b c : ℕ) (bs : List ℕ) → is_hex (b ∷ c ∷ bs) ≡ ((b == 48) && is_hex_mark c)
unfolding is_hex
hex_cons b c bs = let long : 1 < length (b ∷ c ∷ bs) = omega arith in ap (λ t. t && ((b == 48) && is_hex_mark c)) (lt-ltb 1 (length (b ∷ c ∷ bs)) long)

hex_front : (b : ℕ) (bs : List ℕ) (m : ℕ) → is_hex (b ∷ take (suc m) bs) ≡ is_hex (b ∷ bs)
hex_front b [] m = refl
hex_front b (c ∷ bs) m = hex_cons b c (take m bs) ∙ sym (hex_cons b c bs)

-- so a front of a run is judged as the run is
run_front : (b : ℕ) (bs : List ℕ) (m : ℕ) → IsRunRest (is_hex (b ∷ take m bs)) b (take m bs) → IsRunRest (is_hex (b ∷ bs)) b (take m bs)
run_front b bs zero rest = rest
run_front b bs (suc m) rest = subst (λ hex. IsRunRest hex b (take (suc m) bs)) (hex_front b bs m) rest

run_whole : (b : ℕ) (bs : List ℕ) (m : ℕ) → IsRunRest (is_hex (b ∷ bs)) b (take m bs) → IsRunRest (is_hex (b ∷ take m bs)) b (take m bs)
run_whole b bs zero rest = rest
run_whole b bs (suc m) rest = subst (λ hex. IsRunRest hex b (take (suc m) bs)) (sym (hex_front b bs m)) rest

-- a run has the form of its kind
three_kinds : (i f : Bool) (k : Kind) → k ≡ cond i Int (cond f Float (Bad Number)) → (k ≡ Int) ⊎ ((k ≡ Float) ⊎ (k ≡ Bad Number))
three_kinds true f k is = inl is
three_kinds false true k is = inr (inl is)
three_kinds false false k is = inr (inr is)

number_kinds : (bs : List ℕ) → (number_kind bs ≡ Int) ⊎ ((number_kind bs ≡ Float) ⊎ (number_kind bs ≡ Bad Number))
unfolding number_kind
number_kinds bs = three_kinds (is_int bs) (is_float bs) (number_kind bs) refl

run_form : (k : Kind) (bs : List ℕ) → (k ≡ Int) ⊎ ((k ≡ Float) ⊎ (k ≡ Bad Number)) → number_kind bs ≡ k → IsNumberRun bs → IsForm k bs
run_form k bs (inl is_int) is run = subst (λ kind. IsForm kind bs) (sym is_int) (run, is ∙ is_int)
run_form k bs (inr (inl is_float)) is run = subst (λ kind. IsForm kind bs) (sym is_float) (run, is ∙ is_float)
run_form k bs (inr (inr is_bad)) is run = subst (λ kind. IsForm kind bs) (sym is_bad) (run, is ∙ is_bad)

pub number_form : (bs : List ℕ) → IsNumberRun bs → IsForm (number_kind bs) bs
number_form bs run = run_form (number_kind bs) bs (number_kinds bs) refl run

-- a front of a run begins as a number does
begins_front : (b : ℕ) (bs : List ℕ) (m : ℕ) → BeginsWithNumber (b ∷ bs) → (class_of b ≡ class.Digit) ⊎ (0 < m) → BeginsWithNumber (b ∷ take m bs)
begins_front b [] zero begins long = begins
begins_front b [] (suc m) begins long = begins
begins_front b (c ∷ bs) zero begins (inl digit) = digit
begins_front b (c ∷ bs) zero begins (inr some) = absurd (omega arith)
begins_front b (c ∷ bs) (suc m) begins long = begins

-- The same at an offset of the bytes after the first.
module _ (hex : Bool) (first before : ℕ) (bs : List ℕ) (at : ℕ) (continues : Continues (Unit {0}) (λ _. IsRunRest hex before) (λ _. IsRunRest hex first) bs at) where
  pub at_run_byte : at < length bs → continues_run hex before (get_or bs at 0) ≡ true → Continues (Unit {0}) (λ _. IsRunRest hex (get_or bs at 0)) (λ _. IsRunRest hex first) bs (at + 1)
  at_run_byte inside goes =
      Continues-more (Unit {0}) (λ _. IsRunRest hex (get_or bs at 0)) (λ _. IsRunRest hex before) (λ _. IsRunRest hex first) bs at inside continues
      (λ n c. run_cons hex before (get_or bs at 0) (drop (at + 1) bs) n c goes)

  pub at_run_end : at ≤ length bs → (at < length bs → continues_run hex before (get_or bs at 0) ≡ false) → IsLongestFront (Unit {0}) (λ _. IsRunRest hex first) bs at tt
  at_run_end within stops =
      let next = get_or-drop at bs 0 0 ∙ ap (λ i. get_or bs i 0) (add-zero at) in
      let here : 0 < length (drop at bs) → continues_run hex before (get_or (drop at bs) 0 0) ≡ false =
      λ some. ap (continues_run hex before) next ∙ stops (omega (arith, some, length-drop at bs)) in
      rw add-zero at (continues 0 tt (run_stops hex before (drop at bs) here))

pub number_start : (b : ℕ) (bs : List ℕ) → BeginsWithNumber (b ∷ bs) → (class_of b ≡ class.Digit) ⊎ (b ≡ 46)
number_start b [] begins = inl begins
number_start b (c ∷ bs) (inl digit) = inl digit
number_start b (c ∷ bs) (inr dot) = inr dot.0

start_class : (b : ℕ) → (class_of b ≡ class.Digit) ⊎ (b ≡ 46) → (class_of b ≡ class.Digit) ⊎ (class_of b ≡ class.Symbol)
start_class b (inl digit) = inl digit
start_class b (inr dot) = inr (ap class_of dot ∙ dot_is_symbol)

pub no_slash : (b : ℕ) → (class_of b ≡ class.Digit) ⊎ (b ≡ 46) → b ≡ 47 → ⊥
no_slash b (inl digit) slash = let symbol = ap class_of slash ∙ slash_is_symbol in cc
no_slash b (inr dot) slash = omega arith

pub open_comment_slash : (b : ℕ) (xs : List ℕ) → IsOpenComment (b ∷ xs) → b ≡ 47
open_comment_slash b [] comment = absurd comment
open_comment_slash b (c ∷ xs) comment = comment.0

-- What begins where a number does goes on as the number does, or is a dot alone.
pub number_rest : (b : ℕ) (bs : List ℕ) → (class_of b ≡ class.Digit) ⊎ (b ≡ 46) → (class_of b ≡ class.Digit) ⊎ (class_of b ≡ class.Symbol)
    → (k : Kind) (m : ℕ) → IsForm k (b ∷ take m bs) → (c : Unit {0}) × IsRunRest (is_hex (b ∷ bs)) b (take m bs)
number_rest b bs start (inl digit) Ident m form = cc (digit, form.0)
number_rest b bs start (inr symbol) Ident m form = cc (symbol, form.0)
number_rest b bs start first Int m form = (tt, run_front b bs m form.0.1)
number_rest b bs start first Float m form = (tt, run_front b bs m form.0.1)
number_rest b bs start first (Bad Number) m form = (tt, run_front b bs m form.0.1)
number_rest b bs start (inl digit) Str m form = cc (digit, form.0)
number_rest b bs start (inr symbol) Str m form = cc (symbol, form.0)
number_rest b bs start (inl digit) (Bad String) m form = cc (digit, form.0)
number_rest b bs start (inr symbol) (Bad String) m form = cc (symbol, form.0)
number_rest b bs start first (Bad Comment) m form = absurd (no_slash b start (open_comment_slash b (take m bs) form))
number_rest b bs start (inl digit) (Bad Character) m form = cc (digit, form.0)
number_rest b bs start (inr symbol) (Bad Character) m form = cc (symbol, form.0)
number_rest b bs start first Symbol m form = (tt, subst (λ xs. IsRunRest (is_hex (b ∷ bs)) b xs) (sym form.1) tt)

number_no_trivia : (b : ℕ) (bs : List ℕ) (m : ℕ) → (class_of b ≡ class.Digit) ⊎ (b ≡ 46) → (class_of b ≡ class.Digit) ⊎ (class_of b ≡ class.Symbol) → IsTrivia (b ∷ bs) m → ⊥
number_no_trivia b bs m start (inl digit) (inl space) = cc (digit, space.0)
number_no_trivia b bs m start (inr symbol) (inl space) = cc (symbol, space.0)
number_no_trivia b [] m start first (inr (inl line)) = line
number_no_trivia b [] m start first (inr (inr block)) = block
number_no_trivia b (c ∷ bs) m start first (inr (inl line)) = no_slash b start line.0
number_no_trivia b (c ∷ bs) m start first (inr (inr block)) = no_slash b start block.0

digit_chain : (letter digit quote space symbol : Bool) → cond letter class.Letter (cond digit class.Digit (cond quote class.Quote (cond space class.Space (cond symbol class.Symbol class.Other)))) ≡ class.Digit → digit ≡ true
digit_chain true digit quote space symbol is = cc (is)
digit_chain false true quote space symbol is = refl
digit_chain false false true space symbol is = cc (is)
digit_chain false false false true symbol is = cc (is)
digit_chain false false false false true is = cc (is)
digit_chain false false false false false is = cc (is)

pub is_digit_byte : (b : ℕ) → class_of b ≡ class.Digit → is_ascii_digit b ≡ true
unfolding class_of
is_digit_byte b digit = digit_chain (is_letter b) (is_ascii_digit b) (is_quote b) (is_space b) (is_symbol b) digit

or_true : (a : Bool) → (a || true) ≡ true
or_true true = refl
or_true false = refl

digit_continues : (hex : Bool) (before b : ℕ) → class_of b ≡ class.Digit → continues_run hex before b ≡ true
unfolding continues_run is_name_byte
digit_continues hex before b digit = rw (is_digit_byte b digit) (rw (or_true (is_letter b)) refl)

-- a digit after the dot is taken
takes_digit : (b : ℕ) (bs : List ℕ) (n : ℕ) (hex : Bool) → BeginsWithNumber (b ∷ bs) → IsLongestFront (Unit {0}) (λ _. IsRunRest hex b) bs n tt → (class_of b ≡ class.Digit) ⊎ (0 < n)
takes_digit b [] n hex begins ends = inl begins
takes_digit b (c ∷ bs) n hex (inl digit) ends = inl digit
takes_digit b (c ∷ bs) zero hex (inr dot) ends = absurd (ends.longest tt 1 (omega arith) (omega arith) (digit_continues hex b c dot.1, tt))
takes_digit b (c ∷ bs) (suc n) hex (inr dot) ends = inr (omega arith)

number_token : (b : ℕ) (bs : List ℕ) (n : ℕ) → BeginsWithNumber (b ∷ bs) → IsLongestFront (Unit {0}) (λ _. IsRunRest (is_hex (b ∷ bs)) b) bs n tt
    → IsToken (b ∷ bs) (number_kind (b ∷ take n bs)) (suc n)
number_token b bs n begins ends =
    let start = number_start b bs begins in
    let first = start_class b start in
    let run : IsNumberRun (b ∷ take n bs) = (begins_front b bs n begins (takes_digit b bs n (is_hex (b ∷ bs)) begins ends), run_whole b bs n ends.form) in
    token_from (Unit {0}) (λ _. IsRunRest (is_hex (b ∷ bs)) b) (number_kind (b ∷ take n bs)) b bs n tt ends
    (number_form (b ∷ take n bs) run)
    (number_rest b bs start first) (λ m. number_no_trivia b bs m start first)

pub number_first : (rest tail : List ℕ) (n : ℕ) (hex : Bool) (kind : Kind) → tail ≡ drop 1 rest → BeginsWithNumber rest → hex ≡ is_hex rest
    → IsLongestFront (Unit {0}) (λ _. IsRunRest hex (get_or rest 0 0)) tail n tt → kind ≡ number_kind (take (1 + n) rest) → IsToken rest kind (1 + n)
number_first [] tail n hex kind is_tail begins is ends is_kind = absurd begins
number_first (b ∷ bs) tail n hex kind is_tail begins is ends is_kind =
    let here = rw one-add at is_kind in
    let run = subst (λ h. IsLongestFront (Unit {0}) (λ _. IsRunRest h b) bs n tt) is (subst (λ l. IsLongestFront (Unit {0}) (λ _. IsRunRest hex b) l n tt) is_tail ends) in
    rw (one-add, here) (number_token b bs n begins run)
