-- `kind_of` tells of which bytes that they have a form, and which.
use Rattle.std.proofs.Common.{◌≡◌, ℕ, suc, ◌≤◌, inl, inr, Bool, true, false, cond, List, [], ◌∷◌, length, take, refl, sym, subst, arith, Some, None, Option}
use Rattle.std.specs.Prelude.{not, ◌==◌, ◌&&◌, nat_lt, nat_le, MatchBool, is_none, option_map}
use Rattle.std.specs.Bool.{then_some}
use Rattle.std.specs.Char.{is_ascii_digit}
use Rattle.std.specs.List.{AllPass, list_all}
use Rattle.std.proofs.lemmas.Bool.Decides.{nat_tests}
use Rattle.std.proofs.lemmas.List.Elements.{All-nil}
use Rattle.std.proofs.lemmas.List.Sums.{AllPass-from_list_all, list_all-from_AllPass}
use Rattle.proto_lex.specs.declared.bytes.Class.{Class}
use Rattle.proto_lex.specs.declared.bytes.Class.TheVariants as class
use Rattle.proto_lex.specs.declared.token.Kind.{Kind}
use Rattle.proto_lex.specs.declared.token.Kind.TheVariants.{Ident, Int, Float, Str, Symbol, Bad}
use Rattle.proto_lex.specs.declared.token.Reason.TheVariants.{Character, Number, String, Comment}
use Rattle.proto_lex.specs.Bytes.{class_of, is_letter, is_name_byte, is_continuation}
use Rattle.proto_lex.specs.Forms.{IsForm, IsStringRest, IsCommentRest}
use Rattle.proto_lex.specs.Numbers.{IsNumberRun, BeginsWithNumber, IsRunRest, continues_run, is_hex, number_kind}
use Rattle.proto_lex.specs.Kinds.{is_run_rest, is_string_rest, number_run_kind, string_kind, symbol_kind, other_kind, kind_from, kind_of}
use Rattle.proto_lex.specs.Trivia.{comment_len}
use Rattle.proto_lex.proofs.Bools.{and_left, and_right, and_both, or_either, or_left, or_right, eq_of, eq_test, ne_of, ne_test, past_of, past_test, then_some_is, then_some_test}
use Rattle.proto_lex.proofs.Comments.{comment_cons, open_not_closed}
use Rattle.proto_lex.proofs.Cuts.{no_empty_form}
use Rattle.proto_lex.proofs.Fronts.{letter_form, quote_form, other_form, no_number, no_open_comment}
use Rattle.proto_lex.proofs.Numbers.{number_form, is_digit_byte}

-- the rest of a run
run_rest_form : (hex : Bool) (before : ℕ) (bs : List ℕ) → is_run_rest hex before bs ≡ true → IsRunRest hex before bs
run_rest_form hex before [] test = tt
run_rest_form hex before (b ∷ bs) test =
    (and_left (continues_run hex before b) (is_run_rest hex b bs) test, run_rest_form hex b bs (and_right (continues_run hex before b) (is_run_rest hex b bs) test))

run_rest_test : (hex : Bool) (before : ℕ) (bs : List ℕ) → IsRunRest hex before bs → is_run_rest hex before bs ≡ true
run_rest_test hex before [] rest = refl
run_rest_test hex before (b ∷ bs) rest = and_both (continues_run hex before b) (is_run_rest hex b bs) rest.0 (run_rest_test hex b bs rest.1)

-- the rest of a string
three_left : (a b c d : Bool) → ((a && (b && c)) && d) ≡ true → (a ≡ true) × (b ≡ true) × (c ≡ true) × (d ≡ true)
three_left true true true d test = (refl, refl, refl, test)
three_left true true false d test = cc (test)
three_left true false c d test = cc (test)
three_left false b c d test = cc (test)

string_rest_form : (q : ℕ) (closed : Bool) (bs : List ℕ) → is_string_rest q closed bs ≡ true → IsStringRest q closed bs
string_rest_form q true [] test = cc (test)
string_rest_form q false [] test = refl
string_rest_form q true (b ∷ []) test = eq_of b q test
string_rest_form q false (b ∷ []) test =
    (ne_of b q (and_left (not (b == q)) (not (b == 10)) test), ne_of b 10 (and_right (not (b == q)) (not (b == 10)) test))
string_rest_form q closed (b ∷ c ∷ bs) test =
    elim (or_either ((not (b == q) && (not (b == 92) && not (b == 10))) && is_string_rest q closed (c ∷ bs)) ((b == 92) && (not (c == 10) && is_string_rest q closed bs)) test) [
      | inl plain ↦ let parts = three_left (not (b == q)) (not (b == 92)) (not (b == 10)) (is_string_rest q closed (c ∷ bs)) plain in
          inl ((ne_of b q parts.0, ne_of b 92 parts.1, ne_of b 10 parts.2), string_rest_form q closed (c ∷ bs) parts.3)
      | inr pair ↦ let after = and_right (b == 92) (not (c == 10) && is_string_rest q closed bs) pair in
          inr (
            eq_of b 92 (and_left (b == 92) (not (c == 10) && is_string_rest q closed bs) pair),
            ne_of c 10 (and_left (not (c == 10)) (is_string_rest q closed bs) after),
            string_rest_form q closed bs (and_right (not (c == 10)) (is_string_rest q closed bs) after),
          )
    ]

string_rest_test : (q : ℕ) (closed : Bool) (bs : List ℕ) → IsStringRest q closed bs → is_string_rest q closed bs ≡ true
string_rest_test q true [] rest = cc (rest)
string_rest_test q false [] rest = refl
string_rest_test q true (b ∷ []) rest = eq_test b q rest
string_rest_test q false (b ∷ []) rest = and_both (not (b == q)) (not (b == 10)) (ne_test b q rest.0) (ne_test b 10 rest.1)
string_rest_test q closed (b ∷ c ∷ bs) (inl plain) =
    or_left ((not (b == q) && (not (b == 92) && not (b == 10))) && is_string_rest q closed (c ∷ bs)) ((b == 92) && (not (c == 10) && is_string_rest q closed bs))
    (and_both (not (b == q) && (not (b == 92) && not (b == 10))) (is_string_rest q closed (c ∷ bs))
    (and_both (not (b == q)) (not (b == 92) && not (b == 10)) (ne_test b q plain.0.0) (and_both (not (b == 92)) (not (b == 10)) (ne_test b 92 plain.0.1) (ne_test b 10 plain.0.2)))
    (string_rest_test q closed (c ∷ bs) plain.1))
string_rest_test q closed (b ∷ c ∷ bs) (inr pair) =
    or_right ((not (b == q) && (not (b == 92) && not (b == 10))) && is_string_rest q closed (c ∷ bs)) ((b == 92) && (not (c == 10) && is_string_rest q closed bs))
    (and_both (b == 92) (not (c == 10) && is_string_rest q closed bs) (eq_test b 92 pair.0)
    (and_both (not (c == 10)) (is_string_rest q closed bs) (ne_test c 10 pair.1) (string_rest_test q closed bs pair.2)))

-- the rest of a comment
map_suc : (o : Option ℕ) (n : ℕ) → option_map (λ k. suc k) o ≡ Some n → (m : ℕ) × (o ≡ Some m) × (suc m ≡ n)
map_suc None n is = cc (is)
map_suc (Some m) n is = (m, refl, cc)

map_suc_none : (o : Option ℕ) → option_map (λ k. suc k) o ≡ None → o ≡ None
map_suc_none None is = refl
map_suc_none (Some m) is = cc (is)

-- two bytes end a comment
ends_of : (b c : ℕ) → ((b == 42) && (c == 47)) ≡ true → (b ≡ 42) × (c ≡ 47)
ends_of b c test = (eq_of b 42 (and_left (b == 42) (c == 47) test), eq_of c 47 (and_right (b == 42) (c == 47) test))

no_end_of : (b c : ℕ) → ((b == 42) && (c == 47)) ≡ false → b ≡ 42 → c ≡ 47 → ⊥
no_end_of b c test star slash = let both = and_both (b == 42) (c == 47) (eq_test b 42 star) (eq_test c 47 slash) in cc (test, both)

abbrev IsClosedAt : List ℕ → ℕ → Type 0
IsClosedAt bs n = (n ≤ length bs) × IsCommentRest true (take n bs)

closed_step : (b c : ℕ) (bs : List ℕ) (n : ℕ) (t : Bool) → ((b == 42) && (c == 47)) ≡ t → ((m : ℕ) → comment_len (c ∷ bs) ≡ Some m → IsClosedAt (c ∷ bs) m)
    → cond t (Some 2) (option_map (λ k. suc k) (comment_len (c ∷ bs))) ≡ Some n → IsClosedAt (b ∷ c ∷ bs) n
closed_step b c bs n true test before is =
    let two : 2 ≡ n = cc in
    let here = ends_of b c test in
    subst (IsClosedAt (b ∷ c ∷ bs)) two (omega arith, inl (here.0, here.1, refl, refl))
closed_step b c bs n false test before is =
    let found = map_suc (comment_len (c ∷ bs)) n is in
    let rest = before found.0 found.1 in
    subst (IsClosedAt (b ∷ c ∷ bs)) found.2 (omega (arith, rest.0), comment_cons b (c ∷ bs) true found.0 (λ star some slash. no_end_of b c test star slash) rest.1)

pub comment_len_closed : (bs : List ℕ) (n : ℕ) → comment_len bs ≡ Some n → IsClosedAt bs n
comment_len_closed [] n is = cc (is)
comment_len_closed (b ∷ []) n is = cc (is)
comment_len_closed (b ∷ c ∷ bs) n is = closed_step b c bs n ((b == 42) && (c == 47)) refl (λ m. comment_len_closed (c ∷ bs) m) is

open_step : (b c : ℕ) (bs : List ℕ) (t : Bool) → ((b == 42) && (c == 47)) ≡ t → (comment_len (c ∷ bs) ≡ None → IsCommentRest false (c ∷ bs))
    → cond t (Some 2) (option_map (λ k. suc k) (comment_len (c ∷ bs))) ≡ None → IsCommentRest false (b ∷ c ∷ bs)
open_step b c bs true test before none = cc (none)
open_step b c bs false test before none = inr (no_end_of b c test, before (map_suc_none (comment_len (c ∷ bs)) none))

pub comment_len_open : (bs : List ℕ) → comment_len bs ≡ None → IsCommentRest false bs
comment_len_open [] none = refl
comment_len_open (b ∷ []) none = refl
comment_len_open (b ∷ c ∷ bs) none = open_step b c bs ((b == 42) && (c == 47)) refl (comment_len_open (c ∷ bs)) none

is_none_of : (o : Option ℕ) → is_none o ≡ true → o ≡ None
is_none_of None test = refl
is_none_of (Some m) test = cc (test)

open_none : (bs : List ℕ) (o : Option ℕ) → comment_len bs ≡ o → IsCommentRest false bs → is_none o ≡ true
open_none bs None is rest = refl
open_none bs (Some n) is rest = absurd (open_not_closed bs n rest (comment_len_closed bs n is).1)

-- a kind that is found has its form
digit_class : (b : ℕ) → is_ascii_digit b ≡ true → class_of b ≡ class.Digit
unfolding class_of is_letter
digit_class b digit = grind (arith, nat_tests)

number_kind_form : (b : ℕ) (bs : List ℕ) (k : Kind) → BeginsWithNumber (b ∷ bs) → number_run_kind b bs ≡ Some k → IsForm k (b ∷ bs)
number_kind_form b bs k begins is =
    let found = then_some_is (is_run_rest (is_hex (b ∷ bs)) b bs) (number_kind (b ∷ bs)) k is in
    subst (λ kind. IsForm kind (b ∷ bs)) found.1 (number_form (b ∷ bs) (begins, run_rest_form (is_hex (b ∷ bs)) b bs found.0))

digit_begins : (b : ℕ) (bs : List ℕ) → class_of b ≡ class.Digit → BeginsWithNumber (b ∷ bs)
digit_begins b [] digit = digit
digit_begins b (c ∷ bs) digit = inl digit

string_kind_form : (q : ℕ) (bs : List ℕ) (k : Kind) (t : Bool) → is_string_rest q true bs ≡ t → class_of q ≡ class.Quote
    → cond t (Some Str) (then_some (is_string_rest q false bs) (Bad String)) ≡ Some k → IsForm k (q ∷ bs)
string_kind_form q bs k true test quote is =
    let kind : Str ≡ k = cc in subst (λ l. IsForm l (q ∷ bs)) kind (quote, string_rest_form q true bs test)
string_kind_form q bs k false test quote is =
    let found = then_some_is (is_string_rest q false bs) (Bad String) k is in
    subst (λ l. IsForm l (q ∷ bs)) found.1 (quote, string_rest_form q false bs found.0)

symbol_kind_form : (b c : ℕ) (bs : List ℕ) (k : Kind) (t : Bool) → ((b == 46) && is_ascii_digit c) ≡ t
    → cond t (number_run_kind b (c ∷ bs)) (then_some ((b == 47) && ((c == 42) && is_none (comment_len bs))) (Bad Comment)) ≡ Some k → IsForm k (b ∷ c ∷ bs)
symbol_kind_form b c bs k true test is =
    number_kind_form b (c ∷ bs) k (inr (eq_of b 46 (and_left (b == 46) (is_ascii_digit c) test), digit_class c (and_right (b == 46) (is_ascii_digit c) test))) is
symbol_kind_form b c bs k false test is =
    let found = then_some_is ((b == 47) && ((c == 42) && is_none (comment_len bs))) (Bad Comment) k is in
    let after = and_right (b == 47) ((c == 42) && is_none (comment_len bs)) found.0 in
    subst (λ l. IsForm l (b ∷ c ∷ bs)) found.1 (
      eq_of b 47 (and_left (b == 47) ((c == 42) && is_none (comment_len bs)) found.0),
      eq_of c 42 (and_left (c == 42) (is_none (comment_len bs)) after),
      comment_len_open bs (is_none_of (comment_len bs) (and_right (c == 42) (is_none (comment_len bs)) after)),
    )

alone : (t : Bool) (xs : List ℕ) → xs ≡ [] → MatchBool t (xs ≡ []) (AllPass is_continuation xs)
alone true xs none = none
alone false xs none = subst (AllPass is_continuation) (sym none) (All-nil (λ b. is_continuation b ≡ true))

other_kind_form : (b c : ℕ) (bs : List ℕ) (k : Kind) → class_of b ≡ class.Other → other_kind b (c ∷ bs) ≡ Some k → IsForm k (b ∷ c ∷ bs)
other_kind_form b c bs k other is =
    let found = then_some_is (nat_le 128 b && list_all is_continuation (c ∷ bs)) (Bad Character) k is in
    let past = past_of b (and_left (nat_le 128 b) (list_all is_continuation (c ∷ bs)) found.0) in
    let all = AllPass-from_list_all is_continuation (c ∷ bs) (and_right (nat_le 128 b) (list_all is_continuation (c ∷ bs)) found.0) in
    subst (λ l. IsForm l (b ∷ c ∷ bs)) found.1 (other, subst (λ t. MatchBool t (c ∷ bs ≡ []) (AllPass is_continuation (c ∷ bs))) (sym past) all)

class_form : (c : Class) (b : ℕ) (bs : List ℕ) (k : Kind) → class_of b ≡ c → kind_from c b bs ≡ Some k → IsForm k (b ∷ bs)
class_form class.Letter b bs k letter is =
    let found = then_some_is (list_all is_name_byte bs) Ident k is in
    subst (λ l. IsForm l (b ∷ bs)) found.1 (letter, AllPass-from_list_all is_name_byte bs found.0)
class_form class.Digit b bs k digit is = number_kind_form b bs k (digit_begins b bs digit) is
class_form class.Quote b bs k quote is = string_kind_form b bs k (is_string_rest b true bs) refl quote is
class_form class.Space b bs k space is = cc (is)
class_form class.Symbol b [] k symbol is = let kind : Symbol ≡ k = cc in subst (λ l. IsForm l (b ∷ [])) kind (symbol, refl)
class_form class.Symbol b (c ∷ bs) k symbol is = symbol_kind_form b c bs k ((b == 46) && is_ascii_digit c) refl is
class_form class.Other b [] k other is = let kind : Bad Character ≡ k = cc in subst (λ l. IsForm l (b ∷ [])) kind (other, alone (nat_lt b 128) [] refl)
class_form class.Other b (c ∷ bs) k other is = other_kind_form b c bs k other is

pub kind_form : (bs : List ℕ) (k : Kind) → kind_of bs ≡ Some k → IsForm k bs
kind_form [] k is = cc (is)
kind_form (b ∷ bs) k is = class_form (class_of b) b bs k refl is

-- bytes of a form have its kind
number_exact : (b : ℕ) (bs : List ℕ) (k : Kind) → number_kind (b ∷ bs) ≡ k → IsRunRest (is_hex (b ∷ bs)) b bs → number_run_kind b bs ≡ Some k
number_exact b bs k is rest = then_some_test (is_run_rest (is_hex (b ∷ bs)) b bs) (number_kind (b ∷ bs)) k (run_rest_test (is_hex (b ∷ bs)) b bs rest) is

digit_form : (b : ℕ) (bs : List ℕ) → class_of b ≡ class.Digit → (k : Kind) → IsForm k (b ∷ bs) → (number_kind (b ∷ bs) ≡ k) × IsRunRest (is_hex (b ∷ bs)) b bs
digit_form b bs digit Ident form = cc (digit, form.0)
digit_form b bs digit Int form = (form.1, form.0.1)
digit_form b bs digit Float form = (form.1, form.0.1)
digit_form b bs digit Str form = cc (digit, form.0)
digit_form b bs digit Symbol form = cc (digit, form.0)
digit_form b bs digit (Bad Number) form = (form.1, form.0.1)
digit_form b bs digit (Bad String) form = cc (digit, form.0)
digit_form b bs digit (Bad Comment) form = absurd (no_open_comment b bs (λ symbol. cc) form)
digit_form b bs digit (Bad Character) form = cc (digit, form.0)

-- a closed string isn't an open one
string_one : (q : ℕ) (bs : List ℕ) → IsStringRest q true bs → IsStringRest q false bs → ⊥
string_one q [] closed is_open = cc (closed)
string_one q (b ∷ []) closed is_open = is_open.0 closed
string_one q (b ∷ c ∷ bs) (inl closed) (inl is_open) = string_one q (c ∷ bs) closed.1 is_open.1
string_one q (b ∷ c ∷ bs) (inl closed) (inr is_open) = closed.0.1 is_open.0
string_one q (b ∷ c ∷ bs) (inr closed) (inl is_open) = is_open.0.1 closed.0
string_one q (b ∷ c ∷ bs) (inr closed) (inr is_open) = string_one q bs closed.2 is_open.2

string_exact : (q : ℕ) (bs : List ℕ) (t d : Bool) → is_string_rest q true bs ≡ t → IsStringRest q d bs
    → cond t (Some Str) (then_some (is_string_rest q false bs) (Bad String)) ≡ Some (cond d Str (Bad String))
string_exact q bs true true test rest = refl
string_exact q bs true false test rest = absurd (string_one q bs (string_rest_form q true bs test) rest)
string_exact q bs false true test rest = let closed = string_rest_test q true bs rest in cc (test, closed)
string_exact q bs false false test rest = then_some_test (is_string_rest q false bs) (Bad String) (Bad String) (string_rest_test q false bs rest) refl

space_form : (b : ℕ) → class_of b ≡ class.Space → (k : Kind) (xs : List ℕ) → IsForm k (b ∷ xs) → ⊥
space_form b space Ident xs form = cc (space, form.0)
space_form b space Int xs form = no_number b xs (λ digit. cc) (λ symbol. cc) form.0
space_form b space Float xs form = no_number b xs (λ digit. cc) (λ symbol. cc) form.0
space_form b space Str xs form = cc (space, form.0)
space_form b space Symbol xs form = cc (space, form.0)
space_form b space (Bad Number) xs form = no_number b xs (λ digit. cc) (λ symbol. cc) form.0
space_form b space (Bad String) xs form = cc (space, form.0)
space_form b space (Bad Comment) xs form = no_open_comment b xs (λ symbol. cc) form
space_form b space (Bad Character) xs form = cc (space, form.0)

dot_exact : (b c : ℕ) (bs : List ℕ) (k : Kind) → class_of b ≡ class.Symbol → IsNumberRun (b ∷ c ∷ bs) → number_kind (b ∷ c ∷ bs) ≡ k → symbol_kind b (c ∷ bs) ≡ Some k
dot_exact b c bs k symbol run is =
    elim run.0 [
      | inl digit ↦ cc (symbol, digit)
      | inr dot ↦ let test = and_both (b == 46) (is_ascii_digit c) (eq_test b 46 dot.0) (is_digit_byte c dot.1) in
          rw test (number_exact b (c ∷ bs) k is run.1)
    ]

open_exact : (b c : ℕ) (bs : List ℕ) → b ≡ 47 → c ≡ 42 → IsCommentRest false bs → symbol_kind b (c ∷ bs) ≡ Some (Bad Comment)
open_exact b c bs slash star rest =
    let no_dot : ((b == 46) && is_ascii_digit c) ≡ false = grind (arith, nat_tests) in
    rw no_dot (then_some_test ((b == 47) && ((c == 42) && is_none (comment_len bs))) (Bad Comment) (Bad Comment)
    (and_both (b == 47) ((c == 42) && is_none (comment_len bs)) (eq_test b 47 slash)
    (and_both (c == 42) (is_none (comment_len bs)) (eq_test c 42 star) (open_none bs (comment_len bs) refl rest))) refl)

symbol_exact : (b c : ℕ) (bs : List ℕ) → class_of b ≡ class.Symbol → (k : Kind) → IsForm k (b ∷ c ∷ bs) → symbol_kind b (c ∷ bs) ≡ Some k
symbol_exact b c bs symbol Ident form = cc (symbol, form.0)
symbol_exact b c bs symbol Int form = dot_exact b c bs Int symbol form.0 form.1
symbol_exact b c bs symbol Float form = dot_exact b c bs Float symbol form.0 form.1
symbol_exact b c bs symbol Str form = cc (symbol, form.0)
symbol_exact b c bs symbol Symbol form = cc (form.1)
symbol_exact b c bs symbol (Bad Number) form = dot_exact b c bs (Bad Number) symbol form.0 form.1
symbol_exact b c bs symbol (Bad String) form = cc (symbol, form.0)
symbol_exact b c bs symbol (Bad Comment) form = open_exact b c bs form.0 form.1 form.2
symbol_exact b c bs symbol (Bad Character) form = cc (symbol, form.0)

symbol_alone : (b : ℕ) → class_of b ≡ class.Symbol → (k : Kind) → IsForm k (b ∷ []) → k ≡ Symbol
symbol_alone b symbol Ident form = cc (symbol, form.0)
symbol_alone b symbol Int form = cc (symbol, form.0.0)
symbol_alone b symbol Float form = cc (symbol, form.0.0)
symbol_alone b symbol Str form = cc (symbol, form.0)
symbol_alone b symbol Symbol form = refl
symbol_alone b symbol (Bad Number) form = cc (symbol, form.0.0)
symbol_alone b symbol (Bad String) form = cc (symbol, form.0)
symbol_alone b symbol (Bad Comment) form = absurd form
symbol_alone b symbol (Bad Character) form = cc (symbol, form.0)

other_exact : (b c : ℕ) (bs : List ℕ) (t : Bool) → nat_lt b 128 ≡ t → MatchBool t (c ∷ bs ≡ []) (AllPass is_continuation (c ∷ bs)) → other_kind b (c ∷ bs) ≡ Some (Bad Character)
other_exact b c bs true test rest = cc (rest)
other_exact b c bs false test rest =
    then_some_test (nat_le 128 b && list_all is_continuation (c ∷ bs)) (Bad Character) (Bad Character)
    (and_both (nat_le 128 b) (list_all is_continuation (c ∷ bs)) (past_test b test) (list_all-from_AllPass is_continuation (c ∷ bs) rest)) refl

class_exact : (c : Class) (b : ℕ) (bs : List ℕ) (k : Kind) → class_of b ≡ c → IsForm k (b ∷ bs) → kind_from c b bs ≡ Some k
class_exact class.Letter b bs k letter form =
    let found = letter_form b letter k bs form in
    then_some_test (list_all is_name_byte bs) Ident k (list_all-from_AllPass is_name_byte bs found.1) (sym found.0)
class_exact class.Digit b bs k digit form = let found = digit_form b bs digit k form in number_exact b bs k found.0 found.1
class_exact class.Quote b bs k quote form =
    let found = quote_form b quote k bs form in
    subst (λ l. string_kind b bs ≡ Some l) (sym found.1) (string_exact b bs (is_string_rest b true bs) found.0 refl found.2)
class_exact class.Space b bs k space form = absurd (space_form b space k bs form)
class_exact class.Symbol b [] k symbol form = let alone = symbol_alone b symbol k form in cc (alone)
class_exact class.Symbol b (c ∷ bs) k symbol form = symbol_exact b c bs symbol k form
class_exact class.Other b [] k other form = let found = other_form b other k [] form in cc (found.0)
class_exact class.Other b (c ∷ bs) k other form =
    let found = other_form b other k (c ∷ bs) form in
    subst (λ l. other_kind b (c ∷ bs) ≡ Some l) (sym found.0) (other_exact b c bs (nat_lt b 128) refl found.1)

pub kind_exact : (bs : List ℕ) (k : Kind) → IsForm k bs → kind_of bs ≡ Some k
kind_exact [] k form = absurd (no_empty_form k form)
kind_exact (b ∷ bs) k form = class_exact (class_of b) b bs k refl form

-- one byte that isn't whitespace has a form
class_alone : (c : Class) (b : ℕ) → (c ≡ class.Space → ⊥) → kind_from c b [] ≡ None → ⊥
class_alone class.Letter b no_space none = cc (none)
class_alone class.Digit b no_space none = cc (none)
class_alone class.Quote b no_space none = cc (none)
class_alone class.Space b no_space none = no_space refl
class_alone class.Symbol b no_space none = cc (none)
class_alone class.Other b no_space none = cc (none)

pub byte_form : (b : ℕ) → (class_of b ≡ class.Space → ⊥) → kind_of (b ∷ []) ≡ None → ⊥
byte_form b no_space none = class_alone (class_of b) b no_space none
