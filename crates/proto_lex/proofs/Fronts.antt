-- What stands at the front of a text is trivia or a token.
use Rattle.std.proofs.Common.{◌≡◌, ℕ, suc, zero, ◌+◌, ◌<◌, ◌≤◌, inl, inr, Bool, true, false, List, [], ◌∷◌, length, get_or, take, drop, refl, ap, sym, ◌∙◌, subst, arith, get_or-take, length-take-le, lt-ltb, le-ltb, cond}
use Rattle.std.proofs.Math.Numerals.{one-add}
use Rattle.std.specs.Prelude.{MatchBool, nat_lt}
use Rattle.std.specs.List.{AllPass, prefix_len}
use Rattle.std.proofs.lemmas.List.Sums.{prefix_len-le-length, prefix_len_passes, prefix_len_stops}
use Rattle.std.proofs.lemmas.List.Elements.{All-from_get_or, All-get_or}
use Rattle.proto_lex.specs.declared.bytes.Class.TheVariants as class
use Rattle.proto_lex.specs.declared.token.Kind.{Kind}
use Rattle.proto_lex.specs.declared.token.Kind.TheVariants.{Ident, Int, Float, Str, Symbol, Bad}
use Rattle.proto_lex.specs.declared.token.Reason.TheVariants.{Character, Number, String, Comment}
use Rattle.proto_lex.specs.Bytes.{class_of, is_name_byte, is_continuation, is_letter, is_quote, is_space, is_symbol}
use Rattle.proto_lex.specs.Forms.{IsForm, IsStringRest, IsOpenComment}
use Rattle.proto_lex.specs.Scanner.{IsLongestFront}
use Rattle.proto_lex.specs.Numbers.{IsNumberRun}
use Rattle.proto_lex.specs.Tokens.{IsToken}
use Rattle.proto_lex.specs.Trivia.{IsTrivia}

-- the longest front that passes a test
prefix_form : (p : ℕ → Bool) (bs : List ℕ) → AllPass p (take (prefix_len p bs) bs)
prefix_form p bs =
    let within = prefix_len-le-length p bs in
    All-from_get_or (λ b. p b ≡ true) (take (prefix_len p bs) bs) 0
    (λ i inside. let below : i < prefix_len p bs = omega (arith, inside, length-take-le (prefix_len p bs) bs within) in
    ap p (get_or-take (prefix_len p bs) bs i 0 below) ∙ prefix_len_passes p bs i 0 below)

prefix_longest : (p : ℕ → Bool) (bs : List ℕ) (m : ℕ) → prefix_len p bs < m → m ≤ length bs → AllPass p (take m bs) → ⊥
prefix_longest p bs m above within passes =
    let len = prefix_len p bs in
    let stops = prefix_len_stops p bs 0 (omega arith) in
    let goes = All-get_or (λ b. p b ≡ true) (take m bs) len 0 (omega (arith, length-take-le m bs within)) passes in
    let same = get_or-take m bs len 0 above in
    cc

pub prefix_ends : (p : ℕ → Bool) (bs : List ℕ) → IsLongestFront (Unit {0}) (λ _. AllPass p) bs (prefix_len p bs) tt
prefix_ends p bs = record { in_range = prefix_len-le-length p bs; form = prefix_form p bs; longest = λ _. prefix_longest p bs }

-- nothing
nothing_longest : (bs : List ℕ) (m : ℕ) → 0 < m → m ≤ length bs → take m bs ≡ [] → ⊥
nothing_longest bs zero above within form = omega arith
nothing_longest [] (suc m) above within form = omega arith
nothing_longest (b ∷ bs) (suc m) above within form = cc

pub nothing_ends : (bs : List ℕ) → IsLongestFront (Unit {0}) (λ _ xs. xs ≡ []) bs 0 tt
nothing_ends bs = record { in_range = omega arith; form = refl; longest = λ _. nothing_longest bs }

pub slash_is_symbol : class_of 47 ≡ class.Symbol
unfolding class_of is_letter is_quote is_space is_symbol
slash_is_symbol = refl

pub dot_is_symbol : class_of 46 ≡ class.Symbol
unfolding class_of is_letter is_quote is_space is_symbol
dot_is_symbol = refl

-- which first bytes a number, a comment and trivia have
pub no_number : (b : ℕ) (xs : List ℕ) → (class_of b ≡ class.Digit → ⊥) → (class_of b ≡ class.Symbol → ⊥) → IsNumberRun (b ∷ xs) → ⊥
no_number b [] no_digit no_symbol run = no_digit run.0
no_number b (c ∷ xs) no_digit no_symbol run =
    elim run.0 [ inl digit ↦ no_digit digit | inr dot ↦ no_symbol (ap class_of dot.0 ∙ dot_is_symbol) ]

pub no_open_comment : (b : ℕ) (xs : List ℕ) → (class_of b ≡ class.Symbol → ⊥) → IsOpenComment (b ∷ xs) → ⊥
no_open_comment b [] no_symbol comment = comment
no_open_comment b (c ∷ xs) no_symbol comment = no_symbol (ap class_of comment.0 ∙ slash_is_symbol)

pub no_trivia : (b : ℕ) (xs : List ℕ) (m : ℕ) → (class_of b ≡ class.Space → ⊥) → (class_of b ≡ class.Symbol → ⊥) → IsTrivia (b ∷ xs) m → ⊥
no_trivia b xs m no_space no_symbol (inl space) = no_space space.0
no_trivia b [] m no_space no_symbol (inr (inl line)) = line
no_trivia b [] m no_space no_symbol (inr (inr block)) = block
no_trivia b (c ∷ xs) m no_space no_symbol (inr (inl line)) = no_symbol (ap class_of line.0 ∙ slash_is_symbol)
no_trivia b (c ∷ xs) m no_space no_symbol (inr (inr block)) = no_symbol (ap class_of block.0 ∙ slash_is_symbol)

-- a token, by its first byte and where the rest of it ends
longest_token : (C : Type 0) (F : C → List ℕ → Type 0) (b : ℕ) (bs : List ℕ) (n : ℕ) (c : C) → IsLongestFront C F bs n c
    → ((k : Kind) (m : ℕ) → IsForm k (b ∷ take m bs) → (d : C) × F d (take m bs))
    → (k : Kind) (m : ℕ) → suc n < m → m ≤ length (b ∷ bs) → IsForm k (take m (b ∷ bs)) → ⊥
longest_token C F b bs n c ends rest k zero above within form = omega arith
longest_token C F b bs n c ends rest k (suc m) above within form =
    let has = rest k m form in
    ends.longest has.0 m (omega arith) (omega arith) has.1

pub token_from : (C : Type 0) (F : C → List ℕ → Type 0) (kind : Kind) (b : ℕ) (bs : List ℕ) (n : ℕ) (c : C) → IsLongestFront C F bs n c
    → IsForm kind (b ∷ take n bs)
    → ((k : Kind) (m : ℕ) → IsForm k (b ∷ take m bs) → (d : C) × F d (take m bs))
    → ((m : ℕ) → IsTrivia (b ∷ bs) m → ⊥)
    → IsToken (b ∷ bs) kind (suc n)
token_from C F kind b bs n c ends form rest trivia = record {
  in_range = omega (arith, ends.in_range);
  form = form;
  longest = longest_token C F b bs n c ends rest;
  no_trivia = trivia;
}

pub letter_form : (b : ℕ) → class_of b ≡ class.Letter → (k : Kind) (xs : List ℕ) → IsForm k (b ∷ xs) → (k ≡ Ident) × AllPass is_name_byte xs
letter_form b letter Ident xs form = (refl, form.1)
letter_form b letter Int xs form = absurd (no_number b xs (λ digit. cc) (λ symbol. cc) form.0)
letter_form b letter Float xs form = absurd (no_number b xs (λ digit. cc) (λ symbol. cc) form.0)
letter_form b letter Str xs form = cc (letter, form.0)
letter_form b letter Symbol xs form = cc (letter, form.0)
letter_form b letter (Bad Number) xs form = absurd (no_number b xs (λ digit. cc) (λ symbol. cc) form.0)
letter_form b letter (Bad String) xs form = cc (letter, form.0)
letter_form b letter (Bad Comment) xs form = absurd (no_open_comment b xs (λ symbol. cc) form)
letter_form b letter (Bad Character) xs form = cc (letter, form.0)

pub ident_token : (b : ℕ) (bs : List ℕ) → class_of b ≡ class.Letter → IsToken (b ∷ bs) Ident (suc (prefix_len is_name_byte bs))
ident_token b bs letter =
    let ends = prefix_ends is_name_byte bs in
    token_from (Unit {0}) (λ _. AllPass is_name_byte) Ident b bs (prefix_len is_name_byte bs) tt ends
    (letter, ends.form) (λ k m form. (tt, (letter_form b letter k (take m bs) form).1)) (λ m. no_trivia b bs m (λ space. cc) (λ symbol. cc))

pub quote_form : (b : ℕ) → class_of b ≡ class.Quote → (k : Kind) (xs : List ℕ) → IsForm k (b ∷ xs) → (d : Bool) × (k ≡ cond d Str (Bad String)) × IsStringRest b d xs
quote_form b quote Ident xs form = cc (quote, form.0)
quote_form b quote Int xs form = absurd (no_number b xs (λ digit. cc) (λ symbol. cc) form.0)
quote_form b quote Float xs form = absurd (no_number b xs (λ digit. cc) (λ symbol. cc) form.0)
quote_form b quote Str xs form = (true, refl, form.1)
quote_form b quote Symbol xs form = cc (quote, form.0)
quote_form b quote (Bad Number) xs form = absurd (no_number b xs (λ digit. cc) (λ symbol. cc) form.0)
quote_form b quote (Bad String) xs form = (false, refl, form.1)
quote_form b quote (Bad Comment) xs form = absurd (no_open_comment b xs (λ symbol. cc) form)
quote_form b quote (Bad Character) xs form = cc (quote, form.0)

pub string_token : (b : ℕ) (bs : List ℕ) (n : ℕ) (closed : Bool) → class_of b ≡ class.Quote → IsLongestFront Bool (IsStringRest b) bs n closed → IsToken (b ∷ bs) (cond closed Str (Bad String)) (suc n)
string_token b bs n true quote ends =
    token_from Bool (IsStringRest b) Str b bs n true ends (quote, ends.form) (λ k m form. let found = quote_form b quote k (take m bs) form in (found.0, found.2)) (λ m. no_trivia b bs m (λ space. cc) (λ symbol. cc))
string_token b bs n false quote ends =
    token_from Bool (IsStringRest b) (Bad String) b bs n false ends (quote, ends.form) (λ k m form. let found = quote_form b quote k (take m bs) form in (found.0, found.2)) (λ m. no_trivia b bs m (λ space. cc) (λ symbol. cc))

-- the rest of another character
abbrev OtherRest : ℕ → List ℕ → Type 0
OtherRest b xs = MatchBool (nat_lt b 128) (xs ≡ []) (AllPass is_continuation xs)

pub other_form : (b : ℕ) → class_of b ≡ class.Other → (k : Kind) (xs : List ℕ) → IsForm k (b ∷ xs) → (k ≡ Bad Character) × OtherRest b xs
other_form b other Ident xs form = cc (other, form.0)
other_form b other Int xs form = absurd (no_number b xs (λ digit. cc) (λ symbol. cc) form.0)
other_form b other Float xs form = absurd (no_number b xs (λ digit. cc) (λ symbol. cc) form.0)
other_form b other Str xs form = cc (other, form.0)
other_form b other Symbol xs form = cc (other, form.0)
other_form b other (Bad Number) xs form = absurd (no_number b xs (λ digit. cc) (λ symbol. cc) form.0)
other_form b other (Bad String) xs form = cc (other, form.0)
other_form b other (Bad Comment) xs form = absurd (no_open_comment b xs (λ symbol. cc) form)
other_form b other (Bad Character) xs form = (refl, form.1)

pub other_token : (b : ℕ) (bs : List ℕ) (n : ℕ) → class_of b ≡ class.Other → IsLongestFront (Unit {0}) (λ _. OtherRest b) bs n tt → IsToken (b ∷ bs) (Bad Character) (suc n)
other_token b bs n other ends =
    token_from (Unit {0}) (λ _. OtherRest b) (Bad Character) b bs n tt ends (other, ends.form) (λ k m form. (tt, (other_form b other k (take m bs) form).1)) (λ m. no_trivia b bs m (λ space. cc) (λ symbol. cc))

pub ascii_token : (b : ℕ) (bs : List ℕ) → class_of b ≡ class.Other → nat_lt b 128 ≡ true → IsToken (b ∷ bs) (Bad Character) 1
ascii_token b bs other ascii =
    other_token b bs 0 other (subst (λ t. IsLongestFront (Unit {0}) (λ _ xs. MatchBool t (xs ≡ []) (AllPass is_continuation xs)) bs 0 tt) (sym ascii) (nothing_ends bs))

pub character_token : (b : ℕ) (bs : List ℕ) → class_of b ≡ class.Other → nat_lt b 128 ≡ false → IsToken (b ∷ bs) (Bad Character) (suc (prefix_len is_continuation bs))
character_token b bs other past =
    other_token b bs (prefix_len is_continuation bs) other
    (subst (λ t. IsLongestFront (Unit {0}) (λ _ xs. MatchBool t (xs ≡ []) (AllPass is_continuation xs)) bs (prefix_len is_continuation bs) tt) (sym past) (prefix_ends is_continuation bs))

-- The same of the bytes at the front of a text, where `tail` is what follows the first.
pub ident_first : (rest tail : List ℕ) (n : ℕ) → tail ≡ drop 1 rest → 0 < length rest → class_of (get_or rest 0 0) ≡ class.Letter → n ≡ prefix_len is_name_byte tail → IsToken rest Ident (1 + n)
ident_first [] tail n is_tail some letter len = absurd (omega arith)
ident_first (b ∷ bs) tail n is_tail some letter len = rw (one-add, len, is_tail) (ident_token b bs letter)

pub string_first : (rest tail : List ℕ) (n : ℕ) (closed : Bool) (kind : Kind) → tail ≡ drop 1 rest → 0 < length rest → class_of (get_or rest 0 0) ≡ class.Quote
    → IsLongestFront Bool (IsStringRest (get_or rest 0 0)) tail n closed → kind ≡ cond closed Str (Bad String) → IsToken rest kind (1 + n)
string_first [] tail n closed kind is_tail some quote ends is_kind = absurd (omega arith)
string_first (b ∷ bs) tail n closed kind is_tail some quote ends is_kind =
    rw (one-add, is_kind) (string_token b bs n closed quote (subst (λ l. IsLongestFront Bool (IsStringRest b) l n closed) is_tail ends))

pub ascii_first : (rest : List ℕ) → 0 < length rest → class_of (get_or rest 0 0) ≡ class.Other → get_or rest 0 0 < 128 → IsToken rest (Bad Character) 1
ascii_first [] some other ascii = absurd (omega arith)
ascii_first (b ∷ bs) some other ascii = ascii_token b bs other (lt-ltb b 128 ascii)

pub character_first : (rest tail : List ℕ) (n : ℕ) → tail ≡ drop 1 rest → 0 < length rest → class_of (get_or rest 0 0) ≡ class.Other → 128 ≤ get_or rest 0 0 → n ≡ prefix_len is_continuation tail → IsToken rest (Bad Character) (1 + n)
character_first [] tail n is_tail some other past len = absurd (omega arith)
character_first (b ∷ bs) tail n is_tail some other past len = rw (one-add, len, is_tail) (character_token b bs other (le-ltb b 128 past))

pub space_first : (rest : List ℕ) → 0 < length rest → class_of (get_or rest 0 0) ≡ class.Space → IsTrivia rest 1
space_first [] some space = absurd (omega arith)
space_first (b ∷ bs) some space = inl (space, refl)
