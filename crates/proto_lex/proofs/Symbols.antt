-- Symbols, and the comments that begin as one does.
use Rattle.std.proofs.Common.{◌≡◌, ℕ, suc, zero, ◌+◌, ◌<◌, inl, inr, Bool, false, List, [], ◌∷◌, length, get_or, take, drop, refl, ap, ◌∙◌, subst, arith}
use Rattle.std.proofs.Math.Seq.{take-length}
use Rattle.proto_lex.specs.declared.token.Kind.{Kind}
use Rattle.proto_lex.specs.declared.token.Kind.TheVariants.{Ident, Int, Float, Str, Symbol, Bad}
use Rattle.proto_lex.specs.declared.token.Reason.TheVariants.{Character, Number, String, Comment}
use Rattle.proto_lex.specs.declared.bytes.Class.TheVariants as class
use Rattle.proto_lex.specs.Bytes.{class_of}
use Rattle.proto_lex.specs.Forms.{IsForm, IsCommentRest}
use Rattle.proto_lex.specs.Scanner.{IsLongestFront}
use Rattle.proto_lex.specs.Tokens.{IsToken}
use Rattle.proto_lex.specs.Trivia.{IsTrivia}
use Rattle.proto_lex.proofs.Fronts.{token_from, nothing_ends, slash_is_symbol}
use Rattle.proto_lex.proofs.Comments.{open_not_closed}

-- the symbol b and the byte c begin no comment and no number
pub record IsPlainPair (b c : ℕ) : Type 0 where
  pub no_line : b ≡ 47 → c ≡ 47 → ⊥
  pub no_block : b ≡ 47 → c ≡ 42 → ⊥
  pub no_number : b ≡ 46 → class_of c ≡ class.Digit → ⊥

symbol_rest : (b : ℕ) (bs : List ℕ) → class_of b ≡ class.Symbol → (0 < length bs → IsPlainPair b (get_or bs 0 0))
    → (k : Kind) (m : ℕ) → IsForm k (b ∷ take m bs) → (d : Unit {0}) × (take m bs ≡ [])
symbol_rest b bs symbol plain k zero form = (tt, refl)
symbol_rest b [] symbol plain k (suc m) form = (tt, refl)
symbol_rest b (c ∷ bs) symbol plain Ident (suc m) form = cc (symbol, form.0)
symbol_rest b (c ∷ bs) symbol plain Int (suc m) form =
    elim form.0.0 [ inl digit ↦ cc (symbol, digit) | inr dot ↦ absurd ((plain (omega arith)).no_number dot.0 dot.1) ]
symbol_rest b (c ∷ bs) symbol plain Float (suc m) form =
    elim form.0.0 [ inl digit ↦ cc (symbol, digit) | inr dot ↦ absurd ((plain (omega arith)).no_number dot.0 dot.1) ]
symbol_rest b (c ∷ bs) symbol plain (Bad Number) (suc m) form =
    elim form.0.0 [ inl digit ↦ cc (symbol, digit) | inr dot ↦ absurd ((plain (omega arith)).no_number dot.0 dot.1) ]
symbol_rest b (c ∷ bs) symbol plain Str (suc m) form = cc (symbol, form.0)
symbol_rest b (c ∷ bs) symbol plain (Bad String) (suc m) form = cc (symbol, form.0)
symbol_rest b (c ∷ bs) symbol plain (Bad Comment) (suc m) form = absurd ((plain (omega arith)).no_block form.0 form.1)
symbol_rest b (c ∷ bs) symbol plain (Bad Character) (suc m) form = cc (symbol, form.0)
symbol_rest b (c ∷ bs) symbol plain Symbol (suc m) form = (tt, form.1)

symbol_no_trivia : (b : ℕ) (bs : List ℕ) → class_of b ≡ class.Symbol → (0 < length bs → IsPlainPair b (get_or bs 0 0)) → (m : ℕ) → IsTrivia (b ∷ bs) m → ⊥
symbol_no_trivia b bs symbol plain m (inl space) = cc (symbol, space.0)
symbol_no_trivia b [] symbol plain m (inr (inl line)) = line
symbol_no_trivia b [] symbol plain m (inr (inr block)) = block
symbol_no_trivia b (c ∷ bs) symbol plain m (inr (inl line)) = (plain (omega arith)).no_line line.0 line.1
symbol_no_trivia b (c ∷ bs) symbol plain m (inr (inr block)) = (plain (omega arith)).no_block block.0 block.1

pub symbol_token : (b : ℕ) (bs : List ℕ) → class_of b ≡ class.Symbol → (0 < length bs → IsPlainPair b (get_or bs 0 0)) → IsToken (b ∷ bs) Symbol 1
symbol_token b bs symbol plain =
    token_from (Unit {0}) (λ _ xs. xs ≡ []) Symbol b bs 0 tt (nothing_ends bs) (symbol, refl) (symbol_rest b bs symbol plain) (symbol_no_trivia b bs symbol plain)

pub symbol_first : (rest : List ℕ) → 0 < length rest → class_of (get_or rest 0 0) ≡ class.Symbol → (1 < length rest → IsPlainPair (get_or rest 0 0) (get_or rest 1 0)) → IsToken rest Symbol 1
symbol_first [] some symbol plain = absurd (omega arith)
symbol_first (b ∷ bs) some symbol plain = symbol_token b bs symbol (λ more. plain (omega arith))

two_add : {n : ℕ} → 2 + n ≡ suc (suc n)
two_add = omega arith

-- a comment that isn't closed
open_no_trivia : (b c : ℕ) (bs : List ℕ) → b ≡ 47 → c ≡ 42 → IsCommentRest false bs → (m : ℕ) → IsTrivia (b ∷ c ∷ bs) m → ⊥
open_no_trivia b c bs slash star is_open m (inl space) = let symbol = ap class_of slash ∙ slash_is_symbol in cc (symbol, space.0)
open_no_trivia b c bs slash star is_open m (inr (inl line)) = omega (arith, star, line.1)
open_no_trivia b c bs slash star is_open m (inr (inr block)) = open_not_closed bs block.2 is_open block.5

pub open_comment_first : (rest tail : List ℕ) (n : ℕ) (closed : Bool) → closed ≡ false → 1 < length rest → get_or rest 0 0 ≡ 47 → get_or rest 1 0 ≡ 42 → tail ≡ drop 2 rest
    → IsLongestFront Bool IsCommentRest tail n closed → n ≡ length tail → IsToken rest (Bad Comment) (2 + n)
open_comment_first [] tail n closed is_open some slash star is_tail ends whole = absurd (omega arith)
open_comment_first (b ∷ []) tail n closed is_open some slash star is_tail ends whole = absurd (omega arith)
open_comment_first (b ∷ c ∷ bs) tail n closed is_open some slash star is_tail ends whole =
    let all : n ≡ length bs = whole ∙ ap length is_tail in
    let front : IsCommentRest false (take n bs) = subst (λ l. IsCommentRest false (take n l)) is_tail (subst (λ d. IsCommentRest d (take n tail)) is_open ends.form) in
    let here : IsCommentRest false bs = subst (IsCommentRest false) (ap (λ k. take k bs) all ∙ take-length bs) front in
    rw two_add (record {
      in_range = omega (arith, all);
      form = (slash, star, front);
      longest = λ k m above within form. absurd (omega (arith, all, above, within));
      no_trivia = open_no_trivia b c bs slash star here;
    })
