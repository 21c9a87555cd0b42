-- Lemmas on brackets in pairs.
use Rattle.std.proofs.Common.{◌≡◌, ℕ, ◌+◌, ◌<◌, ◌≤◌, Bool, true, false, List, [], ◌∷◌, length, get_or, drop, refl, ap, ◌∙◌, arith, cond, eqb}
use Rattle.std.specs.Prelude.{reverse}
use Rattle.std.proofs.lemmas.List.{drop_more, drop_all, length-reverse}
use Rattle.std.proofs.lemmas.Bool.{eqb-true}
use Rattle.proto_tree.specs.declared.lexeme.Lexeme.{Lexeme}
use Rattle.proto_tree.specs.declared.lexeme.Terminal.{Terminal}
use Rattle.proto_tree.specs.Parts.{closes}
use Rattle.proto_syntax.specs.Brackets.{TakesBracket}

pub closes-step : (p q : List Terminal) (ts : List Lexeme) (i : ℕ) (d : Lexeme) (goes_on : Bool) → i < length ts → TakesBracket p (get_or ts i d).terminal goes_on q
    → closes p (drop i ts) ≡ cond goes_on (closes q (drop (i + 1) ts)) false
closes-step p q ts i d goes_on h takes = rw (drop_more ts i d h) (takes (get_or ts i d) (drop (i + 1) ts) refl)

closes-nil : (p : List Terminal) → closes p [] ≡ eqb (length p) 0
closes-nil [] = refl
closes-nil (c ∷ p) = never (eqb (length (c ∷ p)) 0) refl
  where
    never : (b : Bool) → eqb (length (c ∷ p)) 0 ≡ b → false ≡ b
    never false e = refl
    never true e = absurd (omega (arith, eqb-true (length (c ∷ p)) 0 e))

pub closes-end : (p : List Terminal) (ts : List Lexeme) (i : ℕ) → length ts ≤ i → closes (reverse p) (drop i ts) ≡ eqb (length p) 0
closes-end p ts i h = rw (drop_all i ts h) (closes-nil (reverse p) ∙ ap (λ n. eqb n 0) (length-reverse p))
