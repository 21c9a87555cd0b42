-- What the scanner's parts find.
use Rattle.std.specs.Prelude.{◌≡◌, ℕ, ◌<◌, ◌≤◌, List, [], ◌∷◌, length, take}
use Rattle.proto_lex.specs.declared.front.Front.{Front}
use Rattle.proto_lex.specs.declared.front.Front.TheVariants as front
use Rattle.proto_lex.specs.declared.bytes.Class.TheVariants as class
use Rattle.proto_lex.specs.Bytes.{class_of}
use Rattle.proto_lex.specs.Tokens.{IsToken}
use Rattle.proto_lex.specs.Trivia.{IsTrivia}

-- the first byte is a symbol
abbrev pub BeginsWithSymbol : List ℕ → Type 0
BeginsWithSymbol [] = ⊥
BeginsWithSymbol (b ∷ bs) = class_of b ≡ class.Symbol

-- what stands at the front
abbrev pub IsFront : List ℕ → Front → Type 0
IsFront rest (front.Trivia n) = IsTrivia rest n
IsFront rest (front.Token kind n) = IsToken rest kind n

-- the first n bytes of rest have the form F c, and no more of them have any form F d
pub record IsLongestFront (C : Type 0) (F : C → List ℕ → Type 0) (rest : List ℕ) (n : ℕ) (c : C) : Type 0 where
  pub in_range : n ≤ length rest
  pub form : F c (take n rest)
  pub longest : (d : C) (m : ℕ) → n < m → m ≤ length rest → F d (take m rest) → ⊥
