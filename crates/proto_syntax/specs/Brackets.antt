-- One step of the test for brackets in pairs.
use Rattle.std.specs.Prelude.{◌≡◌, Bool, false, List, ◌∷◌, if◌then◌else◌}
use Rattle.proto_tree.specs.declared.lexeme.Lexeme.{Lexeme}
use Rattle.proto_tree.specs.declared.lexeme.Terminal.{Terminal}
use Rattle.proto_tree.specs.Parts.{closes}

-- with the token in front, the rest is in pairs where it is so behind what is pending then
abbrev pub TakesBracket : List Terminal → Terminal → Bool → List Terminal → Type 0
TakesBracket old it goes_on new = (t : Lexeme) (ts : List Lexeme) → t.terminal ≡ it → closes old (t ∷ ts) ≡ (if goes_on then closes new ts else false)
