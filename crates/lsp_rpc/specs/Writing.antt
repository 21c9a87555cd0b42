-- What a step of a JSON writer leaves.
use Rattle.std.specs.Prelude.{◌≡◌, List, [], ◌++◌}
use Rattle.std.specs.List.{flat_map}
use Rattle.json.specs.Token.{Token}
use Rattle.json.specs.Tree.{json_tokens}
use Rattle.json.specs.Written.{Written}
use Rattle.serde_json.specs.Data.{Data}
use Rattle.serde_json.specs.Written.{outline}

-- a writer of a new text
abbrev pub empty : Written
empty = record { before = []; tokens = []; spare = 0 }

-- the tokens stand behind those that were written before
pub record Appends (old : Written) (ts : List Token) (new : Written) : Type 0 where
  pub before : new.before ≡ old.before
  pub tokens : new.tokens ≡ old.tokens ++ ts

-- so do those of the value
abbrev pub Adds : Written → Data → Written → Type 0
Adds old d new = Appends old (json_tokens (outline d)) new

-- the tokens of some values, one after the other
abbrev pub values_tokens : List Data → List Token
values_tokens ds = flat_map (λ d. json_tokens (outline d)) ds
