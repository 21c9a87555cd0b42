-- Names that contain a query, without regard to the case of ASCII letters.
use Rattle.std.specs.Prelude.{◌≡◌, ◌↔◌, ℕ, List, [], ◌∷◌, ◌++◌, Bool, true, ◌||◌, take, length}
use Rattle.std.specs.Str.{str_eq_ignore_ascii_case}

-- whether a text begins with the query
abbrev pub begins : List ℕ → List ℕ → Bool
begins query text = str_eq_ignore_ascii_case (take (length query) text) query

-- whether the query stands somewhere in a text
abbrev pub contains : List ℕ → List ℕ → Bool
contains query [] = begins query []
contains query (c ∷ rest) = begins query (c ∷ rest) || contains query rest

-- the same said without a search: a part of the text is the query
pub record Holds (query text : List ℕ) : Type 0 where
  pub before : List ℕ
  pub part : List ℕ
  pub behind : List ℕ
  pub cut : text ≡ before ++ (part ++ behind)
  pub same : str_eq_ignore_ascii_case part query ≡ true

abbrev pub ContainsLaw : Type 0
ContainsLaw = (query text : List ℕ) → (contains query text ≡ true) ↔ Holds query text
