-- Trivia: the whitespace and the comments between tokens.
use Rattle.std.specs.Prelude.{◌≡◌, ◌⊎◌, ℕ, suc, ◌+◌, ◌≤◌, List, [], ◌∷◌, true, ◌&&◌, ◌==◌, Option, Some, None, option_map, if◌then◌else◌, length, take}
use Rattle.std.specs.List.{position_or_len}
use Rattle.std.specs.Str.{byte}
use Rattle.proto_lex.specs.declared.bytes.Class.TheVariants as class
use Rattle.proto_lex.specs.Bytes.{class_of, is_space}
use Rattle.proto_lex.specs.Forms.{IsCommentRest}

-- the first byte is whitespace
abbrev pub IsSpace : List ℕ → ℕ → Type 0
IsSpace [] n = ⊥
IsSpace (b ∷ bs) n = (class_of b ≡ class.Space) × (n ≡ 1)

-- the first n bytes are a line comment: `//` up to the next line feed, or to the end
abbrev pub IsLineComment : List ℕ → ℕ → Type 0
IsLineComment [] n = ⊥
IsLineComment (b ∷ []) n = ⊥
IsLineComment (b ∷ c ∷ bs) n = (b ≡ byte "/") × (c ≡ byte "/") × (n ≡ 2 + position_or_len (λ x. x == byte "\n") bs)

-- the first n bytes are a block comment: `/*` through the first `*/` after it
abbrev pub IsBlockComment : List ℕ → ℕ → Type 0
IsBlockComment [] n = ⊥
IsBlockComment (b ∷ []) n = ⊥
IsBlockComment (b ∷ c ∷ bs) n = (b ≡ byte "/") × (c ≡ byte "*") × (len : ℕ) × (n ≡ 2 + len) × (len ≤ length bs) × IsCommentRest true (take len bs)

-- the first n bytes are trivia
abbrev pub IsTrivia : List ℕ → ℕ → Type 0
IsTrivia bs n = IsSpace bs n ⊎ (IsLineComment bs n ⊎ IsBlockComment bs n)

-- how many bytes there are through the first `*/`
abbrev pub comment_len : List ℕ → Option ℕ
comment_len [] = None
comment_len (b ∷ []) = None
comment_len (b ∷ c ∷ bs) = if (b == byte "*") && (c == byte "/") then Some 2 else option_map (λ n. suc n) (comment_len (c ∷ bs))

-- how many bytes of trivia a slash begins, with these bytes after it
abbrev pub slash_len : List ℕ → Option ℕ
slash_len [] = None
slash_len (c ∷ bs) =
    if c == byte "/" then Some (2 + position_or_len (λ x. x == byte "\n") bs)
    else (if c == byte "*" then option_map (λ n. 2 + n) (comment_len bs) else None)

-- how many bytes of trivia stand at the front: a whitespace byte, a line comment or a closed block comment
abbrev pub trivia_len : List ℕ → Option ℕ
trivia_len [] = None
trivia_len (b ∷ bs) = if is_space b then Some 1 else (if b == byte "/" then slash_len bs else None)
