-- Tokens of UTF-8 text, seen as text.
use Rattle.std.specs.Prelude.{◌≡◌, ℕ, List, IsUtf8, IsCharBoundary, encode_utf8, slice_range, All}
use Rattle.std.specs.Char.{IsScalar}
use Rattle.proto_lex.specs.declared.token.Token.{Token}
use Rattle.proto_lex.specs.declared.token.Kind.TheVariants.{Bad}
use Rattle.proto_lex.specs.declared.token.Reason.TheVariants.{Character}
use Rattle.proto_lex.specs.Tokens.{tokens}

-- the token begins and ends between two characters
abbrev pub IsCut : List ℕ → Token → Type 0
IsCut text t = IsCharBoundary text t.start × IsCharBoundary text t.end

-- where the token is a bad character, its bytes are one Unicode scalar value in UTF-8
abbrev pub IsSingle : List ℕ → Token → Type 0
IsSingle text t = t.kind ≡ Bad Character → (c : ℕ) × IsScalar c × (slice_range text t.start t.end ≡ encode_utf8 c)

-- a text may be cut at its tokens
abbrev pub TokensAreCut : Type 0
TokensAreCut = (text : List ℕ) → IsUtf8 text → All (IsCut text) (tokens text)

-- no bad character is two characters, or a part of one
abbrev pub BadCharactersAreSingle : Type 0
BadCharactersAreSingle = (text : List ℕ) → IsUtf8 text → All (IsSingle text) (tokens text)
