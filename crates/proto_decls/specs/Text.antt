-- Parts of a text.
use Rattle.std.specs.Prelude.{ℕ, ◌+◌, ◌-◌, Bool, ◌||◌, ◌&&◌, List, [], ◌∷◌, ◌++◌, length, slice_index, slice_range, if◌then◌else◌, nat_le, nat_lt}
use Rattle.std.specs.List.{flat_map}
use Rattle.proto_tree.specs.declared.node.Span.{Span}
use Rattle.proto_tree.specs.declared.node.Literal.{Literal}

-- a character begins here, or the text ends
abbrev pub is_boundary : List ℕ → ℕ → Bool
is_boundary text i = nat_le i (length text) && (nat_le (length text) i || (nat_lt (slice_index text i) 128 || nat_le 192 (slice_index text i)))

-- what stands at a span; nothing where that is no part of the text, as it may be for a tree of another text
abbrev pub text_at : List ℕ → Span → List ℕ
text_at text s = if nat_le s.start s.end && (is_boundary text s.start && is_boundary text s.end) then slice_range text s.start s.end else []

-- between the quotes
abbrev pub unquoted : Span → Span
unquoted s = record { start = s.start + 1; end = s.end - 1 }

-- the value of a plain string literal: the contents of its parts, joined
abbrev pub literal_text : List ℕ → Literal → List ℕ
literal_text text l = flat_map (λ s. text_at text (unquoted s)) l.parts

-- two names with a dot between them; the empty scope adds none
abbrev pub joined : List ℕ → List ℕ → List ℕ
joined [] name = name
joined (c ∷ scope) name = (c ∷ scope) ++ 46 ∷ name

-- an identifier behind a dot
abbrev pub with_dot : List ℕ → Span → List ℕ
with_dot text s = 46 ∷ text_at text s

-- identifiers joined by dots
abbrev pub dotted : List ℕ → List Span → List ℕ
dotted text [] = []
dotted text (s ∷ more) = text_at text s ++ flat_map (with_dot text) more
