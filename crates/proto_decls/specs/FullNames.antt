-- Full names, split at their last dots.
use Rattle.std.specs.Prelude.{◌≡◌, ℕ, ◌-◌, ◌==◌, List, [], ◌∷◌, Bool, length, take, if◌then◌else◌}
use Rattle.std.specs.List.{list_any}
use Rattle.std.specs.Hash.FoldHasher.{initial, write, finish}
use Rattle.proto_decls.specs.Text.{joined}

abbrev pub dot : ℕ
dot = 46

abbrev pub has_dot : List ℕ → Bool
has_dot name = list_any (λ c. c == dot) name

-- what stands behind the last dot of a text, or all of it where there is none
abbrev pub behind_dot : List ℕ → List ℕ
behind_dot [] = []
behind_dot (c ∷ cs) = if has_dot cs then behind_dot cs else if c == dot then cs else c ∷ cs

-- the last component of a full name; a dot at its front stays in it, so that the two parts joined are always the name (no name of a text
-- begins with one)
abbrev pub last_of : List ℕ → List ℕ
last_of [] = []
last_of (c ∷ cs) = if has_dot cs then behind_dot cs else c ∷ cs

-- what stands before the last component of a full name, where that has so many bytes
abbrev pub scope_before : ℕ → List ℕ → List ℕ
scope_before last full_name = take (length full_name - last - 1) full_name

-- what stands before the last component of a full name, without the dot
abbrev pub scope_of : List ℕ → List ℕ
scope_of full_name = scope_before (length (last_of full_name)) full_name

-- two texts are the parts of the full name that they make up
abbrev pub AreNameParts : List ℕ → List ℕ → Type 0
AreNameParts scope last = (scope ≡ scope_of (joined scope last)) × (last ≡ last_of (joined scope last))

-- what a hasher answers that has read a scope, then a last component
abbrev pub hash_of_parts : List ℕ → List ℕ → ℕ
hash_of_parts scope last = finish (write (write initial scope) last)

-- the hash of a full name, or of any other text, split in the same way
abbrev pub hash_of : List ℕ → ℕ
hash_of text = hash_of_parts (scope_of text) (last_of text)
