-- Full names by hashes.
use Rattle.std.specs.Prelude.{ℕ, ◌%◌, List}
use Rattle.proto_decls.specs.FullNames.{hash_of, behind_dot}

-- the lower 32 bits of the hash of a name
abbrev pub key : List ℕ → ℕ
key name = hash_of name % 4294967296

-- those of the hash of what stands behind its last dot, or of all of it where there is none
abbrev pub last_key : List ℕ → ℕ
last_key name = key (behind_dot name)
