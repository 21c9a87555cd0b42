-- What may hold the rest of a name, or be a type, found from a scope by the last component of its full name.
use Rattle.std.specs.Prelude.{◌≡◌, ℕ, ◌<◌, ◌≤◌, List, [], Bool, true, false, Option, Some, None, length, max, min, slice_index_or}
use Rattle.std.specs.List.{list_any}
use Rattle.proto_decls.specs.declared.named_facts.NamedFacts.{NamedFacts}
use Rattle.proto_names.specs.Files.{all_named, kind_at}
use Rattle.proto_decls.specs.declared.fact.DeclKind.{DeclKind}
use Rattle.proto_decls.specs.declared.fact.DeclKind.TheVariants.{Message, EnumDef, Service}

-- what may hold the rest of a name
abbrev pub is_holder : DeclKind → Bool
is_holder Message = true
is_holder EnumDef = true
is_holder Service = true
is_holder _ = false

-- whether a message, an enum or a service has the full name
abbrev pub is_held : List NamedFacts → List ℕ → Bool
is_held files name = list_any (λ r. is_holder (kind_at files r)) (all_named files name)

-- the last one of a list that passes, by its place, if one does
abbrev pub IsLast : (ℕ → Bool) → List ℕ → Option ℕ → Type 0
IsLast test lengths None = (k : ℕ) → k < length lengths → test (slice_index_or lengths k 0) ≡ false
IsLast test lengths (Some i) = (i < length lengths) × (test (slice_index_or lengths i 0) ≡ true) × ((k : ℕ) → i < k → k < length lengths → test (slice_index_or lengths k 0) ≡ false)

-- a scope, or none, that no scope which passes comes before, from the one of a number on
abbrev pub IsNext : (List ℕ → Bool) → List (List ℕ) → ℕ → Option ℕ → Type 0
IsNext test scopes number None = (k : ℕ) → number ≤ k → k < length scopes → test (slice_index_or scopes k []) ≡ false
IsNext test scopes number (Some i) = (number ≤ i) × (i < length scopes) × ((k : ℕ) → number ≤ k → k < i → test (slice_index_or scopes k []) ≡ false)

-- a place, or none, behind which no length of a list passes
abbrev pub IsPast : (ℕ → Bool) → List ℕ → Option ℕ → Type 0
IsPast test lengths None = (k : ℕ) → k < length lengths → test (slice_index_or lengths k 0) ≡ false
IsPast test lengths (Some i) = (i < length lengths) × ((k : ℕ) → i < k → k < length lengths → test (slice_index_or lengths k 0) ≡ false)

-- the later of two places
abbrev pub later : Option ℕ → Option ℕ → Option ℕ
later None b = b
later (Some a) None = Some a
later (Some a) (Some b) = Some (max a b)

-- the earlier of two places
abbrev pub earlier : Option ℕ → Option ℕ → Option ℕ
earlier None b = b
earlier (Some a) None = Some a
earlier (Some a) (Some b) = Some (min a b)
