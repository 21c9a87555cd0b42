-- Numbers and names met so far, as sets, and numbers that ascend.
use Rattle.std.specs.Prelude.{◌≡◌, ℕ, ◌≤◌, Bool, false, String, List, Option, Some, None}
use Rattle.std.specs.List.{list_any}
use Rattle.std.specs.Str.{bytes_eq}
use Rattle.std.specs.BTreeSet.{BTreeSet, contains, contains_by, contains_text}
use Rattle.std.specs.Ordering.{nat_cmp, ordering_then}
use Rattle.std.specs.Cmp.Lexicographic.{slice_cmp}
use Rattle.std.specs.declared.alloc.Global.{Global}
use Rattle.proto_decls.specs.declared.part.Member.{Member}
use Rattle.proto_decls.specs.declared.part.ReservedName.{ReservedName}
use Rattle.proto_decls.specs.Checks.{is_value, has_value}
use Rattle.proto_decls.specs.FullNames.{hash_of, last_of, scope_of}
use denote.Ref.{Bor}

abbrev pub has : BTreeSet ℕ → Option ℕ → Bool
has s None = false
has s (Some v) = contains nat_cmp s v

-- no text was met
abbrev pub IsNew : BTreeSet (String Global) → Type 0
IsNew s = (q : List ℕ) → contains_text s q ≡ false

-- the set has these names
abbrev pub AreNames : List ReservedName → BTreeSet (String Global) → Type 0
AreNames names s = (q : List ℕ) → contains_text s q ≡ list_any (λ e. bytes_eq e.text q) names

-- the set has a name of these bytes
abbrev pub has_name : BTreeSet (Bor (List ℕ)) → List ℕ → Bool
has_name s name = contains_by (λ k. slice_cmp nat_cmp name k.now) s

-- the set has the hash, the last component and the scope of a full name of these bytes
abbrev pub has_full_name : BTreeSet (ℕ × Bor (List ℕ) × Bor (List ℕ)) → List ℕ → Bool
has_full_name s name = contains_by (λ k. ordering_then (ordering_then (nat_cmp (hash_of name) k.0) (slice_cmp nat_cmp (last_of name) k.1.now)) (slice_cmp nat_cmp (scope_of name) k.2.now)) s

-- none of these fields or values has a number from here on
abbrev pub AreBelow : List Member → ℕ → Type 0
AreBelow members least = (q : ℕ) → least ≤ q → list_any (λ e. is_value q e.value) members ≡ false

-- a number, if it is one, that is new among all numbers below the first bound and is itself below the second
pub record Rises (least : ℕ) (value : Option ℕ) (next : ℕ) : Type 0 where
  pub is_new : (before : List Member) → AreBelow before least → has_value value before ≡ false
  pub is_below : (q : ℕ) → next ≤ q → is_value q value ≡ false
  pub no_less : least ≤ next
