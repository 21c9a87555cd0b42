-- The order of diagnostics, and lists of them in that order.
use Rattle.std.specs.Prelude.{List, [], ◌∷◌, Contains}
use Rattle.std.specs.List.Sorted.{IsStrictlySortedBy}
use Rattle.std.specs.declared.cmp.Ordering.{Ordering}
use Rattle.std.specs.Ordering.{match_ordering, nat_cmp, ordering_then}
use Rattle.proto_decls.specs.declared.diagnostic.Diag.{Diag}
use Rattle.proto_decls.specs.Problems.{problem_order}

-- the order of diagnostics: by start, end, number and words
abbrev pub order : Diag → Diag → Ordering
order a b = ordering_then (nat_cmp a.start b.start) (ordering_then (nat_cmp a.end b.end) (problem_order a.message b.message))

-- an element in its place in an ordered list, unless it stands there
abbrev pub inserted : {K : Type 0} → (K → K → Ordering) → K → List K → List K
inserted cmp x [] = x ∷ []
inserted cmp x (y ∷ ys) = match_ordering (cmp x y) (x ∷ y ∷ ys) (y ∷ ys) (y ∷ inserted cmp x ys)

-- each element once, in order
abbrev pub each_once : {K : Type 0} → (K → K → Ordering) → List K → List K
each_once cmp [] = []
each_once cmp (x ∷ xs) = inserted cmp x (each_once cmp xs)

-- diagnostics as a file lists them: each once, in order
abbrev pub in_order : List Diag → List Diag
in_order = each_once order

-- the list has these diagnostics, each once and in order, and no others
pub record IsListOf (all : List Diag) (diags : List Diag) : Type 0 where
  pub ordered : IsStrictlySortedBy order diags
  pub listed : (d : Diag) → Contains all d → Contains diags d
  pub no_other : (d : Diag) → Contains diags d → Contains all d
