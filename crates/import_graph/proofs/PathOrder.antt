-- Paths that rise from each to the next are in order.
use Rattle.std.proofs.Common.{◌≡◌, inl, inr, ℕ, zero, suc, ◌<◌, List, length, get_or, arith}
use Rattle.std.specs.Cmp.Lexicographic.{slice_cmp}
use Rattle.std.specs.Ordering.{nat_cmp}
use Rattle.std.specs.declared.cmp.Ordering.TheVariants.{Less}
use Rattle.std.proofs.lemmas.Cmp.{nat_list_cmp_total}
use Rattle.std.proofs.lemmas.Bool.{cases_eq}
use Rattle.import_graph.specs.Paths.{IsInPathOrder}
use Rattle.proto_decls.specs.declared.named_facts.NamedFacts.{NamedFacts}

abbrev pub Rises : List NamedFacts → ℕ → NamedFacts → Type 0
Rises files k other = slice_cmp nat_cmp (let a = get_or files k other in a.path) (let b = get_or files (suc k) other in b.path) ≡ Less

-- each path below the place comes before the next one
pub record RisesBelow (files : List NamedFacts) (place : ℕ) : Type 0 where
  pub rises : (k : ℕ) (other : NamedFacts) → suc k < place → Rises files k other

pub RisesBelow-none : (files : List NamedFacts) → RisesBelow files 1
RisesBelow-none files = record { rises = λ k other lt. absurd (omega arith) }

pub RisesBelow-push : (files : List NamedFacts) (k : ℕ) → RisesBelow files (suc k) → ((other : NamedFacts) → Rises files k other) → RisesBelow files (suc (suc k))
RisesBelow-push files k below last = record {
  rises = λ i other lt. elim (cases_eq i k) [
    | inl is ↦ rw is (last other)
    | inr differ ↦ below.rises i other (omega arith)
  ];
}

pub in_order : (files : List NamedFacts) → RisesBelow files (length files) → IsInPathOrder files
in_order files below i zero other lt there = absurd (omega arith)
in_order files below i (suc j) other lt there = elim (cases_eq i j) [
  | inl is ↦ rw is (below.rises j other there)
  | inr differ ↦
      let a = get_or files i other in let b = get_or files j other in let c = get_or files (suc j) other in
      nat_list_cmp_total.trans a.path b.path c.path (in_order files below i j other (omega arith) (omega arith)) (below.rises j other there)
]
