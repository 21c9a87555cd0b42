-- The paths of files that ascend are in path order.
use Rattle.std.proofs.Common.{◌≡◌, ◌<◌, ℕ, zero, suc, Bool, List, [], ◌∷◌, map, length, slice_index_or, sym, subst, arith}
use Rattle.std.specs.Cmp.Lexicographic.{slice_cmp}
use Rattle.std.specs.Ordering.{nat_cmp}
use Rattle.std.specs.declared.cmp.Ordering.TheVariants.{Less}
use Rattle.std.specs.List.{AllByRecursion}
use Rattle.std.specs.List.Sorted.{IsStrictlySortedBy}
use Rattle.std.proofs.lemmas.Simd.{map-map}
use Rattle.import_graph.specs.Paths.{IsInPathOrder}
use Rattle.proto_decls.specs.declared.named_facts.NamedFacts.{NamedFacts}
use Rattle.piece_collector.specs.Views.{TextAt}
use Rattle.piece_collector.specs.Board.{Ascends}
use Rattle.work_index.specs.Pieces.{source_of, workspace_of}
use Rattle.work_index.specs.Workspace.{Workspace, all_facts}

abbrev path_at : Workspace → ℕ → NamedFacts → List ℕ
path_at w i other = let file = slice_index_or (all_facts w) i other in file.path

before_all : (p : List ℕ) (w : Workspace) (j : ℕ) (other : NamedFacts) → AllByRecursion (λ q. slice_cmp nat_cmp p q ≡ Less) (map (λ f. f.0) w)
    → j < length (all_facts w) → slice_cmp nat_cmp p (path_at w j other) ≡ Less
before_all p [] j other all there = absurd (omega arith)
before_all p (f ∷ w) zero other all there = all.0
before_all p (f ∷ w) (suc j) other all there = before_all p w j other all.1 (omega arith)

pub ordered_files : (w : Workspace) → IsStrictlySortedBy (slice_cmp nat_cmp) (map (λ f. f.0) w) → IsInPathOrder (all_facts w)
unfolding IsStrictlySortedBy
ordered_files [] ascends i j other before there = absurd (omega arith)
ordered_files (f ∷ w) ascends i zero other before there = absurd (omega arith)
ordered_files (f ∷ w) ascends zero (suc j) other before there = before_all f.0 w j other ascends.0 (omega arith)
ordered_files (f ∷ w) ascends (suc i) (suc j) other before there = ordered_files w ascends.1 i j other (omega arith) (omega arith)

-- the same of pieces
pub in_path_order : (r : Bool) (ts : List TextAt) → Ascends ts → IsInPathOrder (all_facts (workspace_of r ts))
in_path_order r ts ascends = ordered_files (workspace_of r ts) (subst (λ ps. IsStrictlySortedBy (slice_cmp nat_cmp) ps) (sym (map-map (λ f. f.0) (source_of r) ts)) ascends)
