-- The graph of files once one more came, which none of the others imports: the others keep their imports, by the new numbers.
use Rattle.std.proofs.Common.{◌≡◌, inl, inr, ℕ, ◌+◌, ◌≤◌, Bool, true, List, [], ◌∷◌, length, get_or, Option, Some, None, map, filter, refl, ap, ap₂, sym, ◌∙◌, arith}
use Rattle.std.specs.Prelude.{not, option_map}
use Rattle.std.specs.List.{cons_option, filter_map, insert}
use Rattle.std.proofs.lemmas.Bool.{cases_Bool, cases_lt}
use Rattle.std.proofs.lemmas.List.{length-map}
use Rattle.std.proofs.lemmas.List.Edits.{get_or-insert_at, length-insert}
use Rattle.std.proofs.lemmas.List.Elements.{All-head, All-tail}
use Rattle.std.proofs.lemmas.List.Folds.{list_all-map}
use Rattle.std.proofs.lemmas.Simd.{map-map}
use Rattle.import_graph.specs.declared.imports.ImportEdge.{ImportEdge}
use Rattle.import_graph.specs.declared.imports.FileImports.{FileImports}
use Rattle.proto_decls.specs.declared.named_facts.NamedFacts.{NamedFacts}
use Rattle.import_graph.specs.Arrivals.{NobodyImports}
use Rattle.import_graph.specs.Coming.{edge_after, file_after, number_after, rows_with}
use Rattle.import_graph.specs.Imports.{edge_of, graph_of, imports_of, is_analysed, is_complete_in, is_opaque, public_targets, targets}
use Rattle.import_graph.proofs.FileInserted.{before, edges_moved, map_insert, now, now_is, others_stay, ImportsOthers}
use Rattle.import_graph.proofs.NewNumbers.{new_number, number_before, number_from}
use Rattle.import_graph.proofs.OneMoreFile.{all_agree, map_agree, moved_edge}
use Rattle.import_graph.proofs.Renumbered.{before_it, behind_it}

-- the new number, by a test and by recursion
pub number_same : (k g : ℕ) → number_after k g ≡ new_number k g
number_same k g = elim (cases_lt g k) [
  | inl lower ↦ before_it k g lower ∙ sym (number_before k g lower)
  | inr higher ↦ behind_it k g higher ∙ sym (number_from k g higher)
]

target_same : (k : ℕ) (t : Option ℕ) → option_map (new_number k) t ≡ option_map (number_after k) t
target_same k None = refl
target_same k (Some g) = ap Some (sym (number_same k g))

edge_same : (k : ℕ) (l : ImportEdge) → moved_edge k l ≡ edge_after k l
edge_same k l = ap (λ (t : Option ℕ). record { target = t; is_public = l.is_public }) (target_same k l.target)

module _ (files : List NamedFacts) (k : ℕ) (file : NamedFacts) (le : k ≤ length files) where
  files_moved : (some : List NamedFacts) → NobodyImports some file.path → now files k file le some ≡ map (file_after k) (before files k file le some)
  files_moved [] nobody = refl
  files_moved (x ∷ some) nobody = ap₂ (λ (f : FileImports) (fs : List FileImports). f ∷ fs)
      (ap (λ (es : List ImportEdge). record { edges = es; is_opaque = is_opaque (let facts = x.facts in facts.syntax) })
      (edges_moved files k file le (let facts = x.facts in facts.imports) (All-head (ImportsOthers files k file le) x some nobody)
      ∙ map_agree (moved_edge k) (edge_after k) (map (edge_of files) (let facts = x.facts in facts.imports)) (λ l has. edge_same k l)))
      (files_moved some (All-tail (ImportsOthers files k file le) x some nobody))

  -- the new graph
  pub graph_inserted : NobodyImports files file.path → graph_of (insert files k file) ≡ insert (map (file_after k) (graph_of files)) k (imports_of (insert files k file) file.facts)
  graph_inserted nobody = now_is files k file le ∙ ap (λ graph. insert graph k (imports_of (insert files k file) file.facts)) (files_moved files nobody)

-- what imports name by the new numbers
named_after : (f : ℕ → ℕ) (t : Option ℕ) (ns : List ℕ) → cons_option (option_map f t) (map f ns) ≡ map f (cons_option t ns)
named_after f None ns = refl
named_after f (Some n) ns = refl

targets_after : (k : ℕ) (ls : List ImportEdge) → filter_map (λ l. l.target) (map (edge_after k) ls) ≡ map (number_after k) (filter_map (λ l. l.target) ls)
targets_after k [] = refl
targets_after k (l ∷ ls) = ap (λ (ns : List ℕ). cons_option (option_map (number_after k) l.target) ns) (targets_after k ls) ∙ named_after (number_after k) l.target (filter_map (λ l. l.target) ls)

-- what passes a test after a change
filter_moved : {X : Type 0} (p : X → Bool) (f : X → X) (xs : List X) → filter p (map f xs) ≡ map f (filter (λ x. p (f x)) xs)
filter_moved p f [] = refl
filter_moved p f (x ∷ xs) = elim (cases_Bool (p (f x))) [
  | inl kept ↦ rw kept (ap (λ rest. f x ∷ rest) (filter_moved p f xs))
  | inr dropped ↦ rw dropped (filter_moved p f xs)
]

file_targets : (k : ℕ) (file : FileImports) → targets (file_after k file) ≡ map (number_after k) (targets file)
file_targets k file = targets_after k file.edges

file_public : (k : ℕ) (file : FileImports) → public_targets (file_after k file) ≡ map (number_after k) (public_targets file)
file_public k file = ap (λ (ls : List ImportEdge). filter_map (λ l. l.target) ls) (filter_moved (λ l. l.is_public) (edge_after k) file.edges) ∙ targets_after k (filter (λ l. l.is_public) file.edges)

-- rows of a graph of which the others are as they were
module _ (old : List FileImports) (k : ℕ) (own : FileImports) (le : k ≤ length old) where
  -- the graph with the file
  abbrev pub with_own : List FileImports
  with_own = insert (map (file_after k) old) k own

  counted : length (map (file_after k) old) ≡ length old
  counted = length-map old (file_after k)

  pub one_more_file : length with_own ≡ length old + 1
  one_more_file = let room : k ≤ length (map (file_after k) old) = omega (arith, le, counted) in omega (arith, counted, length-insert (map (file_after k) old) k own room)

  rows_moved : (row : FileImports → List ℕ) → ((file : FileImports) → row (file_after k file) ≡ map (number_after k) (row file)) → map row with_own ≡ rows_with k (row own) (map row old)
  rows_moved row each =
      map_insert row (map (file_after k) old) k own
      ∙ ap (λ (rows : List (List ℕ)). insert rows k (row own))
      (map-map row (file_after k) old ∙ map_agree (λ file. row (file_after k file)) (λ file. map (number_after k) (row file)) old (λ file has. each file) ∙ sym (map-map (map (number_after k)) row old))

  pub targets_moved : map targets with_own ≡ rows_with k (targets own) (map targets old)
  targets_moved = rows_moved targets (file_targets k)

  pub public_moved : map public_targets with_own ≡ rows_with k (public_targets own) (map public_targets old)
  public_moved = rows_moved public_targets (file_public k)

  -- files are opaque if they were
  opaque_same : (g : ℕ) → get_or (map (λ file. file.is_opaque) with_own) (number_after k g) true ≡ get_or (map (λ file. file.is_opaque) old) g true
  opaque_same g =
      ap (λ n. get_or (map (λ (file : FileImports). file.is_opaque) with_own) n true) (number_same k g)
      ∙ others_stay (λ file. file.is_opaque) (map (file_after k) old) k own g true (omega (arith, le, counted))
      ∙ ap (λ flags. get_or flags g true) (map-map (λ (file : FileImports). file.is_opaque) (file_after k) old)

  analysed_same : (t : Option ℕ) → is_analysed with_own (option_map (number_after k) t) ≡ is_analysed old t
  analysed_same None = refl
  analysed_same (Some g) = ap not (opaque_same g)

  complete_same : (file : FileImports) → is_complete_in with_own (file_after k file) ≡ is_complete_in old file
  complete_same file =
      list_all-map (λ l. is_analysed with_own l.target) (edge_after k) file.edges
      ∙ all_agree (λ l. is_analysed with_own (option_map (number_after k) l.target)) (λ l. is_analysed old l.target) file.edges (λ l. analysed_same l.target)

  -- the flags of the others are as they were
  pub flags_moved : map (is_complete_in with_own) with_own ≡ insert (map (is_complete_in old) old) k (is_complete_in with_own own)
  flags_moved =
      map_insert (is_complete_in with_own) (map (file_after k) old) k own
      ∙ ap (λ (flags : List Bool). insert flags k (is_complete_in with_own own))
      (map-map (is_complete_in with_own) (file_after k) old ∙ map_agree (λ file. is_complete_in with_own (file_after k file)) (is_complete_in old) old (λ file has. complete_same file))

  pub own_there : (d : FileImports) → get_or with_own k d ≡ own
  own_there d = get_or-insert_at (map (file_after k) old) k own d (omega (arith, le, counted))
