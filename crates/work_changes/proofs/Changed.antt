-- What changes of the texts of files leave as it was.
use Rattle.std.proofs.Common.{◌≡◌, ◌≢◌, ◌<◌, ◌==◌, ℕ, zero, suc, List, [], ◌∷◌, Bool, true, false, not, Option, None, Some, length, get_or, map, refl, subst, sym, ap, ◌∙◌, arith}
use Rattle.std.specs.Prelude.{All, Contains, IfSome, MatchOption}
use Rattle.std.specs.List.{range_with_len}
use Rattle.std.specs.List.Sorted.{IsStrictlyIncreasing}
use Rattle.std.proofs.lemmas.Bool.{false≢true}
use Rattle.std.proofs.lemmas.Bool.Decides.{nat_tests}
use Rattle.std.proofs.lemmas.List.Elements.{All-contains_itself, All-weaker}
use Rattle.std.proofs.lemmas.List.Folds.{list_any_at}
use Rattle.std.proofs.lemmas.List.Kept.{IsStrictlyIncreasing-filter}
use Rattle.std.proofs.lemmas.List.{length-map, length-set}
use Rattle.piece_collector.specs.Views.{TextAt}
use Rattle.proto_decls.specs.declared.fact.FileFacts.{FileFacts}
use Rattle.proto_decls.specs.Facts.{facts_by}
use Rattle.import_graph.specs.declared.imports.FileImports.{FileImports}
use Rattle.proto_decls.specs.declared.named_facts.NamedFacts.{NamedFacts}
use Rattle.import_graph.specs.Closures.{seers_of, sees, view_of}
use Rattle.import_graph.specs.Imports.{graph_of, imports_of}
use Rattle.import_graph.proofs.ImportEdges.{filter_from, filter_to}
use Rattle.import_graph.proofs.OneView.{in_range, rising}
use Rattle.proto_names.specs.Files.{facts_at, is_seen}
use Rattle.proto_resolve.specs.Outlines.{import_outline}
use Rattle.proto_names.specs.Outlines.{with_facts, exports}
use Rattle.proto_resolve.proofs.Outlines.{asks_alike, same_graph}
use Rattle.work_links.specs.declared.touched.Touched.{Touched}
use Rattle.work_links.specs.Touched.{Tells}
use Rattle.work_index.specs.Pieces.{workspace_of}
use Rattle.work_index.specs.Workspace.{all_facts}
use Rattle.work_changes.specs.Changes.{DifferAt}
use Rattle.work_changes.specs.declared.relinking.Told.{Told}
use Rattle.work_changes.specs.declared.relinking.FileChange.{FileChange}

pub facts_in_piece : (r : Bool) (ts : List TextAt) (n : ℕ) (t : TextAt) → n < length ts → t ≡ get_or ts n t → facts_at (all_facts (workspace_of r ts)) n ≡ facts_by r t.text
facts_in_piece r [] n t there is = absurd (omega (arith, there))
facts_in_piece r (u ∷ ts) zero t there is = ap (λ v. facts_by r v.text) (sym is)
facts_in_piece r (u ∷ ts) (suc n) t there is = facts_in_piece r ts n t (omega (arith, there)) is

-- ---- other facts of a file

pub others_stay : (files : List NamedFacts) (f g : ℕ) (other : FileFacts) → g ≢ f → facts_at (with_facts files f other) g ≡ facts_at files g
others_stay [] f g other apart = refl
others_stay (x ∷ files) zero zero other apart = absurd (apart refl)
others_stay (x ∷ files) zero (suc g) other apart = refl
others_stay (x ∷ files) (suc f) zero other apart = refl
others_stay (x ∷ files) (suc f) (suc g) other apart = others_stay files f g other (λ same. apart (ap suc same))

pub is_put : (files : List NamedFacts) (f : ℕ) (other : FileFacts) → f < length files → facts_at (with_facts files f other) f ≡ other
is_put [] f other there = absurd (omega (arith, there))
is_put (x ∷ files) zero other there = refl
is_put (x ∷ files) (suc f) other there = is_put files f other (omega (arith, there))

-- a graph that is kept has as many files
pub kept_count : (old new : List NamedFacts) (change : FileChange) → DifferAt old new change → IfSome change.before (λ graph. length graph ≡ length new)
kept_count old new change differ = by change.before differ.graph
  where
    by : (before : Option (List FileImports)) → MatchOption before (graph_of old ≡ graph_of new) (λ g. g ≡ graph_of old) → IfSome before (λ graph. length graph ≡ length new)
    by None same = tt
    by (Some g) is = ap length is ∙ length-map old (λ f. imports_of old f.facts) ∙ differ.files

-- what is kept is still so, and where nothing is, what follows from that follows
pub kept_as : {X : Type 0} (P : X → Type 0) (A B : Type 0) → (A → B) → (o : Option X) → MatchOption o A P → MatchOption o B P
kept_as P A B follows None h = follows h
kept_as P A B follows (Some x) h = h

-- what is told with what is touched is still so by what is equal
pub told_as : (o : Option Told) (A B : Type 0) (before after : List ℕ) (touched : Option Touched) (Tell : Touched → Type 0) → (A → B) → before ≡ after → IfSome touched Tell
    → MatchOption o A (λ t. (t.seers.items ≡ before) × (t.touched ≡ touched)) → MatchOption o B (λ t. (t.seers.items ≡ after) × IfSome t.touched Tell)
told_as None A B before after touched Tell follows same tells h = follows h
told_as (Some t) A B before after touched Tell follows same tells h = (h.0 ∙ same, subst (λ found. IfSome found Tell) (sym h.1) tells)

-- ---- the files that see a changed file

module _ (graph : List FileImports) (file : ℕ) where
  pub seers_rise : IsStrictlyIncreasing (seers_of graph file)
  seers_rise = IsStrictlyIncreasing-filter (λ g. sees graph g file) (range_with_len 0 (length graph)) (rising (length graph))

  -- a file that has the other one in its view is a seer of that
  is_seer : (f : ℕ) → f < length graph → Contains (view_of graph f) file → is_seen (seers_of graph file) f ≡ true
  is_seer f there has =
      let all = range_with_len 0 (length graph) in
      let at : Contains (seers_of graph file) f = filter_to (λ g. sees graph g file) all f (in_range (length graph) f there) (filter_from (sees graph f) all file has).1 in
      list_any_at (λ h. h == f) (seers_of graph file) at.0 f at.1 (equal (get_or (seers_of graph file) at.0 f) at.2)
    where
      equal : (h : ℕ) → h ≡ f → (h == f) ≡ true
      equal h e = grind (arith, nat_tests)

-- a file that is none of the seers sees no other thing
pub unseen_by : (old new : List NamedFacts) (change : FileChange) (f : ℕ) → DifferAt old new change → f < length new → is_seen (seers_of (graph_of new) change.file) f ≡ false
    → All (λ g. exports (facts_at old g) ≡ exports (facts_at new g)) (view_of (graph_of new) f)
unseen_by old new change f differ there unseen =
    All-weaker (Contains view) (λ g. exports (facts_at old g) ≡ exports (facts_at new g)) (λ g has. ap exports (differ.others g (apart g has))) view (All-contains_itself view)
  where
    view : List ℕ
    view = view_of (graph_of new) f

    there' : f < length (graph_of new)
    there' = omega (arith, there, length-map new (λ x. imports_of new x.facts))

    apart : (g : ℕ) → Contains view g → g ≢ change.file
    apart g has same = false≢true (sym unseen ∙ is_seer (graph_of new) change.file f there' (rw same at has))

-- ---- the files after the change of the facts of one

module _ (files : List NamedFacts) (file : ℕ) (facts : FileFacts) (there : file < length files) where
  abbrev after : List NamedFacts
  after = with_facts files file facts

  graph_kept : (graph : Option (List FileImports)) → MatchOption graph (import_outline facts ≡ import_outline (facts_at files file)) (λ g. g ≡ graph_of files)
      → MatchOption graph (graph_of files ≡ graph_of after) (λ g. g ≡ graph_of files)
  graph_kept None imports = same_graph files after (asks_alike files file facts there imports)
  graph_kept (Some g) is = is

  abbrev ToldAfter : Option Told → FileFacts → Type 0
  ToldAfter told now = MatchOption told (exports (facts_at files file) ≡ exports now) (λ told.
      (told.seers.items ≡ seers_of (graph_of after) file) × IfSome told.touched (Tells file (facts_at files file) now))

  pub differ : (graph : Option (List FileImports)) (told : Option Told) → MatchOption graph (import_outline facts ≡ import_outline (facts_at files file)) (λ g. g ≡ graph_of files)
      → ToldAfter told facts → DifferAt files after (record { file = file; told = told; before = graph })
  differ graph told kept tells = record {
    files = sym (length-set files file _);
    graph = graph_kept graph kept;
    others = λ g apart. sym (others_stay files file g facts apart);
    told = subst (ToldAfter told) (sym (is_put files file facts there)) tells;
  }

pub paths_stay : (files : List NamedFacts) (file : ℕ) (facts : FileFacts) → map (λ f. f.path) (with_facts files file facts) ≡ map (λ f. f.path) files
paths_stay [] file facts = refl
paths_stay (x ∷ files) zero facts = refl
paths_stay (x ∷ files) (suc file) facts = ap (λ ps. x.path ∷ ps) (paths_stay files file facts)

pub not_false : (x : Bool) → not x ≡ false → x ≡ true
not_false true e = refl
not_false false e = sym e
