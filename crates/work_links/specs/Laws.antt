-- Laws of what a change of declarations, or of the numbers of files, leaves as it was.
use Rattle.std.specs.Prelude.{◌≡◌, ◌≢◌, ℕ, ◌<◌, ◌==◌, ◌||◌, List, true, false, Option, Some, All, filter, length, map}
use Rattle.std.specs.Option.{unwrap_or}
use Rattle.proto_tree.specs.declared.node.FileTree.{FileTree}
use Rattle.proto_decls.specs.declared.fact.DeclKind.{DeclKind}
use Rattle.proto_decls.specs.declared.named_facts.NamedFacts.{NamedFacts}
use Rattle.import_graph.specs.Closures.{view_of}
use Rattle.import_graph.specs.Imports.{graph_of}
use Rattle.import_graph.specs.Moves.{IsMovedOutlook, place}
use Rattle.import_graph.specs.Outlooks.{outlook}
use Rattle.proto_names.specs.declared.decl_ref.DeclRef.{DeclRef}
use Rattle.proto_names.specs.Files.{all_named, decls_at, facts_at, is_seen, kind_at}
use Rattle.proto_names.specs.Outlines.{package_name}
use Rattle.proto_resolve.specs.Resolved.{resolved, sites_at}
use Rattle.work_links.specs.declared.asked.Asked.{Asked}
use Rattle.work_links.specs.declared.touched.Touched.{Touched}
use Rattle.work_links.specs.Asked.{has_all, may_ask, names_asked}
use Rattle.work_links.specs.Touched.{decl_after, is_touched, links_after, Tells}

-- the declarations of a full name that f sees, its own among them, each with its kind
abbrev pub seen_named : List NamedFacts → ℕ → List ℕ → List ℕ → List (DeclRef × DeclKind)
seen_named files f view name = map (λ r. (r, kind_at files r)) (filter (λ r. (r.file == f) || is_seen view r.file) (all_named files name))

-- The imports say the same of f, f says the same by itself, the files that it sees have packages of the same names, and of each of
-- these names it sees the same declarations, but for what `move` makes of them.
pub record AsksTheSame (old new : List NamedFacts) (f : ℕ) (move : DeclRef → DeclRef) (names : List (List ℕ)) : Type 0 where
  pub imports : outlook (graph_of old) f ≡ outlook (graph_of new) f
  pub own : facts_at old f ≡ facts_at new f
  pub packages : All (λ g. package_name (facts_at old g) ≡ package_name (facts_at new g)) (view_of (graph_of new) f)
  pub named : All (λ name. seen_named new f (view_of (graph_of new) f) name ≡ map (λ e. (move e.0, e.1)) (seen_named old f (view_of (graph_of new) f) name)) names

-- What is known of a file by what it sees depends on what the imports say of it, its own facts, the names of the packages that it
-- sees, and the declarations of the full names for which it asks. Where only the numbers of these change (`move` keeps their files),
-- only these change in what is known.
abbrev pub AskedLaw : Type 0
AskedLaw = (old new : List NamedFacts) (f : ℕ) (move : DeclRef → DeclRef) (text : List ℕ) (tree : FileTree)
    → ((r : DeclRef) → (let s = move r in s.file) ≡ r.file) → AsksTheSame old new f move (names_asked (sites_at new f text tree) (decls_at new f))
    → resolved new f text tree ≡ links_after move (resolved old f text tree)

-- two lists of files that differ by the declarations of one file, of which it is known what is touched
pub record DifferBy (old new : List NamedFacts) (touched : Touched) : Type 0 where
  pub files : length old ≡ length new
  pub others : (g : ℕ) → g ≢ (let by = touched.by in by.file) → facts_at old g ≡ facts_at new g
  pub tells : (let by = touched.by in Tells by.file (facts_at old by.file) (facts_at new by.file) touched)

-- another file that asks for no touched name is linked as before, but for the numbers
abbrev pub TouchedLaw : Type 0
TouchedLaw = (old new : List NamedFacts) (touched : Touched) (f : ℕ) (asked : Asked) (text : List ℕ) (tree : FileTree)
    → f ≢ (let by = touched.by in by.file) → DifferBy old new touched → outlook (graph_of old) f ≡ outlook (graph_of new) f
    → has_all asked (names_asked (sites_at new f text tree) (decls_at new f)) ≡ true
    → ((name : List ℕ) → may_ask asked name ≡ true → is_touched touched name ≡ false)
    → resolved new f text tree ≡ links_after (decl_after touched.by) (resolved old f text tree)

-- the same declaration where files have other numbers; that of a file that left stays
abbrev pub decl_moved : List (Option ℕ) → DeclRef → DeclRef
decl_moved to r = record { file = unwrap_or (place to r.file) r.file; number = r.number }

-- The file f has the number f' among the new files, the imports say the same of it under the new numbers, and each file that it sees,
-- itself among them, has the facts that it had.
pub record MovesAlike (old new : List NamedFacts) (f f' : ℕ) (to : List (Option ℕ)) : Type 0 where
  pub there : f < length old
  pub moves : place to f ≡ Some f'
  pub imports : IsMovedOutlook to (outlook (graph_of old) f) (outlook (graph_of new) f')
  pub facts : All (λ g. (g' : ℕ) → place to g ≡ Some g' → facts_at new g' ≡ facts_at old g) (view_of (graph_of old) f)

-- a file that sees the same files under other numbers is linked as before, but for the numbers of files
abbrev pub MovedLaw : Type 0
MovedLaw = (old new : List NamedFacts) (f f' : ℕ) (to : List (Option ℕ)) (text : List ℕ) (tree : FileTree) → MovesAlike old new f f' to
    → resolved new f' text tree ≡ links_after (decl_moved to) (resolved old f text tree)
