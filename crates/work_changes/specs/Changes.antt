-- Changes of the texts of files.
use Rattle.std.specs.Prelude.{◌≡◌, ◌≢◌, ◌<◌, ℕ, List, [], Bool, true, false, Some, All, Contains, length, map, slice_index_or, slice_set, IfSome, MatchOption, ⊤}
use Rattle.std.specs.List.{enumerate_from}
use Rattle.proto_tree.specs.Read.{value_tree}
use Rattle.proto_decls.specs.Facts.{facts_of}
use Rattle.proto_decls.specs.declared.named_facts.NamedFacts.{NamedFacts}
use Rattle.import_graph.specs.Closures.{seers_of}
use Rattle.import_graph.specs.Imports.{graph_of}
use Rattle.import_graph.specs.Outlooks.{outlook}
use Rattle.proto_resolve.specs.declared.resolve.Links.{Links}
use Rattle.proto_names.specs.Files.{facts_at}
use Rattle.proto_resolve.specs.Resolved.{resolved}
use Rattle.proto_names.specs.Outlines.{exports}
use Rattle.proto_resolve.specs.Seen.{SeesTheSame}
use Rattle.work_links.specs.declared.asked.Asked.{Asked}
use Rattle.work_links.specs.declared.renumbering.Renumbering.{Renumbering}
use Rattle.work_links.specs.declared.touched.Touched.{Touched}
use Rattle.work_links.specs.Asked.{may_ask}
use Rattle.work_links.specs.Touched.{decl_after, is_touched, links_after, Tells}
use Rattle.work_index.specs.declared.analysis.Resolutions.{Resolutions}
use Rattle.work_index.specs.Workspace.{Source, Workspace, all_facts, diagnostics_of, merged, no_file, resolution_of, source_facts}
use Rattle.work_changes.specs.declared.relinking.Effect.{Effect}
use Rattle.work_changes.specs.declared.relinking.Effect.TheVariants.{Stay, Move, Relink}
use Rattle.work_changes.specs.declared.relinking.Told.{Told}
use Rattle.work_changes.specs.declared.relinking.FileChange.{FileChange}
use Rattle.work_changes.specs.declared.relinking.Outdated.{Outdated}
use Rattle.work_changes.specs.declared.relinking.Relinking.{Relinking}

-- a workspace with other texts of these files: the paths stay, and so does each file that is none of these
pub record StaysBut (files : List ℕ) (old new : Workspace) : Type 0 where
  pub paths : map (λ f. f.0) old ≡ map (λ f. f.0) new
  pub others : (n : ℕ) → (Contains files n → ⊥) → slice_index_or old n no_file ≡ slice_index_or new n no_file

-- what was known of the workspace before changes of the texts of these files, and is kept
pub record WasKnown (o : Outdated) (w : Workspace) (files : List ℕ) : Type 0 where
  pub old : Workspace
  pub stays : StaysBut files old w
  pub within : All (λ f. f < length w) files
  pub table : o.table ≡ all_facts old
  pub links : o.resolutions.links.items ≡ map (resolution_of old) (enumerate_from 0 old)
  pub diagnostics : o.resolutions.diagnostics.items ≡ map (diagnostics_of old) (enumerate_from 0 old)

-- ---- a change of one file

-- The files differ by the change: there are as many; a graph that is kept is that of the old files, and where none is kept theirs
-- is that of the new ones too; the facts of other files are the same; seers that are kept are the files that see the changed
-- one, and if what the change touches is kept with them, it is that; where no seers are kept it says the same to those.
pub record DifferAt (old new : List NamedFacts) (change : FileChange) : Type 0 where
  pub files : length old ≡ length new
  pub graph : MatchOption change.before (graph_of old ≡ graph_of new) (λ before. before ≡ graph_of old)
  pub others : (g : ℕ) → g ≢ change.file → facts_at old g ≡ facts_at new g
  pub told : MatchOption change.told (exports (facts_at old change.file) ≡ exports (facts_at new change.file)) (λ told.
      (told.seers.items ≡ seers_of (graph_of new) change.file) × IfSome told.touched (Tells change.file (facts_at old change.file) (facts_at new change.file)))

-- it is kept what is touched, and none of it may be asked for
pub record IsSpared (told : Told) (asked : Asked) (by : Renumbering) : Type 0 where
  pub touched : Touched
  pub kept : told.touched ≡ Some touched
  pub by_is : touched.by ≡ by
  pub untouched : (name : List ℕ) → may_ask asked name ≡ true → is_touched touched name ≡ false

-- another file, of which the imports say the same, and which is spared by what the changed one tells
pub record IsMoved (old new : List NamedFacts) (change : FileChange) (f : ℕ) (asked : Asked) (by : Renumbering) : Type 0 where
  pub other : f ≢ change.file
  pub imports : outlook (graph_of old) f ≡ outlook (graph_of new) f
  pub touched : Touched
  pub by_is : touched.by ≡ by
  pub tells : Tells change.file (facts_at old change.file) (facts_at new change.file) touched
  pub untouched : (name : List ℕ) → may_ask asked name ≡ true → is_touched touched name ≡ false

-- why an effect on the links of a file is right: to link it again always is
abbrev pub Follows : List NamedFacts → List NamedFacts → FileChange → ℕ → Asked → Effect → Type 0
Follows old new change f asked Stay = (f ≢ change.file) × SeesTheSame old new f
Follows old new change f asked (Move by) = IsMoved old new change f asked by
Follows old new change f asked Relink = ⊤

-- ---- links while changes are taken one after the other

abbrev pub no_links : Links
no_links = record { uses = []; diags = [] }

-- the text of a file, with the choice how it is read
abbrev pub file_source : Workspace → ℕ → Source
file_source w n = let file = slice_index_or w n no_file in file.1

-- the links of all files after an effect on those of one, and which files wait then
abbrev pub links_under : Effect → ℕ → List Links → List Links
links_under Stay f links = links
links_under (Move by) f links = slice_set links f (links_after (decl_after by) (slice_index_or links f no_links))
links_under Relink f links = links

abbrev pub waiting_under : Effect → ℕ → List Bool → List Bool
waiting_under Stay f waiting = waiting
waiting_under (Move by) f waiting = waiting
waiting_under Relink f waiting = slice_set waiting f true

-- whether a file waits to be linked again
abbrev pub waits : Relinking → ℕ → Bool
waits now n = slice_index_or now.waiting.items n true

-- the links and the diagnostics of a file are those that its text has where these are all files
pub record IsLinked (files : List NamedFacts) (n : ℕ) (s : Source) (found : Resolutions) : Type 0 where
  pub links : slice_index_or found.links.items n no_links ≡ resolved files n s.text (value_tree s.text)
  pub diagnostics : slice_index_or found.diagnostics.items n [] ≡ merged (facts_of s.text) (resolved files n s.text (value_tree s.text))

-- there is a place for each of so many files
pub record HasPlaces (count : ℕ) (now : Relinking) : Type 0 where
  pub links : length now.resolutions.links.items ≡ count
  pub diagnostics : length now.resolutions.diagnostics.items ≡ count
  pub waiting : length now.waiting.items ≡ count

-- each file that doesn't wait has the facts of its text, and the links that it has where these are all files
pub record AreLinked (files : List NamedFacts) (w : Workspace) (now : Relinking) : Type 0 where
  pub count : length files ≡ length w
  pub places : HasPlaces (length w) now
  pub own : (n : ℕ) → waits now n ≡ false → facts_at files n ≡ source_facts (file_source w n)
  pub linked : (n : ℕ) → waits now n ≡ false → IsLinked files n (file_source w n) now.resolutions

-- each file that doesn't wait is linked as it was before a change; the changed file waits
pub record AreLinkedBefore (new : List NamedFacts) (change : FileChange) (w : Workspace) (now : Relinking) : Type 0 where
  pub old : List NamedFacts
  pub linked : AreLinked old w now
  pub waits : waits now change.file ≡ true
  pub differ : DifferAt old new change

-- files that waited still wait
abbrev pub StillWait : Relinking → Relinking → Type 0
StillWait before now = (n : ℕ) → waits before n ≡ true → waits now n ≡ true

-- All changes but those of these files are taken: the other files have the facts that they have in the workspace. Each of these
-- waits.
pub record AreTakenBut (rest : List ℕ) (files : List NamedFacts) (w : Workspace) (now : Relinking) : Type 0 where
  pub paths : map (λ f. f.path) files ≡ map (λ f. f.0) w
  pub others : (n : ℕ) → n < length w → (Contains rest n → ⊥) → facts_at files n ≡ facts_at (all_facts w) n
  pub linked : AreLinked files w now
  pub wait : All (λ f. (f < length w) × (waits now f ≡ true)) rest

-- ---- the files that are kept

-- there are as many files as in the workspace, and others than these are the same
pub record AreKeptBut (rest : List ℕ) (kept w : Workspace) : Type 0 where
  pub count : length kept ≡ length w
  pub others : (n : ℕ) → (Contains rest n → ⊥) → slice_index_or kept n no_file ≡ slice_index_or w n no_file
