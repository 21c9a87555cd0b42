-- One file that came to a workspace, or left it, while all others stayed.
use Rattle.std.specs.Prelude.{◌≡◌, ◌<◌, ◌≤◌, ◌+◌, ℕ, List, Option, Some, length, ⊤}
use Rattle.proto_decls.specs.declared.named_facts.NamedFacts.{NamedFacts}
use Rattle.import_graph.specs.Moves.{place}
use Rattle.work_index.specs.Workspace.{Workspace, all_facts}
use Rattle.work_update.specs.declared.update_table.FilesMove.{FilesMove}
use Rattle.work_update.specs.declared.update_table.FilesMove.TheVariants.{Came, Left, Other}
use Rattle.work_update.specs.Stayed.{Stay}

-- one more file came, which has the number k: those before it kept their numbers, and those from there on got one more
pub record HasCome (to : List (Option ℕ)) (before now k : ℕ) : Type 0 where
  pub files : before ≡ length to
  pub count : now ≡ before + 1
  pub within : k ≤ before
  pub front : (g : ℕ) → g < k → place to g ≡ Some g
  pub behind : (g : ℕ) → k ≤ g → g < before → place to g ≡ Some (g + 1)

-- one file left, which had the number k: those before it kept their numbers, and those behind it got one less
pub record HasLeft (to : List (Option ℕ)) (before now k : ℕ) : Type 0 where
  pub files : before ≡ length to
  pub count : before ≡ now + 1
  pub within : k < before
  pub front : (g : ℕ) → g < k → place to g ≡ Some g
  pub behind : (g : ℕ) → k ≤ g → g < now → place to (g + 1) ≡ Some g

-- what is said of the files is so: so many were there before, and so many are there now
abbrev pub Tells : List (Option ℕ) → ℕ → ℕ → FilesMove → Type 0
Tells to before now (Came k) = HasCome to before now k
Tells to before now (Left k) = HasLeft to before now k
Tells to before now Other = ⊤

-- the table is that of a workspace of which the files that have a number stayed as they were
pub record IsTableBefore (table : List NamedFacts) (w : Workspace) (to : List (Option ℕ)) : Type 0 where
  pub old : Workspace
  pub is : table ≡ all_facts old
  pub stayed : Stay old w to
