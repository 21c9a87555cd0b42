-- The workspace of files, and of a board that has their texts.
use Rattle.std.proofs.Common.{◌≡◌, ℕ, List, [], ◌∷◌, Bool, true, false, cond, Some, option_map, refl, sym, ap, ◌∙◌}
use Rattle.std.specs.Prelude.{bytes_eq}
use Rattle.std.specs.Map.{lookup}
use Rattle.piece_collector.specs.Views.{BoardView}
use Rattle.work_index.specs.Workspace.{sources_of}
use Rattle.work_update.specs.Updates.{IsWorkspaceOf, sources_by_path}
use Rattle.work_update.proofs.ByPath.{sources-ascend}
use Rattle.work_update.proofs.Updates.{read_as}
use Rattle.work_files.specs.Files.{Files, text_at, workspace, AreInPathOrder}
use Rattle.work_space.specs.BoardTexts.{HoldsTexts}
use Rattle.work_space.specs.Kept.{source_at}
use Rattle.work_files.proofs.PathOrder.{order-apart}
use Rattle.work_files.proofs.WorkspaceOrder.{Texts, ascend-texts}
use Rattle.work_files.proofs.TextChanges.{same_test}
use Rattle.work_files.proofs.WorkspaceLemmas.{text_of_workspace}

-- the text at a path is that of the workspace there
pub text_in_workspace : (files : Files) → AreInPathOrder files → (q : List ℕ) → lookup (bytes_eq q) (workspace files) ≡ text_at q files
text_in_workspace files order q = ap (λ t. lookup t (workspace files)) (sym (same_test q)) ∙ text_of_workspace q files (order-apart files order)

-- what stands at a path among sources is the text there, with the choice
source-among : (reads_others : Bool) (texts : Texts) (q : List ℕ) → sources_by_path (sources_of reads_others texts) q ≡ option_map (read_as reads_others) (lookup (bytes_eq q) texts)
source-among reads_others [] q = refl
source-among reads_others (f ∷ texts) q = by (bytes_eq q f.0) (source-among reads_others texts q)
  where
    by : (b : Bool) → sources_by_path (sources_of reads_others texts) q ≡ option_map (read_as reads_others) (lookup (bytes_eq q) texts)
        → cond b (Some (read_as reads_others f.1)) (sources_by_path (sources_of reads_others texts) q) ≡ option_map (read_as reads_others) (cond b (Some f.1) (lookup (bytes_eq q) texts))
    by true rest = refl
    by false rest = rest

pub source_in_workspace : (reads_others : Bool) (files : Files) → AreInPathOrder files → (q : List ℕ) → sources_by_path (sources_of reads_others (workspace files)) q ≡ source_at reads_others files q
source_in_workspace reads_others files order q = source-among reads_others (workspace files) q ∙ ap (option_map (read_as reads_others)) (text_in_workspace files order q)

-- the workspace of files is that of a board that has their texts
pub workspace_of_board : (reads_others : Bool) (files : Files) (board : BoardView) → AreInPathOrder files → HoldsTexts files board → IsWorkspaceOf reads_others board (sources_of reads_others (workspace files))
workspace_of_board reads_others files board order holds = record {
  ordered = sources-ascend reads_others (workspace files) (ascend-texts files order);
  sources = λ q. source_in_workspace reads_others files order q ∙ ap (option_map (read_as reads_others)) (sym (holds q));
}
