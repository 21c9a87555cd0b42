use Rattle.std.proofs.Common.{◌≡◌, ℕ, List, Bool, Err, length, refl, ap, ap₂, subst, sym, ◌∙◌, map}
use Rattle.work_space.proofs.FirstEvents.{refused_with}
use Rattle.lsp_rpc.specs.ClientCapabilities.{default_client}
use Rattle.lsp_rpc.specs.Message.{message_view}
use Rattle.work_config.specs.Configuration.{files_of}
use Rattle.work_config.specs.Fault.{core_fault_of}
use Rattle.work_config.specs.declared.fault.CoreFault.TheVariants as core
use Rattle.work_files.specs.Files.{Files, from_disk, workspace}
use Rattle.work_space.specs.BoardTexts.{StampsRunOut, first_events}
use Rattle.piece_collector.specs.Board.{IsAfter}
use Rattle.lsp_core.specs.Session.{State, start}
use Rattle.lsp_core.specs.View.{state_of}
use Rattle.lsp_core.specs.declared.phase.Phase.TheVariants.{Uninitialized}
use Rattle.lsp_core.proofs.CoreLemmas.{session-none}
use Rattle.lsp_core.proofs.FaultLemmas.{of_board}
use Rattle.lsp_core.proofs.session_core.Core.counting_from.Goals as goal

pub returns-clause-is_after : goal.returns-clause-is_after
returns-clause-is_after c =
    let fresh : List (List ℕ) → Files → Bool → State = λ roots files reads_others. record { roots = roots; client = default_client; phase = Uninitialized; files = files; reads_others = reads_others } in
    let files : c.in_ok-workspace.workspace.files ≡ files_of c.args.config = c.in_ok-workspace.ensures.files ∙ ap from_disk c.in_ok-roots.ensures.files in
    let others : c.in_ok-workspace.workspace.reads_others ≡ c.args.config.reads_others = c.in_ok-workspace.ensures.others ∙ c.reads_others-reads_others.ensures in
    let begun : state_of c.new.result c.in_ok-workspace.workspace ≡ start c.args.config =
    c.new.ensures c.in_ok-workspace.workspace ∙ ap₂ (λ roots. fresh roots c.in_ok-workspace.workspace.files) c.in_ok-roots.ensures.roots others ∙ ap (λ fs. fresh c.args.config.roots fs c.args.config.reads_others) files in
    record {
      legal = tt;
      state = begun ∙ sym (ap (λ r. r.state) (session-none c.args.config));
      queue = ap (map message_view) c.new-2.ensures.items;
      pending = refl;
      board = subst (λ fs. IsAfter c.args.stamp c.in_ok-workspace.workspace.board (first_events (workspace fs))) files c.in_ok-workspace.ensures.board;
    }

pub returns-in_err-workspace-clause-exhausted : goal.returns-in_err-workspace-clause-exhausted
returns-in_err-workspace-clause-exhausted c = λ none.
    let fault = c.in_err-workspace.field-0.0 in
    let is = refused_with (core_fault_of fault) core.Exhausted c.from_residual-in_err-workspace.result c.from_residual-in_err-workspace.ensures.1 none in
    subst (λ files. StampsRunOut c.args.stamp (length (workspace (from_disk files)))) c.in_ok-roots.ensures.files (c.in_err-workspace.ensures.exhausted (ap Err (of_board fault is)))
