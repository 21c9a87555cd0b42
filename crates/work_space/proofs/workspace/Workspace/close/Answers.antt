use Rattle.std.proofs.Common.{◌≡◌, ◌∙◌, Option, Err, ap, sym, subst, true}
use Rattle.std.specs.Prelude.{IsSome}
use Rattle.work_files.specs.Files.{AreInPathOrder, closed_files, text_at}
use Rattle.work_space.specs.Kept.{IsKept}
use Rattle.piece_collector.specs.Board.{Records}
use Rattle.piece_collector.specs.declared.fault.BoardFault.TheVariants.{Exhausted}
use Rattle.work_files.specs.Texts.{TextsChangeAt, is_open}
use Rattle.work_space.specs.BoardTexts.{events_at}
use Rattle.work_space.specs.View.{WorkspaceData}
use Rattle.work_space.specs.declared.last_analysis.LastAnalysis.{LastAnalysis}
use Rattle.work_space.proofs.FirstEvents.{refused_with}
use Rattle.work_space.proofs.Keeps.{keeps, close-texts, some_open, event_open}
use Rattle.work_files.proofs.PathOrder.{closed_files-order}
use Rattle.work_files.proofs.TextChanges.{own}
use Rattle.work_space.proofs.workspace.Workspace.close.Goals as goal

pub invariant_of-self-2 : goal.invariant_of-self-2
invariant_of-self-2 c =
    let path = c.args.path.now in
    let old = c.self.inside.files in
    let new = c.close.new.self in
    let is_open_there : is_open path old ≡ true = sym c.is_open.ensures ∙ c.if-not-is_open.false in
    let open_there = some_open path old is_open_there in
    let t = c.in_ok-kept.kept in
    let order : AreInPathOrder new = subst AreInPathOrder (sym c.close.ensures) (closed_files-order path old c.self.invariant.ordered) in
    let at_once : TextsChangeAt path t old (closed_files path old) = subst (λ u. TextsChangeAt path u old (closed_files path old)) (sym c.in_ok-kept.ensures) (close-texts path old open_there.0 c.self.invariant.ordered open_there.1) in
    let texts : TextsChangeAt path t old new = subst (λ f. TextsChangeAt path t old f) (sym c.close.ensures) at_once in
    let others = c.self.inside.reads_others in
    let kept : IsKept old c.self.inside.board others c.take.result = subst (λ (k : Option LastAnalysis). IsKept old c.self.inside.board others k) (sym c.take.ensures.value) c.self.invariant in
    keeps others path t old new c.self.inside.board c.tell.new.board c.take.result c.known_after.result kept order c.tell.ensures.here c.in_ok-tell.ensures.texts texts
    (rw c.in_ok-own.ensures.ok at c.known_after.ensures)

pub returns-clause-board : goal.returns-clause-board
returns-clause-board c =
    let path = c.args.path.now in
    let old = c.self.inside.files in
    let new = c.close.new.self in
    let is_open_there : is_open path old ≡ true = sym c.is_open.ensures ∙ c.if-not-is_open.false in
    let open_there = some_open path old is_open_there in
    let t = c.in_ok-kept.kept in
    let at_once : TextsChangeAt path t old (closed_files path old) = subst (λ u. TextsChangeAt path u old (closed_files path old)) (sym c.in_ok-kept.ensures) (close-texts path old open_there.0 c.self.invariant.ordered open_there.1) in
    let texts : TextsChangeAt path t old new = subst (λ f. TextsChangeAt path t old f) (sym c.close.ensures) at_once in
    let event = event_open path old new t is_open_there (own path t old new texts) in
    subst (λ (w : WorkspaceData). Records w.board c.tell.new.board (events_at path w.files new)) c.self.view_is (subst (λ es. Records c.self.inside.board c.tell.new.board es) (sym event) c.in_ok-tell.ensures.is_after)

pub returns-in_err-tell-clause-needed : goal.returns-in_err-tell-clause-needed
returns-in_err-tell-clause-needed c = λ none.
    let path = c.args.path.now in
    let old = c.self.inside.files in
    let is = refused_with c.in_err-tell.field-0.0 Exhausted c.from_residual-in_err-tell.result c.from_residual-in_err-tell.ensures.1 none in
    let is_open_there : is_open path old ≡ true = sym c.is_open.ensures ∙ c.if-not-is_open.false in
    let open_there = some_open path old is_open_there in
    let text = own path _ old (closed_files path old) (close-texts path old open_there.0 c.self.invariant.ordered open_there.1) in
    let there : IsSome (text_at path (closed_files path old)) = subst IsSome (c.in_ok-kept.ensures ∙ sym text) (c.in_err-tell.ensures.needed (ap Err is)) in
    subst (λ (w : WorkspaceData). (is_open path w.files ≡ true) × IsSome (text_at path (closed_files path w.files))) c.self.view_is (is_open_there, there)
