use Rattle.std.proofs.Common.{◌≡◌, ◌∙◌, [], ◌∷◌, Option, Some, ap, sym, subst, refl, string_bytes}
use Rattle.std.specs.Prelude.{IsSome}
use Rattle.work_files.specs.Files.{AreInPathOrder, file_at, opened_files}
use Rattle.work_space.specs.Kept.{IsKept}
use Rattle.piece_collector.specs.Board.{Records}
use Rattle.work_files.specs.Texts.{TextsChangeAt}
use Rattle.work_space.specs.BoardTexts.{text_event, event_at}
use Rattle.work_files.specs.View.{document_view}
use Rattle.work_space.specs.View.{WorkspaceData}
use Rattle.work_space.specs.declared.last_analysis.LastAnalysis.{LastAnalysis}
use Rattle.work_files.proofs.DocumentLemmas.{opened_in_room, there_is_room}
use Rattle.work_space.proofs.Keeps.{keeps, keeps_same}
use Rattle.work_files.proofs.PathOrder.{opened_files-order}
use Rattle.work_files.proofs.TextChanges.{own, texts_change}
use Rattle.work_space.proofs.workspace.Workspace.open.Goals as goal

pub invariant_of-self : goal.invariant_of-self
invariant_of-self c =
    let old = c.self.inside.files in
    let room = c.make_room.new.self in
    keeps_same c.self.inside.reads_others old room c.self.inside.board c.self.inside.known c.self.invariant (c.make_room.ensures.ordered c.self.invariant.ordered) c.make_room.ensures.texts

pub invariant_of-self-in_err-tell : goal.invariant_of-self-in_err-tell
invariant_of-self-in_err-tell c =
    let old = c.self.inside.files in
    let room = c.make_room.new.self in
    subst (λ b. IsKept room b c.self.inside.reads_others c.self.inside.known) (sym c.in_err-tell.ensures.err)
    (keeps_same c.self.inside.reads_others old room c.self.inside.board c.self.inside.known c.self.invariant (c.make_room.ensures.ordered c.self.invariant.ordered) c.make_room.ensures.texts)

pub open-requires : goal.open-requires
open-requires c =
    let path = c.args.path.now in
    let old = c.self.inside.files in
    subst (λ f. IsSome (file_at path f)) (sym c.in_ok-make_room.ensures.room) (there_is_room path old (file_at path old) refl)

pub invariant_of-self-2 : goal.invariant_of-self-2
invariant_of-self-2 c =
    let path = c.args.path.now in
    let uri = string_bytes c.args.uri in
    let document = document_view c.args.document in
    let old = c.self.inside.files in
    let new = c.open.new.self in
    let opened : new ≡ opened_files uri document path old = c.open.ensures ∙ ap (opened_files uri document path) c.in_ok-make_room.ensures.room ∙ opened_in_room uri document path old in
    let order : AreInPathOrder new = subst AreInPathOrder (sym opened) (opened_files-order uri document path old c.self.invariant.ordered) in
    let texts : TextsChangeAt path (Some document.text) old new = subst (λ f. TextsChangeAt path (Some document.text) old f) (sym opened) (texts_change.opened uri document path old) in
    let others = c.self.inside.reads_others in
    let kept : IsKept old c.self.inside.board others c.take.result = subst (λ (k : Option LastAnalysis). IsKept old c.self.inside.board others k) (sym c.take.ensures.value) c.self.invariant in
    keeps others path (Some document.text) old new c.self.inside.board c.tell.new.board c.take.result c.known_after.result kept order c.tell.ensures.here (rw c.in_ok-text.ensures at c.in_ok-tell.ensures.texts) texts (rw c.in_ok-own.ensures.ok at c.known_after.ensures)

pub returns-clause-files : goal.returns-clause-files
returns-clause-files c =
    let path = c.args.path.now in
    let uri = string_bytes c.args.uri in
    let document = document_view c.args.document in
    let old = c.self.inside.files in
    c.open.ensures ∙ ap (opened_files uri document path) c.in_ok-make_room.ensures.room ∙ opened_in_room uri document path old ∙ ap (λ w. opened_files uri document path w.files) c.self.view_is

pub returns-clause-board : goal.returns-clause-board
returns-clause-board c =
    let path = c.args.path.now in
    let uri = string_bytes c.args.uri in
    let document = document_view c.args.document in
    let old = c.self.inside.files in
    let new = c.open.new.self in
    let opened : new ≡ opened_files uri document path old = c.open.ensures ∙ ap (opened_files uri document path) c.in_ok-make_room.ensures.room ∙ opened_in_room uri document path old in
    let texts : TextsChangeAt path (Some document.text) old new = subst (λ f. TextsChangeAt path (Some document.text) old f) (sym opened) (texts_change.opened uri document path old) in
    let event : event_at path new ≡ text_event path (Some document.text) = ap (text_event path) (own path (Some document.text) old new texts) in
    subst (λ (w : WorkspaceData). Records w.board c.tell.new.board (event_at path new ∷ [])) c.self.view_is
    (subst (λ e. Records c.self.inside.board c.tell.new.board (e ∷ [])) (sym event) (rw c.in_ok-text.ensures at c.in_ok-tell.ensures.is_after))
