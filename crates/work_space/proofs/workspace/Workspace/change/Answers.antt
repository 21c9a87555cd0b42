use Rattle.std.proofs.Common.{◌≡◌, ◌∙◌, Option, Some, option_map, ap, sym, subst, true, map}
use Rattle.doc_text.specs.Edits.{change_view}
use Rattle.work_files.specs.Files.{AreInPathOrder}
use Rattle.work_space.specs.Kept.{IsKept}
use Rattle.piece_collector.specs.Board.{Records}
use Rattle.work_files.specs.Texts.{TextsChangeAt, is_open}
use Rattle.work_space.specs.BoardTexts.{events_at}
use Rattle.work_files.specs.View.{document_view}
use Rattle.work_space.specs.View.{WorkspaceData}
use Rattle.work_space.specs.declared.last_analysis.LastAnalysis.{LastAnalysis}
use Rattle.work_files.proofs.DocumentLemmas.{changed_text}
use Rattle.work_space.proofs.Keeps.{keeps, document-texts, some_open, event_open}
use Rattle.work_files.proofs.PathOrder.{changed_files-order}
use Rattle.work_files.proofs.TextChanges.{own}
use Rattle.work_space.proofs.workspace.Workspace.change.Goals as goal

pub invariant_of-self-2 : goal.invariant_of-self-2
invariant_of-self-2 c =
    let path = c.args.path.now in
    let old = c.self.inside.files in
    let new = c.set_document.new.self in
    let version = c.args.edits.version in
    let encoding = c.args.edits.encoding in
    let changes = map change_view c.args.edits.changes.items in
    let document = document_view c.in-Some.document in
    let text = document.text in
    let both = changed_text path old version encoding changes document (ap (option_map document_view) (sym c.in-Some.is) ∙ c.in_ok-document.ensures) in
    let open_there = some_open path old both.0 in
    let order : AreInPathOrder new = subst AreInPathOrder (sym (c.set_document.ensures ∙ both.1)) (changed_files-order version encoding changes path old c.self.invariant.ordered) in
    let texts : TextsChangeAt path (Some text) old new = subst (λ f. TextsChangeAt path (Some text) old f) (sym c.set_document.ensures) (document-texts path document old open_there.0 open_there.1) in
    let others = c.self.inside.reads_others in
    let kept : IsKept old c.self.inside.board others c.take.result = subst (λ (k : Option LastAnalysis). IsKept old c.self.inside.board others k) (sym c.take.ensures.value) c.self.invariant in
    keeps others path (Some text) old new c.self.inside.board c.tell.new.board c.take.result c.known_after.result kept order c.tell.ensures.here (rw c.in_ok-text.ensures at c.in_ok-tell.ensures.texts) texts (rw c.in_ok-own.ensures.ok at c.known_after.ensures)

pub returns-clause-board : goal.returns-clause-board
returns-clause-board c =
    let path = c.args.path.now in
    let old = c.self.inside.files in
    let new = c.set_document.new.self in
    let version = c.args.edits.version in
    let encoding = c.args.edits.encoding in
    let changes = map change_view c.args.edits.changes.items in
    let document = document_view c.in-Some.document in
    let text = document.text in
    let both = changed_text path old version encoding changes document (ap (option_map document_view) (sym c.in-Some.is) ∙ c.in_ok-document.ensures) in
    let open_there = some_open path old both.0 in
    let texts : TextsChangeAt path (Some text) old new = subst (λ f. TextsChangeAt path (Some text) old f) (sym c.set_document.ensures) (document-texts path document old open_there.0 open_there.1) in
    let event = event_open path old new (Some text) both.0 (own path (Some text) old new texts) in
    subst (λ (w : WorkspaceData). Records w.board c.tell.new.board (events_at path w.files new)) c.self.view_is
    (subst (λ es. Records c.self.inside.board c.tell.new.board es) (sym event) (rw c.in_ok-text.ensures at c.in_ok-tell.ensures.is_after))

pub returns-in_err-tell-clause-needed : goal.returns-in_err-tell-clause-needed
returns-in_err-tell-clause-needed c = λ none.
    let path = c.args.path.now in
    let changes = map change_view c.args.edits.changes.items in
    let both = changed_text path c.self.inside.files c.args.edits.version c.args.edits.encoding changes (document_view c.in-Some.document) (ap (option_map document_view) (sym c.in-Some.is) ∙ c.in_ok-document.ensures) in
    subst (λ (w : WorkspaceData). is_open path w.files ≡ true) c.self.view_is both.0
