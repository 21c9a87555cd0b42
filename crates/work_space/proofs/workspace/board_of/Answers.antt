use Rattle.std.proofs.Common.{◌≡◌, Err, ◌++◌, [], ◌∷◌, length, rules, ap, subst}
use Rattle.piece_collector.specs.declared.fault.BoardFault.TheVariants.{Exhausted}
use Rattle.piece_collector.specs.Board.{IsAfter}
use Rattle.work_files.specs.Files.{AreInPathOrder, workspace}
use Rattle.work_space.specs.BoardTexts.{StampsRunOut, first_events}
use Rattle.work_files.specs.View.{entry_view, file_view, files_view}
use Rattle.work_space.proofs.FirstEvents.{HasSet, set_more, set_all, set_refused, first_texts, refused_with}
use Rattle.work_files.proofs.MapOrder.{in_path_order}
use Rattle.work_space.proofs.workspace.board_of.Goals as goal

pub returns-clause-is_after : goal.returns-clause-is_after
returns-clause-is_after c =
    let done : c.loop-path.path-iterator ≡ [] = search rules in
    set_all c.args.stamp c.loop-path.board (files_view c.loop-path.path-iterator) c.args.files.now c.loop-path.invariant.set (ap files_view done)

pub returns-clause-texts : goal.returns-clause-texts
returns-clause-texts c =
    let done : c.loop-path.path-iterator ≡ [] = search rules in
    let all = c.args.files.now in
    first_texts c.texts_of_events.ensures c.args.stamp c.loop-path.board all (subst AreInPathOrder c.by_path.ensures (in_path_order c.by_path.result.now.entries c.iter-path-items.ensures.ordered))
    (set_all c.args.stamp c.loop-path.board (files_view c.loop-path.path-iterator) all c.loop-path.invariant.set (ap files_view done))

pub loop-path-preserved : goal.loop-path-preserved
loop-path-preserved c =
    let stamp = c.args.stamp in
    let all = c.args.files.now in
    let file = c.in-Some.file.now in
    let step : c.loop-path.path-iterator ≡ (c.in-Some.path.now, file) ∷ c.next.new.self = search rules in
    let before : HasSet stamp c.loop-path.board (entry_view (c.in-Some.path.now, file) ∷ files_view c.next.new.self) all = subst (λ es. HasSet stamp c.loop-path.board (files_view es) all) step c.loop-path.invariant.set in
    record {
      here = c.set_first.ensures.here;
      set = set_more stamp c.loop-path.board c.set_first.new.board (entry_view (c.in-Some.path.now, file)) (files_view c.next.new.self) all before
          (λ events after. subst (λ p. IsAfter stamp c.set_first.new.board (first_events (workspace ((p, file_view file) ∷ [])) ++ events)) c.as_str.ensures.value (c.in_ok-set_first.ensures.is_after stamp events after));
    }

pub returns-in_err-set_first-clause-exhausted : goal.returns-in_err-set_first-clause-exhausted
returns-in_err-set_first-clause-exhausted c = λ none.
    let stamp = c.args.stamp in
    let all = c.args.files.now in
    let file = c.in-Some.file.now in
    let last = c.loop-path.board.last in
    let step : c.loop-path.path-iterator ≡ (c.in-Some.path.now, file) ∷ c.next.new.self = search rules in
    let before : HasSet stamp c.loop-path.board (entry_view (c.in-Some.path.now, file) ∷ files_view c.next.new.self) all = subst (λ es. HasSet stamp c.loop-path.board (files_view es) all) step c.loop-path.invariant.set in
    set_refused stamp c.loop-path.board (entry_view (c.in-Some.path.now, file)) (files_view c.next.new.self) all before
    (subst (λ path. StampsRunOut last (length (workspace ((path, file_view file) ∷ [])))) c.as_str.ensures.value (c.in_err-set_first.ensures.exhausted (ap Err (refused_with c.in_err-set_first.field-0.0 Exhausted c.from_residual.result c.from_residual.ensures.1 none))))
