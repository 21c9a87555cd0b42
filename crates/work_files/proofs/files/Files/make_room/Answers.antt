use Rattle.std.proofs.Common.{◌≡◌, None, ap, sym, subst, ◌∙◌}
use Rattle.work_files.specs.Files.{AreInPathOrder, empty_file, text_at, file_at, with_file}
use Rattle.work_files.specs.View.{file_view}
use Rattle.work_files.proofs.DocumentLemmas.{room_texts}
use Rattle.work_files.proofs.FilesLemmas.{none_of, either}
use Rattle.work_files.proofs.PathOrder.{with_file-order}
use Rattle.work_files.proofs.files.Files.make_room.Goals as goal

pub returns-clause-texts : goal.returns-clause-texts
returns-clause-texts c =
    let path = c.args.path.now in
    let old = c.args.self.now in
    let none : file_at path old ≡ None = none_of (λ f. file_view f.now) c.get.result (file_at path old) c.get.ensures (sym c.is_some.ensures ∙ c.if-is_some.false) in
    λ q. either c.put.result c.put.ensures.ok c.put.ensures.err
    (λ is. ap (text_at q) (is ∙ ap (λ p. with_file p empty_file old) c.in_ok-from_str.ensures.ok) ∙ room_texts path old none q)
    (λ is. ap (text_at q) is)

pub returns-clause-ordered : goal.returns-clause-ordered
returns-clause-ordered c = λ order. either c.put.result c.put.ensures.ok c.put.ensures.err
    (λ is. subst AreInPathOrder (sym is) (with_file-order _ empty_file c.args.self.now order))
    (λ is. subst AreInPathOrder (sym is) order)
