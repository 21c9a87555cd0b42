use Rattle.std.proofs.Common.{◌≡◌, ◌∙◌, ap, sym, subst}
use Rattle.work_files.specs.Files.{AreInPathOrder, text_at, saved_files}
use Rattle.work_files.proofs.DocumentLemmas.{kept_text}
use Rattle.work_space.proofs.Keeps.{keeps_same}
use Rattle.work_files.proofs.PathOrder.{saved_files-order}
use Rattle.work_files.proofs.TextChanges.{texts_change}
use Rattle.work_space.proofs.workspace.Workspace.save.Goals as goal

pub invariant_of-self : goal.invariant_of-self
invariant_of-self c =
    let path = c.args.path.now in
    let old = c.self.inside.files in
    let new = c.keep.new.self in
    let copy = sym c.in-Some.is ∙ c.in_ok-text.ensures in
    let saved : new ≡ saved_files path old = c.keep.ensures ∙ kept_text path old c.in-Some.text copy in
    keeps_same c.self.inside.reads_others old new c.self.inside.board c.self.inside.known c.self.invariant (subst AreInPathOrder (sym saved) (saved_files-order path old c.self.invariant.ordered)) (λ q. ap (text_at q) saved ∙ texts_change.saved path old q)
