use Rattle.std.proofs.Common.{◌≡◌, None, Some}
use Rattle.import_graph.specs.Moves.{place}
use Rattle.work_update.specs.Stayed.{WasGraph}
use Rattle.work_update.proofs.update_files.number_if_moved.Goals as goal

pub returns-in_default-earlier-2 : goal.returns-in_default-earlier-2
returns-in_default-earlier-2 c = λ old new same was.
    let moves : place c.args.to.now c.in-Some.old ≡ Some c.args.file = rw c.in-Some.is at c.requires.before in
    let kept : WasGraph None old new c.args.to.now = rw c.in_default-earlier.is at was in
    kept c.in-Some.old c.args.file moves
