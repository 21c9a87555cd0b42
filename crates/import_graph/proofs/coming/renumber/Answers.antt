use Rattle.std.proofs.Common.{◌≡◌, ap, ◌<◌, ℕ, length, get_or, arith}
use Rattle.std.proofs.lemmas.List.{set-get_or, get_or_default}
use Rattle.std.proofs.lemmas.List.Edits.{map_over_more}
use Rattle.import_graph.specs.Coming.{number_after}
use Rattle.import_graph.proofs.Renumbered.{before_it, behind_it, still_has}
use Rattle.import_graph.proofs.coming.renumber.Goals as goal
use Rattle.import_graph.proofs.coming.renumber.Goals.{then-at-file, else-at-file}

pub loop-place-preserved : goal.loop-place-preserved
loop-place-preserved c =
    let was = c.args.row.now in
    let now = c.loop-place.row in
    let place = c.loop-place.place in
    let one = get_or now place 0 in
    let after : ℕ → ℕ = number_after c.args.at in
    let within : place < length was = omega (arith, c.loop-place-test.true, c.len-place-end.ensures) in
    let there : place < length now = still_has after was now place within c.loop-place.invariant in
    let more = map_over_more after was now place one within c.loop-place.invariant (get_or_default now place 0 one there) in
    let read : get_or c.as_slice.result.now place 0 ≡ one = ap (λ xs. get_or xs place 0) c.as_slice.ensures in
    elim c.if-at-file.branch [
      | then-at-file w ↦
          let later = behind_it c.args.at one (omega (arith, w.if-at-file.true, read)) in
          cc (more, later, read, w.row-is, w.set.ensures)
      | else-at-file w ↦
          let earlier = before_it c.args.at one (omega (arith, w.if-at-file.false, read)) in
          cc (more, earlier, set-get_or now place 0, w.row-is)
    ]
