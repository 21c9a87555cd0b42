use Rattle.std.proofs.Common.{List, ◌∙◌, String, ap, get_or, map, string_bytes, refl, subst, take_all}
use Rattle.std.specs.Prelude.{All}
use Rattle.std.specs.declared.alloc.Global.{Global}
use Rattle.work_update.specs.Updates.{HasStayed}
use Rattle.work_update.proofs.Updates.{one_more_stays, piece_paths}
use Rattle.work_update.proofs.update.have_stayed.Goals as goal

pub loop-path-preserved : goal.loop-path-preserved
loop-path-preserved c =
    let ps = c.args.earlier.now.paths in
    let now = piece_paths c.args.pieces.now in
    let changes : List (String Global) = c.args.changes.now in
    let k = c.loop-path.path-index in
    let here : HasStayed ps now (string_bytes (get_or changes k c.path-item.result)) = subst (HasStayed ps now) (c.as_str.ensures.value ∙ ap string_bytes c.path-item.is) (c.if-not-has_stayed.ensures refl) in
    one_more_stays ps now changes k c.path-item.result c.loop-path-test.true c.loop-path.invariant here

pub returns : goal.returns
returns c = λ yes.
    subst (λ (changes : List (String Global)). All (HasStayed c.args.earlier.now.paths (piece_paths c.args.pieces.now)) (map string_bytes changes)) (take_all c.loop-path.path-index c.args.changes.now c.loop-path-test.false) c.loop-path.invariant
