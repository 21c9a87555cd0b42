use Rattle.std.proofs.Common.{◌≡◌, ◌∙◌, ap, map}
use Rattle.std.proofs.lemmas.List.{take_all}
use Rattle.import_graph.specs.Condensed.{representative}
use Rattle.import_graph.proofs.shared.first_files.Goals as goal

pub returns : goal.returns
returns c = λ h.
    let whole : c.loop-target.found.items ≡ map (representative c.args.representatives.now) c.args.targets.now =
    c.loop-target.invariant ∙ ap (map (representative c.args.representatives.now)) (take_all c.loop-target.target-index c.args.targets.now c.loop-target-test.false) in
    rw c.from_vec.ensures (rw whole at (c.ascending.ensures.exact h))
