use Rattle.std.proofs.Common.{◌∙◌, ℕ, List, map, ap}
use Rattle.std.specs.Prelude.{bytes_eq, position}
use Rattle.work_index.specs.Workspace.{Workspace}
use Rattle.work_index.proofs.OfAnalysis.{paths_are}
use Rattle.work_index.proofs.snapshot.Snapshot.number_of.Goals as goal

pub returns : goal.returns
returns c =
    let path = c.args.path.now in
    c.number_of.ensures ∙ ap (λ (ps : List (List ℕ)). position (λ p. bytes_eq p path) ps) (paths_are c.self.inside.analysis.now c.self.invariant ∙ ap (λ (w : Workspace). map (λ f. f.0) w) c.self.view_is)
