use Rattle.std.proofs.Common.{◌↔◌, ℕ}
use Rattle.std.proofs.lemmas.Result.{IfOk-weaker}
use Rattle.import_graph.specs.Condensed.{LeadsToOne}
use Rattle.import_graph.specs.FileSearches.{IsSeen}
use Rattle.import_graph.specs.Walks.{ReachedFrom}
use Rattle.import_graph.proofs.Turns.{turned_leads}
use Rattle.import_graph.proofs.seen_by.leading_to.Goals as goal

pub returns-clause-exact : goal.returns-clause-exact
returns-clause-exact c =
    IfOk-weaker c.reached.result
    (λ s. (g : ℕ) → IsSeen s g ↔ ReachedFrom c.as_slice.result.now c.args.files.now g)
    (λ s. (g : ℕ) → IsSeen s g ↔ LeadsToOne c.args.steps.now c.args.files.now g)
    (λ s exact g.
    let by = turned_leads c.args.steps.now c.in_ok-turned.turned.items c.in_ok-turned.ensures.turned c.args.files.now g in
    let found : IsSeen s g ↔ ReachedFrom c.in_ok-turned.turned.items c.args.files.now g = rw c.as_slice.ensures.value at exact g in
    (λ seen. by.0 (found.0 seen), λ walk. found.1 (by.1 walk)))
    c.reached.ensures.exact
