use Rattle.std.proofs.Common.{◌≡◌, map, get_or, true, false, refl, sym, arith}
use Rattle.std.proofs.lemmas.Grind.{common_steps}
use Rattle.std.specs.Cmp.{both_ways}
use Rattle.import_graph.specs.Closures.{reaches}
use Rattle.import_graph.specs.Components.{Descends}
use Rattle.import_graph.specs.Imports.{targets}
use Rattle.import_graph.specs.Ties.{IsTied}
use Rattle.import_graph.specs.Views.{Reaches}
use Rattle.import_graph.proofs.Descents.{apart}
use Rattle.import_graph.proofs.ImportEdges.{imports_listed, walk_map}
use Rattle.import_graph.proofs.SeesTest.{reaches_is}
use Rattle.import_graph.proofs.Views.{Within}
use Rattle.import_graph.proofs.graph.Graph.leads_back.Goals as goal

-- files of two numbers: no imports lead back
none_back : (c : goal.Then-index) → Reaches c.args.self.now c.args.target c.args.file → ⊥
none_back c =
    let descends : Descends (map targets c.args.self.now) c.self.inside.components.numbers.items = rw c.self.view_is at c.self.invariant.descends in
    let differ : get_or c.self.inside.components.numbers.items c.args.target 0 ≡ get_or c.self.inside.components.numbers.items c.args.file 0 → ⊥ = λ e. grind (arith, common_steps, e) in
    apart c.args.self.now c.self.inside.components.numbers.items descends c.args.file c.args.target c.requires.imported differ

pub returns-then-index-clause-exact : goal.returns-then-index-clause-exact
returns-then-index-clause-exact c = (λ bad. absurd (cc (bad)), λ back. absurd (none_back c back))

pub returns-then-index-clause-value : goal.returns-then-index-clause-value
returns-then-index-clause-value c =
    let within : Within c.args.self.now = rw c.self.view_is at c.self.invariant.within in
    let by = reaches_is c.args.self.now within c.args.target c.args.file in
    both_ways false (reaches c.args.self.now c.args.target c.args.file) (λ bad. absurd (cc (bad))) (λ e. absurd (none_back c (by.0 e)))

-- tied files of one number: imports lead back
back : (c : goal.Then-index-3) → Reaches c.args.self.now c.args.target c.args.file
back c =
    let tied : IsTied (map targets c.args.self.now) c.self.inside.components.numbers.items c.self.inside.components.tied.items = rw c.self.view_is at c.self.invariant.tied in
    let same : get_or c.self.inside.components.numbers.items c.args.target 0 ≡ get_or c.self.inside.components.numbers.items c.args.file 0 = grind (arith, common_steps) in
    let one : get_or c.self.inside.components.tied.items c.args.target false ≡ true = grind (arith, common_steps) in
    let other : get_or c.self.inside.components.tied.items c.args.file false ≡ true = grind (arith, common_steps) in
    walk_map (λ a b. (imports_listed c.args.self.now a b).0) (tied c.args.target c.args.file one other same)

pub returns-then-index-3-clause-exact : goal.returns-then-index-3-clause-exact
returns-then-index-3-clause-exact c = let walk = back c in (λ e. walk, λ by. refl)

pub returns-then-index-3-clause-value : goal.returns-then-index-3-clause-value
returns-then-index-3-clause-value c =
    let within : Within c.args.self.now = rw c.self.view_is at c.self.invariant.within in
    sym ((reaches_is c.args.self.now within c.args.target c.args.file).1 (back c))
