use Rattle.std.proofs.Common.{◌≡◌, ◌↔◌, ◌∷◌, [], List, ap, map, ◌∙◌, sym}
use Rattle.import_graph.specs.declared.imports.FileImports.{FileImports}
use Rattle.import_graph.specs.Imports.{targets}
use Rattle.import_graph.specs.Walks.{ReachedFrom}
use Rattle.import_graph.specs.FileSearches.{IsSeen}
use Rattle.import_graph.proofs.Views.{Within, imports_within, reaches_listed}
use Rattle.std.specs.Cmp.{both_ways}
use Rattle.import_graph.specs.Closures.{reaches}
use Rattle.import_graph.proofs.SeesTest.{reaches_is}
use Rattle.import_graph.proofs.graph.Graph.reaches.Goals as goal

pub reached-requires-clause-next : goal.reached-requires-clause-next
reached-requires-clause-next c =
    let listed : c.as_slice.result.now ≡ map targets c.args.self.now = c.as_slice.ensures.value ∙ (c.self.invariant.imports ∙ ap (λ (g : List FileImports). map targets g) c.self.view_is) in
    let within : Within c.args.self.now = rw c.self.view_is at c.self.invariant.within in
    rw listed (imports_within c.args.self.now within)

found_is : goal.returns-clause-exact
found_is c =
    let listed : c.as_slice.result.now ≡ map targets c.args.self.now = c.as_slice.ensures.value ∙ (c.self.invariant.imports ∙ ap (λ (g : List FileImports). map targets g) c.self.view_is) in
    let found : IsSeen c.in_ok-search.search c.args.to ↔ ReachedFrom (map targets c.args.self.now) (c.args.from ∷ []) c.args.to = rw listed at c.in_ok-search.ensures.exact c.args.to in
    let by = reaches_listed c.args.self.now c.args.from c.args.to in
    (λ e. by.0 (found.0 (sym c.has_seen.ensures ∙ e)), λ walk. c.has_seen.ensures ∙ found.1 (by.1 walk))

pub returns-clause-exact : goal.returns-clause-exact
returns-clause-exact c = found_is c

pub returns-clause-value : goal.returns-clause-value
returns-clause-value c =
    let within : Within c.args.self.now = rw c.self.view_is at c.self.invariant.within in
    let by = reaches_is c.args.self.now within c.args.from c.args.to in
    let is = found_is c in
    both_ways c.has_seen.result (reaches c.args.self.now c.args.from c.args.to) (λ e. by.1 (is.0 e)) (λ e. is.1 (by.0 e))
