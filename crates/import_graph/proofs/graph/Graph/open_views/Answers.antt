use Rattle.std.proofs.Common.{◌≡◌, ◌↔◌, ℕ, arith}
use Rattle.std.specs.Prelude.{Contains}
use Rattle.import_graph.specs.Closures.{incomplete_files, open_views}
use Rattle.import_graph.specs.Views.{SeesOne}
use Rattle.std.proofs.lemmas.Bool.Decides.{nat_tests}
use Rattle.import_graph.proofs.OpenViews.{incomplete_within, open_within, open_is, none_open}
use Rattle.import_graph.proofs.Views.{Within}
use Rattle.import_graph.proofs.graph.Graph.open_views.Goals as goal

pub seers-requires : goal.seers-requires
seers-requires c = rw (c.as_slice.ensures.value, c.in_ok-incomplete.ensures) (incomplete_within c.args.self.now)

none : (c : goal.Then-is_empty) → c.in_ok-incomplete.incomplete.items ≡ open_views c.args.self.now
none c =
    let within : Within c.args.self.now = rw c.self.view_is at c.self.invariant.within in
    none_open c.args.self.now within c.in_ok-incomplete.incomplete.items c.in_ok-incomplete.ensures (grind (arith, c.is_empty.ensures, c.if-is_empty.true, nat_tests))

pub returns-then-is_empty-clause-value : goal.returns-then-is_empty-clause-value
returns-then-is_empty-clause-value c = none c

pub returns-then-is_empty-clause-within : goal.returns-then-is_empty-clause-within
returns-then-is_empty-clause-within c = rw (none c) (open_within c.args.self.now)

pub returns-clause-value : goal.returns-clause-value
returns-clause-value c =
    let within : Within c.args.self.now = rw c.self.view_is at c.self.invariant.within in
    let exact : (g : ℕ) → Contains c.in_ok-seers.seers.items g ↔ SeesOne c.args.self.now (incomplete_files c.args.self.now) g = rw (c.as_slice.ensures.value, c.in_ok-incomplete.ensures) at c.in_ok-seers.ensures.exact in
    open_is c.args.self.now within c.in_ok-seers.seers.items c.in_ok-seers.ensures.ascending exact

pub returns-clause-within : goal.returns-clause-within
returns-clause-within c = rw (returns-clause-value c) (open_within c.args.self.now)
