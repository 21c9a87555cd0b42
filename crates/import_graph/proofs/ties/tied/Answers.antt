use Rattle.std.proofs.Common.{◌≡◌, ◌↔◌, ℕ, length, get_or, false, true, arith}
use Rattle.std.proofs.lemmas.Result.{IfOk-weaker}
use Rattle.import_graph.specs.FileSearches.{IsSeen}
use Rattle.import_graph.specs.Walks.{ReachedFrom}
use Rattle.import_graph.specs.Ties.{IsInner, IsTied}
use Rattle.import_graph.specs.Tours.{IsTurned}
use Rattle.import_graph.proofs.Mutual.{inner_within, are_tied}
use Rattle.import_graph.proofs.ties.tied.Goals as goal

pub importers-requires : goal.importers-requires
importers-requires c =
    let long : length c.in_ok-inner.inner.items ≡ length c.args.imports.now = omega (arith, c.in_ok-inner.ensures.length, c.in_ok-inner.inner.ok) in
    rw c.as_slice.ensures.value (inner_within c.args.imports.now c.requires.within c.args.numbers.now c.in_ok-inner.inner.items long c.in_ok-inner.ensures.inner)

pub reached-requires-clause-next : goal.reached-requires-clause-next
reached-requires-clause-next c =
    let long : length c.in_ok-inner.inner.items ≡ length c.args.imports.now = omega (arith, c.in_ok-inner.ensures.length, c.in_ok-inner.inner.ok) in
    rw c.as_slice-2.ensures.value (inner_within c.args.imports.now c.requires.within c.args.numbers.now c.in_ok-inner.inner.items long c.in_ok-inner.ensures.inner)

pub returns-clause-tied : goal.returns-clause-tied
returns-clause-tied c =
    let inner : IsInner c.args.imports.now c.args.numbers.now c.in_ok-inner.inner.items = c.in_ok-inner.ensures.inner in
    let turned : IsTurned c.in_ok-inner.inner.items c.in_ok-turned.turned.items = rw c.as_slice.ensures.value at c.in_ok-turned.ensures.turned in
    let ahead : (g : ℕ) → IsSeen c.in_ok-ahead.ahead g ↔ ReachedFrom c.in_ok-inner.inner.items c.in_ok-starts.starts.items g = rw (c.as_slice-2.ensures.value, c.as_slice-3.ensures.value) at c.in_ok-ahead.ensures.exact in
    let behind : (g : ℕ) → IsSeen c.in_ok-behind.behind g ↔ ReachedFrom c.in_ok-turned.turned.items c.in_ok-starts.starts.items g = rw (c.as_slice-4.ensures.value, c.as_slice-5.ensures.value) at c.in_ok-behind.ensures.exact in
    IfOk-weaker c.in_both.result
    (λ flags. (g : ℕ) → get_or flags.items g false ≡ true → IsSeen c.in_ok-ahead.ahead g × IsSeen c.in_ok-behind.behind g)
    (λ flags. IsTied c.args.imports.now c.args.numbers.now flags.items)
    (λ flags both. are_tied c.args.imports.now c.args.numbers.now c.in_ok-inner.inner.items inner c.in_ok-turned.turned.items turned c.args.firsts.now c.in_ok-starts.starts.items c.in_ok-starts.ensures.first flags.items
    (λ g e. let r = both g e in ((ahead g).0 r.0, (behind g).0 r.1)))
    c.in_both.ensures.both
