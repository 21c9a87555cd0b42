use Rattle.std.proofs.Common.{◌≡◌, ◌<◌, [], length, get_or, sym, ◌∙◌, arith}
use Rattle.std.proofs.lemmas.List.{get_or_default}
use Rattle.import_graph.specs.Walks.{AllWithin}
use Rattle.import_graph.proofs.Search.{Searches-init, Searches-turn, Searches-done, f_there}
use Rattle.import_graph.proofs.file_search.reached.Goals as goal

pub loop-followed-init : goal.loop-followed-init
loop-followed-init c =
    Searches-init _ _ c.in_ok-search.search _ (omega (arith, c.in_ok-search.ensures.count, c.in_ok-search.search.seen.ok)) c.in_ok-search.ensures.listed
    (omega (arith, c.in_ok-search.ensures.none, c.in_ok-search.search.found.ok)) c.in_ok-visit_all.ensures

pub bounds-next-file : goal.bounds-next-file
bounds-next-file c =
    let more : c.loop-followed.followed < length c.loop-followed.search.found.items = omega (arith, c.loop-followed-test.true, c.loop-followed.search.found.ok) in
    let is = sym (c.index-file.ensures ∙ get_or_default c.loop-followed.search.found.items c.loop-followed.followed _ 0 more) in
    f_there _ _ _ _ _ c.loop-followed.invariant more is

pub offset_bounds-next-file : goal.offset_bounds-next-file
offset_bounds-next-file c =
    let more : c.loop-followed.followed < length c.loop-followed.search.found.items = omega (arith, c.loop-followed-test.true, c.loop-followed.search.found.ok) in
    let is = sym (c.index-file.ensures ∙ get_or_default c.loop-followed.search.found.items c.loop-followed.followed _ 0 more) in
    let there = f_there _ _ _ _ _ c.loop-followed.invariant more is in
    omega (arith, there)

pub visit_all-requires-in-loop-followed : goal.visit_all-requires-in-loop-followed
visit_all-requires-in-loop-followed c k d lt =
    let more : c.loop-followed.followed < length c.loop-followed.search.found.items = omega (arith, c.loop-followed-test.true, c.loop-followed.search.found.ok) in
    let is = sym (c.index-file.ensures ∙ get_or_default c.loop-followed.search.found.items c.loop-followed.followed _ 0 more) in
    let there = f_there _ _ _ _ _ c.loop-followed.invariant more is in
    let row = c.requires.next c.index-file.result.now c.index-next-file.result there in
    let here : AllWithin (length c.args.next.now) c.as_slice.result.now = rw (c.as_slice.ensures, c.index-next-file.is) row in
    omega (arith, here k d lt, c.loop-followed.invariant.as_long, c.loop-followed.search.seen.ok)

pub loop-followed-preserved : goal.loop-followed-preserved
loop-followed-preserved c =
    let more : c.loop-followed.followed < length c.loop-followed.search.found.items = omega (arith, c.loop-followed-test.true, c.loop-followed.search.found.ok) in
    let is = sym (c.index-file.ensures ∙ get_or_default c.loop-followed.search.found.items c.loop-followed.followed _ 0 more) in
    let there : c.index-file.result.now < length c.args.next.now = f_there _ _ _ _ _ c.loop-followed.invariant more is in
    let row : c.as_slice.result.now ≡ get_or c.args.next.now c.index-file.result.now [] =
    c.as_slice.ensures ∙ (c.index-next-file.is ∙ get_or_default c.args.next.now c.index-file.result.now _ [] there) in
    Searches-turn _ _ _ _ c.index-file.result.now c.loop-followed.invariant more is _ (rw row at c.in_ok-visit_all-2.ensures)

pub returns-clause-exact : goal.returns-clause-exact
returns-clause-exact c g = (
  c.loop-followed.invariant.sound g,
  Searches-done _ _ _ _ c.loop-followed.invariant (omega (arith, c.loop-followed-test.false, c.loop-followed.search.found.ok)) g,
)
