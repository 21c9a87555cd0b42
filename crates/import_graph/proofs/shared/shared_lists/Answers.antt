use Rattle.std.proofs.Common.{◌<◌, length, arith}
use Rattle.import_graph.proofs.Sharing.{AreShared-none, files_within, first_within, leads_run, leads_sorted}
use Rattle.import_graph.proofs.shared.shared_lists.Goals as goal

pub loop-place-init : goal.loop-place-init
loop-place-init c = AreShared-none c.args.steps.now c.args.imports.now _ (omega (arith, c.in_ok-no_numbers.ensures.length, c.in_ok-no_numbers.field-0.ok)) c.in_ok-no_numbers.ensures.none c.new.ensures.items

pub share-requires-clause-first : goal.share-requires-clause-first
share-requires-clause-first c =
    let leads = leads_sorted c.args.steps.now c.args.imports.now c.in_ok-components.components.numbers.items c.in_ok-components.components.tied.items c.in_ok-components.ensures.tied
    c.in_ok-representatives.representatives.items c.in_ok-representatives.ensures.stands (rw c.in_ok-components.ensures.numbered at c.in_ok-representatives.ensures.within)
    (omega (arith, c.in_ok-representatives.ensures.length, c.in_ok-components.ensures.numbered, c.in_ok-representatives.representatives.ok)) c.requires.imports
    c.in_ok-starts.starts.items c.sort_starts.new.starts.items c.sort_starts.ensures (rw c.as_slice.ensures.value at c.in_ok-starts.ensures) in
    let there : c.loop-place.place < length c.sort_starts.new.starts.items = omega (arith, c.loop-place-test.true, c.len.ensures, c.sort_starts.new.starts.ok) in
    rw (c.as_slice-first.ensures, c.as_slice-in-loop-place.ensures.value)
    (first_within c.args.steps.now c.args.imports.now c.sort_starts.new.starts.items leads c.loop-place.place there c.index-rest-0.result)

pub share-requires-clause-files : goal.share-requires-clause-files
share-requires-clause-files c =
    let leads = leads_sorted c.args.steps.now c.args.imports.now c.in_ok-components.components.numbers.items c.in_ok-components.components.tied.items c.in_ok-components.ensures.tied
    c.in_ok-representatives.representatives.items c.in_ok-representatives.ensures.stands (rw c.in_ok-components.ensures.numbered at c.in_ok-representatives.ensures.within)
    (omega (arith, c.in_ok-representatives.ensures.length, c.in_ok-components.ensures.numbered, c.in_ok-representatives.representatives.ok)) c.requires.imports
    c.in_ok-starts.starts.items c.sort_starts.new.starts.items c.sort_starts.ensures (rw c.as_slice.ensures.value at c.in_ok-starts.ensures) in
    let there : c.loop-place.place < length c.sort_starts.new.starts.items = omega (arith, c.loop-place-test.true, c.len.ensures, c.sort_starts.new.starts.ok) in
    rw c.as_slice-in-loop-place.ensures.value
    (files_within c.args.steps.now c.args.imports.now c.sort_starts.new.starts.items leads c.loop-place.place there _ c.alike_count-count.result (omega (arith, c.loop-place.invariant.as_many, c.loop-place.shared.numbers.ok)))

pub loop-place-preserved : goal.loop-place-preserved
loop-place-preserved c =
    let leads = leads_sorted c.args.steps.now c.args.imports.now c.in_ok-components.components.numbers.items c.in_ok-components.components.tied.items c.in_ok-components.ensures.tied
    c.in_ok-representatives.representatives.items c.in_ok-representatives.ensures.stands (rw c.in_ok-components.ensures.numbered at c.in_ok-representatives.ensures.within)
    (omega (arith, c.in_ok-representatives.ensures.length, c.in_ok-components.ensures.numbered, c.in_ok-representatives.representatives.ok)) c.requires.imports
    c.in_ok-starts.starts.items c.sort_starts.new.starts.items c.sort_starts.ensures (rw c.as_slice.ensures.value at c.in_ok-starts.ensures) in
    let there : c.loop-place.place < length c.sort_starts.new.starts.items = omega (arith, c.loop-place-test.true, c.len.ensures, c.sort_starts.new.starts.ok) in
    c.in_ok-share.ensures c.args.imports.now c.loop-place.invariant
    (rw c.as_slice-in-loop-place.ensures.value (leads_run c.args.steps.now c.args.imports.now c.sort_starts.new.starts.items leads c.loop-place.place there c.alike_count-count.result))
