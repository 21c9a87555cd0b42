use Rattle.std.proofs.Common.{◌≡◌, ◌<◌, [], length, get_or, refl, ◌∙◌, arith}
use Rattle.std.proofs.lemmas.List.{get_or_default}
use Rattle.std.proofs.lemmas.List.Elements.{Contains-push}
use Rattle.import_graph.specs.Walks.{AllWithin}
use Rattle.import_graph.proofs.Placing.{Settles-start, Settles-turn, turn-lighter}
use Rattle.import_graph.proofs.components.Placing.place_from.Goals as goal

pub loop-file-init : goal.loop-file-init
loop-file-init c = Settles-start _ c.requires.within _ _ c.requires.number _ _ _ c.requires.settled c.requires.done c.in_ok-place_all.ensures

-- the file that waited is there
pub bounds-imports-file : goal.bounds-imports-file
bounds-imports-file c =
    let has = Contains-push c.pop.new.self.items c.in-Some.file in
    (c.loop-file.invariant.waiting c.in-Some.file (rw c.in-Some.ensures.items has)).0

pub offset_bounds-imports-file : goal.offset_bounds-imports-file
offset_bounds-imports-file c =
    let has = Contains-push c.pop.new.self.items c.in-Some.file in
    let lt = (c.loop-file.invariant.waiting c.in-Some.file (rw c.in-Some.ensures.items has)).0 in
    omega (arith, lt)

pub place_all-requires-in-Some-clause-files : goal.place_all-requires-in-Some-clause-files
place_all-requires-in-Some-clause-files c k d lt =
    let has = Contains-push c.pop.new.self.items c.in-Some.file in
    let there : c.in-Some.file < length c.args.imports.now = (c.loop-file.invariant.waiting c.in-Some.file (rw c.in-Some.ensures.items has)).0 in
    let row = c.requires.within c.in-Some.file c.index-imports-file.result there in
    let here : AllWithin (length c.args.imports.now) c.as_slice.result.now = rw (c.as_slice.ensures, c.index-imports-file.is) row in
    omega (arith, here k d lt, c.loop-file.invariant.as_long, c.loop-file.self.numbers.ok)

pub loop-file-smaller : goal.loop-file-smaller
loop-file-smaller c =
    let has = Contains-push c.pop.new.self.items c.in-Some.file in
    let there : c.in-Some.file < length c.args.imports.now = (c.loop-file.invariant.waiting c.in-Some.file (rw c.in-Some.ensures.items has)).0 in
    let row : c.as_slice.result.now ≡ get_or c.args.imports.now c.in-Some.file [] =
    c.as_slice.ensures ∙ (c.index-imports-file.is ∙ get_or_default c.args.imports.now c.in-Some.file _ [] there) in
    turn-lighter _ c.requires.within _ _ c.requires.number c.loop-file.self _ _ c.in-Some.file c.loop-file.invariant refl c.in-Some.ensures.items (rw row at c.in_ok-place_all-2.ensures)

pub loop-file-preserved : goal.loop-file-preserved
loop-file-preserved c =
    let has = Contains-push c.pop.new.self.items c.in-Some.file in
    let there : c.in-Some.file < length c.args.imports.now = (c.loop-file.invariant.waiting c.in-Some.file (rw c.in-Some.ensures.items has)).0 in
    let row : c.as_slice.result.now ≡ get_or c.args.imports.now c.in-Some.file [] =
    c.as_slice.ensures ∙ (c.index-imports-file.is ∙ get_or_default c.args.imports.now c.in-Some.file _ [] there) in
    Settles-turn _ c.requires.within _ _ c.requires.number c.loop-file.self _ _ c.in-Some.file c.loop-file.invariant refl c.in-Some.ensures.items (rw row at c.in_ok-place_all-2.ensures)
