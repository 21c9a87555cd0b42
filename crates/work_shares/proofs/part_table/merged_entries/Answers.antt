use Rattle.std.proofs.Common.{◌≡◌, ◌∙◌, List, [], ◌∷◌, ◌++◌, append-nil, sym, ap, ap₂, flat_map, rules}
use Rattle.std.proofs.lemmas.Grind.{flat_map-append}
use Rattle.std.proofs.lemmas.Iterator.Consumers.{YieldsList-end}
use Rattle.std.proofs.lemmas.Iterator.Adapters.{YieldsList-from_vec}
use Rattle.std.proofs.lemmas.List.{map-id}
use Rattle.proto_decls.specs.declared.named_facts.NamedFacts.{NamedFacts}
use Rattle.work_shares.specs.Stretches.{PartData}
use Rattle.work_shares.proofs.Merged.{in_order}
use Rattle.work_shares.proofs.part_table.merged_entries.Goals as goal

pub loop-part-preserved : goal.loop-part-preserved
loop-part-preserved c =
    let part : PartData = c.in-Some.part in
    let files : c.part.inside.entries ≡ part.files = ap (λ (p : PartData). p.files) c.part.view_is in
    c.in_ok-entries.ensures
    ∙ ap₂ (λ (a b : List NamedFacts). a ++ b) c.loop-part.invariant (files ∙ sym (append-nil part.files))
    ∙ sym (flat_map-append (λ (p : PartData). p.files) c.loop-part.yielded (part ∷ []))

pub returns : goal.returns
returns c = λ files cover.
    let sorted = c.sort_by_first.new.parts.items in
    let whole : c.loop-part.yielded ≡ sorted =
    sym (map-id _)
    ∙ (YieldsList-end (YieldsList-from_vec c.sort_by_first.new.parts.items c.into_iter-part-iterator.ensures.into_iter_gives.0 (search rules)) c.loop-part.yielded _ c.loop-part.yielded_by _ c.next.new.self c.in-None.is c.next.ensures.steps).0 in
    let is : c.loop-part.entries ≡ files =
    c.loop-part.invariant ∙ ap (flat_map (λ (p : PartData). p.files)) whole ∙ in_order files c.args.parts.items c.sort_by_first.new.parts.items cover c.sort_by_first.ensures.same c.in_ok-sort_by_first.ensures.sorted in
    is
