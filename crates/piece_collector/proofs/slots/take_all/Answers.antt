use Rattle.std.proofs.Common.{◌≡◌, ◌++◌, ap, ◌∙◌, map, option_map, string_bytes}
use Rattle.std.specs.BTreeMap.{is_at, values}
use Rattle.std.specs.Map.{lookup, keys_of}
use Rattle.std.specs.Cmp.Lexicographic.{slice_cmp}
use Rattle.std.specs.Ordering.{nat_cmp}
use Rattle.std.proofs.lemmas.Map.Made.{lookup-map_values, keys_of-map_values}
use Rattle.piece_collector.specs.Lending.{emptied, placed}
use Rattle.piece_collector.proofs.Emptied.{placed_all, takes_all, emptied_twice}
use Rattle.piece_collector.proofs.slots.take_all.Goals as goal

pub returns-clause-rest : goal.returns-clause-rest
returns-clause-rest g c = λ q.
    let are : c.set_all.new.slots.entries ≡ map (λ e. (e.0, emptied e.1)) c.args.slots.now.entries = c.set_all.ensures.entries
    ∙ (ap (placed c.empty_all.new.slots.entries) (c.empty_all.ensures.kept ∙ ap (λ l. l ++ map emptied (values c.args.slots.now)) c.requires.none) ∙ placed_all c.empty_all.new.slots.entries c.args.slots.now.entries c.empty_all.ensures.keys) in
    ap (λ es. option_map emptied (lookup (is_at (λ k. slice_cmp nat_cmp q (string_bytes k))) es)) are
    ∙ (ap (option_map emptied) (lookup-map_values emptied (is_at (λ k. slice_cmp nat_cmp q (string_bytes k))) c.args.slots.now.entries) ∙ emptied_twice _)

pub returns-clause-taken : goal.returns-clause-taken
returns-clause-taken g c = takes_all c.args.slots.now c.args.pieces.now.items _ c.empty_all.ensures.taken

pub returns-clause-keys : goal.returns-clause-keys
returns-clause-keys g c =
    let are : c.set_all.new.slots.entries ≡ map (λ e. (e.0, emptied e.1)) c.args.slots.now.entries = c.set_all.ensures.entries
    ∙ (ap (placed c.empty_all.new.slots.entries) (c.empty_all.ensures.kept ∙ ap (λ l. l ++ map emptied (values c.args.slots.now)) c.requires.none) ∙ placed_all c.empty_all.new.slots.entries c.args.slots.now.entries c.empty_all.ensures.keys) in
    ap keys_of are ∙ keys_of-map_values emptied c.args.slots.now.entries
