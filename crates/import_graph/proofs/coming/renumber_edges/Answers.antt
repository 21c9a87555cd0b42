use Rattle.std.proofs.Common.{◌≡◌, ◌∙◌, ap, ap₂, refl, sym, ◌<◌, ◌&&◌, ℕ, Bool, List, Option, Some, None, true, false, nat_eq, length, get_or, arith}
use Rattle.std.specs.Prelude.{not}
use Rattle.std.specs.Cmp.{booleans_Decides}
use Rattle.std.specs.Option.{option_eq}
use Rattle.std.proofs.Math.Bool.{beq}
use Rattle.std.proofs.lemmas.Bool.Decides.{nat_tests}
use Rattle.std.proofs.lemmas.List.{get_or_default, set-get_or}
use Rattle.std.proofs.lemmas.List.Edits.{map_over_more}
use Rattle.std.proofs.lemmas.List.Elements.{All-contains_itself}
use Rattle.import_graph.specs.declared.imports.ImportEdge.{ImportEdge}
use Rattle.import_graph.specs.Coming.{edge_after}
use Rattle.import_graph.proofs.Renumbered.{named_small, still_has, still_same}
use Rattle.import_graph.proofs.coming.renumber_edges.Goals.{then-ne, else-ne}
use Rattle.import_graph.proofs.coming.renumber_edges.Goals as goal

abbrev nothing : ImportEdge
nothing = record { target = None; is_public = false }

-- two imports that are not told apart are the same
both_true : (a b : Bool) → not (a && b) ≡ false → (a ≡ true) × (b ≡ true)
both_true true true e = (refl, refl)
both_true true false e = absurd (cc (e))
both_true false b e = absurd (cc (e))

same_targets : (a b : Option ℕ) → option_eq nat_eq a b ≡ true → a ≡ b
same_targets None None e = refl
same_targets None (Some y) e = absurd (cc (e))
same_targets (Some x) None e = absurd (cc (e))
same_targets (Some x) (Some y) e = let same : x ≡ y = grind (arith, nat_tests) in ap Some same

same_edges : (a b : ImportEdge) → not (option_eq nat_eq a.target b.target && beq a.is_public b.is_public) ≡ false → a ≡ b
same_edges a b e =
    let both = both_true (option_eq nat_eq a.target b.target) (beq a.is_public b.is_public) e in
    ap₂ (λ (t : Option ℕ) (p : Bool). record { target = t; is_public = p }) (same_targets a.target b.target both.0) ((booleans_Decides a.is_public b.is_public).0 both.1)

pub edge_after-moved-requires : goal.edge_after-moved-requires
edge_after-moved-requires c =
    let was = c.args.edges.now in
    let now = c.loop-place.edges in
    let place = c.loop-place.place in
    let within : place < length was = omega (arith, c.loop-place-test.true, c.len-place-end.ensures) in
    let read : get_or c.as_slice.result.now place nothing ≡ get_or was place nothing =
    ap (λ (xs : List ImportEdge). get_or xs place nothing) c.as_slice.ensures ∙ still_same (edge_after c.args.at) was now place nothing within c.loop-place.invariant in
    rw read (named_small 18446744073709551615 was (get_or was place nothing) (All-contains_itself was place nothing within) c.requires)

pub loop-place-preserved : goal.loop-place-preserved
loop-place-preserved c =
    let was = c.args.edges.now in
    let now = c.loop-place.edges in
    let place = c.loop-place.place in
    let one = get_or now place nothing in
    let after : ImportEdge → ImportEdge = edge_after c.args.at in
    let within : place < length was = omega (arith, c.loop-place-test.true, c.len-place-end.ensures) in
    let there : place < length now = still_has after was now place within c.loop-place.invariant in
    let more = map_over_more after was now place one within c.loop-place.invariant (get_or_default now place nothing one there) in
    elim c.if-ne.branch [
      | then-ne w ↦ cc (more, c.as_slice.ensures, c.edge_after-moved.ensures, w.set.ensures, w.edges-is)
      | else-ne w ↦
          let same : c.edge_after-moved.result ≡ get_or c.as_slice.result.now place nothing = same_edges _ _ (sym c.ne.ensures ∙ w.if-ne.false) in
          cc (more, c.as_slice.ensures, c.edge_after-moved.ensures, same, set-get_or now place nothing, w.edges-is)
    ]
