use Rattle.std.proofs.Common.{◌≡◌, ◌<◌, ◌∙◌, ℕ, List, Option, Some, None, IsTrue, length, get_or, sym, ap, arith}
use Rattle.std.proofs.lemmas.List.{get_or-map}
use Rattle.import_graph.specs.Moves.{place}
use Rattle.import_graph.proofs.moves.are_places.Goals as goal

pub returns-then-not-has_place : goal.returns-then-not-has_place
returns-then-not-has_place c =
    let to = c.args.to.now in
    let old = c.args.old.now in
    let new = c.args.new.now in
    let at = c.loop-at.at in (
      λ h. absurd (cc (h)),
      λ same.
          let within : at < length old = omega arith in
          let within' : at < length new = omega arith in
          let moved : Some (get_or new at 0) ≡ place to (get_or old at 0) =
          sym (get_or-map (λ (g : ℕ). Some g) new at 0 None within') ∙ ap (λ (gs : List (Option ℕ)). get_or gs at None) same ∙ get_or-map (place to) old at 0 None within in
          let is : IsTrue c.has_place.result = c.has_place.ensures.1 moved in
          absurd (cc (is, c.if-not-has_place.true)),
    )
