use Rattle.std.proofs.Common.{◌≡◌, ◌++◌, drop, map}
use Rattle.lsp_answers.proofs.declarations.places_of.Given as goal

-- those so far and those that are left are all
abbrev pub invariant-loop-here : goal.invariant-loop-here
invariant-loop-here l = l.places.items ++ map (λ f. f.place) (drop l.here-index l.found) ≡ map (λ f. f.place) l.found
