use Rattle.std.proofs.Common.{◌≡◌, ◌++◌, drop, map}
use Rattle.lsp_answers.proofs.documents.parts_of.Given as goal

-- those so far and those that are left are all
abbrev pub invariant-loop-place : goal.invariant-loop-place
invariant-loop-place l = l.parts.items ++ map (λ p. (p.start, p.«end»)) (drop l.place-index l.places) ≡ map (λ p. (p.start, p.«end»)) l.places
