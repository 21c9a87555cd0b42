use Rattle.std.proofs.Common.{◌≡◌, ◌++◌, drop, map}
use Rattle.std.specs.Prelude.{string_bytes}
use Rattle.library_cases.proofs.pieces.texts_of.Given as goal

-- what is there and what is left are all
abbrev pub invariant-loop-piece : goal.invariant-loop-piece
invariant-loop-piece g l = map (λ f. string_bytes f.path) l.files.items ++ map (λ t. t.path) (drop l.piece-index l.pieces) ≡ map (λ t. t.path) l.pieces
