use Rattle.std.proofs.Common.{◌≡◌, ◌++◌, drop, string_bytes}
use Rattle.lsp_renames.specs.Edited as spec
use Rattle.lsp_renames.specs.Cutting.{CanBeCut}
use Rattle.lsp_renames.proofs.edited.respelled.Given as goal

-- what is made so far and what is left give the whole, and the places that are left can be cut out behind it
abbrev pub invariant-loop-place : goal.invariant-loop-place
invariant-loop-place l = record {
  whole : string_bytes l.edited ++ spec.respelled_from l.name l.text l.offset (drop l.place-index l.places) ≡ spec.respelled l.name l.text l.places;
  left : CanBeCut l.text l.offset (drop l.place-index l.places);
}
