use Rattle.std.proofs.Common.{◌≡◌, List, map, flat_map, Ok}
use Rattle.work_shares.specs.declared.linked.LinkedShare.{LinkedShare}
use Rattle.work_shares.proofs.linked.gather.Given as goal

abbrev pub invariant-loop-answer : goal.invariant-loop-answer
invariant-loop-answer l = record {
  parts : List LinkedShare;
  none_refused : l.yielded ≡ map Ok parts;
  pieces : l.pieces.items ≡ flat_map (λ part. part.pieces.items) parts;
  links : l.links.items ≡ flat_map (λ part. part.resolutions.links.items) parts;
  diagnostics : l.diagnostics.items ≡ flat_map (λ part. part.resolutions.diagnostics.items) parts;
}
