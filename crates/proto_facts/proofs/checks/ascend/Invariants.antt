use Rattle.std.proofs.Common.{◌≡◌, drop, take}
use Rattle.std.specs.List.{filter_map, enumerate_from}
use Rattle.proto_decls.specs.Checks.{judged, judged_at, number_used}
use Rattle.proto_facts.specs.Seen.{AreBelow}
use Rattle.proto_decls.specs.declared.part.Numbering.{Numbering}
use Rattle.proto_facts.proofs.checks.ascend.Given as goal

-- up to here no number is there twice
abbrev pub invariant-members : goal.invariant-members
invariant-members l = record {
  below : AreBelow (take l.member-index l.members) l.least;
  none : (n : Numbering) → filter_map (judged_at (number_used n) l.members) (drop l.member-index (enumerate_from 0 l.members)) ≡ judged (number_used n) l.members;
}
