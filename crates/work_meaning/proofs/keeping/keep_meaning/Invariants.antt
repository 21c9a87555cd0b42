use Rattle.std.proofs.Common.{◌≡◌, map}
use Rattle.std.specs.Prelude.{option_map, string_bytes}
use Rattle.work_meaning.proofs.Quiet.{AreCompared}
use Rattle.work_meaning.proofs.keeping.keep_meaning.Given as goal

-- the files so far are compared, and the table is as it was
abbrev pub invariant-loop-file : goal.invariant-loop-file
invariant-loop-file l = record {
  table : l.table ≡ l.fn.table;
  compared : AreCompared l.earlier l.others.own (map (option_map string_bytes) l.others.texts.now) l.files l.file l.keep;
}
