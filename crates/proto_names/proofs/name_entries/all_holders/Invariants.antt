use Rattle.std.proofs.Common.{◌≡◌, ◌++◌}
use Rattle.proto_names.specs.Tables.{holder_entries}
use Rattle.proto_names.proofs.Entries.{holders_from}
use Rattle.proto_names.proofs.name_entries.all_holders.Given as goal

-- what is found and what is left are all
abbrev pub invariant-loop-file : goal.invariant-loop-file
invariant-loop-file l = l.holders.items ++ holders_from l.files l.file ≡ holder_entries l.files
