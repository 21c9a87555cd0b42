use Rattle.proto_names.specs.Files.{name_at}
use Rattle.proto_names.proofs.ByLast.{scopes_total}
use Rattle.proto_names.proofs.name_table.holders_in_buckets.Goals as goal

pub of-requires : goal.of-requires
of-requires c = scopes_total (name_at c.args.files.now)
