use Rattle.proto_names.specs.Files.{name_at}
use Rattle.proto_names.proofs.Places.{names_total}
use Rattle.proto_names.proofs.name_table.names_in_buckets.Goals as goal

pub of_names-requires : goal.of_names-requires
of_names-requires c = names_total (name_at c.args.files.now)
