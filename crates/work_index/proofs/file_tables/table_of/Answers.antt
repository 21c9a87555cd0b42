use Rattle.work_index.proofs.Ascending.{in_path_order}
use Rattle.work_index.proofs.file_tables.table_of.Goals as goal

pub of-requires : goal.of-requires
of-requires c = rw c.in_ok-files.ensures (in_path_order c.args.reads_others c.args.pieces.now c.requires)
