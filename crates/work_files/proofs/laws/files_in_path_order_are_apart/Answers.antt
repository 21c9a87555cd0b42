use Rattle.work_files.proofs.PathOrder.{order-apart}
use Rattle.work_files.proofs.laws.files_in_path_order_are_apart.Goals as goal

pub returns : goal.returns
returns c = order-apart
