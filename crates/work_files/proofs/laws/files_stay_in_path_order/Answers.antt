use Rattle.work_files.proofs.PathOrder.{from_disk-order, opened_files-order, changed_files-order, saved_files-order, closed_files-order}
use Rattle.work_files.proofs.laws.files_stay_in_path_order.Goals as goal

pub returns : goal.returns
returns c = record { begun = from_disk-order; opened = opened_files-order; changed = changed_files-order; saved = saved_files-order; closed = closed_files-order }
