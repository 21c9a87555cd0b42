use Rattle.import_graph.proofs.FileInserted.{arrival}
use Rattle.import_graph.proofs.arrivals.arrival_law.Goals as goal

pub returns : goal.returns
returns c = arrival
