use Rattle.proto_laws.proofs.SizeLaw.{nothing_read, too_long, short_enough}
use Rattle.proto_laws.proofs.tree_laws.size_law.Goals as goal

pub returns-clause-empty : goal.returns-clause-empty
returns-clause-empty c = nothing_read

pub returns-clause-over : goal.returns-clause-over
returns-clause-over c = too_long

pub returns-clause-within : goal.returns-clause-within
returns-clause-within c = short_enough
