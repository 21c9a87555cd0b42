-- The numbers of the faults.
use Rattle.std.specs.Prelude.{ℕ}
use Rattle.piece_collector.specs.declared.fault.BoardFault.{BoardFault}
use Rattle.piece_collector.specs.declared.fault.BoardFault.TheVariants.{Memory, Exhausted}

-- the number of a fault
abbrev pub code_of : BoardFault → ℕ
code_of Memory = 501
code_of Exhausted = 502
