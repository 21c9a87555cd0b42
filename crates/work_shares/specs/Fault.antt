-- The numbers of the faults, and which of them is that of a table.
use Rattle.std.specs.Prelude.{ℕ}
use Rattle.proto_resolve.specs.declared.fault.TableFault.{TableFault}
use Rattle.proto_resolve.specs.declared.fault.TableFault.TheVariants as table
use Rattle.work_shares.specs.declared.fault.AnalyseFault.{AnalyseFault}
use Rattle.work_shares.specs.declared.fault.AnalyseFault.TheVariants.{Memory, ThreadRefused}

abbrev pub fault_code : AnalyseFault → ℕ
fault_code Memory = 601
fault_code ThreadRefused = 602

-- the fault of an analysis whose table wasn't made
abbrev pub fault_of_table : TableFault → AnalyseFault
fault_of_table table.Memory = Memory
fault_of_table table.ThreadRefused = ThreadRefused
