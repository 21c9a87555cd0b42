-- The numbers of the faults, and which faults can come where.
use Rattle.std.specs.Prelude.{◌≢◌, ℕ, ⊤}
use Rattle.lsp_frame.specs.Counts.{HasFailed, NoError}
use Rattle.lsp_frame.specs.declared.counts.Counts.{Counts}
use Rattle.piece_collector.specs.declared.fault.BoardFault.{BoardFault}
use Rattle.piece_collector.specs.declared.fault.BoardFault.TheVariants as board
use Rattle.work_shares.specs.declared.fault.AnalyseFault.{AnalyseFault}
use Rattle.work_shares.specs.declared.fault.AnalyseFault.TheVariants as analysis
use Rattle.work_pool.specs.declared.fault.PoolFault.{PoolFault}
use Rattle.work_pool.specs.declared.fault.PoolFault.TheVariants as pool
use Rattle.work_config.specs.declared.fault.CoreFault.{CoreFault}
use Rattle.work_config.specs.declared.fault.CoreFault.TheVariants as core
use Rattle.work_config.specs.declared.fault.ServeFault.{ServeFault}
use Rattle.work_config.specs.declared.fault.ServeFault.TheVariants as serve

abbrev pub core_code : CoreFault → ℕ
core_code core.Memory = 803
core_code core.ThreadRefused = 804
core_code core.Exhausted = 805

-- the fault of a core whose board refused a text
abbrev pub core_fault_of : BoardFault → CoreFault
core_fault_of board.Memory = core.Memory
core_fault_of board.Exhausted = core.Exhausted

-- the fault of a core whose analysis in shares failed
abbrev pub fault_of_analysis : AnalyseFault → CoreFault
fault_of_analysis analysis.Memory = core.Memory
fault_of_analysis analysis.ThreadRefused = core.ThreadRefused

-- the fault of a core whose pool failed
abbrev pub fault_of_pool : PoolFault → CoreFault
fault_of_pool pool.Memory = core.Memory
fault_of_pool pool.ThreadRefused = core.ThreadRefused

-- the fault of a server whose core stopped
abbrev pub serve_fault_of : CoreFault → ServeFault
serve_fault_of core.Memory = serve.Memory
serve_fault_of core.ThreadRefused = serve.ThreadRefused
serve_fault_of core.Exhausted = serve.Exhausted

abbrev pub serve_code : ServeFault → ℕ
serve_code serve.Read = 801
serve_code serve.Write = 802
serve_code serve.Memory = 803
serve_code serve.ThreadRefused = 804
serve_code serve.Exhausted = 805
serve_code serve.BadRoot = 806
serve_code (serve.BadPath index) = 807

-- a fault that can come while a server runs: its configuration was good
abbrev pub ComesWhileServing : ServeFault → Type 0
ComesWhileServing serve.BadRoot = ⊥
ComesWhileServing (serve.BadPath index) = ⊥
ComesWhileServing _ = ⊤

-- a fault of a core that analyses by itself: no thread is asked for
abbrev pub ComesWithoutThreads : CoreFault → Type 0
ComesWithoutThreads core.ThreadRefused = ⊥
ComesWithoutThreads _ = ⊤

-- memory or a thread was refused, or no worker is left
abbrev pub IsOfWorkers : ServeFault → Type 0
IsOfWorkers serve.Memory = ⊤
IsOfWorkers serve.ThreadRefused = ⊤
IsOfWorkers _ = ⊥

-- a fault of a check, whose writer, memory and threads can fail: the writer's only where it failed between these counts
abbrev pub ComesWhileChecking : Counts → Counts → ServeFault → Type 0
ComesWhileChecking old new serve.Write = HasFailed old new
ComesWhileChecking old new fault = IsOfWorkers fault

-- unless the fault is this one, no error came between these counts
abbrev pub NoErrorUnless : ServeFault → Counts → Counts → ServeFault → Type 0
NoErrorUnless own old new fault = fault ≢ own → NoError old new

-- a fault of a core or of its workers
abbrev pub IsOfCore : ServeFault → Type 0
IsOfCore serve.Memory = ⊤
IsOfCore serve.ThreadRefused = ⊤
IsOfCore serve.Exhausted = ⊤
IsOfCore _ = ⊥

-- a fault where only a writer, a core and its workers can fail: the writer's only where it failed between these counts
abbrev pub IsWriteOrCore : Counts → Counts → ServeFault → Type 0
IsWriteOrCore old new serve.Write = HasFailed old new
IsWriteOrCore old new fault = IsOfCore fault
