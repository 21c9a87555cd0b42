-- Which faults a core and its workers can have.
use Rattle.std.proofs.Common.{◌≡◌, refl, ap, Result, Ok, Err}
use Rattle.std.specs.Prelude.{IfErr}
use Rattle.piece_collector.specs.declared.fault.BoardFault.{BoardFault}
use Rattle.piece_collector.specs.declared.fault.BoardFault.TheVariants as board
use Rattle.work_shares.specs.declared.fault.AnalyseFault.{AnalyseFault}
use Rattle.work_shares.specs.declared.fault.AnalyseFault.TheVariants as analysis
use Rattle.work_pool.specs.declared.fault.PoolFault.{PoolFault}
use Rattle.work_pool.specs.declared.fault.PoolFault.TheVariants as pool
use Rattle.work_config.specs.Fault.{core_fault_of, fault_of_analysis, fault_of_pool, serve_fault_of, ComesWithoutThreads, IsOfCore, IsOfWorkers}
use Rattle.work_config.specs.declared.fault.CoreFault.{CoreFault}
use Rattle.work_config.specs.declared.fault.CoreFault.TheVariants as core
use Rattle.work_config.specs.declared.fault.ServeFault.{ServeFault}
use Rattle.work_config.specs.declared.fault.ServeFault.TheVariants as serve

-- a board asks for no thread
pub without_threads : (fault : BoardFault) → ComesWithoutThreads (core_fault_of fault)
without_threads board.Memory = tt
without_threads board.Exhausted = tt

pub not_of_board : (fault : BoardFault) → ¬ (core_fault_of fault ≡ core.ThreadRefused)
not_of_board board.Memory is = cc
not_of_board board.Exhausted is = cc

-- only a board runs out of stamps
pub of_board : (fault : BoardFault) → core_fault_of fault ≡ core.Exhausted → fault ≡ board.Exhausted
of_board board.Memory is = cc
of_board board.Exhausted is = refl

pub not_of_pool : (fault : PoolFault) → ¬ (fault_of_pool fault ≡ core.Exhausted)
not_of_pool pool.Memory is = cc
not_of_pool pool.ThreadRefused is = cc

-- only memory refused is memory refused
pub memory_of_pool : (fault : PoolFault) → fault ≡ pool.Memory → fault_of_pool fault ≡ core.Memory
memory_of_pool fault is = ap fault_of_pool is

pub refused_of_pool : (fault : PoolFault) → fault_of_pool fault ≡ core.ThreadRefused → fault ≡ pool.ThreadRefused
refused_of_pool pool.Memory is = cc
refused_of_pool pool.ThreadRefused is = refl

pub not_of_analysis : (fault : AnalyseFault) → ¬ (fault_of_analysis fault ≡ core.Exhausted)
not_of_analysis analysis.Memory is = cc
not_of_analysis analysis.ThreadRefused is = cc

-- only a core runs out of stamps
pub of_served : (fault : CoreFault) → serve_fault_of fault ≡ serve.Exhausted → fault ≡ core.Exhausted
of_served core.Memory is = cc
of_served core.ThreadRefused is = cc
of_served core.Exhausted is = refl

pub not_of_workers : (fault : ServeFault) → IsOfWorkers fault → ¬ (fault ≡ serve.Exhausted)
not_of_workers serve.Read of is = absurd of
not_of_workers serve.Write of is = absurd of
not_of_workers serve.Memory of is = cc
not_of_workers serve.ThreadRefused of is = cc
not_of_workers serve.Exhausted of is = absurd of
not_of_workers serve.BadRoot of is = absurd of
not_of_workers (serve.BadPath index) of is = absurd of

pub of_workers : (fault : ServeFault) → IsOfWorkers fault → IsOfCore fault
of_workers serve.Read of = absurd of
of_workers serve.Write of = absurd of
of_workers serve.Memory of = tt
of_workers serve.ThreadRefused of = tt
of_workers serve.Exhausted of = absurd of
of_workers serve.BadRoot of = absurd of
of_workers (serve.BadPath index) of = absurd of

pub not_of_writer : {A : Type 0} (result : Result A ServeFault) → IfErr result (λ fault. fault ≡ serve.Write) → ¬ (result ≡ Err serve.Exhausted)
not_of_writer (Ok x) of is = cc
not_of_writer (Err fault) of is = cc
