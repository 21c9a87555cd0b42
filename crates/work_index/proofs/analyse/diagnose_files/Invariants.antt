use Rattle.std.proofs.Common.{◌≡◌, ◌+◌, ◌++◌, Bool, drop}
use Rattle.work_index.specs.Workspace.{Workspace, all_facts, diagnostics_of}
use Rattle.work_index.proofs.Steps.{made_from}
use Rattle.work_index.proofs.analyse.diagnose_files.Given as goal

-- what is there and what is left are all
abbrev pub invariant-loop-place : goal.invariant-loop-place
invariant-loop-place g l = (w : Workspace) (r : Bool) → l.table ≡ all_facts w → l.diagnostics.items ++ made_from r (diagnostics_of w) (l.first + l.place) (drop l.place l.pieces) ≡ made_from r (diagnostics_of w) l.first l.pieces
