use Rattle.std.proofs.Common.{◌≡◌, take, map}
use Rattle.std.specs.List.{enumerate_from}
use Rattle.lsp_rpc.specs.Workspace.{document_view}
use Rattle.lsp_answers.specs.Reports.{numbered_report}
use Rattle.lsp_answers.proofs.answers.Answers.workspace_reports.Given as goal

-- those of the first files are there
abbrev pub invariant-loop-number : goal.invariant-loop-number
invariant-loop-number l = map document_view l.reports.items ≡ map (numbered_report l.self) (enumerate_from 0 (take l.number l.self.workspace))
