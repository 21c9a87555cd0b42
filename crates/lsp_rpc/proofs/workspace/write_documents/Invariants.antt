use Rattle.std.proofs.Common.{take}
use Rattle.lsp_rpc.specs.Writing.{Appends}
use Rattle.lsp_rpc.proofs.ReportLemmas.{documents_tokens_of}
use Rattle.lsp_rpc.proofs.workspace.write_documents.Given as goal

-- the reports so far are written
abbrev pub invariant-items : goal.invariant-items
invariant-items l = Appends l.initial.out (documents_tokens_of (take l.report-index l.reports)) l.out
