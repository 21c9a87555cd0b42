use Rattle.std.proofs.Common.{take}
use Rattle.lsp_rpc.specs.Writing.{Appends}
use Rattle.lsp_rpc.proofs.ReportLemmas.{items_tokens_of}
use Rattle.lsp_rpc.proofs.diagnostic.write_items.Given as goal

-- the diagnostics so far are written
abbrev pub invariant-items : goal.invariant-items
invariant-items l = Appends l.initial.out (items_tokens_of (take l.diagnostic-index l.diagnostics)) l.out
