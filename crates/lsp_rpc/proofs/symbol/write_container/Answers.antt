use Rattle.std.proofs.Common.{sym, ◌∙◌}
use Rattle.lsp_rpc.proofs.SymbolLemmas.{container-full}
use Rattle.lsp_rpc.proofs.WritingLemmas.{one, ◌▹◌}
use Rattle.lsp_rpc.proofs.symbol.write_container.Goals as goal

pub returns : goal.returns
returns c = rw (container-full c.args.container.now (sym c.is_empty.ensures ∙ c.if-is_empty.false)) at (one c.in_ok-key.ensures ▹ one c.in_ok-string.ensures)
