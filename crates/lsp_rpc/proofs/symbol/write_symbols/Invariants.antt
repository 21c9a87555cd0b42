use Rattle.std.proofs.Common.{take, map, flat_map}
use Rattle.lsp_rpc.specs.Symbol.{symbol_value, document_symbols}
use Rattle.lsp_rpc.specs.Writing.{Appends, values_tokens}
use Rattle.lsp_rpc.proofs.symbol.write_symbols.Given as goal

-- those so far are written
abbrev pub invariant-items : goal.invariant-items
invariant-items l = Appends l.initial.out (flat_map (λ d. values_tokens (map symbol_value (document_symbols d))) (take l.document-index l.documents)) l.out
