use Rattle.std.proofs.Common.{take, map}
use Rattle.lsp_rpc.specs.Symbol.{symbol_value, symbol_view}
use Rattle.lsp_rpc.specs.Writing.{Appends, values_tokens}
use Rattle.lsp_rpc.proofs.symbol.write_items.Given as goal

-- those so far are written
abbrev pub invariant-items : goal.invariant-items
invariant-items l = Appends l.initial.out (values_tokens (map symbol_value (map (symbol_view l.uri) (take l.symbol-index l.symbols)))) l.out
