use Rattle.std.proofs.Common.{◌≡◌, map, take, string_bytes}
use Rattle.lsp_rpc.specs.Symbol.{symbol_view}
use Rattle.lsp_answers.specs.Answers.{symbol_of}
use Rattle.lsp_answers.specs.Views.{found_view}
use Rattle.lsp_answers.proofs.answers.Answers.symbols_in.Given as goal

-- the declarations so far
abbrev pub invariant-loop-i : goal.invariant-loop-i
invariant-loop-i l = map (symbol_view (string_bytes l.uri)) l.symbols.items ≡ map (symbol_of l.self) (map found_view (take l.i l.found))
