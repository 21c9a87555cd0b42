use Rattle.std.proofs.Common.{◌≡◌, ◌≤◌, length, map, take, drop}
use Rattle.lsp_rpc.specs.Location.{all_locations}
use Rattle.lsp_rpc.specs.Symbol.{all_symbols}
use Rattle.lsp_answers.specs.Answers.{location_of, symbol_of}
use Rattle.lsp_answers.specs.Views.{found_view}
use Rattle.lsp_answers.proofs.answers.Answers.symbols_of.Given as goal

-- the declarations so far, and the documents of those that are left
abbrev pub invariant-documents : goal.invariant-documents
invariant-documents l = record {
  within : l.done ≤ length l.found;
  symbols : all_symbols l.symbols.items ≡ map (symbol_of l.self) (map found_view (take l.done l.found));
  left : all_locations l.document-iterator.rest.items ≡ map (λ f. location_of l.self f.place) (drop l.done l.found);
}
