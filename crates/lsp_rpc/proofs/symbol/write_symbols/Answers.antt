use Rattle.std.proofs.Common.{◌≡◌, take, map, flat_map}
use Rattle.std.proofs.lemmas.List.{take_all}
use Rattle.lsp_rpc.specs.Symbol.{symbol_value, document_symbols}
use Rattle.lsp_rpc.proofs.ListLemmas.{values-closed, values-parts}
use Rattle.lsp_rpc.proofs.WritingLemmas.{one, ◌▹◌}
use Rattle.lsp_rpc.proofs.symbol.write_symbols.Goals as goal

pub returns : goal.returns
returns c =
    let documents = c.args.documents.now in
    let all : take c.items.document-index documents ≡ documents = take_all _ _ c.items-test.false in
    one c.in_ok-begin_array.ensures ▹ (rw (all, values-parts symbol_value document_symbols documents, values-closed (map symbol_value (flat_map document_symbols documents))) at (c.items.invariant ▹ one c.in_ok-end_array.ensures))
