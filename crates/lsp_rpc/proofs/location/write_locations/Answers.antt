use Rattle.std.proofs.Common.{◌≡◌, take, map, flat_map}
use Rattle.std.proofs.lemmas.List.{take_all}
use Rattle.lsp_rpc.specs.Location.{location_value, document_locations}
use Rattle.lsp_rpc.proofs.ListLemmas.{values-closed, values-parts}
use Rattle.lsp_rpc.proofs.WritingLemmas.{one, ◌▹◌}
use Rattle.lsp_rpc.proofs.location.write_locations.Goals as goal

pub returns : goal.returns
returns c =
    let documents = c.args.documents.now in
    let all : take c.items.document-index documents ≡ documents = take_all _ _ c.items-test.false in
    one c.in_ok-begin_array.ensures ▹ (rw (all, values-parts location_value document_locations documents, values-closed (map location_value (flat_map document_locations documents))) at (c.items.invariant ▹ one c.in_ok-end_array.ensures))
