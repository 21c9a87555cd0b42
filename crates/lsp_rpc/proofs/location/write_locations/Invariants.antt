use Rattle.std.proofs.Common.{take, map, flat_map}
use Rattle.lsp_rpc.specs.Location.{location_value, document_locations}
use Rattle.lsp_rpc.specs.Writing.{Appends, values_tokens}
use Rattle.lsp_rpc.proofs.location.write_locations.Given as goal

-- those so far are written
abbrev pub invariant-items : goal.invariant-items
invariant-items l = Appends l.initial.out (flat_map (λ d. values_tokens (map location_value (document_locations d))) (take l.document-index l.documents)) l.out
