use Rattle.std.proofs.Common.{◌≡◌, map, drop}
use Rattle.serde_json.specs.View.{view}
use Rattle.lsp_rpc.specs.ClientCapabilities.{first_encoding}
use Rattle.lsp_rpc.proofs.client_capabilities.first_encoding.Given as goal

-- the entries so far name no encoding
abbrev pub invariant-entries : goal.invariant-entries
invariant-entries l = first_encoding (map view (drop l.entry-index l.entries)) ≡ first_encoding (map view l.entries)
