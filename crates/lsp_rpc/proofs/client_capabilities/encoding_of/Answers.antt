use Rattle.std.proofs.Common.{◌∙◌, ap, codes}
use Rattle.serde_json.specs.Find.{as_array}
use Rattle.serde_json.specs.View.{view}
use Rattle.lsp_rpc.specs.Body.{member_or_null}
use Rattle.lsp_rpc.specs.ClientCapabilities.{capabilities_of, first_encoding}
use Rattle.lsp_rpc.proofs.ClientLemmas.{items_in-view}
use Rattle.lsp_rpc.proofs.client_capabilities.encoding_of.Goals as goal

pub returns-in-Some : goal.returns-in-Some
returns-in-Some c =
    (rw c.as_slice.ensures.value at c.first_encoding.ensures)
    ∙ ap first_encoding (items_in-view (as_array (member_or_null (codes "positionEncodings") (member_or_null (codes "general") (capabilities_of (view c.args.params.now))))) _ c.in-Some.ensures)
