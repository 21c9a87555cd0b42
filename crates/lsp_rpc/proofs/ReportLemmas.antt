-- The tokens of the diagnostics of a report, of the reports of a workspace, and of a version that is published.
use Rattle.std.proofs.Common.{◌≡◌, ℤ, Option, Some, None, List, [], ◌∷◌, ◌++◌, map, flat_map, refl, ap, ◌∙◌, append_assoc}
use Rattle.json.specs.Token.{Token, end_array, end_object}
use Rattle.json.specs.Tree.{json_tokens, items_tokens, members_tokens}
use Rattle.serde_json.specs.View.{items_of}
use Rattle.serde_json.specs.Written.{outline, items_outline, members_outline}
use Rattle.lsp_rpc.specs.Diagnostic.{diagnostic_value, diagnostic_view}
use Rattle.lsp_rpc.specs.Workspace.{document_value, document_view}
use Rattle.lsp_rpc.specs.Notification.{version_members, version_tokens}
use Rattle.lsp_rpc.specs.declared.diagnostic.Diagnostic.{Diagnostic}
use Rattle.lsp_rpc.specs.declared.workspace.DocumentReport.{DocumentReport}

abbrev pub diagnostic_tokens : Diagnostic → List Token
diagnostic_tokens d = json_tokens (outline (diagnostic_value (diagnostic_view d)))

abbrev pub items_tokens_of : List Diagnostic → List Token
items_tokens_of ds = flat_map diagnostic_tokens ds

-- with the closing bracket
pub items_tokens-closed : (ds : List Diagnostic) → items_tokens_of ds ++ end_array ∷ [] ≡ items_tokens (items_outline (items_of (map diagnostic_value (map diagnostic_view ds))))
items_tokens-closed [] = refl
items_tokens-closed (d ∷ ds) = append_assoc (diagnostic_tokens d) (items_tokens_of ds) (end_array ∷ []) ∙ ap (λ ts. diagnostic_tokens d ++ ts) (items_tokens-closed ds)

abbrev pub document_tokens : DocumentReport → List Token
document_tokens r = json_tokens (outline (document_value (document_view r)))

abbrev pub documents_tokens_of : List DocumentReport → List Token
documents_tokens_of rs = flat_map document_tokens rs

-- with the closing bracket
pub documents_tokens-closed : (rs : List DocumentReport) → documents_tokens_of rs ++ end_array ∷ [] ≡ items_tokens (items_outline (items_of (map document_value (map document_view rs))))
documents_tokens-closed [] = refl
documents_tokens-closed (r ∷ rs) = append_assoc (document_tokens r) (documents_tokens_of rs) (end_array ∷ []) ∙ ap (λ ts. document_tokens r ++ ts) (documents_tokens-closed rs)

-- the version's member, with the closing brace
pub version-closed : (version : Option ℤ) → version_tokens version ++ end_object ∷ [] ≡ members_tokens (members_outline (version_members version))
version-closed None = refl
version-closed (Some version) = refl
