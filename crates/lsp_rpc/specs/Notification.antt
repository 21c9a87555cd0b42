-- The notifications that the server sends: Language Server Protocol 3.17, "PublishDiagnostics Notification". The keys of each
-- object stand in the order of their bytes.
use Rattle.std.specs.Prelude.{ℤ, List, [], ◌∷◌, Option, Some, None, map, codes}
use Rattle.json.specs.Token.{Token}
use Rattle.json.specs.Tree.{json_tokens}
use Rattle.serde_json.specs.Data.{Data, Members, number, string, array, object, member, no_members}
use Rattle.serde_json.specs.Find.{of_integer}
use Rattle.serde_json.specs.View.{items_of}
use Rattle.serde_json.specs.Written.{outline}
use Rattle.lsp_rpc.specs.Diagnostic.{diagnostic_value}
use Rattle.lsp_rpc.specs.Workspace.{DocumentData}

-- a missing version isn't written
abbrev pub version_members : Option ℤ → Members
version_members None = no_members
version_members (Some version) = member (codes "version") (number (of_integer version)) no_members

-- the diagnostics of a document, in order, its URI, and its version if it has one
abbrev pub published_value : DocumentData → Data
published_value r =
    object (member (codes "diagnostics") (array (items_of (map diagnostic_value r.diagnostics)))
    (member (codes "uri") (string r.uri)
    (version_members r.version)))

-- the notification that publishes them
abbrev pub publication_value : DocumentData → Data
publication_value r =
    object (member (codes "jsonrpc") (string (codes "2.0"))
    (member (codes "method") (string (codes "textDocument/publishDiagnostics"))
    (member (codes "params") (published_value r) no_members)))

-- the tokens of the version's member, for private clauses
abbrev pub version_tokens : Option ℤ → List Token
version_tokens None = []
version_tokens (Some version) = Token.key (codes "version") ∷ json_tokens (outline (number (of_integer version)))
