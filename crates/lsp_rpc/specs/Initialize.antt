-- What the server tells of itself: Language Server Protocol 3.17, "InitializeResult".
use Rattle.std.specs.Prelude.{codes, true}
use Rattle.serde_json.specs.Data.{Data, boolean, number, unsigned, string, object, member, no_members}
use Rattle.doc_text.specs.declared.encoding.Encoding.{Encoding}
use Rattle.lsp_rpc.specs.Encoding.{encoding_name}

-- diagnostics of one file depend on others, and may be asked for the whole workspace
abbrev pub diagnostic_options : Data
diagnostic_options =
    object (member (codes "interFileDependencies") (boolean true)
    (member (codes "workspaceDiagnostics") (boolean true) no_members))

-- the editor tells of opening, closing and saving, and sends changes in parts
abbrev pub sync_options : Data
sync_options =
    object (member (codes "change") (number (unsigned 2))
    (member (codes "openClose") (boolean true)
    (member (codes "save") (boolean true) no_members)))

-- both sides count characters of positions in the encoding
abbrev pub capabilities : Encoding → Data
capabilities encoding =
    object (member (codes "definitionProvider") (boolean true)
    (member (codes "diagnosticProvider") diagnostic_options
    (member (codes "positionEncoding") (string (encoding_name encoding))
    (member (codes "referencesProvider") (boolean true)
    (member (codes "renameProvider") (boolean true)
    (member (codes "textDocumentSync") sync_options
    (member (codes "workspaceSymbolProvider") (boolean true) no_members)))))))

abbrev pub server_info : Data
server_info =
    object (member (codes "name") (string (codes "protols"))
    (member (codes "version") (string (codes "1")) no_members))

abbrev pub initialize_result : Encoding → Data
initialize_result encoding =
    object (member (codes "capabilities") (capabilities encoding)
    (member (codes "serverInfo") server_info no_members))
