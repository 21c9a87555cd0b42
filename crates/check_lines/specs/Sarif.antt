-- The JSON value that a document of SARIF is, with a result for each diagnostic.
use Rattle.std.specs.Prelude.{List, codes}
use Rattle.serde_json.specs.Data.{Data, string, array, item, no_items, object, member, no_members}
use Rattle.serde_json.specs.View.{items_of}
use Rattle.proto_decls.specs.declared.diagnostic.Diag.{Diag}
use Rattle.check_lines.specs.Lines.{ListedFileData, below, start_of, end_of, file_uri, result_value}

-- the result of a diagnostic of a file
abbrev pub result_of : ListedFileData → Diag → Data
result_of file d = result_value (file_uri (below file.folder file.path)) (start_of file d) (end_of file d) d.message

abbrev pub driver_value : Data
driver_value = object (member (codes "driver") (object (member (codes "name") (string (codes "protols")) no_members)) no_members)

-- the one run
abbrev pub run_value : List Data → Data
run_value rs =
    object (member (codes "tool") driver_value
    (member (codes "columnKind") (string (codes "utf16CodeUnits"))
    (member (codes "results") (array (items_of rs)) no_members)))

-- the document with these results
abbrev pub document_value : List Data → Data
document_value rs =
    object (member (codes "version") (string (codes "2.1.0"))
    (member (codes "$schema") (string (codes "https://json.schemastore.org/sarif-2.1.0.json"))
    (member (codes "runs") (array (item (run_value rs) no_items)) no_members)))
