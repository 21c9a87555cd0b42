-- The line of a diagnostic, as each format writes it.
use Rattle.std.specs.Prelude.{ℕ, ◌+◌, ◌==◌, List, [], ◌∷◌, ◌++◌, length, Bool, true, false, not, ◌&&◌, if◌then◌else◌, Option, Some, None, nat_eq, bytes_eq, codes, decimal}
use Rattle.std.specs.List.{flat_map, starts_with, ends_with}
use Rattle.serde_json.specs.Data.{Data, number, unsigned, string, array, item, no_items, object, member, no_members}
use Rattle.serde_json.specs.Written.{compact_text}
use Rattle.workspace_uri.specs.Uri.{escaped}
use Rattle.doc_text.specs.Positions.{position_of}
use Rattle.doc_text.specs.declared.encoding.Encoding.TheVariants.{Utf16}
use Rattle.doc_text.specs.declared.position.Position.{Position}
use Rattle.proto_decls.specs.declared.diagnostic.Diag.{Diag}
use Rattle.proto_decls.specs.declared.problem.Problem.{Problem}
use Rattle.proto_decls.specs.Problems as message
use Rattle.check_lines.specs.declared.format.Format.{Format}
use Rattle.check_lines.specs.declared.format.Format.TheVariants.{Plain, Gnu, Github, Json, Sarif}

abbrev pub format_named : List ℕ → Option Format
format_named name =
    if bytes_eq name (codes "plain") then Some Plain else (if bytes_eq name (codes "gnu") then Some Gnu else (if bytes_eq name (codes "github") then Some Github else (if bytes_eq name (codes "json") then Some Json else (if bytes_eq name (codes "sarif") then Some Sarif else None))))

-- ---- plain

-- where a diagnostic stands, behind its path: lines and columns count from 1, columns in UTF-16 units
abbrev pub place_behind : Position → List ℕ
place_behind place = codes ":" ++ decimal (place.line + 1) ++ codes ":" ++ decimal (place.character + 1)

-- what it says, with the line's end
abbrev pub words_of : Problem → List ℕ
words_of m = codes ": " ++ decimal (message.code m) ++ codes " " ++ message.text m ++ codes "\n"

abbrev pub line_at : List ℕ → Position → Problem → List ℕ
line_at path place m = path ++ place_behind place ++ words_of m

abbrev pub line_of : List ℕ → List ℕ → Diag → List ℕ
line_of path text d = line_at path (position_of Utf16 text d.start) d.message

-- a line for each of some diagnostics of a file, given its path and its text
abbrev pub lines_of : List ℕ → List ℕ → List Diag → List ℕ
lines_of path text diags = flat_map (line_of path text) diags

-- ---- as compilers write them (GNU coding standards, "Formatting Error Messages")

-- whether a slash stands between a folder and what is below it: not behind one that ends with a slash, and not where no folder is shown
abbrev pub needs_slash : List ℕ → Bool
needs_slash folder = not (length folder == 0) && not (ends_with nat_eq folder (codes "/"))

-- a path below a folder
abbrev pub below : List ℕ → List ℕ → List ℕ
below folder path = folder ++ (if needs_slash folder then codes "/" else []) ++ path

-- whether a message is one of an error, and not of an information
abbrev pub is_error_message : Problem → Bool
is_error_message m = message.severity m == 1

abbrev pub severity_word : Problem → List ℕ
severity_word m = if is_error_message m then codes "error" else codes "info"

abbrev pub gnu_words : Problem → List ℕ
gnu_words m = codes ": " ++ severity_word m ++ codes ": " ++ message.text m ++ codes " [" ++ decimal (message.code m) ++ codes "]\n"

abbrev pub gnu_line : List ℕ → List ℕ → Position → Problem → List ℕ
gnu_line folder path place m = below folder path ++ place_behind place ++ gnu_words m

-- ---- workflow commands of GitHub's build service ("Workflow commands for GitHub Actions")

-- a byte of a command's message: a per cent sign, a carriage return and a line feed are escaped
abbrev pub escaped_byte : ℕ → List ℕ
escaped_byte b = if b == 37 then codes "%25" else (if b == 13 then codes "%0D" else (if b == 10 then codes "%0A" else b ∷ []))

-- a byte of a property: so are a colon and a comma
abbrev pub property_byte : ℕ → List ℕ
property_byte b = if b == 58 then codes "%3A" else (if b == 44 then codes "%2C" else escaped_byte b)

abbrev pub command_word : Problem → List ℕ
command_word m = if is_error_message m then codes "error" else codes "notice"

-- a command, and of which file it speaks
abbrev pub github_file : List ℕ → List ℕ → Problem → List ℕ
github_file folder path m = codes "::" ++ command_word m ++ codes " file=" ++ flat_map property_byte (below folder path)

abbrev pub github_place : Position → List ℕ
github_place place = codes ",line=" ++ decimal (place.line + 1) ++ codes ",col=" ++ decimal (place.character + 1)

-- what it says, with the line's end
abbrev pub github_words : Problem → List ℕ
github_words m = codes "::" ++ decimal (message.code m) ++ codes " " ++ flat_map escaped_byte (message.text m) ++ codes "\n"

abbrev pub github_line : List ℕ → List ℕ → Position → Problem → List ℕ
github_line folder path place m = github_file folder path m ++ github_place place ++ github_words m

-- ---- JSON

abbrev pub natural : ℕ → Data
natural n = number (unsigned n)

-- a place: lines and columns count from 1, columns in UTF-16 units, and bytes from 0
abbrev pub place_value : ℕ → Position → Data
place_value byte place =
    object (member (codes "byte") (natural byte)
    (member (codes "column") (natural (place.character + 1))
    (member (codes "line") (natural (place.line + 1)) no_members)))

-- a diagnostic of a file, from where it begins up to the first place behind it; the keys of each object stand in the order of their bytes
abbrev pub finding_value : List ℕ → List ℕ → Position → Position → Diag → Data
finding_value folder path start end d =
    object (member (codes "code") (natural (message.code d.message))
    (member (codes "end") (place_value d.end end)
    (member (codes "folder") (string folder)
    (member (codes "message") (string (message.text d.message))
    (member (codes "path") (string path)
    (member (codes "severity") (string (severity_word d.message))
    (member (codes "start") (place_value d.start start) no_members)))))))

unfoldable pub json_text : List ℕ → List ℕ → Position → Position → Diag → List ℕ
json_text folder path start end d = compact_text (finding_value folder path start end d)

abbrev pub json_line : List ℕ → List ℕ → Position → Position → Diag → List ℕ
json_line folder path start end d = json_text folder path start end d ++ codes "\n"

-- ---- SARIF 2.1.0 (Static Analysis Results Interchange Format, OASIS), as the items of the one array of results in a document

-- where a file is, given its path: a URI if the path begins at the top of the file system, else a reference from the current folder
abbrev pub file_uri : List ℕ → List ℕ
file_uri path = if starts_with nat_eq path (codes "/") then codes "file://" ++ escaped path else escaped path

-- a region: lines and columns count from 1, columns in UTF-16 units, and it ends before the place at its end
abbrev pub region_value : Position → Position → Data
region_value start end =
    object (member (codes "endColumn") (natural (end.character + 1))
    (member (codes "endLine") (natural (end.line + 1))
    (member (codes "startColumn") (natural (start.character + 1))
    (member (codes "startLine") (natural (start.line + 1)) no_members))))

abbrev pub artifact_value : List ℕ → Data
artifact_value uri = object (member (codes "uri") (string uri) no_members)

abbrev pub location_value : List ℕ → Position → Position → Data
location_value uri start end =
    object (member (codes "physicalLocation")
    (object (member (codes "artifactLocation") (artifact_value uri) (member (codes "region") (region_value start end) no_members))) no_members)

abbrev pub level_word : Problem → List ℕ
level_word m = if is_error_message m then codes "error" else codes "note"

abbrev pub message_value : List ℕ → Data
message_value text = object (member (codes "text") (string text) no_members)

-- a diagnostic of a file with this URI; the keys of each object stand in the order of their bytes
abbrev pub result_value : List ℕ → Position → Position → Problem → Data
result_value uri start end m =
    object (member (codes "level") (string (level_word m))
    (member (codes "locations") (array (item (location_value uri start end) no_items))
    (member (codes "message") (message_value (message.text m))
    (member (codes "ruleId") (string (decimal (message.code m))) no_members))))

unfoldable pub sarif_text : List ℕ → Position → Position → Problem → List ℕ
sarif_text uri start end m = compact_text (result_value uri start end m)

-- a result behind a comma, which the first of a document does without
abbrev pub sarif_item : List ℕ → List ℕ → Position → Position → Problem → List ℕ
sarif_item folder path start end m = codes "," ++ sarif_text (file_uri (below folder path)) start end m

-- ---- in any format

-- a file whose lines are written: how, its folder as it is shown and its path below it, and its text
pub record ListedFileData : Type 0 where
  pub format : Format
  pub folder : List ℕ
  pub path : List ℕ
  pub text : List ℕ

abbrev pub start_of : ListedFileData → Diag → Position
start_of file d = position_of Utf16 file.text d.start

abbrev pub end_of : ListedFileData → Diag → Position
end_of file d = position_of Utf16 file.text d.end

abbrev pub line_as : Format → ListedFileData → Diag → List ℕ
line_as Plain file d = line_of file.path file.text d
line_as Gnu file d = gnu_line file.folder file.path (start_of file d) d.message
line_as Github file d = github_line file.folder file.path (start_of file d) d.message
line_as Json file d = json_line file.folder file.path (start_of file d) (end_of file d) d
line_as Sarif file d = sarif_item file.folder file.path (start_of file d) (end_of file d) d.message

-- a line for each of some diagnostics of a file
abbrev pub written : ListedFileData → List Diag → List ℕ
written file diags = flat_map (line_as file.format file) diags

-- ---- the whole of what is written

-- whether the lines are the items of one array, so that the first of them does without the comma before it
abbrev pub is_array : Format → Bool
is_array Sarif = true
is_array _ = false

abbrev pub without_first : List ℕ → List ℕ
without_first [] = []
without_first (b ∷ rest) = rest

-- lines without their first byte, if that is to be left out
abbrev pub cut : Bool → List ℕ → List ℕ
cut first lines = if first then without_first lines else lines

-- what stands before all lines
abbrev pub opening : Format → List ℕ
opening Sarif = codes "{\"version\":\"2.1.0\",\"$schema\":\"https://json.schemastore.org/sarif-2.1.0.json\",\"runs\":[{\"tool\":{\"driver\":{\"name\":\"protols\"}},\"columnKind\":\"utf16CodeUnits\",\"results\":["
opening _ = []

-- and behind them
abbrev pub closing : Format → List ℕ
closing Sarif = codes "]}]}\n"
closing _ = []

-- all that is written: the lines, or the document whose results they are
abbrev pub document : Format → List ℕ → List ℕ
document Sarif lines = opening Sarif ++ without_first lines ++ closing Sarif
document _ lines = lines
