-- The replies to requests: JSON-RPC 2.0, section 5, "Response object". The keys of each object stand in
-- the order of their bytes.
use Rattle.std.specs.Prelude.{ℕ, ℤ, pos, ◌-ℤ◌, List, [], ◌∷◌, ◌++◌, Option, Some, None, codes}
use Rattle.serde_json.specs.Data.{Data, null, number, string, object, member, no_members}
use Rattle.serde_json.specs.Find.{of_integer}
use Rattle.serde_json.specs.Written.{outline}
use Rattle.json.specs.Token.{Token}
use Rattle.json.specs.Tree.{json_tokens}
use Rattle.lsp_rpc.specs.Message.{IdData, number_id, text_id}
use Rattle.lsp_rpc.specs.declared.error_code.ErrorCode.{ErrorCode}
use Rattle.lsp_rpc.specs.declared.error_code.ErrorCode.TheVariants.{ParseError, InvalidRequest, MethodNotFound, InvalidParams, ServerNotInitialized, RenameRefused}
use Rattle.lsp_rpc.specs.declared.error_code.RenameRefusal.{RenameRefusal}
use Rattle.lsp_rpc.specs.declared.error_code.RenameRefusal.TheVariants.{NoSymbol, NotRenamable, BadName, NameTaken, MeaningChanges}

abbrev pub id_value : IdData → Data
id_value (number_id n) = number (of_integer n)
id_value (text_id s) = string s

-- what could not be read as a call has no id
abbrev pub id_or_null : Option IdData → Data
id_or_null None = null
id_or_null (Some id) = id_value id

abbrev pub result_reply : IdData → Data → Data
result_reply id result =
    object (member (codes "id") (id_value id)
    (member (codes "jsonrpc") (string (codes "2.0"))
    (member (codes "result") result no_members)))

-- ---- errors

-- each refusal of a rename with its number
abbrev pub refusal_text : RenameRefusal → List ℕ
refusal_text NoSymbol = codes "rename refused: 701"
refusal_text NotRenamable = codes "rename refused: 702"
refusal_text BadName = codes "rename refused: 703"
refusal_text NameTaken = codes "rename refused: 704"
refusal_text MeaningChanges = codes "rename refused: 705"

-- the number of an error, and its message
abbrev pub error_row : ErrorCode → ℤ × List ℕ
error_row ParseError = (pos 0 -ℤ pos 32700, codes "parse error")
error_row InvalidRequest = (pos 0 -ℤ pos 32600, codes "invalid request")
error_row MethodNotFound = (pos 0 -ℤ pos 32601, codes "method not found")
error_row InvalidParams = (pos 0 -ℤ pos 32602, codes "invalid params")
error_row ServerNotInitialized = (pos 0 -ℤ pos 32002, codes "server not initialized")
error_row (RenameRefused refusal) = (pos 0 -ℤ pos 32803, refusal_text refusal)

abbrev pub error_value : ErrorCode → Data
error_value code =
    object (member (codes "code") (number (of_integer (error_row code).0))
    (member (codes "message") (string (error_row code).1) no_members))

abbrev pub error_reply : Option IdData → ErrorCode → Data
error_reply id code =
    object (member (codes "error") (error_value code)
    (member (codes "id") (id_or_null id)
    (member (codes "jsonrpc") (string (codes "2.0")) no_members)))

-- ---- for private clauses

-- the tokens of a reply up to its result
abbrev pub tokens_to_result : IdData → List Token
tokens_to_result id =
    Token.begin_object ∷ Token.key (codes "id") ∷ json_tokens (outline (id_value id))
    ++ Token.key (codes "jsonrpc") ∷ Token.string (codes "2.0") ∷ Token.key (codes "result") ∷ []
