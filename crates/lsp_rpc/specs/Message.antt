-- What a body is as a message: JSON-RPC 2.0, sections 4 and 5.
use Rattle.std.specs.Prelude.{ℕ, ℤ, List, [], ◌∷◌, Bool, not, ◌&&◌, ◌||◌, if◌then◌else◌, Option, Some, None, is_some, is_none, option_map, option_and_then, unwrap_or, codes, bytes_eq, string_bytes}
use Rattle.std.specs.Option.{option_eq}
use Rattle.serde_json.specs.Data.{Data, null, boolean, number, string, array, object}
use Rattle.serde_json.specs.Find.{get, as_object, as_i64}
use Rattle.serde_json.specs.View.{view}
use Rattle.lsp_rpc.specs.Body.{json_of, has, member_or_null, text_member}
use Rattle.lsp_rpc.specs.Method.{method_named}
use Rattle.lsp_rpc.specs.declared.method.Method.{Method}
use Rattle.lsp_rpc.specs.declared.id.Id.{Id}
use Rattle.lsp_rpc.specs.declared.id.Id.TheVariants as id
use Rattle.lsp_rpc.specs.declared.message.Message.{Message}
use Rattle.lsp_rpc.specs.declared.message.Message.TheVariants as message

-- the id of a request: a whole number of 64 bits, or a string
pub data IdData : Type 0 where
  number_id : ℤ → IdData
  text_id : List ℕ → IdData

-- a method that the server doesn't know is `None`
pub data MessageData : Type 0 where
  parse_error : MessageData
  invalid_request : Option IdData → MessageData
  response : MessageData
  request : IdData → Option Method → Data → MessageData
  notification : Option Method → Data → MessageData

-- ---- the members of a message

abbrev pub as_id : Data → Option IdData
as_id null = None
as_id (boolean b) = None
as_id (number n) = option_map number_id (as_i64 n)
as_id (string s) = Some (text_id s)
as_id (array ds) = None
as_id (object ms) = None

abbrev pub id_of : Data → Option IdData
id_of d = option_and_then as_id (get (codes "id") d)

abbrev pub method_of : Data → Option Method
method_of d = option_and_then method_named (text_member (codes "method") d)

abbrev pub params_of : Data → Data
params_of d = member_or_null (codes "params") d

-- ---- the tests of a message

abbrev pub is_object : Data → Bool
is_object d = is_some (as_object d)

abbrev pub is_response : Data → Bool
is_response d = not (has (codes "method") d) && (has (codes "result") d || has (codes "error") d)

abbrev pub has_bad_id : Data → Bool
has_bad_id d = has (codes "id") d && is_none (id_of d)

abbrev pub is_version_two : Data → Bool
is_version_two d = option_eq bytes_eq (text_member (codes "jsonrpc") d) (Some (codes "2.0"))

abbrev pub names_method : Data → Bool
names_method d = is_some (text_member (codes "method") d)

-- ---- the message

-- the outcome of the first test that holds
abbrev pub first_case : List (Bool × MessageData) → MessageData → MessageData
first_case [] otherwise = otherwise
first_case (c ∷ cs) otherwise = if c.0 then c.1 else first_case cs otherwise

-- a request has an id, and a notification none
abbrev pub call_of : Option IdData → Option Method → Data → MessageData
call_of (Some id) method params = request id method params
call_of None method params = notification method params

-- A batch is an array, and so no object. What names no method and has a result or an error answers a
-- request. An id that is there is a whole number of 64 bits or a string, and not `null`. Then
-- `jsonrpc` is "2.0", and `method` a string.
abbrev pub message_in : Data → MessageData
message_in d =
    first_case
    ((not (is_object d), invalid_request None)
    ∷ (is_response d, response)
    ∷ (has_bad_id d, invalid_request None)
    ∷ (not (is_version_two d) || not (names_method d), invalid_request (id_of d))
    ∷ [])
    (call_of (id_of d) (method_of d) (params_of d))

-- a body that is no JSON text is a parse error
abbrev pub message_of : List ℕ → MessageData
message_of body = unwrap_or (option_map message_in (json_of body)) parse_error

-- ---- the Rust types beside these

abbrev pub id_view : Id → IdData
id_view (id.Number n) = number_id n
id_view (id.Text s) = text_id (string_bytes s)

abbrev pub message_view : Message → MessageData
message_view message.ParseError = parse_error
message_view (message.InvalidRequest id) = invalid_request (option_map id_view id)
message_view message.Response = response
message_view (message.Request id method params) = request (id_view id) method (view params)
message_view (message.Notification method params) = notification method (view params)
