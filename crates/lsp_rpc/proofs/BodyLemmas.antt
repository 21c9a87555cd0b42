-- Where the bytes are no text, or the text has no value, a body has none.
use Rattle.std.proofs.Common.{◌≡◌, ℕ, List, Bool, true, false, cond, Option, None, refl, sym}
use Rattle.std.specs.Prelude.{IsUtf8}
use Rattle.std.specs.Str.{is_utf8}
use Rattle.std.proofs.lemmas.Str.{IsUtf8-from_is_utf8, is_utf8-from_IsUtf8}
use Rattle.serde_json.specs.Data.{Data}
use Rattle.serde_json.specs.Read.{read}
use Rattle.lsp_rpc.specs.Body.{json_of}

no_value_by : (body : List ℕ) (b : Bool) → is_utf8 body ≡ b → (IsUtf8 body → read body ≡ None) → None ≡ cond b (read body) None
no_value_by body true e none = sym (none (IsUtf8-from_is_utf8 body e))
no_value_by body false e none = refl

pub no_value : (body : List ℕ) → (IsUtf8 body → read body ≡ None) → None ≡ json_of body
no_value body none = no_value_by body (is_utf8 body) refl none

pub value_of : (body : List ℕ) (o : Option Data) → IsUtf8 body → read body ≡ o → o ≡ json_of body
value_of body o text e = rw (is_utf8-from_IsUtf8 body text) (sym e)
