-- What is known of a body that is a request or a notification.
use Rattle.std.proofs.Common.{◌≡◌, ℕ, ◌↔◌, List, [], ◌∷◌, Bool, true, false, not, ◌&&◌, ◌||◌, is_some, is_none, Option, Some, None, option_map, option_and_then, unwrap_or, refl, ap, ◌∙◌, codes}
use Rattle.serde_json.specs.Data.{Data, null, boolean, number, string, array, object}
use Rattle.serde_json.specs.Find.{get, as_str}
use Rattle.lsp_rpc.specs.Body.{json_of, has, text_member}
use Rattle.lsp_rpc.specs.Message.{IdData, request, notification, response, invalid_request, parse_error, first_case, call_of, message_in, message_of, as_id, id_of, method_of, params_of, is_object, is_response, has_bad_id, is_version_two, names_method}
use Rattle.lsp_rpc.specs.Laws.{OnlyJsonIsRead, IsRequest, RequestsAreCalls, IsNotification, NotificationsAreCalls}
use Rattle.lsp_rpc.specs.declared.method.Method.{Method}

not_unread : (object answer bad version named : Bool) (i : Option IdData) (m : Option Method) (p : Data)
    → first_case ((not object, invalid_request None) ∷ (answer, response) ∷ (bad, invalid_request None) ∷ (not version || not named, invalid_request i) ∷ []) (call_of i m p) ≡ parse_error → ⊥
not_unread false answer bad version named i m p h = cc
not_unread true true bad version named i m p h = cc
not_unread true false true version named i m p h = cc
not_unread true false false false named i m p h = cc
not_unread true false false true false i m p h = cc
not_unread true false false true true None m p h = cc
not_unread true false false true true (Some j) m p h = cc

only_json : (o : Option Data) → (unwrap_or (option_map message_in o) parse_error ≡ parse_error) ↔ (o ≡ None)
only_json None = (λ h. refl, λ h. refl)
only_json (Some d) = (λ h. absurd (not_unread (is_object d) (is_response d) (has_bad_id d) (is_version_two d) (names_method d) (id_of d) (method_of d) (params_of d) h), λ h. cc)

pub parse_errors : OnlyJsonIsRead
parse_errors body = only_json (json_of body)

record Passes (version named : Bool) (i : Option IdData) (m : Option Method) (p : Data) (id : IdData) (method : Option Method) (params : Data) : Type 0 where
  version_is : version ≡ true
  named_is : named ≡ true
  id_is : i ≡ Some id
  method_is : m ≡ method
  params_are : p ≡ params

passes : (object answer bad version named : Bool) (i : Option IdData) (m : Option Method) (p : Data) (id : IdData) (method : Option Method) (params : Data)
    → first_case ((not object, invalid_request None) ∷ (answer, response) ∷ (bad, invalid_request None) ∷ (not version || not named, invalid_request i) ∷ []) (call_of i m p) ≡ request id method params
    → Passes version named i m p id method params
passes false answer bad version named i m p id method params h = cc
passes true true bad version named i m p id method params h = cc
passes true false true version named i m p id method params h = cc
passes true false false false named i m p id method params h = cc
passes true false false true false i m p id method params h = cc
passes true false false true true None m p id method params h = cc
passes true false false true true (Some j) m p id method params h = record { version_is = refl; named_is = refl; id_is = cc; method_is = cc; params_are = cc }

is_request : (d : Data) (id : IdData) (method : Option Method) (params : Data) → message_in d ≡ request id method params → IsRequest d id method params
is_request d id method params h =
    let w = passes (is_object d) (is_response d) (has_bad_id d) (is_version_two d) (names_method d) (id_of d) (method_of d) (params_of d) id method params h in
    record { version = w.version_is; named = w.named_is; id = w.id_is; method = w.method_is; params = w.params_are }

-- ---- a value that names a method is an object, and no response

named_some : (k : List ℕ) (d : Data) → is_some (text_member k d) ≡ true → has k d ≡ true
named_some k d named = by (get k d) named
  where
    by : (o : Option Data) → is_some (option_and_then as_str o) ≡ true → is_some o ≡ true
    by None h = h
    by (Some e) h = refl

has_object : (k : List ℕ) (d : Data) → has k d ≡ true → is_object d ≡ true
has_object k null there = there
has_object k (boolean b) there = there
has_object k (number n) there = there
has_object k (string s) there = there
has_object k (array ds) there = there
has_object k (object ms) there = refl

no_response : (method result : Bool) → method ≡ true → (not method && result) ≡ false
no_response true result there = refl
no_response false result there = cc (there)

-- the tests of a call, all passed
calls : (object answer bad version named : Bool) (i : Option IdData) (m : Option Method) (p : Data)
    → object ≡ true → answer ≡ false → bad ≡ false → version ≡ true → named ≡ true
    → first_case ((not object, invalid_request None) ∷ (answer, response) ∷ (bad, invalid_request None) ∷ (not version || not named, invalid_request i) ∷ []) (call_of i m p) ≡ call_of i m p
calls false answer bad version named i m p h a b v n = cc (h)
calls true true bad version named i m p h a b v n = cc (a)
calls true false true version named i m p h a b v n = cc (b)
calls true false false false named i m p h a b v n = cc (v)
calls true false false true false i m p h a b v n = cc (n)
calls true false false true true i m p h a b v n = refl

is_call : (d : Data) → is_version_two d ≡ true → names_method d ≡ true → has_bad_id d ≡ false → message_in d ≡ call_of (id_of d) (method_of d) (params_of d)
is_call d version named good =
    let there = named_some (codes "method") d named in
    calls (is_object d) (is_response d) (has_bad_id d) (is_version_two d) (names_method d) (id_of d) (method_of d) (params_of d)
    (has_object (codes "method") d there) (no_response (has (codes "method") d) (has (codes "result") d || has (codes "error") d) there) good version named

message_is : (body : List ℕ) (d : Data) → json_of body ≡ Some d → message_of body ≡ message_in d
message_is body d is = ap (λ o. unwrap_or (option_map message_in o) parse_error) is

-- ---- requests

good_id : (there : Bool) (i : Option IdData) (id : IdData) → i ≡ Some id → (there && is_none i) ≡ false
good_id false i id is = refl
good_id true None id is = cc (is)
good_id true (Some j) id is = refl

requested : (d : Data) (id : IdData) (method : Option Method) (params : Data) → IsRequest d id method params → message_in d ≡ request id method params
requested d id method params is =
    is_call d is.version is.named (good_id (has (codes "id") d) (id_of d) id is.id)
    ∙ ap (λ i. call_of i (method_of d) (params_of d)) is.id ∙ ap (λ m. request id m (params_of d)) is.method ∙ ap (request id method) is.params

from_value : (o : Option Data) (id : IdData) (method : Option Method) (params : Data) → unwrap_or (option_map message_in o) parse_error ≡ request id method params
    → (d : Data) × (o ≡ Some d) × IsRequest d id method params
from_value None id method params h = cc
from_value (Some d) id method params h = (d, refl, is_request d id method params h)

pub requests : RequestsAreCalls
requests body id method params = (
  λ h. from_value (json_of body) id method params h,
  λ h. message_is body h.0 h.1 ∙ requested h.0 id method params h.2,
)

-- ---- notifications

record Unnumbered (bad version named : Bool) (i : Option IdData) (m : Option Method) (p : Data) (method : Option Method) (params : Data) : Type 0 where
  bad_is : bad ≡ false
  version_is : version ≡ true
  named_is : named ≡ true
  id_is : i ≡ None
  method_is : m ≡ method
  params_are : p ≡ params

unnumbered : (object answer bad version named : Bool) (i : Option IdData) (m : Option Method) (p : Data) (method : Option Method) (params : Data)
    → first_case ((not object, invalid_request None) ∷ (answer, response) ∷ (bad, invalid_request None) ∷ (not version || not named, invalid_request i) ∷ []) (call_of i m p) ≡ notification method params
    → Unnumbered bad version named i m p method params
unnumbered false answer bad version named i m p method params h = cc
unnumbered true true bad version named i m p method params h = cc
unnumbered true false true version named i m p method params h = cc
unnumbered true false false false named i m p method params h = cc
unnumbered true false false true false i m p method params h = cc
unnumbered true false false true true None m p method params h = record { bad_is = refl; version_is = refl; named_is = refl; id_is = refl; method_is = cc; params_are = cc }
unnumbered true false false true true (Some j) m p method params h = cc

absent : (there : Bool) (i : Option IdData) → (there && is_none i) ≡ false → i ≡ None → there ≡ false
absent false i good none = refl
absent true None good none = cc
absent true (Some j) good none = cc

is_notification : (d : Data) (method : Option Method) (params : Data) → message_in d ≡ notification method params → IsNotification d method params
is_notification d method params h =
    let w = unnumbered (is_object d) (is_response d) (has_bad_id d) (is_version_two d) (names_method d) (id_of d) (method_of d) (params_of d) method params h in
    record { version = w.version_is; named = w.named_is; no_id = absent (has (codes "id") d) (id_of d) w.bad_is w.id_is; method = w.method_is; params = w.params_are }

no_bad_id : (there : Bool) (i : Option IdData) → there ≡ false → (there && is_none i) ≡ false
no_bad_id false i none = refl
no_bad_id true i none = cc (none)

no_number : (o : Option Data) → is_some o ≡ false → option_and_then as_id o ≡ None
no_number None none = refl
no_number (Some e) none = cc (none)

notified : (d : Data) (method : Option Method) (params : Data) → IsNotification d method params → message_in d ≡ notification method params
notified d method params is =
    is_call d is.version is.named (no_bad_id (has (codes "id") d) (id_of d) is.no_id)
    ∙ ap (λ i. call_of i (method_of d) (params_of d)) (no_number (get (codes "id") d) is.no_id)
    ∙ ap (λ m. notification m (params_of d)) is.method ∙ ap (notification method) is.params

from_notified : (o : Option Data) (method : Option Method) (params : Data) → unwrap_or (option_map message_in o) parse_error ≡ notification method params
    → (d : Data) × (o ≡ Some d) × IsNotification d method params
from_notified None method params h = cc
from_notified (Some d) method params h = (d, refl, is_notification d method params h)

pub notifications : NotificationsAreCalls
notifications body method params = (
  λ h. from_notified (json_of body) method params h,
  λ h. message_is body h.0 h.1 ∙ notified h.0 method params h.2,
)
