-- The JSON value of a message's body, and its members.
use Rattle.std.specs.Prelude.{ℕ, ℤ, List, [], ◌∷◌, Bool, if◌then◌else◌, Option, None, is_some, option_map, option_and_then, unwrap_or}
use Rattle.std.specs.Str.{is_utf8}
use Rattle.serde_json.specs.Data.{Data, null, Items, no_items, item}
use Rattle.serde_json.specs.Read.{read}
use Rattle.serde_json.specs.Find.{get, as_null, as_number, as_str, as_array, as_i64, as_u64}

-- the value of a body, which is UTF-8 and one JSON text
abbrev pub json_of : List ℕ → Option Data
json_of body = if is_utf8 body then read body else None

-- whether a value is an object that has the member
abbrev pub has : List ℕ → Data → Bool
has name d = is_some (get name d)

abbrev pub is_null : Data → Bool
is_null d = is_some (as_null d)

-- a member, where a missing one looks like `null`
abbrev pub member_or_null : List ℕ → Data → Data
member_or_null name d = unwrap_or (get name d) null

-- the member, if it is a string
abbrev pub text_member : List ℕ → Data → Option (List ℕ)
text_member name d = option_and_then as_str (get name d)

-- the member, if it is a whole number from -2^63 to 2^63 - 1
abbrev pub integer_member : List ℕ → Data → Option ℤ
integer_member name d = option_and_then as_i64 (option_and_then as_number (get name d))

-- the member, if it is a whole number from 0 to 2^64 - 1
abbrev pub natural_member : List ℕ → Data → Option ℕ
natural_member name d = option_and_then as_u64 (option_and_then as_number (get name d))

-- items, one after the other
abbrev pub list_of : Items → List Data
list_of no_items = []
list_of (item d ds) = d ∷ list_of ds

-- the items of an array; what isn't an array has none
abbrev pub items_in : Data → List Data
items_in d = unwrap_or (option_map list_of (as_array d)) []
