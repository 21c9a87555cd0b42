-- What the bodies of a file hold, with its numbers as integers: the words in which a file's diagnostics are said.
use Rattle.std.specs.Prelude.{◌≡◌, ℕ, ℤ, pos, negsuc, neg_ℤ, ◌≤ℤ◌, Bool, false, List, [], ◌∷◌, Contains, codes, if◌then◌else◌}
use Rattle.std.specs.List.{flat_map}
use Rattle.proto_tree.specs.declared.node.Span.{Span}
use Rattle.proto_tree.specs.declared.node.Literal.{Literal}
use Rattle.proto_tree.specs.declared.node.Number.{Number}
use Rattle.proto_tree.specs.declared.node.RangeEnd.{RangeEnd}
use Rattle.proto_tree.specs.declared.node.RangeEnd.TheVariants as bound
use Rattle.proto_tree.specs.declared.node.ReservedList.TheVariants.{Ranges, Names}
use Rattle.proto_tree.specs.declared.node.ReservedRange.{ReservedRange}
use Rattle.proto_tree.specs.declared.node.TypeName.{TypeName}
use Rattle.proto_tree.specs.declared.node.Node.{Node, out-Node}
use Rattle.proto_tree.specs.declared.node.Node.TheOpen.{Node-F}
use Rattle.proto_decls.specs.declared.part.Numbering.{Numbering}
use Rattle.proto_decls.specs.declared.part.Numbering.TheVariants.{Fields, Values}
use Rattle.proto_decls.specs.Numbers.{int_value}
use Rattle.proto_decls.specs.Text.{text_at}

-- ---- lists and trees

-- the one stands before the other in the list
pub data Precedes {X : Type 0} : List X → X → X → Type 0 where
  first : {xs : List X} {x y : X} → Contains xs y → Precedes (x ∷ xs) x y
  behind : {xs : List X} {x y z : X} → Precedes xs x y → Precedes (z ∷ xs) x y

-- the statements between the braces of a block; no other statement holds statements
abbrev pub between_braces : Node-F Node → List Node
between_braces (Node-F.Message span name items) = items
between_braces (Node-F.EnumDef span name items) = items
between_braces (Node-F.Service span name items) = items
between_braces (Node-F.Oneof span name items) = items
between_braces (Node-F.Extend span target items) = items
between_braces (Node-F.Rpc span name request response items) = items
between_braces _ = []

-- the statement stands in the body, or between the braces of a block in it, at any depth
pub data HasStatement : List Node → Node → Type 0 where
  itself : {body : List Node} {n : Node} → Contains body n → HasStatement body n
  within : {body : List Node} {block n : Node} → Contains body block → HasStatement (between_braces (out-Node block)) n → HasStatement body n

-- ---- numbers

-- a number of any size, with its minus
abbrev pub signed : Bool → ℕ → ℤ
signed is_negative v = if is_negative then neg_ℤ (pos v) else pos v

-- the number that stands in the text
abbrev pub number_in : List ℕ → Number → ℤ
number_in text n = signed n.is_negative (int_value (text_at text n.digits))

-- from the least to the greatest number: those of fields, those of enum values
abbrev pub lowest : Numbering → ℤ
lowest Fields = pos 1
lowest Values = negsuc 2147483647

abbrev pub highest : Numbering → ℤ
highest Fields = pos 536870911
highest Values = pos 2147483647

abbrev pub IsInRange : Numbering → ℤ → Type 0
IsInRange numbering v = (lowest numbering ≤ℤ v) × (v ≤ℤ highest numbering)

-- ---- fields and values

-- a field, an extension or an enum value: its name and its number
pub record Numbered : Type 0 where
  pub name : Span
  pub number : Number

-- the number of a field has no minus
abbrev pub unsigned : Span → Number
unsigned s = record { span = s; is_negative = false; digits = s }

abbrev pub plain_field : Node-F Node → List Numbered
plain_field (Node-F.Field f) = record { name = f.name; number = unsigned f.number } ∷ []
plain_field _ = []

-- the fields of an `extend` block or a oneof
abbrev pub plain_fields : List Node → List Numbered
plain_fields items = flat_map (λ n. plain_field (out-Node n)) items

abbrev pub fields_at : Node-F Node → List Numbered
fields_at (Node-F.Field f) = record { name = f.name; number = unsigned f.number } ∷ []
fields_at (Node-F.MapField f) = record { name = f.name; number = unsigned f.number } ∷ []
fields_at (Node-F.Oneof span name items) = plain_fields items
fields_at _ = []

-- the fields of a message, with its maps and those of its oneofs
abbrev pub message_fields : List Node → List Numbered
message_fields items = flat_map (λ n. fields_at (out-Node n)) items

abbrev pub values_at : Node-F Node → List Numbered
values_at (Node-F.Value span name number) = record { name = name; number = number } ∷ []
values_at _ = []

-- the values of an enum
abbrev pub enum_values : List Node → List Numbered
enum_values items = flat_map (λ n. values_at (out-Node n)) items

-- ---- bodies

-- the body of a message or of an enum: what its numbers are, its statements, and its fields or values
pub data IsBody (nodes : List Node) : Numbering → List Node → List Numbered → Type 0 where
  of_message : {n : Node} {span name : Span} {items : List Node} → HasStatement nodes n → out-Node n ≡ Node-F.Message span name items → IsBody nodes Fields items (message_fields items)
  of_enum : {n : Node} {span name : Span} {items : List Node} → HasStatement nodes n → out-Node n ≡ Node-F.EnumDef span name items → IsBody nodes Values items (enum_values items)

-- the number of a field or an enum value, or of an extension
pub data IsNumber (nodes : List Node) : Numbering → Number → Type 0 where
  of_member : {numbering : Numbering} {items : List Node} {members : List Numbered} {m : Numbered} → IsBody nodes numbering items members → Contains members m → IsNumber nodes numbering m.number
  of_extension : {n : Node} {span : Span} {target : TypeName} {items : List Node} {m : Numbered} → HasStatement nodes n → out-Node n ≡ Node-F.Extend span target items → Contains (plain_fields items) m → IsNumber nodes Fields m.number

-- ---- reserved

abbrev pub ranges_at : Node-F Node → List ReservedRange
ranges_at (Node-F.Reserved span (Ranges rs)) = rs
ranges_at _ = []

-- the ranges of the `reserved` statements of a body
abbrev pub reserved_ranges : List Node → List ReservedRange
reserved_ranges items = flat_map (λ n. ranges_at (out-Node n)) items

abbrev pub names_at : Node-F Node → List Literal
names_at (Node-F.Reserved span (Names ls)) = ls
names_at _ = []

-- the names of the `reserved` statements of a body
abbrev pub reserved_names : List Node → List Literal
reserved_names items = flat_map (λ n. names_at (out-Node n)) items

-- a number that a reserved range of a body states: its first, or the one after `to`
pub data IsBound (nodes : List Node) : Numbering → Number → Type 0 where
  of_low : {numbering : Numbering} {items : List Node} {members : List Numbered} {r : ReservedRange} → IsBody nodes numbering items members → Contains (reserved_ranges items) r → IsBound nodes numbering r.low
  of_high : {numbering : Numbering} {items : List Node} {members : List Numbered} {r : ReservedRange} {n : Number} → IsBody nodes numbering items members → Contains (reserved_ranges items) r → r.high ≡ bound.Number n → IsBound nodes numbering n

-- where a range ends: with the number after `to` or with `max`, or else with its first number
abbrev pub range_end : Number → RangeEnd → ℕ
range_end low bound.Same = low.span.end
range_end low (bound.Number n) = n.span.end
range_end low (bound.Max s) = s.end

-- from where to where it stands
abbrev pub whole_range : ReservedRange → Span
whole_range r = record { start = r.low.span.start; end = range_end r.low r.high }

-- the last number of a range: without one its first, and for `max` the greatest
abbrev pub last_in : Numbering → List ℕ → Number → RangeEnd → ℤ
last_in numbering text low bound.Same = number_in text low
last_in numbering text low (bound.Number n) = number_in text n
last_in numbering text low (bound.Max s) = highest numbering

module _ (numbering : Numbering) (text : List ℕ) (r : ReservedRange) where
  abbrev pub from_is : ℤ
  from_is = number_in text r.low

  abbrev pub to_is : ℤ
  to_is = last_in numbering text r.low r.high

  -- both of its numbers are in range
  abbrev pub HasBounds : Type 0
  HasBounds = IsInRange numbering from_is × IsInRange numbering to_is

  -- the number is reserved by it: it lies between the two, both included; a range that is out of range, or runs backwards, reserves none
  abbrev pub Reserves : ℤ → Type 0
  Reserves v = HasBounds × (from_is ≤ℤ v) × (v ≤ℤ to_is)

-- ---- enums

-- the enum has `option allow_alias = true;`
pub data AllowsAlias (text : List ℕ) (items : List Node) : Type 0 where
  by_option : {n : Node} {span name value : Span} → Contains items n → out-Node n ≡ Node-F.OptionDef span name value → text_at text name ≡ codes "allow_alias" → text_at text value ≡ codes "true" → AllowsAlias text items
