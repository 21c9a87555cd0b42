-- What is wrong in a file by itself: each check is said of one field, value, range or
-- name, or of one and those before it. The numbers are those of the diagnostics.
use Rattle.std.specs.Prelude.{ℕ, Bool, false, not, ◌&&◌, ◌==◌, List, [], ◌∷◌, ◌++◌, Option, Some, None, map, filter, take, is_some, nat_le, codes, if◌then◌else◌}
use Rattle.std.specs.List.{flat_map, filter_map, list_any, enumerate_from}
use Rattle.std.specs.Str.{bytes_eq}
use Rattle.proto_tree.specs.declared.node.Span.{Span}
use Rattle.proto_tree.specs.declared.node.MapField.{MapField}
use Rattle.proto_tree.specs.declared.node.Number.{Number}
use Rattle.proto_tree.specs.declared.node.TypeName.{TypeName}
use Rattle.proto_tree.specs.declared.node.Node.{Node, out-Node}
use Rattle.proto_tree.specs.declared.node.Node.TheOpen.{Node-F}
use Rattle.proto_decls.specs.declared.diagnostic.Diag.{Diag}
use Rattle.proto_decls.specs.declared.part.Interval.{Interval}
use Rattle.proto_decls.specs.declared.part.Member.{Member}
use Rattle.proto_decls.specs.declared.problem.Problem.{Problem}
use Rattle.proto_decls.specs.declared.problem.Problem.TheVariants as m
use Rattle.proto_decls.specs.declared.part.Numbering.{Numbering}
use Rattle.proto_decls.specs.declared.part.Numbering.TheVariants.{Fields, Values}
use Rattle.proto_decls.specs.declared.part.ReservedName.{ReservedName}
use Rattle.proto_decls.specs.Text.{text_at}
use Rattle.proto_decls.specs.Numbers.{value_of}
use Rattle.proto_decls.specs.Members.{labels, later_labels, plain_fields, fields, values, allows_alias, ranges, names, bounds, intervals}
use Rattle.proto_decls.specs.Diags.{diag}

-- a diagnostic where the test holds
abbrev pub diag_if : Bool → Problem → Span → Option Diag
diag_if b message s = if b then Some (diag message s) else None

-- each element judged by those before it
abbrev pub judged_at : {A : Type 0} → (List A → A → Option Diag) → List A → ℕ × A → Option Diag
judged_at judge xs (i, x) = judge (take i xs) x

abbrev pub judged : {A : Type 0} → (List A → A → Option Diag) → List A → List Diag
judged judge xs = filter_map (judged_at judge xs) (enumerate_from 0 xs)

-- the value is this number
abbrev pub is_value : ℕ → Option ℕ → Bool
is_value n None = false
is_value n (Some v) = v == n

-- ---- one field or value

abbrev pub out_of_range : Numbering → Problem
out_of_range Fields = m.NumberOutOfRange
out_of_range Values = m.EnumNumberOutOfRange

abbrev pub used_twice : Numbering → Problem
used_twice Fields = m.NumberUsedTwice
used_twice Values = m.EnumNumberUsedTwice

-- 301 and 309: the number of a field or value is out of range
abbrev pub member_out_of_range : Numbering → Member → Option Diag
member_out_of_range numbering f = diag_if (not (is_some f.value)) (out_of_range numbering) f.number

abbrev pub is_kept_free : Option ℕ → Bool
is_kept_free None = false
is_kept_free (Some v) = nat_le 19000 v && nat_le v 19999

-- 302: a field number in 19000 to 19999
abbrev pub kept_free : Member → Option Diag
kept_free f = diag_if (is_kept_free f.value) m.NumberKeptFree f.number

abbrev pub has_value : Option ℕ → List Member → Bool
has_value None before = false
has_value (Some v) before = list_any (λ e. is_value v e.value) before

-- 303 and 310: the number of an earlier field or value (310 where the enum has no `option allow_alias = true;`)
abbrev pub number_used : Numbering → List Member → Member → Option Diag
number_used numbering before f = diag_if (has_value f.value before) (used_twice numbering) f.number

-- an interval that doesn't run backwards
abbrev pub runs_forwards : Interval → Bool
runs_forwards r = nat_le r.low r.high

abbrev pub lies_in : Option ℕ → Interval → Bool
lies_in None r = false
lies_in (Some v) r = nat_le r.low v && nat_le v r.high

-- 304: the number of a field or value in a reserved range, wherever the range stands
abbrev pub number_reserved : List Interval → Member → Option Diag
number_reserved good f = diag_if (list_any (lies_in f.value) good) m.NumberReserved f.number

-- 305: the name of a field or value that is reserved
abbrev pub name_reserved : List ℕ → List ReservedName → Member → Option Diag
name_reserved text reserved f = diag_if (list_any (λ r. bytes_eq r.text (text_at text f.name)) reserved) m.NameReserved f.name

-- ---- reserved statements

-- 301 and 309: the bound of a range is out of range
abbrev pub bound_out_of_range : Numbering → List ℕ → Number → Option Diag
bound_out_of_range numbering text n = diag_if (not (is_some (value_of numbering text n))) (out_of_range numbering) n.span

abbrev pub overlap : Interval → Interval → Bool
overlap a b = nat_le a.low b.high && nat_le b.low a.high

-- 306: a range that shares a number with an earlier one
abbrev pub range_twice : List Interval → Interval → Option Diag
range_twice before r = diag_if (list_any (overlap r) before) m.ReservedTwice r.span

-- 306: a name that is reserved before
abbrev pub name_twice : List ReservedName → ReservedName → Option Diag
name_twice before r = diag_if (list_any (λ e. bytes_eq e.text r.text) before) m.ReservedTwice r.span

-- 307: a range whose last number is below its first
abbrev pub backwards : Interval → Option Diag
backwards r = diag_if (not (runs_forwards r)) m.RangeBackwards r.span

-- what is wrong with reserved numbers, in a body with these fields or values
abbrev pub interval_diags : List Member → List Interval → List Diag
interval_diags members found =
    filter_map (number_reserved (filter runs_forwards found)) members
    ++ filter_map backwards found
    ++ judged range_twice (filter runs_forwards found)

-- what is wrong with reserved names
abbrev pub name_diags : List ℕ → List Member → List ReservedName → List Diag
name_diags text members reserved = judged name_twice reserved ++ filter_map (name_reserved text reserved) members

abbrev pub bound_diags : Numbering → List ℕ → List Node → List Diag
bound_diags numbering text items = filter_map (bound_out_of_range numbering text) (flat_map bounds (ranges items))

-- what is wrong with what a body reserves
abbrev pub reserved_diags : Numbering → List ℕ → List Member → List Node → List Diag
reserved_diags numbering text members items =
    bound_diags numbering text items
    ++ interval_diags members (intervals numbering text items)
    ++ name_diags text members (names text items)

-- ---- bodies

-- 318: labels that may not stand there
abbrev pub label_diags : List Span → List Diag
label_diags found = map (diag m.LabelNotAllowed) found

abbrev pub message_diags : List ℕ → List Node → List Diag
message_diags text items =
    filter_map (member_out_of_range Fields) (fields text items)
    ++ filter_map kept_free (fields text items)
    ++ judged (number_used Fields) (fields text items)
    ++ reserved_diags Fields text (fields text items) items
    ++ label_diags (flat_map later_labels items)

abbrev pub extend_diags : List ℕ → List Node → List Diag
extend_diags text items =
    filter_map (member_out_of_range Fields) (plain_fields text items)
    ++ filter_map kept_free (plain_fields text items)
    ++ label_diags (flat_map later_labels items)

abbrev pub is_zero : Option ℕ → Bool
is_zero None = false
is_zero (Some v) = v == 2147483648

-- 308: the first value is not zero, or there is none: then at the name of the enum
abbrev pub first_diags : Span → List Member → List Diag
first_diags name [] = diag m.FirstNotZero name ∷ []
first_diags name (v ∷ more) = if is_zero v.value then [] else diag m.FirstNotZero v.number ∷ []

abbrev pub alias_diags : Bool → List Member → List Diag
alias_diags may members = if may then [] else judged (number_used Values) members

abbrev pub enum_diags : List ℕ → Span → List Node → List Diag
enum_diags text name items =
    first_diags name (values text items)
    ++ filter_map (member_out_of_range Values) (values text items)
    ++ alias_diags (allows_alias text items) (values text items)
    ++ reserved_diags Values text (values text items) items

-- the types that a key of a map may have
abbrev pub key_types : List (List ℕ)
key_types =
    codes "int32" ∷ codes "int64" ∷ codes "uint32" ∷ codes "uint64" ∷ codes "sint32" ∷ codes "sint64" ∷ codes "fixed32" ∷ codes "fixed64"
    ∷ codes "sfixed32" ∷ codes "sfixed64" ∷ codes "bool" ∷ codes "string" ∷ []

abbrev pub is_key_word : List ℕ → Bool
is_key_word word = list_any (bytes_eq word) key_types

-- one word without a dot is the text of its span
abbrev pub is_map_key : List ℕ → TypeName → Bool
is_map_key text t = is_key_word (text_at text t.span)

-- 311: a key of another type
abbrev pub key_diags : List ℕ → MapField → List Diag
key_diags text f = if is_map_key text f.key then [] else diag m.MapKey f.key.span ∷ []

-- 311, and 318 for each label of a map
abbrev pub map_diags : List ℕ → MapField → List Diag
map_diags text f = key_diags text f ++ label_diags f.labels

-- what is wrong in a statement itself, without the statements inside it
abbrev pub opened_diags : List ℕ → Node-F Node → List Diag
opened_diags text (Node-F.Message span name items) = message_diags text items
opened_diags text (Node-F.EnumDef span name items) = enum_diags text name items
opened_diags text (Node-F.Extend span target items) = extend_diags text items
opened_diags text (Node-F.Oneof span name items) = label_diags (flat_map labels items)
opened_diags text (Node-F.MapField f) = map_diags text f
opened_diags text _ = []

abbrev pub statement_diags : List ℕ → Node → List Diag
statement_diags text n = opened_diags text (out-Node n)
