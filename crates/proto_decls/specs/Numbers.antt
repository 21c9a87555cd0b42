-- The numbers of fields and of enum values.
use Rattle.std.specs.Prelude.{ℕ, ◌+◌, ◌-◌, ◌*◌, Bool, false, ◌==◌, ◌||◌, ◌&&◌, List, Option, Some, None, drop, slice_index, if◌then◌else◌, nat_le}
use Rattle.std.specs.List.{fold}
use Rattle.proto_tree.specs.declared.node.Span.{Span}
use Rattle.proto_tree.specs.declared.node.Number.{Number}
use Rattle.proto_decls.specs.declared.part.Numbering.{Numbering}
use Rattle.proto_decls.specs.declared.part.Numbering.TheVariants.{Fields, Values}
use Rattle.proto_decls.specs.Text.{text_at}

-- the value of a digit, also of a hexadecimal one
abbrev pub digit : ℕ → ℕ
digit b = if nat_le b 57 then b - 48 else (if nat_le b 70 then b - 55 else b - 87)

-- the number that digits spell, whatever its size
abbrev pub spelled : ℕ → List ℕ → ℕ
spelled base digits = fold (λ n b. n * base + digit b) 0 digits

-- the value of an integer literal: hexadecimal behind `0x`, octal behind `0`, else decimal
abbrev pub int_value : List ℕ → ℕ
int_value b =
    if slice_index b 0 == 48 then (if slice_index b 1 == 120 || slice_index b 1 == 88 then spelled 16 (drop 2 b) else spelled 8 b)
    else spelled 10 b

-- a field number, if it is one
abbrev pub field_value : Bool → ℕ → Option ℕ
field_value is_negative v = if is_negative then None else (if nat_le 1 v && nat_le v 536870911 then Some v else None)

-- an enum number, counted from the least, -2147483648
abbrev pub enum_value : Bool → ℕ → Option ℕ
enum_value is_negative v =
    if is_negative then (if nat_le v 2147483648 then Some (2147483648 - v) else None)
    else (if nat_le v 2147483647 then Some (2147483648 + v) else None)

abbrev pub counted : Numbering → Bool → ℕ → Option ℕ
counted Fields is_negative v = field_value is_negative v
counted Values is_negative v = enum_value is_negative v

-- the value of a number in its count, or nothing where it is out of range
abbrev pub value_of : Numbering → List ℕ → Number → Option ℕ
value_of numbering text n = counted numbering n.is_negative (int_value (text_at text n.digits))

-- a number without a minus
abbrev pub plain : Span → Number
plain s = record { span = s; is_negative = false; digits = s }

-- the greatest number, `max`
abbrev pub greatest : Numbering → ℕ
greatest Fields = 536870911
greatest Values = 4294967295
