-- What the body of a message, an enum or an extend block holds.
use Rattle.std.specs.Prelude.{ℕ, Bool, false, ◌&&◌, List, [], ◌∷◌, Option, Some, None, map, drop, codes}
use Rattle.std.specs.List.{flat_map, filter_map, list_any}
use Rattle.std.specs.Str.{bytes_eq}
use Rattle.proto_tree.specs.declared.node.Span.{Span}
use Rattle.proto_tree.specs.declared.node.Literal.{Literal}
use Rattle.proto_tree.specs.declared.node.Number.{Number}
use Rattle.proto_tree.specs.declared.node.ReservedRange.{ReservedRange}
use Rattle.proto_tree.specs.declared.node.RangeEnd.{RangeEnd}
use Rattle.proto_tree.specs.declared.node.RangeEnd.TheVariants as bound
use Rattle.proto_tree.specs.declared.node.ReservedList.{ReservedList}
use Rattle.proto_tree.specs.declared.node.ReservedList.TheVariants.{Ranges, Names}
use Rattle.proto_tree.specs.declared.node.Node.{Node, out-Node}
use Rattle.proto_tree.specs.declared.node.Node.TheOpen.{Node-F}
use Rattle.proto_decls.specs.declared.part.Member.{Member}
use Rattle.proto_decls.specs.declared.part.Interval.{Interval}
use Rattle.proto_decls.specs.declared.part.Numbering.{Numbering}
use Rattle.proto_decls.specs.declared.part.Numbering.TheVariants.{Fields, Values}
use Rattle.proto_decls.specs.declared.part.ReservedName.{ReservedName}
use Rattle.proto_decls.specs.Text.{text_at, literal_text}
use Rattle.proto_decls.specs.Numbers.{value_of, plain, greatest}

-- ---- labels

abbrev pub labels_of : Node-F Node → List Span
labels_of (Node-F.Field f) = f.labels
labels_of _ = []

-- the labels of a plain field
abbrev pub labels : Node → List Span
labels n = labels_of (out-Node n)

-- those behind the first
abbrev pub later_labels : Node → List Span
later_labels n = drop 1 (labels n)

-- ---- fields and values

module _ (text : List ℕ) where
  abbrev pub member : Numbering → Span → Number → Member
  member numbering name n = record { name = name; number = n.span; value = value_of numbering text n }

  abbrev pub plain_field_of : Node-F Node → List Member
  plain_field_of (Node-F.Field f) = member Fields f.name (plain f.number) ∷ []
  plain_field_of _ = []

  abbrev pub plain_fields : List Node → List Member
  plain_fields items = flat_map (λ n. plain_field_of (out-Node n)) items

  abbrev pub fields_of : Node-F Node → List Member
  fields_of (Node-F.Field f) = member Fields f.name (plain f.number) ∷ []
  fields_of (Node-F.MapField f) = member Fields f.name (plain f.number) ∷ []
  fields_of (Node-F.Oneof span name items) = plain_fields items
  fields_of _ = []

  -- the fields of a message, its oneofs included
  abbrev pub fields : List Node → List Member
  fields items = flat_map (λ n. fields_of (out-Node n)) items

  abbrev pub value_in : Node-F Node → List Member
  value_in (Node-F.Value span name n) = member Values name n ∷ []
  value_in _ = []

  -- the values of an enum
  abbrev pub values : List Node → List Member
  values items = flat_map (λ n. value_in (out-Node n)) items

  -- ---- options

  abbrev pub is_alias_option : Node-F Node → Bool
  is_alias_option (Node-F.OptionDef span name value) = bytes_eq (text_at text name) (codes "allow_alias") && bytes_eq (text_at text value) (codes "true")
  is_alias_option _ = false

  -- the enum has `option allow_alias = true;`
  abbrev pub allows_alias : List Node → Bool
  allows_alias items = list_any (λ n. is_alias_option (out-Node n)) items

-- ---- reserved

abbrev pub ranges_of : ReservedList → List ReservedRange
ranges_of (Ranges rs) = rs
ranges_of (Names ls) = []

abbrev pub names_of : ReservedList → List Literal
names_of (Ranges rs) = []
names_of (Names ls) = ls

abbrev pub ranges_in : Node-F Node → List ReservedRange
ranges_in (Node-F.Reserved span list) = ranges_of list
ranges_in _ = []

abbrev pub names_in : Node-F Node → List Literal
names_in (Node-F.Reserved span list) = names_of list
names_in _ = []

-- the reserved ranges of a body, wherever they stand
abbrev pub ranges : List Node → List ReservedRange
ranges items = flat_map (λ n. ranges_in (out-Node n)) items

abbrev pub reserved_name : List ℕ → Literal → ReservedName
reserved_name text l = record { text = literal_text text l; span = l.span }

-- the reserved names of a body
abbrev pub names : List ℕ → List Node → List ReservedName
names text items = flat_map (λ n. map (reserved_name text) (names_in (out-Node n))) items

abbrev pub end_of : Number → RangeEnd → ℕ
end_of low bound.Same = low.span.end
end_of low (bound.Number n) = n.span.end
end_of low (bound.Max s) = s.end

-- from its first bound to its last
abbrev pub range_span : ReservedRange → Span
range_span r = record { start = r.low.span.start; end = end_of r.low r.high }

-- the numbers that a range states
abbrev pub bounds_from : Number → RangeEnd → List Number
bounds_from low (bound.Number n) = low ∷ n ∷ []
bounds_from low _ = low ∷ []

abbrev pub bounds : ReservedRange → List Number
bounds r = bounds_from r.low r.high

-- its last number, or nothing where that is out of range
abbrev pub high_value : Numbering → List ℕ → Number → RangeEnd → Option ℕ
high_value numbering text low bound.Same = value_of numbering text low
high_value numbering text low (bound.Number n) = value_of numbering text n
high_value numbering text low (bound.Max s) = Some (greatest numbering)

abbrev pub interval_of : Span → Option ℕ → Option ℕ → Option Interval
interval_of span (Some low) (Some high) = Some (record { span = span; low = low; high = high })
interval_of span _ _ = None

-- the numbers of a range, where both bounds are in range
abbrev pub interval : Numbering → List ℕ → ReservedRange → Option Interval
interval numbering text r = interval_of (range_span r) (value_of numbering text r.low) (high_value numbering text r.low r.high)

abbrev pub intervals : Numbering → List ℕ → List Node → List Interval
intervals numbering text items = filter_map (interval numbering text) (ranges items)
