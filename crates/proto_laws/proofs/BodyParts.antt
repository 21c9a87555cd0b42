-- The fields, values, ranges and names of bodies, as the checks know them.
use Rattle.std.proofs.Common.{◌≡◌, ◌∙◌, inl, inr, ℕ, ℤ, List, [], ◌∷◌, ◌++◌, map, Option, Some, None, refl, sym, ap, arith}
use Rattle.std.specs.List.{flat_map}
use Rattle.std.proofs.lemmas.Int.{ints}
use Rattle.std.proofs.lemmas.List.{map-append}
use Rattle.proto_tree.specs.declared.node.Number.{Number}
use Rattle.proto_tree.specs.declared.node.RangeEnd.{RangeEnd}
use Rattle.proto_tree.specs.declared.node.RangeEnd.TheVariants as bound
use Rattle.proto_tree.specs.declared.node.ReservedList.TheVariants.{Ranges, Names}
use Rattle.proto_tree.specs.declared.node.ReservedRange.{ReservedRange}
use Rattle.proto_tree.specs.declared.node.Span.{Span}
use Rattle.proto_tree.specs.declared.node.Node.{Node, out-Node}
use Rattle.proto_tree.specs.declared.node.Node.TheOpen.{Node-F}
use Rattle.proto_decls.specs.declared.part.Interval.{Interval}
use Rattle.proto_decls.specs.declared.part.Member.{Member}
use Rattle.proto_decls.specs.declared.part.Numbering.{Numbering}
use Rattle.proto_decls.specs.declared.part.Numbering.TheVariants.{Fields, Values}
use Rattle.proto_decls.specs.Members.{end_of, fields, fields_of, high_value, interval, interval_of, member, names, names_in, plain_field_of, plain_fields as plain_members, range_span, ranges, ranges_in, reserved_name, value_in, values}
use Rattle.proto_decls.specs.Numbers.{greatest, int_value, value_of}
use Rattle.proto_decls.specs.Text.{text_at}
use Rattle.proto_laws.specs.Bodies.{HasBounds, IsInRange, Numbered, enum_values, fields_at, from_is, highest, last_in, message_fields, names_at, number_in, plain_field, plain_fields, range_end, ranges_at, reserved_names, reserved_ranges, to_is, values_at, whole_range}
use Rattle.proto_laws.proofs.Counts.{IsCounted, counts, number_of}
use Rattle.proto_laws.proofs.Holders.{inside}

-- ---- members

flat_map-maps : {X Y Z : Type 0} (h : Y → Z) (f : X → List Z) (g : X → List Y) → ((x : X) → f x ≡ map h (g x)) → (xs : List X) → flat_map f xs ≡ map h (flat_map g xs)
flat_map-maps h f g same [] = refl
flat_map-maps h f g same (x ∷ xs) = ap (λ l. l ++ flat_map f xs) (same x) ∙ ap (λ l. map h (g x) ++ l) (flat_map-maps h f g same xs) ∙ sym (map-append h (g x) (flat_map g xs))

flat_map-same : {X Y : Type 0} (f g : X → List Y) → ((x : X) → f x ≡ g x) → (xs : List X) → flat_map f xs ≡ flat_map g xs
flat_map-same f g same [] = refl
flat_map-same f g same (x ∷ xs) = ap (λ l. l ++ flat_map f xs) (same x) ∙ ap (λ l. g x ++ l) (flat_map-same f g same xs)

-- ---- what is reserved

ranges-at : (y : Node-F Node) → ranges_in y ≡ ranges_at y
ranges-at (Node-F.Reserved span (Ranges rs)) = refl
ranges-at (Node-F.Reserved span (Names ls)) = refl
ranges-at (Node-F.Message span name items) = refl
ranges-at (Node-F.EnumDef span name items) = refl
ranges-at (Node-F.Service span name items) = refl
ranges-at (Node-F.Oneof span name items) = refl
ranges-at (Node-F.Extend span target items) = refl
ranges-at (Node-F.Rpc span name request response items) = refl
ranges-at (Node-F.Field f) = refl
ranges-at (Node-F.MapField f) = refl
ranges-at (Node-F.Value span name number) = refl
ranges-at (Node-F.Import span is_public path) = refl
ranges-at (Node-F.Package span name components) = refl
ranges-at (Node-F.OptionDef span name value) = refl
ranges-at (Node-F.Syntax span value) = refl
ranges-at (Node-F.Empty span) = refl

pub ranges-are : (items : List Node) → ranges items ≡ reserved_ranges items
ranges-are = flat_map-same (λ n. ranges_in (out-Node n)) (λ n. ranges_at (out-Node n)) (λ n. ranges-at (out-Node n))

names-at : (y : Node-F Node) → names_in y ≡ names_at y
names-at (Node-F.Reserved span (Ranges rs)) = refl
names-at (Node-F.Reserved span (Names ls)) = refl
names-at (Node-F.Message span name items) = refl
names-at (Node-F.EnumDef span name items) = refl
names-at (Node-F.Service span name items) = refl
names-at (Node-F.Oneof span name items) = refl
names-at (Node-F.Extend span target items) = refl
names-at (Node-F.Rpc span name request response items) = refl
names-at (Node-F.Field f) = refl
names-at (Node-F.MapField f) = refl
names-at (Node-F.Value span name number) = refl
names-at (Node-F.Import span is_public path) = refl
names-at (Node-F.Package span name components) = refl
names-at (Node-F.OptionDef span name value) = refl
names-at (Node-F.Syntax span value) = refl
names-at (Node-F.Empty span) = refl

end-is : (low : Number) (high : RangeEnd) → end_of low high ≡ range_end low high
end-is low bound.Same = refl
end-is low (bound.Number n) = refl
end-is low (bound.Max s) = refl

range-stands : (r : ReservedRange) → range_span r ≡ whole_range r
range-stands r = ap (λ (e : ℕ). record { start = r.low.span.start; end = e }) (end-is r.low r.high)

-- ---- fields and values

module _ (text : List ℕ) where
  -- a field or a value as the checks know it
  abbrev pub of : Numbering → Numbered → Member
  of numbering m = member text numbering m.name m.number

  plain-is : (y : Node-F Node) → plain_field_of text y ≡ map (of Fields) (plain_field y)
  plain-is (Node-F.Field f) = refl
  plain-is (Node-F.Message span name items) = refl
  plain-is (Node-F.EnumDef span name items) = refl
  plain-is (Node-F.Service span name items) = refl
  plain-is (Node-F.Oneof span name items) = refl
  plain-is (Node-F.Extend span target items) = refl
  plain-is (Node-F.Rpc span name request response items) = refl
  plain-is (Node-F.MapField f) = refl
  plain-is (Node-F.Value span name number) = refl
  plain-is (Node-F.Reserved span list) = refl
  plain-is (Node-F.Import span is_public path) = refl
  plain-is (Node-F.Package span name components) = refl
  plain-is (Node-F.OptionDef span name value) = refl
  plain-is (Node-F.Syntax span value) = refl
  plain-is (Node-F.Empty span) = refl

  pub plain_fields-are : (items : List Node) → plain_members text items ≡ map (of Fields) (plain_fields items)
  plain_fields-are = flat_map-maps (of Fields) (λ n. plain_field_of text (out-Node n)) (λ n. plain_field (out-Node n)) (λ n. plain-is (out-Node n))

  field-is : (y : Node-F Node) → fields_of text y ≡ map (of Fields) (fields_at y)
  field-is (Node-F.Field f) = refl
  field-is (Node-F.MapField f) = refl
  field-is (Node-F.Oneof span name items) = plain_fields-are items
  field-is (Node-F.Message span name items) = refl
  field-is (Node-F.EnumDef span name items) = refl
  field-is (Node-F.Service span name items) = refl
  field-is (Node-F.Extend span target items) = refl
  field-is (Node-F.Rpc span name request response items) = refl
  field-is (Node-F.Value span name number) = refl
  field-is (Node-F.Reserved span list) = refl
  field-is (Node-F.Import span is_public path) = refl
  field-is (Node-F.Package span name components) = refl
  field-is (Node-F.OptionDef span name value) = refl
  field-is (Node-F.Syntax span value) = refl
  field-is (Node-F.Empty span) = refl

  pub fields-are : (items : List Node) → fields text items ≡ map (of Fields) (message_fields items)
  fields-are = flat_map-maps (of Fields) (λ n. fields_of text (out-Node n)) (λ n. fields_at (out-Node n)) (λ n. field-is (out-Node n))

  value-is : (y : Node-F Node) → value_in text y ≡ map (of Values) (values_at y)
  value-is (Node-F.Value span name number) = refl
  value-is (Node-F.Field f) = refl
  value-is (Node-F.MapField f) = refl
  value-is (Node-F.Oneof span name items) = refl
  value-is (Node-F.Message span name items) = refl
  value-is (Node-F.EnumDef span name items) = refl
  value-is (Node-F.Service span name items) = refl
  value-is (Node-F.Extend span target items) = refl
  value-is (Node-F.Rpc span name request response items) = refl
  value-is (Node-F.Reserved span list) = refl
  value-is (Node-F.Import span is_public path) = refl
  value-is (Node-F.Package span name components) = refl
  value-is (Node-F.OptionDef span name value) = refl
  value-is (Node-F.Syntax span value) = refl
  value-is (Node-F.Empty span) = refl

  pub values-are : (items : List Node) → values text items ≡ map (of Values) (enum_values items)
  values-are = flat_map-maps (of Values) (λ n. value_in text (out-Node n)) (λ n. values_at (out-Node n)) (λ n. value-is (out-Node n))

  pub names-are : (items : List Node) → names text items ≡ map (reserved_name text) (reserved_names items)
  names-are = flat_map-maps (reserved_name text) (λ n. map (reserved_name text) (names_in (out-Node n))) (λ n. names_at (out-Node n)) (λ n. ap (map (reserved_name text)) (names-at (out-Node n)))

-- ---- numbers

counted-in : (numbering : Numbering) (z : ℤ) (o : Option ℕ) → IsCounted numbering z o → IsInRange numbering z → (k : ℕ) × (o ≡ Some k) × (z ≡ number_of numbering k)
counted-in numbering z o (inl p) h = (p.0, p.1, p.3)
counted-in numbering z o (inr p) h = absurd (p.1 h)

counted-out : (numbering : Numbering) (z : ℤ) (o : Option ℕ) → IsCounted numbering z o → ¬ IsInRange numbering z → o ≡ None
counted-out numbering z o (inl p) h = absurd (h p.2)
counted-out numbering z o (inr p) h = p.0

some-in : (numbering : Numbering) (z : ℤ) (o : Option ℕ) (k : ℕ) → IsCounted numbering z o → o ≡ Some k → IsInRange numbering z × (z ≡ number_of numbering k)
some-in numbering z o k (inl p) e = let same : p.0 ≡ k = inside p.0 k (sym p.1 ∙ e) in (p.2, p.3 ∙ ap (number_of numbering) same)
some-in numbering z o k (inr p) e = absurd (let none = p.0 in cc)

none-out : (numbering : Numbering) (z : ℤ) (o : Option ℕ) → IsCounted numbering z o → o ≡ None → ¬ IsInRange numbering z
none-out numbering z o (inl p) e = absurd (let some = p.1 in cc)
none-out numbering z o (inr p) e = p.1

module _ (numbering : Numbering) (text : List ℕ) where
  value-counted : (n : Number) → IsCounted numbering (number_in text n) (value_of numbering text n)
  value-counted n = counts numbering n.is_negative (int_value (text_at text n.digits))

  pub value-in : (n : Number) → IsInRange numbering (number_in text n) → (k : ℕ) × (value_of numbering text n ≡ Some k) × (number_in text n ≡ number_of numbering k)
  value-in n = counted-in numbering (number_in text n) (value_of numbering text n) (value-counted n)

  pub value-out : (n : Number) → ¬ IsInRange numbering (number_in text n) → value_of numbering text n ≡ None
  value-out n = counted-out numbering (number_in text n) (value_of numbering text n) (value-counted n)

  pub in_range : (n : Number) (k : ℕ) → value_of numbering text n ≡ Some k → IsInRange numbering (number_in text n) × (number_in text n ≡ number_of numbering k)
  in_range n k = some-in numbering (number_in text n) (value_of numbering text n) k (value-counted n)

  pub out_of_range-is : (n : Number) → value_of numbering text n ≡ None → ¬ IsInRange numbering (number_in text n)
  out_of_range-is n = none-out numbering (number_in text n) (value_of numbering text n) (value-counted n)

-- ---- ranges

greatest-counted : (numbering : Numbering) → IsCounted numbering (highest numbering) (Some (greatest numbering))
greatest-counted Fields = inl (536870911, refl, (omega (arith, ints), omega (arith, ints)), refl)
greatest-counted Values = inl (4294967295, refl, (omega (arith, ints), omega (arith, ints)), omega (arith, ints))

module _ (numbering : Numbering) (text : List ℕ) where
  last-counted : (low : Number) (high : RangeEnd) → IsCounted numbering (last_in numbering text low high) (high_value numbering text low high)
  last-counted low bound.Same = value-counted numbering text low
  last-counted low (bound.Number n) = value-counted numbering text n
  last-counted low (bound.Max s) = greatest-counted numbering

  -- the checks know the range by these numbers
  pub record IsInterval (r : ReservedRange) (i : Interval) : Type 0 where
    pub bounds : HasBounds numbering text r
    pub span_is : i.span ≡ whole_range r
    pub low_is : from_is numbering text r ≡ number_of numbering i.low
    pub high_is : to_is numbering text r ≡ number_of numbering i.high

  both : (span : Span) (low high : Option ℕ) (i : Interval) → interval_of span low high ≡ Some i → (low ≡ Some i.low) × (high ≡ Some i.high) × (i.span ≡ span)
  both span (Some l) (Some h) i e =
      let same : record { span = span; low = l; high = h } ≡ i = inside _ i e in
      (ap (λ (x : Interval). Some x.low) same, ap (λ (x : Interval). Some x.high) same, sym (ap (λ (x : Interval). x.span) same))
  both span None high i e = cc
  both span (Some l) None i e = cc

  pub interval-is : (r : ReservedRange) (i : Interval) → interval numbering text r ≡ Some i → IsInterval r i
  interval-is r i e =
      let h = both (range_span r) (value_of numbering text r.low) (high_value numbering text r.low r.high) i e in
      let low = in_range numbering text r.low i.low h.0 in
      let high = some-in numbering (to_is numbering text r) (high_value numbering text r.low r.high) i.high (last-counted r.low r.high) h.1 in
      record { bounds = (low.0, high.0); span_is = h.2 ∙ range-stands r; low_is = low.1; high_is = high.1 }

  pub has-interval : (r : ReservedRange) → HasBounds numbering text r → (i : Interval) × (interval numbering text r ≡ Some i)
  has-interval r h =
      let low = value-in numbering text r.low h.0 in
      let high = counted-in numbering (to_is numbering text r) (high_value numbering text r.low r.high) (last-counted r.low r.high) h.1 in
      let i : Interval = record { span = range_span r; low = low.0; high = high.0 } in
      (i, ap (λ o. interval_of (range_span r) o (high_value numbering text r.low r.high)) low.1 ∙ ap (λ o. interval_of (range_span r) (Some low.0) o) high.1)
