-- What each check of a body finds, in the words of the file's diagnostics.
use Rattle.std.proofs.Common.{◌≡◌, ◌⊎◌, ◌∙◌, inl, inr, ℕ, ◌<◌, ◌≤◌, ℤ, ◌≤ℤ◌, ◌<ℤ◌, Bool, true, List, map, Option, Some, None, refl, sym, ap, subst, arith, le-leb}
use Rattle.std.specs.Prelude.{Contains, filter, is_some, nat_le, not}
use Rattle.std.specs.List.{filter_map, list_any}
use Rattle.std.specs.Str.{bytes_eq}
use Rattle.std.proofs.lemmas.Bool.{and_from, and_parts, cases_lt, eq-eqb, eqb-true, leb-false, leb-true, lt-leb, not-true, not_from_false}
use Rattle.std.proofs.lemmas.Slice.Eq.{bytes_eq-Decides}
use Rattle.proto_tree.specs.declared.node.Literal.{Literal}
use Rattle.proto_tree.specs.declared.node.Number.{Number}
use Rattle.proto_tree.specs.declared.node.ReservedRange.{ReservedRange}
use Rattle.proto_decls.specs.declared.diagnostic.Diag.{Diag}
use Rattle.proto_decls.specs.declared.part.Interval.{Interval}
use Rattle.proto_decls.specs.declared.part.Member.{Member}
use Rattle.proto_decls.specs.declared.part.Numbering.{Numbering}
use Rattle.proto_decls.specs.declared.part.ReservedName.{ReservedName}
use Rattle.proto_decls.specs.declared.problem.Problem.TheVariants as m
use Rattle.proto_decls.specs.Checks.{backwards, bound_out_of_range, has_value, is_value, judged, lies_in, member_out_of_range, name_reserved, name_twice, number_reserved, number_used, out_of_range, overlap, range_twice, runs_forwards, used_twice}
use Rattle.proto_decls.specs.Diags.{diag}
use Rattle.proto_decls.specs.Members.{interval, reserved_name}
use Rattle.proto_decls.specs.Numbers.{value_of}
use Rattle.proto_decls.specs.Text.{literal_text, text_at}
use Rattle.proto_laws.specs.Bodies.{HasBounds, IsInRange, Numbered, Precedes, Reserves, from_is, highest, lowest, number_in, to_is, whole_range}
use Rattle.proto_laws.proofs.BodyParts.{IsInterval, has-interval, in_range, interval-is, of, out_of_range-is, value-in, value-out}
use Rattle.proto_laws.proofs.Counts.{below-number_of, number_in_range, number_of, number_of-below, number_of-order, number_of-same, order-number_of, through}
use Rattle.proto_laws.proofs.Judged.{diag_if-is, diag_if-tells, in_judged, judged-has}
use Rattle.proto_laws.proofs.Lists.{filter-has, filter-order, filter_map-has, filter_map-order, in_filter, in_filter_map, in_map, list_any-has, list_any-is, map-has, map-order, order-filter, order-filter_map, order-map}

-- ---- tests

none-is : {X : Type 0} (o : Option X) → not (is_some o) ≡ true → o ≡ None
none-is None e = refl
none-is (Some x) e = cc

is-none : {X : Type 0} (o : Option X) → o ≡ None → not (is_some o) ≡ true
is-none o e = ap (λ x. not (is_some x)) e

-- ---- one number

module _ (numbering : Numbering) (text : List ℕ) where
  abbrev pub known : List Numbered → List Member
  known members = map (of text numbering) members

  -- a number of the list that is out of range
  pub record IsOut (members : List Numbered) (d : Diag) : Type 0 where
    pub m : Numbered
    pub there : Contains members m
    pub out : ¬ IsInRange numbering (number_in text m.number)
    pub is : d ≡ diag (out_of_range numbering) m.number.span

  pub out-has : (members : List Numbered) (d : Diag) → Contains (filter_map (member_out_of_range numbering) (known members)) d → IsOut members d
  out-has members d c =
      let h = filter_map-has (member_out_of_range numbering) (known members) d c in
      let k = map-has (of text numbering) members h.0 h.1 in
      let e = subst (λ (f : Member). member_out_of_range numbering f ≡ Some d) (sym k.is) h.2 in
      let g = diag_if-tells (not (is_some (value_of numbering text k.source.number))) (out_of_range numbering) k.source.number.span d e in
      record { m = k.source; there = k.there; out = out_of_range-is numbering text k.source.number (none-is _ g.0); is = g.1 }

  pub in_out : (members : List Numbered) (m : Numbered) (d : Diag) → Contains members m → ¬ IsInRange numbering (number_in text m.number) → d ≡ diag (out_of_range numbering) m.number.span
      → Contains (filter_map (member_out_of_range numbering) (known members)) d
  in_out members m d c out is =
      in_filter_map (member_out_of_range numbering) (known members) (of text numbering m) d (in_map (of text numbering) members m c)
      (diag_if-is (not (is_some (value_of numbering text m.number))) (out_of_range numbering) m.number.span d (is-none (value_of numbering text m.number) (value-out numbering text m.number out)) is)

  -- a bound that is out of range
  pub bound-has : (ns : List Number) (d : Diag) → Contains (filter_map (bound_out_of_range numbering text) ns) d → (n : Number) × Contains ns n × (¬ IsInRange numbering (number_in text n)) × (d ≡ diag (out_of_range numbering) n.span)
  bound-has ns d c =
      let h = filter_map-has (bound_out_of_range numbering text) ns d c in
      let g = diag_if-tells (not (is_some (value_of numbering text h.0))) (out_of_range numbering) h.0.span d h.2 in
      (h.0, h.1, out_of_range-is numbering text h.0 (none-is _ g.0), g.1)

  pub in_bound : (ns : List Number) (n : Number) (d : Diag) → Contains ns n → ¬ IsInRange numbering (number_in text n) → d ≡ diag (out_of_range numbering) n.span → Contains (filter_map (bound_out_of_range numbering text) ns) d
  in_bound ns n d c out is =
      in_filter_map (bound_out_of_range numbering text) ns n d c
      (diag_if-is (not (is_some (value_of numbering text n))) (out_of_range numbering) n.span d (is-none (value_of numbering text n) (value-out numbering text n out)) is)

  -- ---- two numbers

  abbrev SameValue : Member → Member → Type 0
  SameValue e f = (v : ℕ) × (e.value ≡ Some v) × (f.value ≡ Some v)

  abbrev asks_value : List Member → Member → Bool
  asks_value before f = has_value f.value before

  is_value-true : (v : ℕ) (o : Option ℕ) → is_value v o ≡ true → o ≡ Some v
  is_value-true v None e = cc
  is_value-true v (Some w) e = ap (λ (x : ℕ). Some x) (eqb-true w v e)

  value-asked : (before : List Member) (f : Member) → asks_value before f ≡ true → (e : Member) × Contains before e × SameValue e f
  value-asked before f e = by f.value refl e
    where
      by : (o : Option ℕ) → f.value ≡ o → has_value o before ≡ true → (e : Member) × Contains before e × SameValue e f
      by None is e = absurd (cc (e))
      by (Some v) is e = let h = list_any-has (λ (e : Member). is_value v e.value) before e in (h.0, h.1, (v, is_value-true v h.0.value h.2, is))

  asked-value : (before : List Member) (e f : Member) → Contains before e → SameValue e f → asks_value before f ≡ true
  asked-value before e f c same =
      ap (λ o. has_value o before) same.2
      ∙ list_any-is (λ (e : Member). is_value same.0 e.value) before e c (ap (is_value same.0) same.1 ∙ eq-eqb same.0 same.0 refl)

  pub record IsTwice (members : List Numbered) (d : Diag) : Type 0 where
    pub e : Numbered
    pub f : Numbered
    pub order : Precedes members e f
    pub in_range : IsInRange numbering (number_in text f.number)
    pub same : number_in text e.number ≡ number_in text f.number
    pub is : d ≡ diag (used_twice numbering) f.number.span

  pub twice-has : (members : List Numbered) (d : Diag) → Contains (judged (number_used numbering) (known members)) d → IsTwice members d
  twice-has members d c =
      let h = judged-has asks_value SameValue (used_twice numbering) (λ f. f.number) value-asked (known members) d c in
      let g = map-order (of text numbering) members h.one h.two h.order in
      let first = in_range numbering text g.one.number h.related.0 (ap (λ (x : Member). x.value) g.one_is ∙ h.related.1) in
      let second = in_range numbering text g.two.number h.related.0 (ap (λ (x : Member). x.value) g.two_is ∙ h.related.2) in
      record { e = g.one; f = g.two; order = g.order; in_range = second.0; same = first.1 ∙ sym second.1; is = h.is ∙ ap (λ (x : Member). diag (used_twice numbering) x.number) (sym g.two_is) }

  pub in_twice : (members : List Numbered) (e f : Numbered) (d : Diag) → Precedes members e f → IsInRange numbering (number_in text f.number) → number_in text e.number ≡ number_in text f.number → d ≡ diag (used_twice numbering) f.number.span
      → Contains (judged (number_used numbering) (known members)) d
  in_twice members e f d order within same is =
      let second = value-in numbering text f.number within in
      let first = value-in numbering text e.number (subst (IsInRange numbering) (sym same) within) in
      let counts : number_of numbering first.0 ≡ number_of numbering second.0 = sym first.2 ∙ same ∙ second.2 in
      let one : first.0 ≡ second.0 = number_of-same numbering first.0 second.0 counts in
      in_judged asks_value SameValue (used_twice numbering) (λ f. f.number) asked-value (known members) (of text numbering e) (of text numbering f) d (order-map (of text numbering) order)
      (second.0, first.1 ∙ ap (λ (x : ℕ). Some x) one, second.1) is

  -- ---- reserved numbers

  abbrev pub good : List ReservedRange → List Interval
  good rs = filter runs_forwards (filter_map (interval numbering text) rs)

  -- a good interval is that of a range that reserves what lies between its ends
  forwards-has : (rs : List ReservedRange) (i : Interval) → Contains (good rs) i → (r : ReservedRange) × Contains rs r × IsInterval numbering text r i × (i.low ≤ i.high)
  forwards-has rs i c =
      let h = filter-has runs_forwards (filter_map (interval numbering text) rs) i c in
      let g = filter_map-has (interval numbering text) rs i h.0 in
      (g.0, g.1, interval-is numbering text g.0 i g.2, leb-true i.low i.high h.1)

  reserves-is : (r : ReservedRange) (i : Interval) (k : ℕ) → IsInterval numbering text r i → i.low ≤ k → k ≤ i.high → Reserves numbering text r (number_of numbering k)
  reserves-is r i k h low high =
      (h.bounds, subst (λ z. z ≤ℤ number_of numbering k) (sym h.low_is) (order-number_of numbering i.low k low), subst (λ z. number_of numbering k ≤ℤ z) (sym h.high_is) (order-number_of numbering k i.high high))

  is-reserved : (r : ReservedRange) (i : Interval) (k : ℕ) → IsInterval numbering text r i → Reserves numbering text r (number_of numbering k) → (i.low ≤ k) × (k ≤ i.high)
  is-reserved r i k h reserves =
      (number_of-order numbering i.low k (subst (λ z. z ≤ℤ number_of numbering k) h.low_is reserves.1), number_of-order numbering k i.high (subst (λ z. number_of numbering k ≤ℤ z) h.high_is reserves.2))

  -- a number that a range reserves is in range
  reserved-within : (r : ReservedRange) (v : ℤ) → Reserves numbering text r v → IsInRange numbering v
  reserved-within r v h =
      let a = h.0.0.0 in
      let b = h.1 in
      let c = h.2 in
      let d = h.0.1.1 in
      (through (lowest numbering) (from_is numbering text r) v a b, through v (to_is numbering text r) (highest numbering) c d)

  -- a range that reserves a number is known by a good interval
  good-interval : (r : ReservedRange) (v : ℤ) → Reserves numbering text r v → (i : Interval) × (interval numbering text r ≡ Some i) × IsInterval numbering text r i × (runs_forwards i ≡ true)
  good-interval r v h =
      let i = has-interval numbering text r h.0 in
      let known = interval-is numbering text r i.0 i.1 in
      let ordered : from_is numbering text r ≤ℤ to_is numbering text r = through (from_is numbering text r) v (to_is numbering text r) h.1 h.2 in
      let low : i.0.low ≤ i.0.high = number_of-order numbering i.0.low i.0.high (subst (λ z. z ≤ℤ number_of numbering i.0.high) known.low_is (subst (λ z. from_is numbering text r ≤ℤ z) known.high_is ordered)) in
      (i.0, i.1, known, le-leb i.0.low i.0.high low)

  lies-in : (o : Option ℕ) (i : Interval) → lies_in o i ≡ true → (k : ℕ) × (o ≡ Some k) × (i.low ≤ k) × (k ≤ i.high)
  lies-in None i e = absurd (cc (e))
  lies-in (Some k) i e = let h = and_parts (nat_le i.low k) (nat_le k i.high) e in (k, refl, leb-true i.low k h.0, leb-true k i.high h.1)

  pub record IsReserved (members : List Numbered) (rs : List ReservedRange) (d : Diag) : Type 0 where
    pub f : Numbered
    pub r : ReservedRange
    pub there : Contains members f
    pub range : Contains rs r
    pub reserves : Reserves numbering text r (number_in text f.number)
    pub is : d ≡ diag m.NumberReserved f.number.span

  pub reserved-has : (members : List Numbered) (rs : List ReservedRange) (d : Diag) → Contains (filter_map (number_reserved (good rs)) (known members)) d → IsReserved members rs d
  reserved-has members rs d c =
      let h = filter_map-has (number_reserved (good rs)) (known members) d c in
      let g = map-has (of text numbering) members h.0 h.1 in
      let e = subst (λ (f : Member). number_reserved (good rs) f ≡ Some d) (sym g.is) h.2 in
      let value = value_of numbering text g.source.number in
      let t = diag_if-tells (list_any (lies_in value) (good rs)) m.NumberReserved g.source.number.span d e in
      let one = list_any-has (lies_in value) (good rs) t.0 in
      let lies = lies-in value one.0 one.2 in
      let range = forwards-has rs one.0 one.1 in
      let number = in_range numbering text g.source.number lies.0 lies.1 in
      record {
        f = g.source;
        r = range.0;
        there = g.there;
        range = range.1;
        reserves = subst (Reserves numbering text range.0) (sym number.1) (reserves-is range.0 one.0 lies.0 range.2 lies.2 lies.3);
        is = t.1;
      }

  pub in_reserved : (members : List Numbered) (rs : List ReservedRange) (f : Numbered) (r : ReservedRange) (d : Diag) → Contains members f → Contains rs r → Reserves numbering text r (number_in text f.number) → d ≡ diag m.NumberReserved f.number.span
      → Contains (filter_map (number_reserved (good rs)) (known members)) d
  in_reserved members rs f r d c range reserves is =
      let value = value_of numbering text f.number in
      let number = value-in numbering text f.number (reserved-within r (number_in text f.number) reserves) in
      let i = good-interval r (number_in text f.number) reserves in
      let lies = is-reserved r i.0 number.0 i.2 (subst (Reserves numbering text r) number.2 reserves) in
      let there = in_filter runs_forwards (filter_map (interval numbering text) rs) i.0 (in_filter_map (interval numbering text) rs r i.0 range i.1) i.3 in
      let holds : lies_in value i.0 ≡ true =
      ap (λ o. lies_in o i.0) number.1 ∙ and_from (nat_le i.0.low number.0) (nat_le number.0 i.0.high) (le-leb i.0.low number.0 lies.0) (le-leb number.0 i.0.high lies.1) in
      in_filter_map (number_reserved (good rs)) (known members) (of text numbering f) d (in_map (of text numbering) members f c)
      (diag_if-is (list_any (lies_in value) (good rs)) m.NumberReserved f.number.span d (list_any-is (lies_in value) (good rs) i.0 there holds) is)

  -- ---- ranges that run backwards

  pub record IsBackwards (rs : List ReservedRange) (d : Diag) : Type 0 where
    pub r : ReservedRange
    pub there : Contains rs r
    pub bounds : HasBounds numbering text r
    pub below : to_is numbering text r <ℤ from_is numbering text r
    pub is : d ≡ diag m.RangeBackwards (whole_range r)

  pub backwards-has : (rs : List ReservedRange) (d : Diag) → Contains (filter_map backwards (filter_map (interval numbering text) rs)) d → IsBackwards rs d
  backwards-has rs d c =
      let h = filter_map-has backwards (filter_map (interval numbering text) rs) d c in
      let g = filter_map-has (interval numbering text) rs h.0 h.1 in
      let i = interval-is numbering text g.0 h.0 g.2 in
      let t = diag_if-tells (not (runs_forwards h.0)) m.RangeBackwards h.0.span d h.2 in
      let low : h.0.high < h.0.low = leb-false h.0.low h.0.high (not-true (nat_le h.0.low h.0.high) t.0) in
      record {
        r = g.0;
        there = g.1;
        bounds = i.bounds;
        below = subst (λ z. z <ℤ from_is numbering text g.0) (sym i.high_is) (subst (λ z. number_of numbering h.0.high <ℤ z) (sym i.low_is) (number_of-below numbering h.0.high h.0.low low));
        is = t.1 ∙ ap (diag m.RangeBackwards) i.span_is;
      }

  pub in_backwards : (rs : List ReservedRange) (r : ReservedRange) (d : Diag) → Contains rs r → HasBounds numbering text r → to_is numbering text r <ℤ from_is numbering text r → d ≡ diag m.RangeBackwards (whole_range r)
      → Contains (filter_map backwards (filter_map (interval numbering text) rs)) d
  in_backwards rs r d c bounds below is =
      let i = has-interval numbering text r bounds in
      let known = interval-is numbering text r i.0 i.1 in
      let low : i.0.high < i.0.low = below-number_of numbering i.0.high i.0.low (subst (λ z. z <ℤ number_of numbering i.0.low) known.high_is (subst (λ z. to_is numbering text r <ℤ z) known.low_is below)) in
      in_filter_map backwards (filter_map (interval numbering text) rs) i.0 d (in_filter_map (interval numbering text) rs r i.0 c i.1)
      (diag_if-is (not (runs_forwards i.0)) m.RangeBackwards i.0.span d (not_from_false (runs_forwards i.0) (lt-leb i.0.low i.0.high low)) (is ∙ ap (diag m.RangeBackwards) (sym known.span_is)))

  -- ---- ranges that share a number

  abbrev Overlaps : Interval → Interval → Type 0
  Overlaps e r = (r.low ≤ e.high) × (e.low ≤ r.high)

  overlap-asked : (before : List Interval) (r : Interval) → list_any (overlap r) before ≡ true → (e : Interval) × Contains before e × Overlaps e r
  overlap-asked before r e =
      let h = list_any-has (overlap r) before e in
      let t = and_parts (nat_le r.low h.0.high) (nat_le h.0.low r.high) h.2 in
      (h.0, h.1, (leb-true r.low h.0.high t.0, leb-true h.0.low r.high t.1))

  asked-overlap : (before : List Interval) (e r : Interval) → Contains before e → Overlaps e r → list_any (overlap r) before ≡ true
  asked-overlap before e r c h = list_any-is (overlap r) before e c (and_from (nat_le r.low e.high) (nat_le e.low r.high) (le-leb r.low e.high h.0) (le-leb e.low r.high h.1))

  -- a number in both
  common : (e r : Interval) → e.low ≤ e.high → r.low ≤ r.high → Overlaps e r → (k : ℕ) × (e.low ≤ k) × (k ≤ e.high) × (r.low ≤ k) × (k ≤ r.high)
  common e r first second h = by (cases_lt e.low r.low)
    where
      by : (e.low < r.low) ⊎ (r.low ≤ e.low) → (k : ℕ) × (e.low ≤ k) × (k ≤ e.high) × (r.low ≤ k) × (k ≤ r.high)
      by (inl lt) = (r.low, omega arith, h.0, omega arith, second)
      by (inr le) = (e.low, omega arith, first, le, h.1)

  pub record AreShared (rs : List ReservedRange) (d : Diag) : Type 0 where
    pub r : ReservedRange
    pub s : ReservedRange
    pub v : ℤ
    pub order : Precedes rs r s
    pub one : Reserves numbering text r v
    pub two : Reserves numbering text s v
    pub is : d ≡ diag m.ReservedTwice (whole_range s)

  pub shared-has : (rs : List ReservedRange) (d : Diag) → Contains (judged range_twice (good rs)) d → AreShared rs d
  shared-has rs d c =
      let h = judged-has (λ before r. list_any (overlap r) before) Overlaps m.ReservedTwice (λ (i : Interval). i.span) overlap-asked (good rs) d c in
      let g = filter-order runs_forwards (filter_map (interval numbering text) rs) h.one h.two h.order in
      let k = filter_map-order (interval numbering text) rs h.one h.two g.0 in
      let one = interval-is numbering text k.one h.one k.one_is in
      let two = interval-is numbering text k.two h.two k.two_is in
      let n = common h.one h.two (leb-true h.one.low h.one.high g.1) (leb-true h.two.low h.two.high g.2) h.related in
      record {
        r = k.one;
        s = k.two;
        v = number_of numbering n.0;
        order = k.order;
        one = reserves-is k.one h.one n.0 one n.1 n.2;
        two = reserves-is k.two h.two n.0 two n.3 n.4;
        is = h.is ∙ ap (diag m.ReservedTwice) two.span_is;
      }

  pub in_shared : (rs : List ReservedRange) (r s : ReservedRange) (v : ℤ) (d : Diag) → Precedes rs r s → Reserves numbering text r v → Reserves numbering text s v → d ≡ diag m.ReservedTwice (whole_range s) → Contains (judged range_twice (good rs)) d
  in_shared rs r s v d order one two is =
      let i = good-interval r v one in
      let j = good-interval s v two in
      let n = value_of_range v (reserved-within r v one) in
      let first = is-reserved r i.0 n.0 i.2 (subst (Reserves numbering text r) n.1 one) in
      let second = is-reserved s j.0 n.0 j.2 (subst (Reserves numbering text s) n.1 two) in
      let there = order-filter runs_forwards (order-filter_map (interval numbering text) i.0 j.0 order i.1 j.1) i.3 j.3 in
      in_judged (λ before r. list_any (overlap r) before) Overlaps m.ReservedTwice (λ (i : Interval). i.span) asked-overlap (good rs) i.0 j.0 d there
      (let a = first.0 in let b = first.1 in let c = second.0 in let e = second.1 in (omega (arith, b, c), omega (arith, a, e)))
      (is ∙ ap (diag m.ReservedTwice) (sym j.2.span_is))
    where
      value_of_range : (v : ℤ) → IsInRange numbering v → (k : ℕ) × (v ≡ number_of numbering k)
      value_of_range v h = number_in_range numbering v h

-- ---- names

module _ (text : List ℕ) where
  abbrev SameText : ReservedName → ReservedName → Type 0
  SameText e r = e.text ≡ r.text

  text-asked : (before : List ReservedName) (r : ReservedName) → list_any (λ e. bytes_eq e.text r.text) before ≡ true → (e : ReservedName) × Contains before e × SameText e r
  text-asked before r e =
      let h = list_any-has (λ (e : ReservedName). bytes_eq e.text r.text) before e in
      (h.0, h.1, (bytes_eq-Decides h.0.text r.text).0 h.2)

  asked-text : (before : List ReservedName) (e r : ReservedName) → Contains before e → SameText e r → list_any (λ e. bytes_eq e.text r.text) before ≡ true
  asked-text before e r c same = list_any-is (λ (e : ReservedName). bytes_eq e.text r.text) before e c ((bytes_eq-Decides e.text r.text).1 same)

  pub record AreNamesTwice (ls : List Literal) (d : Diag) : Type 0 where
    pub k : Literal
    pub l : Literal
    pub order : Precedes ls k l
    pub same : literal_text text k ≡ literal_text text l
    pub is : d ≡ diag m.ReservedTwice l.span

  pub names-twice : (ls : List Literal) (d : Diag) → Contains (judged name_twice (map (reserved_name text) ls)) d → AreNamesTwice ls d
  names-twice ls d c =
      let h = judged-has (λ before (r : ReservedName). list_any (λ (e : ReservedName). bytes_eq e.text r.text) before) SameText m.ReservedTwice (λ (r : ReservedName). r.span) text-asked (map (reserved_name text) ls) d c in
      let g = map-order (reserved_name text) ls h.one h.two h.order in
      record {
        k = g.one;
        l = g.two;
        order = g.order;
        same = ap (λ (r : ReservedName). r.text) g.one_is ∙ h.related ∙ sym (ap (λ (r : ReservedName). r.text) g.two_is);
        is = h.is ∙ ap (λ (r : ReservedName). diag m.ReservedTwice r.span) (sym g.two_is);
      }

  pub in_names_twice : (ls : List Literal) (k l : Literal) (d : Diag) → Precedes ls k l → literal_text text k ≡ literal_text text l → d ≡ diag m.ReservedTwice l.span → Contains (judged name_twice (map (reserved_name text) ls)) d
  in_names_twice ls k l d order same is =
      in_judged (λ before (r : ReservedName). list_any (λ (e : ReservedName). bytes_eq e.text r.text) before) SameText m.ReservedTwice (λ (r : ReservedName). r.span) asked-text (map (reserved_name text) ls)
      (reserved_name text k) (reserved_name text l) d (order-map (reserved_name text) order) same is

  pub record IsNameReserved (numbering : Numbering) (members : List Numbered) (ls : List Literal) (d : Diag) : Type 0 where
    pub f : Numbered
    pub l : Literal
    pub there : Contains members f
    pub name : Contains ls l
    pub same : literal_text text l ≡ text_at text f.name
    pub is : d ≡ diag m.NameReserved f.name

  pub name-reserved : (numbering : Numbering) (members : List Numbered) (ls : List Literal) (d : Diag) → Contains (filter_map (name_reserved text (map (reserved_name text) ls)) (known numbering text members)) d → IsNameReserved numbering members ls d
  name-reserved numbering members ls d c =
      let reserved = map (reserved_name text) ls in
      let h = filter_map-has (name_reserved text reserved) (known numbering text members) d c in
      let g = map-has (of text numbering) members h.0 h.1 in
      let e = subst (λ (f : Member). name_reserved text reserved f ≡ Some d) (sym g.is) h.2 in
      let t = diag_if-tells (list_any (λ r. bytes_eq r.text (text_at text g.source.name)) reserved) m.NameReserved g.source.name d e in
      let one = list_any-has (λ (r : ReservedName). bytes_eq r.text (text_at text g.source.name)) reserved t.0 in
      let k = map-has (reserved_name text) ls one.0 one.1 in
      record {
        f = g.source;
        l = k.source;
        there = g.there;
        name = k.there;
        same = ap (λ (r : ReservedName). r.text) k.is ∙ (bytes_eq-Decides one.0.text (text_at text g.source.name)).0 one.2;
        is = t.1;
      }

  pub in_name_reserved : (numbering : Numbering) (members : List Numbered) (ls : List Literal) (f : Numbered) (l : Literal) (d : Diag) → Contains members f → Contains ls l → literal_text text l ≡ text_at text f.name → d ≡ diag m.NameReserved f.name
      → Contains (filter_map (name_reserved text (map (reserved_name text) ls)) (known numbering text members)) d
  in_name_reserved numbering members ls f l d c name same is =
      let reserved = map (reserved_name text) ls in
      in_filter_map (name_reserved text reserved) (known numbering text members) (of text numbering f) d (in_map (of text numbering) members f c)
      (diag_if-is (list_any (λ r. bytes_eq r.text (text_at text f.name)) reserved) m.NameReserved f.name d
      (list_any-is (λ (r : ReservedName). bytes_eq r.text (text_at text f.name)) reserved (reserved_name text l) (in_map (reserved_name text) ls l name) ((bytes_eq-Decides (literal_text text l) (text_at text f.name)).1 same)) is)
