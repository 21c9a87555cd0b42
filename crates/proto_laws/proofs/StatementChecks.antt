-- What the other checks of a statement find: numbers that are kept free, first values, aliases, labels and keys of maps.
use Rattle.std.proofs.Common.{◌≡◌, ◌∙◌, ℕ, ◌≤◌, ℤ, pos, ◌≤ℤ◌, Bool, true, false, cond, List, [], ◌∷◌, drop, Option, Some, None, refl, sym, ap, subst, arith, le-leb}
use Rattle.std.specs.Prelude.{Contains, ◌≢◌, codes, nat_le}
use Rattle.std.specs.List.{filter_map, flat_map}
use Rattle.std.specs.Str.{bytes_eq}
use Rattle.std.proofs.lemmas.Bool.{and_from, and_parts, eq-eqb, eqb-true, leb-true}
use Rattle.std.proofs.lemmas.Int.{ints}
use Rattle.std.proofs.lemmas.Slice.Eq.{bytes_eq-Decides}
use Rattle.proto_tree.specs.declared.node.Field.{Field}
use Rattle.proto_tree.specs.declared.node.MapField.{MapField}
use Rattle.proto_tree.specs.declared.node.Span.{Span}
use Rattle.proto_tree.specs.declared.node.Node.{Node, out-Node}
use Rattle.proto_tree.specs.declared.node.Node.TheOpen.{Node-F}
use Rattle.proto_decls.specs.declared.diagnostic.Diag.{Diag}
use Rattle.proto_decls.specs.declared.part.Member.{Member}
use Rattle.proto_decls.specs.declared.part.Numbering.TheVariants.{Fields, Values}
use Rattle.proto_decls.specs.declared.problem.Problem.TheVariants as m
use Rattle.proto_decls.specs.Checks.{first_diags, is_kept_free, is_key_word, is_zero, kept_free, key_diags, key_types, label_diags}
use Rattle.proto_decls.specs.Diags.{diag}
use Rattle.proto_decls.specs.Members.{allows_alias, is_alias_option, labels_of, later_labels, labels}
use Rattle.proto_decls.specs.Numbers.{value_of}
use Rattle.proto_decls.specs.Text.{text_at}
use Rattle.proto_laws.specs.Bodies.{AllowsAlias, IsInRange, Numbered, Precedes, by_option, number_in}
use Rattle.proto_laws.proofs.BodyChecks.{known}
use Rattle.proto_laws.proofs.BodyParts.{in_range, of, value-in}
use Rattle.proto_laws.proofs.Counts.{number_of, number_of-same}
use Rattle.proto_laws.proofs.Holders.{none_in}
use Rattle.proto_laws.proofs.Judged.{diag_if-is, diag_if-tells}
use Rattle.proto_laws.proofs.Lists.{behind_first, filter_map-has, in_filter_map, in_flat_map, in_map, list_any-has, just, list_any-is, map-has, not_first, one_only}

-- ---- numbers that are kept free

module _ (text : List ℕ) where
  pub record IsKeptFree (members : List Numbered) (d : Diag) : Type 0 where
    pub f : Numbered
    pub there : Contains members f
    pub above : pos 19000 ≤ℤ number_in text f.number
    pub below : number_in text f.number ≤ℤ pos 19999
    pub is : d ≡ diag m.NumberKeptFree f.number.span

  free-is : (o : Option ℕ) → is_kept_free o ≡ true → (k : ℕ) × (o ≡ Some k) × (19000 ≤ k) × (k ≤ 19999)
  free-is None e = absurd (cc (e))
  free-is (Some k) e = let h = and_parts (nat_le 19000 k) (nat_le k 19999) e in (k, refl, leb-true 19000 k h.0, leb-true k 19999 h.1)

  pub kept_free-has : (members : List Numbered) (d : Diag) → Contains (filter_map kept_free (known Fields text members)) d → IsKeptFree members d
  kept_free-has members d c =
      let h = filter_map-has kept_free (known Fields text members) d c in
      let g = map-has (of text Fields) members h.0 h.1 in
      let e = subst (λ (f : Member). kept_free f ≡ Some d) (sym g.is) h.2 in
      let value = value_of Fields text g.source.number in
      let t = diag_if-tells (is_kept_free value) m.NumberKeptFree g.source.number.span d e in
      let k = free-is value t.0 in
      let number = in_range Fields text g.source.number k.0 k.1 in
      let low = k.2 in
      let high = k.3 in
      record {
        f = g.source;
        there = g.there;
        above = subst (λ z. pos 19000 ≤ℤ z) (sym number.1) (omega (arith, ints));
        below = subst (λ z. z ≤ℤ pos 19999) (sym number.1) (omega (arith, ints));
        is = t.1;
      }

  free_in_range : (z : ℤ) → pos 19000 ≤ℤ z → z ≤ℤ pos 19999 → IsInRange Fields z
  free_in_range z a b = (omega (arith, ints), omega (arith, ints))

  pub in_kept_free : (members : List Numbered) (f : Numbered) (d : Diag) → Contains members f → pos 19000 ≤ℤ number_in text f.number → number_in text f.number ≤ℤ pos 19999 → d ≡ diag m.NumberKeptFree f.number.span
      → Contains (filter_map kept_free (known Fields text members)) d
  in_kept_free members f d c above below is =
      let number = value-in Fields text f.number (free_in_range (number_in text f.number) above below) in
      let low : 19000 ≤ number.0 = let a = subst (λ z. pos 19000 ≤ℤ z) number.2 above in omega (arith, ints) in
      let high : number.0 ≤ 19999 = let b = subst (λ z. z ≤ℤ pos 19999) number.2 below in omega (arith, ints) in
      let free : is_kept_free (value_of Fields text f.number) ≡ true = ap is_kept_free number.1 ∙ and_from (nat_le 19000 number.0) (nat_le number.0 19999) (le-leb 19000 number.0 low) (le-leb number.0 19999 high) in
      in_filter_map kept_free (known Fields text members) (of text Fields f) d (in_map (of text Fields) members f c) (diag_if-is (is_kept_free (value_of Fields text f.number)) m.NumberKeptFree f.number.span d free is)

  -- ---- first values

  zero-is : (o : Option ℕ) → is_zero o ≡ true → o ≡ Some 2147483648
  zero-is None e = cc
  zero-is (Some k) e = ap (λ (n : ℕ). Some n) (eqb-true k 2147483648 e)

  nought : number_of Values 2147483648 ≡ pos 0
  nought = refl

  -- the value that counts as zero is 0
  zero-value : (v : Numbered) → is_zero (value_of Values text v.number) ≡ true → number_in text v.number ≡ pos 0
  zero-value v e = (in_range Values text v.number 2147483648 (zero-is (value_of Values text v.number) e)).1 ∙ nought

  value-zero : (v : Numbered) → number_in text v.number ≡ pos 0 → is_zero (value_of Values text v.number) ≡ true
  value-zero v e =
      let within : IsInRange Values (number_in text v.number) = subst (IsInRange Values) (sym e) (omega (arith, ints), omega (arith, ints)) in
      let number = value-in Values text v.number within in
      let same : number.0 ≡ 2147483648 = number_of-same Values number.0 2147483648 (sym number.2 ∙ e ∙ sym nought) in
      ap is_zero number.1 ∙ eq-eqb number.0 2147483648 same

  pub data IsFirst (name : Span) (d : Diag) : List Numbered → Type 0 where
    no_value : d ≡ diag m.FirstNotZero name → IsFirst name d []
    not_zero : {v : Numbered} {more : List Numbered} → number_in text v.number ≢ pos 0 → d ≡ diag m.FirstNotZero v.number.span → IsFirst name d (v ∷ more)

  pub first-has : (name : Span) (members : List Numbered) (d : Diag) → Contains (first_diags name (known Values text members)) d → IsFirst name d members
  first-has name [] d c = no_value (one_only (diag m.FirstNotZero name) d c)
  first-has name (v ∷ more) d c = by (is_zero (value_of Values text v.number)) refl c
    where
      by : (b : Bool) → is_zero (value_of Values text v.number) ≡ b → Contains (cond {A = List Diag} b [] (diag m.FirstNotZero v.number.span ∷ [])) d → IsFirst name d (v ∷ more)
      by true is c = absurd (none_in d c)
      by false is c = not_zero (λ e. absurd (let yes = value-zero v e in cc)) (one_only (diag m.FirstNotZero v.number.span) d c)

  pub in_first : (name : Span) (members : List Numbered) (d : Diag) → IsFirst name d members → Contains (first_diags name (known Values text members)) d
  in_first name [] d (no_value is) = just (diag m.FirstNotZero name) d is
  in_first name (v ∷ more) d (not_zero other is) = by (is_zero (value_of Values text v.number)) refl
    where
      by : (b : Bool) → is_zero (value_of Values text v.number) ≡ b → Contains (cond {A = List Diag} b [] (diag m.FirstNotZero v.number.span ∷ [])) d
      by true is_it = absurd (other (zero-value v is_it))
      by false is_it = just (diag m.FirstNotZero v.number.span) d is

  -- ---- aliases

  is_option : (n : Node) (y : Node-F Node) → out-Node n ≡ y → is_alias_option text y ≡ true → (items : List Node) → Contains items n → AllowsAlias text items
  is_option n (Node-F.OptionDef span name value) is e items c =
      let h = and_parts (bytes_eq (text_at text name) (codes "allow_alias")) (bytes_eq (text_at text value) (codes "true")) e in
      by_option c is ((bytes_eq-Decides (text_at text name) (codes "allow_alias")).0 h.0) ((bytes_eq-Decides (text_at text value) (codes "true")).0 h.1)
  is_option n _ is e items c = absurd (cc (e))

  pub alias-has : (items : List Node) → allows_alias text items ≡ true → AllowsAlias text items
  alias-has items e = let h = list_any-has (λ n. is_alias_option text (out-Node n)) items e in is_option h.0 (out-Node h.0) refl h.2 items h.1

  pub in_alias : (items : List Node) → AllowsAlias text items → allows_alias text items ≡ true
  in_alias items (by_option {n} {span} {name} {value} c is one two) =
      list_any-is (λ n. is_alias_option text (out-Node n)) items n c
      (ap (is_alias_option text) is
      ∙ and_from (bytes_eq (text_at text name) (codes "allow_alias")) (bytes_eq (text_at text value) (codes "true"))
      ((bytes_eq-Decides (text_at text name) (codes "allow_alias")).1 one) ((bytes_eq-Decides (text_at text value) (codes "true")).1 two))

  -- ---- keys of maps

  pub key-has : (f : MapField) (d : Diag) → Contains (key_diags text f) d → (¬ Contains key_types (text_at text f.key.span)) × (d ≡ diag m.MapKey f.key.span)
  key-has f d c = by (is_key_word (text_at text f.key.span)) refl c
    where
      by : (b : Bool) → is_key_word (text_at text f.key.span) ≡ b → Contains (cond {A = List Diag} b [] (diag m.MapKey f.key.span ∷ [])) d → (¬ Contains key_types (text_at text f.key.span)) × (d ≡ diag m.MapKey f.key.span)
      by true is c = absurd (none_in d c)
      by false is c = (
        λ there. absurd (let yes = list_any-is (bytes_eq (text_at text f.key.span)) key_types (text_at text f.key.span) there ((bytes_eq-Decides (text_at text f.key.span) (text_at text f.key.span)).1 refl) in let no : is_key_word (text_at text f.key.span) ≡ false = is in let both : true ≡ false = sym yes ∙ no in cc),
        one_only (diag m.MapKey f.key.span) d c,
      )

  pub in_key : (f : MapField) (d : Diag) → ¬ Contains key_types (text_at text f.key.span) → d ≡ diag m.MapKey f.key.span → Contains (key_diags text f) d
  in_key f d none is = by (is_key_word (text_at text f.key.span)) refl
    where
      by : (b : Bool) → is_key_word (text_at text f.key.span) ≡ b → Contains (cond {A = List Diag} b [] (diag m.MapKey f.key.span ∷ [])) d
      by true e =
          let h = list_any-has (bytes_eq (text_at text f.key.span)) key_types e in
          absurd (none (subst (Contains key_types) (sym ((bytes_eq-Decides (text_at text f.key.span) h.0).0 h.2)) h.1))
      by false e = just (diag m.MapKey f.key.span) d is

-- ---- labels

pub label-has : (found : List Span) (d : Diag) → Contains (label_diags found) d → (label : Span) × Contains found label × (d ≡ diag m.LabelNotAllowed label)
label-has found d c = let h = map-has (diag m.LabelNotAllowed) found d c in (h.source, h.there, sym h.is)

pub in_label : (found : List Span) (label : Span) (d : Diag) → Contains found label → d ≡ diag m.LabelNotAllowed label → Contains (label_diags found) d
in_label found label d c is = subst (Contains (label_diags found)) (sym is) (in_map (diag m.LabelNotAllowed) found label c)

pub of_field : (y : Node-F Node) (label : Span) → Contains (labels_of y) label → (f : Field) × (y ≡ Node-F.Field f) × Contains f.labels label
of_field (Node-F.Field f) label c = (f, refl, c)
of_field _ label c = absurd (none_in label c)

pub later_of_field : (y : Node-F Node) (label : Span) → Contains (drop 1 (labels_of y)) label → (f : Field) × (y ≡ Node-F.Field f) × (one : Span) × Precedes f.labels one label
later_of_field (Node-F.Field f) label c = let h = not_first f.labels label c in (f, refl, h.0, h.1)
later_of_field _ label c = absurd (none_in label c)

pub in_labels : (items : List Node) (k : Node) (f : Field) (label : Span) → Contains items k → out-Node k ≡ Node-F.Field f → Contains f.labels label → Contains (flat_map labels items) label
in_labels items k f label c is there = in_flat_map labels items k label c (subst (λ l. Contains l label) (sym (ap labels_of is)) there)

pub in_later_labels : (items : List Node) (k : Node) (f : Field) (one label : Span) → Contains items k → out-Node k ≡ Node-F.Field f → Precedes f.labels one label → Contains (flat_map later_labels items) label
in_later_labels items k f one label c is order =
    in_flat_map later_labels items k label c (subst (λ l. Contains (drop 1 l) label) (sym (ap labels_of is)) (behind_first order))
