-- The diagnostics of statements are those that their relation says.
use Rattle.std.proofs.Common.{◌≡◌, ◌⊎◌, ◌∙◌, inl, inr, ℕ, Bool, true, false, List, [], ◌∷◌, ◌++◌, map, refl, sym, ap, subst}
use Rattle.std.specs.Prelude.{Contains, pos, ◌≤ℤ◌}
use Rattle.std.specs.List.{filter_map, flat_map}
use Rattle.std.proofs.lemmas.List.Elements.{Contains-append_cases, Contains-append_left, Contains-append_right}
use Rattle.proto_tree.specs.declared.node.Field.{Field}
use Rattle.proto_tree.specs.declared.node.FileTree.{FileTree}
use Rattle.proto_tree.specs.declared.node.MapField.{MapField}
use Rattle.proto_tree.specs.declared.node.Number.{Number}
use Rattle.proto_tree.specs.declared.node.RangeEnd.{RangeEnd}
use Rattle.proto_tree.specs.declared.node.RangeEnd.TheVariants as bound
use Rattle.proto_tree.specs.declared.node.ReservedRange.{ReservedRange}
use Rattle.proto_tree.specs.declared.node.Span.{Span}
use Rattle.proto_tree.specs.declared.node.TypeName.{TypeName}
use Rattle.proto_tree.specs.declared.node.Node.{Node, out-Node}
use Rattle.proto_tree.specs.declared.node.Node.TheOpen.{Node-F}
use Rattle.proto_decls.specs.declared.diagnostic.Diag.{Diag}
use Rattle.proto_decls.specs.declared.part.Member.{Member}
use Rattle.proto_decls.specs.declared.part.Numbering.{Numbering}
use Rattle.proto_decls.specs.declared.part.Numbering.TheVariants.{Fields, Values}
use Rattle.proto_decls.specs.declared.problem.Problem.TheVariants as m
use Rattle.proto_decls.specs.Checks.{alias_diags, backwards, bound_diags, first_diags, interval_diags, judged, kept_free, key_diags, label_diags, map_diags, member_out_of_range, name_diags, name_reserved, name_twice, number_reserved, number_used, opened_diags, out_of_range, range_twice, reserved_diags, statement_diags}
use Rattle.proto_decls.specs.Diags.{diag}
use Rattle.proto_decls.specs.Members.{allows_alias, bounds, bounds_from, interval, intervals, labels, later_labels, names, ranges, reserved_name}
use Rattle.proto_decls.specs.Text.{text_at}
use Rattle.proto_decls.specs.Tree.{all_statements}
use Rattle.proto_laws.specs.Bodies.{AllowsAlias, HasStatement, IsBody, IsBound, IsInRange, IsNumber, Numbered, Precedes, enum_values, message_fields, number_in, of_enum, of_extension, of_high, of_low, of_member, of_message, plain_fields, reserved_names, reserved_ranges}
use Rattle.proto_laws.specs.FileDiagnostics.{IsLabelTooMany, IsProto3Diagnostic, enum_number_out_of_range, enum_number_used_twice, first_not_zero, label_not_allowed, map_key, map_key_types, name_reserved as name_is_reserved, name_reserved_twice, no_value, number_kept_free, number_out_of_range, number_reserved as number_is_reserved, number_used_twice, of_extend as label_of_extend, of_map as label_of_map, of_message as label_of_message, of_oneof as label_of_oneof, range_backwards, range_reserved_twice}
use Rattle.proto_laws.proofs.BodyChecks.{backwards-has, bound-has, good, in_bound, in_out, in_twice, known, name-reserved, names-twice, out-has, reserved-has, shared-has, twice-has}
use Rattle.proto_laws.proofs.BodyParts.{fields-are, names-are, plain_fields-are, ranges-are, values-are}
use Rattle.proto_laws.proofs.Holders.{cases_in, either, first_in, later_in, none_in}
use Rattle.proto_laws.proofs.Lists.{flat_map-has, in_flat_map, one_only}
use Rattle.proto_laws.proofs.StatementChecks.{IsFirst, alias-has, first-has, in_alias, in_first, in_kept_free, in_key, in_label, in_labels, in_later_labels, kept_free-has, key-has, label-has, later_of_field, no_value as has_none, not_zero, of_field}
use Rattle.proto_laws.proofs.Statements.{in_statements, statements-stand}

-- ---- the numbers of a range

-- a number of a range is its first, or the one after `to`
bound-is : (nodes : List Node) (numbering : Numbering) (items : List Node) (members : List Numbered) (r : ReservedRange) (n : Number) → IsBody nodes numbering items members → Contains (reserved_ranges items) r → Contains (bounds r) n → IsBound nodes numbering n
bound-is nodes numbering items members r n body there c = by r.high refl c
  where
    low_is : n ≡ r.low → IsBound nodes numbering n
    low_is same = subst (IsBound nodes numbering) (sym same) (of_low body there)

    by : (high : RangeEnd) → r.high ≡ high → Contains (bounds_from r.low high) n → IsBound nodes numbering n
    by bound.Same is c = low_is (one_only r.low n c)
    by (bound.Number k) is c = either (λ same. low_is (sym same)) (λ c. let same : n ≡ k = one_only k n c in of_high body there (is ∙ ap (λ k. bound.Number k) (sym same))) (cases_in r.low (k ∷ []) n c)
    by (bound.Max s) is c = low_is (one_only r.low n c)

low-in : (low : Number) (high : RangeEnd) → Contains (bounds_from low high) low
low-in low bound.Same = first_in low []
low-in low (bound.Number n) = first_in low (n ∷ [])
low-in low (bound.Max s) = first_in low []

high-in : (r : ReservedRange) (n : Number) → r.high ≡ bound.Number n → Contains (bounds r) n
high-in r n is = subst (λ high. Contains (bounds_from r.low high) n) (sym is) (later_in r.low (n ∷ []) n (first_in n []))

module _ (text : List ℕ) (tree : FileTree) where
  -- ---- what is found is said

  module _ (d : Diag) where
    abbrev Said : Type 0
    Said = IsProto3Diagnostic text tree d

    out-said : (numbering : Numbering) (n : Number) → IsNumber tree.nodes numbering n ⊎ IsBound tree.nodes numbering n → ¬ IsInRange numbering (number_in text n) → d ≡ diag (out_of_range numbering) n.span → Said
    out-said Fields n where_is out is = number_out_of_range where_is out is
    out-said Values n where_is out is = enum_number_out_of_range where_is out is

    module _ (numbering : Numbering) (items : List Node) (members : List Numbered) (body : IsBody tree.nodes numbering items members) where
      abbrev ms : List Member
      ms = known numbering text members

      outs-said : Contains (filter_map (member_out_of_range numbering) ms) d → Said
      outs-said c = let h = out-has numbering text members d c in out-said numbering h.m.number (inl (of_member body h.there)) h.out h.is

      bounds-said : Contains (bound_diags numbering text items) d → Said
      bounds-said c =
          let h = bound-has numbering text (flat_map bounds (ranges items)) d c in
          let r = flat_map-has bounds (ranges items) h.0 h.1 in
          out-said numbering h.0 (inr (bound-is tree.nodes numbering items members r.whole h.0 body (subst (λ l. Contains l r.whole) (ranges-are items) r.there) r.has)) h.2 h.3

      intervals-said : Contains (interval_diags ms (intervals numbering text items)) d → Said
      intervals-said c =
          let rs = reserved_ranges items in
          let first = filter_map (number_reserved (good numbering text rs)) ms in
          let second = filter_map backwards (filter_map (interval numbering text) rs) in
          let third = judged range_twice (good numbering text rs) in
          let c = subst (λ rs. Contains (interval_diags ms (filter_map (interval numbering text) rs)) d) (ranges-are items) c in
          either (λ c. either (λ c. let h = reserved-has numbering text members rs d c in number_is_reserved body h.there h.range h.reserves h.is)
          (λ c. let h = backwards-has numbering text rs d c in range_backwards body h.there h.bounds h.below h.is)
          (Contains-append_cases first second d c))
          (λ c. let h = shared-has numbering text rs d c in range_reserved_twice body h.order h.one h.two h.is)
          (Contains-append_cases (first ++ second) third d c)

      names-said : Contains (name_diags text ms (names text items)) d → Said
      names-said c =
          let reserved = map (reserved_name text) (reserved_names items) in
          let c = subst (λ l. Contains (name_diags text ms l) d) (names-are text items) c in
          either (λ c. let h = names-twice text (reserved_names items) d c in name_reserved_twice body h.order h.same h.is)
          (λ c. let h = name-reserved text numbering members (reserved_names items) d c in name_is_reserved body h.there h.name h.same h.is)
          (Contains-append_cases (judged name_twice reserved) (filter_map (name_reserved text reserved) ms) d c)

      reserved-said : Contains (reserved_diags numbering text ms items) d → Said
      reserved-said c =
          let first = bound_diags numbering text items in
          let second = interval_diags ms (intervals numbering text items) in
          let third = name_diags text ms (names text items) in
          either (λ c. either bounds-said intervals-said (Contains-append_cases first second d c)) names-said (Contains-append_cases (first ++ second) third d c)

    -- ---- one statement

    abbrev message_with : List Member → List Node → List Diag
    message_with ms items =
        filter_map (member_out_of_range Fields) ms ++ filter_map kept_free ms ++ judged (number_used Fields) ms ++ reserved_diags Fields text ms items ++ label_diags (flat_map later_labels items)

    abbrev extend_with : List Member → List Node → List Diag
    extend_with ms items = filter_map (member_out_of_range Fields) ms ++ filter_map kept_free ms ++ label_diags (flat_map later_labels items)

    abbrev pub enum_with : Span → List Member → List Node → List Diag
    enum_with name ms items = first_diags name ms ++ filter_map (member_out_of_range Values) ms ++ alias_diags (allows_alias text items) ms ++ reserved_diags Values text ms items

    later_labels-said : (items : List Node) → ((k : Node) (f : Field) (one label : Span) → Contains items k → out-Node k ≡ Node-F.Field f → Precedes f.labels one label → IsLabelTooMany tree.nodes label) → Contains (label_diags (flat_map later_labels items)) d → Said
    later_labels-said items too_many c =
        let h = label-has (flat_map later_labels items) d c in
        let g = flat_map-has later_labels items h.0 h.1 in
        let f = later_of_field (out-Node g.whole) h.0 g.has in
        label_not_allowed (too_many g.whole f.0 f.2 h.0 g.there f.1 f.3) h.2

    message-said : (n : Node) (span name : Span) (items : List Node) → HasStatement tree.nodes n → out-Node n ≡ Node-F.Message span name items → Contains (message_with (known Fields text (message_fields items)) items) d → Said
    message-said n span name items stands is c =
        let members = message_fields items in
        let body : IsBody tree.nodes Fields items members = of_message stands is in
        let ms = known Fields text members in
        let a = filter_map (member_out_of_range Fields) ms in
        let b = filter_map kept_free ms in
        let e = judged (number_used Fields) ms in
        let f = reserved_diags Fields text ms items in
        let g = label_diags (flat_map later_labels items) in
        either (λ c. either (λ c. either (λ c. either (outs-said Fields items members body)
        (λ c. let h = kept_free-has text members d c in number_kept_free (of_member body h.there) h.above h.below h.is)
        (Contains-append_cases a b d c))
        (λ c. let h = twice-has Fields text members d c in number_used_twice body h.order h.in_range h.same h.is)
        (Contains-append_cases (a ++ b) e d c))
        (reserved-said Fields items members body)
        (Contains-append_cases (a ++ b ++ e) f d c))
        (later_labels-said items (λ k f one label at is_field order. label_of_message stands is at is_field order))
        (Contains-append_cases (a ++ b ++ e ++ f) g d c)

    extend-said : (n : Node) (span : Span) (target : TypeName) (items : List Node) → HasStatement tree.nodes n → out-Node n ≡ Node-F.Extend span target items → Contains (extend_with (known Fields text (plain_fields items)) items) d → Said
    extend-said n span target items stands is c =
        let members = plain_fields items in
        let ms = known Fields text members in
        let a = filter_map (member_out_of_range Fields) ms in
        let b = filter_map kept_free ms in
        let g = label_diags (flat_map later_labels items) in
        either (λ c. either (λ c. let h = out-has Fields text members d c in number_out_of_range (inl (of_extension stands is h.there)) h.out h.is)
        (λ c. let h = kept_free-has text members d c in number_kept_free (of_extension stands is h.there) h.above h.below h.is)
        (Contains-append_cases a b d c))
        (later_labels-said items (λ k f one label at is_field order. label_of_extend stands is at is_field order))
        (Contains-append_cases (a ++ b) g d c)

    first-said : (n : Node) (span name : Span) (items : List Node) (members : List Numbered) → HasStatement tree.nodes n → out-Node n ≡ Node-F.EnumDef span name items → enum_values items ≡ members → IsFirst text name d members → Said
    first-said n span name items [] stands is are (has_none there) = no_value stands is are there
    first-said n span name items (v ∷ more) stands is are (not_zero other there) = first_not_zero stands is are other there

    alias-said : (items : List Node) (members : List Numbered) (b : Bool) → allows_alias text items ≡ b → IsBody tree.nodes Values items members → Contains (alias_diags b (known Values text members)) d → Said
    alias-said items members true is body c = absurd (none_in d c)
    alias-said items members false is body c =
        let h = twice-has Values text members d c in
        enum_number_used_twice body (λ may. let yes = in_alias text items may in absurd (cc (yes, is))) h.order h.in_range h.same h.is

    enum-said : (n : Node) (span name : Span) (items : List Node) → HasStatement tree.nodes n → out-Node n ≡ Node-F.EnumDef span name items → Contains (enum_with name (known Values text (enum_values items)) items) d → Said
    enum-said n span name items stands is c =
        let members = enum_values items in
        let body : IsBody tree.nodes Values items members = of_enum stands is in
        let ms = known Values text members in
        let a = first_diags name ms in
        let b = filter_map (member_out_of_range Values) ms in
        let e = alias_diags (allows_alias text items) ms in
        let f = reserved_diags Values text ms items in
        either (λ c. either (λ c. either (λ c. first-said n span name items members stands is refl (first-has text name members d c))
        (outs-said Values items members body)
        (Contains-append_cases a b d c))
        (alias-said items members (allows_alias text items) refl body)
        (Contains-append_cases (a ++ b) e d c))
        (reserved-said Values items members body)
        (Contains-append_cases (a ++ b ++ e) f d c)

    oneof-said : (n : Node) (span name : Span) (items : List Node) → HasStatement tree.nodes n → out-Node n ≡ Node-F.Oneof span name items → Contains (label_diags (flat_map labels items)) d → Said
    oneof-said n span name items stands is c =
        let h = label-has (flat_map labels items) d c in
        let g = flat_map-has labels items h.0 h.1 in
        let f = of_field (out-Node g.whole) h.0 g.has in
        label_not_allowed (label_of_oneof stands is g.there f.1 f.2) h.2

    map-said : (n : Node) (f : MapField) → HasStatement tree.nodes n → out-Node n ≡ Node-F.MapField f → Contains (map_diags text f) d → Said
    map-said n f stands is c =
        either (λ c. let h = key-has text f d c in map_key stands is h.0 h.1)
        (λ c. let h = label-has f.labels d c in label_not_allowed (label_of_map stands is h.1) h.2)
        (Contains-append_cases (key_diags text f) (label_diags f.labels) d c)

    statement-said : (n : Node) (y : Node-F Node) → HasStatement tree.nodes n → out-Node n ≡ y → Contains (opened_diags text y) d → Said
    statement-said n (Node-F.Message span name items) stands is c = message-said n span name items stands is (subst (λ ms. Contains (message_with ms items) d) (fields-are text items) c)
    statement-said n (Node-F.EnumDef span name items) stands is c = enum-said n span name items stands is (subst (λ ms. Contains (enum_with name ms items) d) (values-are text items) c)
    statement-said n (Node-F.Extend span target items) stands is c = extend-said n span target items stands is (subst (λ ms. Contains (extend_with ms items) d) (plain_fields-are text items) c)
    statement-said n (Node-F.Oneof span name items) stands is c = oneof-said n span name items stands is c
    statement-said n (Node-F.MapField f) stands is c = map-said n f stands is c
    statement-said n _ stands is c = absurd (none_in d c)

    pub statements-said : Contains (flat_map (statement_diags text) (all_statements tree.nodes)) d → Said
    statements-said c =
        let h = flat_map-has (statement_diags text) (all_statements tree.nodes) d c in
        statement-said h.whole (out-Node h.whole) (statements-stand tree.nodes h.whole h.there) refl h.has

  -- ---- what is said is found

  abbrev pub found : List Diag
  found = flat_map (statement_diags text) (all_statements tree.nodes)

  module _ (d : Diag) where
    pub in_found : (n : Node) (y : Node-F Node) → HasStatement tree.nodes n → out-Node n ≡ y → Contains (opened_diags text y) d → Contains found d
    in_found n y stands is c = in_flat_map (statement_diags text) (all_statements tree.nodes) n d (in_statements stands) (subst (λ y. Contains (opened_diags text y) d) (sym is) c)

    in_message : {n : Node} {span name : Span} {items : List Node} → HasStatement tree.nodes n → out-Node n ≡ Node-F.Message span name items → Contains (message_with d (known Fields text (message_fields items)) items) d → Contains found d
    in_message {n} {span} {name} {items} stands is c = in_found n (Node-F.Message span name items) stands is (subst (λ ms. Contains (message_with d ms items) d) (sym (fields-are text items)) c)

    pub in_enum : {n : Node} {span name : Span} {items : List Node} → HasStatement tree.nodes n → out-Node n ≡ Node-F.EnumDef span name items → Contains (enum_with d name (known Values text (enum_values items)) items) d → Contains found d
    in_enum {n} {span} {name} {items} stands is c = in_found n (Node-F.EnumDef span name items) stands is (subst (λ ms. Contains (enum_with d name ms items) d) (sym (values-are text items)) c)

    in_extend : {n : Node} {span : Span} {target : TypeName} {items : List Node} → HasStatement tree.nodes n → out-Node n ≡ Node-F.Extend span target items → Contains (extend_with d (known Fields text (plain_fields items)) items) d → Contains found d
    in_extend {n} {span} {target} {items} stands is c = in_found n (Node-F.Extend span target items) stands is (subst (λ ms. Contains (extend_with d ms items) d) (sym (plain_fields-are text items)) c)

    -- the parts of a message's list
    module _ (items : List Node) (ms : List Member) where
      abbrev m_out : List Diag
      m_out = filter_map (member_out_of_range Fields) ms

      abbrev m_free : List Diag
      m_free = filter_map kept_free ms

      abbrev m_twice : List Diag
      m_twice = judged (number_used Fields) ms

      abbrev m_reserved : List Diag
      m_reserved = reserved_diags Fields text ms items

      abbrev m_labels : List Diag
      m_labels = label_diags (flat_map later_labels items)

      message_out : Contains m_out d → Contains (message_with d ms items) d
      message_out c =
          Contains-append_left (m_out ++ m_free ++ m_twice ++ m_reserved) m_labels d
          (Contains-append_left (m_out ++ m_free ++ m_twice) m_reserved d (Contains-append_left (m_out ++ m_free) m_twice d (Contains-append_left m_out m_free d c)))

      message_free : Contains m_free d → Contains (message_with d ms items) d
      message_free c =
          Contains-append_left (m_out ++ m_free ++ m_twice ++ m_reserved) m_labels d
          (Contains-append_left (m_out ++ m_free ++ m_twice) m_reserved d (Contains-append_left (m_out ++ m_free) m_twice d (Contains-append_right m_out m_free d c)))

      message_twice : Contains m_twice d → Contains (message_with d ms items) d
      message_twice c =
          Contains-append_left (m_out ++ m_free ++ m_twice ++ m_reserved) m_labels d
          (Contains-append_left (m_out ++ m_free ++ m_twice) m_reserved d (Contains-append_right (m_out ++ m_free) m_twice d c))

      message_reserved : Contains m_reserved d → Contains (message_with d ms items) d
      message_reserved c = Contains-append_left (m_out ++ m_free ++ m_twice ++ m_reserved) m_labels d (Contains-append_right (m_out ++ m_free ++ m_twice) m_reserved d c)

      message_labels : Contains m_labels d → Contains (message_with d ms items) d
      message_labels c = Contains-append_right (m_out ++ m_free ++ m_twice ++ m_reserved) m_labels d c

      extend_out : Contains m_out d → Contains (extend_with d ms items) d
      extend_out c = Contains-append_left (m_out ++ m_free) m_labels d (Contains-append_left m_out m_free d c)

      extend_free : Contains m_free d → Contains (extend_with d ms items) d
      extend_free c = Contains-append_left (m_out ++ m_free) m_labels d (Contains-append_right m_out m_free d c)

      extend_labels : Contains m_labels d → Contains (extend_with d ms items) d
      extend_labels c = Contains-append_right (m_out ++ m_free) m_labels d c

    -- the parts of an enum's list
    module _ (name : Span) (items : List Node) (ms : List Member) where
      abbrev e_first : List Diag
      e_first = first_diags name ms

      abbrev e_out : List Diag
      e_out = filter_map (member_out_of_range Values) ms

      abbrev e_twice : List Diag
      e_twice = alias_diags (allows_alias text items) ms

      abbrev e_reserved : List Diag
      e_reserved = reserved_diags Values text ms items

      pub enum_first : Contains e_first d → Contains (enum_with d name ms items) d
      enum_first c = Contains-append_left (e_first ++ e_out ++ e_twice) e_reserved d (Contains-append_left (e_first ++ e_out) e_twice d (Contains-append_left e_first e_out d c))

      enum_out : Contains e_out d → Contains (enum_with d name ms items) d
      enum_out c = Contains-append_left (e_first ++ e_out ++ e_twice) e_reserved d (Contains-append_left (e_first ++ e_out) e_twice d (Contains-append_right e_first e_out d c))

      enum_twice : Contains e_twice d → Contains (enum_with d name ms items) d
      enum_twice c = Contains-append_left (e_first ++ e_out ++ e_twice) e_reserved d (Contains-append_right (e_first ++ e_out) e_twice d c)

      enum_reserved : Contains e_reserved d → Contains (enum_with d name ms items) d
      enum_reserved c = Contains-append_right (e_first ++ e_out ++ e_twice) e_reserved d c

    -- the parts of what is reserved
    module _ (numbering : Numbering) (items : List Node) (members : List Numbered) where
      abbrev its : List Member
      its = known numbering text members

      abbrev r_bounds : List Diag
      r_bounds = bound_diags numbering text items

      abbrev r_intervals : List Diag
      r_intervals = interval_diags its (intervals numbering text items)

      abbrev r_names : List Diag
      r_names = name_diags text its (names text items)

      in_bounds : Contains r_bounds d → Contains (reserved_diags numbering text its items) d
      in_bounds c = Contains-append_left (r_bounds ++ r_intervals) r_names d (Contains-append_left r_bounds r_intervals d c)

      in_intervals : Contains (interval_diags its (filter_map (interval numbering text) (reserved_ranges items))) d → Contains (reserved_diags numbering text its items) d
      in_intervals c =
          Contains-append_left (r_bounds ++ r_intervals) r_names d
          (Contains-append_right r_bounds r_intervals d (subst (λ rs. Contains (interval_diags its (filter_map (interval numbering text) rs)) d) (sym (ranges-are items)) c))

      pub in_names : Contains (name_diags text its (map (reserved_name text) (reserved_names items))) d → Contains (reserved_diags numbering text its items) d
      in_names c = Contains-append_right (r_bounds ++ r_intervals) r_names d (subst (λ l. Contains (name_diags text its l) d) (sym (names-are text items)) c)

      abbrev i_reserved : List Diag
      i_reserved = filter_map (number_reserved (good numbering text (reserved_ranges items))) its

      abbrev i_backwards : List Diag
      i_backwards = filter_map backwards (filter_map (interval numbering text) (reserved_ranges items))

      abbrev i_twice : List Diag
      i_twice = judged range_twice (good numbering text (reserved_ranges items))

      pub interval_reserved : Contains i_reserved d → Contains (reserved_diags numbering text its items) d
      interval_reserved c = in_intervals (Contains-append_left (i_reserved ++ i_backwards) i_twice d (Contains-append_left i_reserved i_backwards d c))

      pub interval_backwards : Contains i_backwards d → Contains (reserved_diags numbering text its items) d
      interval_backwards c = in_intervals (Contains-append_left (i_reserved ++ i_backwards) i_twice d (Contains-append_right i_reserved i_backwards d c))

      pub interval_twice : Contains i_twice d → Contains (reserved_diags numbering text its items) d
      interval_twice c = in_intervals (Contains-append_right (i_reserved ++ i_backwards) i_twice d c)

    -- ---- each of them

    pub body_reserved : {numbering : Numbering} {items : List Node} {members : List Numbered} → IsBody tree.nodes numbering items members → Contains (reserved_diags numbering text (known numbering text members) items) d → Contains found d
    body_reserved (of_message {n} {span} {name} {items} stands is) c = in_message stands is (message_reserved items (known Fields text (message_fields items)) c)
    body_reserved (of_enum {n} {span} {name} {items} stands is) c = in_enum stands is (enum_reserved name items (known Values text (enum_values items)) c)

    body_out : {numbering : Numbering} {items : List Node} {members : List Numbered} → IsBody tree.nodes numbering items members → Contains (filter_map (member_out_of_range numbering) (known numbering text members)) d → Contains found d
    body_out (of_message {n} {span} {name} {items} stands is) c = in_message stands is (message_out items (known Fields text (message_fields items)) c)
    body_out (of_enum {n} {span} {name} {items} stands is) c = in_enum stands is (enum_out name items (known Values text (enum_values items)) c)

    pub number_out : {numbering : Numbering} {n : Number} → IsNumber tree.nodes numbering n → ¬ IsInRange numbering (number_in text n) → d ≡ diag (out_of_range numbering) n.span → Contains found d
    number_out (of_member {numbering} {items} {members} {m = one} body there) out is = body_out body (in_out numbering text members one d there out is)
    number_out (of_extension {n} {span} {target} {items} {m = one} stands eq there) out is =
        in_extend stands eq (extend_out items (known Fields text (plain_fields items)) (in_out Fields text (plain_fields items) one d there out is))

    range_bound : {numbering : Numbering} {items : List Node} {members : List Numbered} → IsBody tree.nodes numbering items members → (r : ReservedRange) (n : Number) → Contains (reserved_ranges items) r → Contains (bounds r) n → ¬ IsInRange numbering (number_in text n)
        → d ≡ diag (out_of_range numbering) n.span → Contains found d
    range_bound {numbering} {items} {members} body r n there has out is =
        body_reserved body (in_bounds numbering items members
        (in_bound numbering text (flat_map bounds (ranges items)) n d (in_flat_map bounds (ranges items) r n (subst (λ l. Contains l r) (sym (ranges-are items)) there) has) out is))

    pub bound_out : {numbering : Numbering} {n : Number} → IsBound tree.nodes numbering n → ¬ IsInRange numbering (number_in text n) → d ≡ diag (out_of_range numbering) n.span → Contains found d
    bound_out (of_low {numbering} {items} {members} {r} body there) out is = range_bound body r r.low there (low-in r.low r.high) out is
    bound_out (of_high {numbering} {items} {members} {r} {n} body there high) out is = range_bound body r n there (high-in r n high) out is

    pub number_free : {n : Number} → IsNumber tree.nodes Fields n → pos 19000 ≤ℤ number_in text n → number_in text n ≤ℤ pos 19999 → d ≡ diag m.NumberKeptFree n.span → Contains found d
    number_free (of_member {items} {members} {m = one} body there) above below is = by body there
      where
        by : {items : List Node} {members : List Numbered} → IsBody tree.nodes Fields items members → Contains members one → Contains found d
        by (of_message {n} {span} {name} {items} stands eq) there = in_message stands eq (message_free items (known Fields text (message_fields items)) (in_kept_free text (message_fields items) one d there above below is))
    number_free (of_extension {n} {span} {target} {items} {m = one} stands eq there) above below is =
        in_extend stands eq (extend_free items (known Fields text (plain_fields items)) (in_kept_free text (plain_fields items) one d there above below is))

    pub field_twice : {items : List Node} {fields : List Numbered} → (e f : Numbered) → IsBody tree.nodes Fields items fields → Precedes fields e f → IsInRange Fields (number_in text f.number) → number_in text e.number ≡ number_in text f.number
        → d ≡ diag m.NumberUsedTwice f.number.span → Contains found d
    field_twice e f (of_message {n} {span} {name} {items} stands eq) order within same is =
        in_message stands eq (message_twice items (known Fields text (message_fields items)) (in_twice Fields text (message_fields items) e f d order within same is))

    pub enum_value_twice : {items : List Node} {values : List Numbered} → (e f : Numbered) → IsBody tree.nodes Values items values → ¬ AllowsAlias text items → Precedes values e f → IsInRange Values (number_in text f.number) → number_in text e.number ≡ number_in text f.number
        → d ≡ diag m.EnumNumberUsedTwice f.number.span → Contains found d
    enum_value_twice e f (of_enum {n} {span} {name} {items} stands eq) never order within same is =
        in_enum stands eq (enum_twice name items (known Values text (enum_values items)) (by (allows_alias text items) refl))
      where
        by : (b : Bool) → allows_alias text items ≡ b → Contains (alias_diags b (known Values text (enum_values items))) d
        by true may = absurd (never (alias-has text items may))
        by false may = in_twice Values text (enum_values items) e f d order within same is

    pub label_found : {label : Span} → IsLabelTooMany tree.nodes label → d ≡ diag m.LabelNotAllowed label → Contains found d
    label_found (label_of_message {n} {k} {span} {name} {label} {one} {items} {f} stands eq there is_field order) is =
        in_message stands eq (message_labels items (known Fields text (message_fields items)) (in_label (flat_map later_labels items) label d (in_later_labels items k f one label there is_field order) is))
    label_found (label_of_extend {n} {k} {span} {label} {one} {target} {items} {f} stands eq there is_field order) is =
        in_extend stands eq (extend_labels items (known Fields text (plain_fields items)) (in_label (flat_map later_labels items) label d (in_later_labels items k f one label there is_field order) is))
    label_found (label_of_oneof {n} {k} {span} {name} {label} {items} {f} stands eq there is_field c) is =
        in_found n (Node-F.Oneof span name items) stands eq (in_label (flat_map labels items) label d (in_labels items k f label there is_field c) is)
    label_found (label_of_map {n} {label} {f} stands eq c) is =
        in_found n (Node-F.MapField f) stands eq (Contains-append_right (key_diags text f) (label_diags f.labels) d (in_label f.labels label d c is))

    pub name_twice_at : (numbering : Numbering) (items : List Node) (members : List Numbered) → Contains (judged name_twice (map (reserved_name text) (reserved_names items))) d → Contains (reserved_diags numbering text (known numbering text members) items) d
    name_twice_at numbering items members c =
        let reserved = map (reserved_name text) (reserved_names items) in
        in_names numbering items members (Contains-append_left (judged name_twice reserved) (filter_map (name_reserved text reserved) (known numbering text members)) d c)

    pub name_reserved_at : (numbering : Numbering) (items : List Node) (members : List Numbered) → Contains (filter_map (name_reserved text (map (reserved_name text) (reserved_names items))) (known numbering text members)) d
        → Contains (reserved_diags numbering text (known numbering text members) items) d
    name_reserved_at numbering items members c =
        let reserved = map (reserved_name text) (reserved_names items) in
        in_names numbering items members (Contains-append_right (judged name_twice reserved) (filter_map (name_reserved text reserved) (known numbering text members)) d c)

    pub first_found : {n : Node} {span name : Span} {items : List Node} → HasStatement tree.nodes n → out-Node n ≡ Node-F.EnumDef span name items → IsFirst text name d (enum_values items) → Contains found d
    first_found {n} {span} {name} {items} stands is first = in_enum stands is (enum_first name items (known Values text (enum_values items)) (in_first text name (enum_values items) d first))

    pub key_found : {n : Node} {f : MapField} → HasStatement tree.nodes n → out-Node n ≡ Node-F.MapField f → ¬ Contains map_key_types (text_at text f.key.span) → d ≡ diag m.MapKey f.key.span → Contains found d
    key_found {n} {f} stands eq none is = in_found n (Node-F.MapField f) stands eq (Contains-append_left (key_diags text f) (label_diags f.labels) d (in_key text f d none is))
