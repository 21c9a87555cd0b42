-- The places of a declaration, file by file.
use Rattle.std.proofs.Common.{◌≡◌, ◌⊎◌, ◌∙◌, inl, inr, ℕ, ◌+◌, ◌<◌, ◌≤◌, Bool, true, false, cond, List, [], ◌∷◌, length, get_or, map, Option, Some, None, refl, sym, ap, subst, arith, zero-add}
use Rattle.std.specs.Prelude.{All, Contains, ◌==◌, filter, nat_lt, not, option_map, slice_get}
use Rattle.std.specs.List.{AllPairs, enumerate_from, flat_map}
use Rattle.std.specs.Option.{option_map_or}
use Rattle.std.proofs.lemmas.Bool.{cases_lt, eqb-true, ltb-false, ltb-true, not-true}
use Rattle.std.proofs.lemmas.List.{get_or-map, length-map}
use Rattle.std.proofs.lemmas.List.Elements.{All-nil, All-cons, All-append, All-contains_itself, All-filter, All-map, filter_passes}
use Rattle.std.proofs.lemmas.List.FromFn.{get_or-enumerate_from, length-enumerate_from}
use Rattle.std.proofs.lemmas.List.Kept.{AllPairs-cons, AllPairs-filter, AllPairs-from_increasing}
use Rattle.std.proofs.lemmas.Option.{get_or_from_slice_get, slice_get-get_or, slice_get-map, slice_get_past, slice_get_within}
use Rattle.proto_tree.specs.declared.node.Node.{Node}
use Rattle.proto_tree.specs.declared.node.Span.{Span}
use Rattle.proto_tree.specs.Names.{names_in, type_components_in}
use Rattle.proto_tree.specs.Identifiers.{IsIdentifierAt, NamesAreIdentifiers}
use Rattle.proto_tree.specs.Read.{empty_tree, read, value_tree}
use Rattle.proto_decls.specs.declared.fact.Decl.{Decl}
use Rattle.proto_decls.specs.declared.fact.FileFacts.{FileFacts}
use Rattle.proto_laws.proofs.IdentifierLaws.{OthersAreIdentifiers}
use Rattle.import_graph.specs.Closures.{view_of}
use Rattle.import_graph.specs.Imports.{graph_of}
use Rattle.proto_names.specs.declared.decl_ref.DeclRef.{DeclRef}
use Rattle.proto_resolve.specs.declared.uses.NameUse.{NameUse}
use Rattle.proto_names.specs.Files.{facts_at, no_facts}
use Rattle.proto_resolve.specs.Sites.{names_of_file}
use Rattle.proto_resolve.specs.Uses.{uses}
use Rattle.work_index.specs.Workspace.{Source, Workspace, all_facts, analysis, named_facts, no_file, resolution_of, source_facts}
use Rattle.proto_laws.specs.OrderLaws.{UsesAscend}
use Rattle.lsp_queries.specs.Answers.{is_of, own_place, sites_in, sites_of, uses_of, with_own, with_own_in}
use Rattle.lsp_queries.specs.Files.{decl_of, decls_in, place, place_of, uses_in}
use Rattle.lsp_queries.specs.declared.place.Place.{Place}
use Rattle.lsp_queries.specs.PlaceLaws.{IsBefore, PlacesAreApart, PlacesAscend, PlacesLieInTheTexts, places_of, source_in, text_in}
use Rattle.lsp_queries.proofs.NamedTree.{named-identifiers, named_tree}
use Rattle.lsp_queries.proofs.Names.{AreDisjoint, IsSome, StandApart, components-apart}
use Rattle.lsp_queries.proofs.Pairs.{pairs-append, pairs-from_map, pairs-map, pairs-nil, pairs-with}
use Rattle.lsp_queries.proofs.Spans.{of_decls, source_uses}

abbrev pub span_of : Place → Span
span_of p = record { start = p.start; «end» = p.«end» }

-- in a file before it, or in the same file with a byte at least between the two
abbrev pub IsAhead : Place → Place → Type 0
IsAhead p q = (p.file < q.file) ⊎ ((p.file ≡ q.file) × (p.«end» < q.start))

-- ---- one's own place among others

module _ (own : Place) (some : own.start < own.«end») where
  abbrev Beside : Place → Type 0
  Beside p = (p.file ≡ own.file) × (p.start < p.«end») × AreDisjoint (span_of own) (span_of p)

  ahead : (p : Place) → Beside p → p.start < own.start → IsAhead p own
  ahead p h lt = by h.2
    where
      by : AreDisjoint (span_of own) (span_of p) → IsAhead p own
      by (inl there) = absurd (omega (arith, there, lt))
      by (inr there) = inr (h.0, there)

  behind : (p : Place) → Beside p → own.start ≤ p.start → IsAhead own p
  behind p h le = by h.2
    where
      by : AreDisjoint (span_of own) (span_of p) → IsAhead own p
      by (inl there) = inr (sym h.0, there)
      by (inr there) = absurd (omega (arith, there, le, h.1))

  through : (p q : Place) → IsAhead p own → IsAhead own q → IsAhead p q
  through p q (inl lt) (inl more) = inl (omega arith)
  through p q (inl lt) (inr more) = inl (omega (arith, more))
  through p q (inr first) (inl more) = inl (omega (arith, first))
  through p q (inr first) (inr more) = inr (first.0 ∙ more.0, omega (arith, first, more))

  with_own-ahead : (places : List Place) → All Beside places → AllPairs IsAhead places → AllPairs IsAhead (with_own own places)
  with_own-ahead places beside pairs =
      let is_first : Place → Bool = λ p. nat_lt p.start own.start in
      let is_later : Place → Bool = λ p. not (nat_lt p.start own.start) in
      let front = filter is_first places in
      let back = filter is_later places in
      let before : All (λ p. IsAhead p own) front =
      λ k d lt. ahead (get_or front k d) (All-filter is_first Beside places beside k d lt)
      (ltb-true (get_or front k d).start own.start (filter_passes is_first places k d lt)) in
      let after : All (IsAhead own) back =
      λ k d lt. behind (get_or back k d) (All-filter is_later Beside places beside k d lt)
      (ltb-false (get_or back k d).start own.start (not-true (nat_lt (get_or back k d).start own.start) (filter_passes is_later places k d lt))) in
      pairs-append IsAhead front (own ∷ back) (AllPairs-filter IsAhead is_first places pairs)
      (AllPairs-cons IsAhead own back after (AllPairs-filter IsAhead is_later places pairs))
      (λ k d lt. All-cons (IsAhead (get_or front k d)) own back (before k d lt) (λ m e within. through (get_or front k d) (get_or back m e) (before k d lt) (after m e within)))

with_own-all : (P : Place → Type 0) (own : Place) (places : List Place) → P own → All P places → All P (with_own own places)
with_own-all P own places first all =
    All-append P (filter (λ p. nat_lt p.start own.start) places) (own ∷ filter (λ p. not (nat_lt p.start own.start)) places)
    (All-filter (λ p. nat_lt p.start own.start) P places all)
    (All-cons P own (filter (λ p. not (nat_lt p.start own.start)) places) first (All-filter (λ p. not (nat_lt p.start own.start)) P places all))

-- ---- file by file

module _ (each : ℕ → List Place) where
  abbrev joined_from : ℕ → List (List ℕ) → List Place
  joined_from n paths = flat_map (λ e. each e.0) (enumerate_from n paths)

  joined-all : (P : Place → Type 0) (limit n : ℕ) (paths : List (List ℕ)) → n + length paths ≤ limit → ((i : ℕ) → n ≤ i → i < limit → All P (each i)) → All P (joined_from n paths)
  joined-all P limit n [] within all = All-nil P
  joined-all P limit n (path ∷ more) within all =
      All-append P (each n) (joined_from (n + 1) more) (all n (omega arith) (omega arith)) (joined-all P limit (n + 1) more (omega arith) (λ i le lt. all i (omega arith) lt))

  joined-ahead : (limit n : ℕ) (paths : List (List ℕ)) → n + length paths ≤ limit
      → ((i : ℕ) → i < limit → All (λ p. p.file ≡ i) (each i)) → ((i : ℕ) → i < limit → AllPairs IsAhead (each i)) → AllPairs IsAhead (joined_from n paths)
  joined-ahead limit n [] within own pairs = pairs-nil IsAhead
  joined-ahead limit n (path ∷ more) within own pairs =
      let later : All (λ p. n < p.file) (joined_from (n + 1) more) =
      joined-all (λ p. n < p.file) limit (n + 1) more (omega arith) (λ i le lt k d there. let is = own i lt k d there in omega (arith, is, le)) in
      pairs-append IsAhead (each n) (joined_from (n + 1) more) (pairs n (omega arith)) (joined-ahead limit (n + 1) more (omega arith) own pairs)
      (λ k d lt m e there. let is = own n (omega arith) k d lt in let after = later m e there in inl (omega (arith, is, after)))

-- ---- what the analysis of a workspace has of a file

module _ (w : Workspace) where
  abbrev names_with : ℕ → FileFacts → List NameUse
  names_with i facts = uses (all_facts w) i (view_of (graph_of (all_facts w)) i) (names_of_file (text_in w i) facts (value_tree (text_in w i)).nodes)

  abbrev pub uses_of_file : ℕ → List NameUse
  uses_of_file i = names_with i (source_facts (source_in w i))

  pub own-uses : (i : ℕ) → i < length w → names_with i (facts_at (all_facts w) i) ≡ uses_of_file i
  own-uses i lt =
      let files = all_facts w in
      ap (names_with i)
      (get_or-map (λ file. file.facts) files i (named_facts no_file) no_facts (omega (arith, lt, length-map w named_facts))
      ∙ ap (λ file. file.facts) (get_or-map named_facts w i no_file (named_facts no_file) lt))

  uses-are : (i : ℕ) → i < length w → uses_in (analysis w) i ≡ uses_of_file i
  uses-are i lt =
      let numbered : i < length (enumerate_from 0 w) = omega (arith, length-enumerate_from 0 w) in
      ap (λ o. option_map_or (λ links. links.uses) o [])
      (slice_get-map (resolution_of w) (enumerate_from 0 w) i
      ∙ ap (option_map (resolution_of w)) (slice_get-get_or (enumerate_from 0 w) i (0, no_file) numbered
      ∙ ap (λ e. Some e) (get_or-enumerate_from 0 w i (0, no_file) lt ∙ ap (λ n. (n, get_or w i no_file)) (zero-add i))))
      ∙ own-uses i lt

  decls-are : (i : ℕ) → i < length w → decls_in (analysis w) i ≡ (source_facts (source_in w i)).decls
  decls-are i lt =
      ap (λ o. option_map_or (λ facts. facts.decls) o [])
      (slice_get-map (λ file. source_facts file.1) w i ∙ ap (option_map (λ file. source_facts file.1)) (slice_get-get_or w i no_file lt))

  no-decls : (i : ℕ) → length w ≤ i → decls_in (analysis w) i ≡ []
  no-decls i le =
      ap (λ o. option_map_or (λ facts. facts.decls) o []) (slice_get_past (map (λ file. source_facts file.1) w) i (omega (arith, le, length-map w (λ file. source_facts file.1))))

  -- ---- the own place

  module _ (P : ℕ → Span → Type 0) (decls-have : (i : ℕ) → i < length w → All (λ d. P i d.name_span) (source_facts (source_in w i)).decls) where
    -- what holds of the names of declarations holds of it
    abbrev HoldsOfOwn : Option Place → Type 0
    HoldsOfOwn None = Unit {0}
    HoldsOfOwn (Some own) = (own.file < length w) × P own.file (span_of own)

    decl-holds : (r : DeclRef) (d : Decl) → decl_of (analysis w) r ≡ Some d → (r.file < length w) × P r.file d.name_span
    decl-holds r d is = by (cases_lt r.file (length w))
      where
        by : (r.file < length w) ⊎ (length w ≤ r.file) → (r.file < length w) × P r.file d.name_span
        by (inl lt) =
            let decls = (source_facts (source_in w r.file)).decls in
            let found : slice_get decls r.number ≡ Some d = ap (λ ds. slice_get ds r.number) (sym (decls-are r.file lt)) ∙ is in
            (lt, subst (λ d. P r.file d.name_span) (get_or_from_slice_get decls r.number d d found) (decls-have r.file lt r.number d (slice_get_within decls r.number d found)))
        by (inr past) = let none : None ≡ Some d = ap (λ ds. slice_get ds r.number) (sym (no-decls r.file past)) ∙ is in absurd (cc (none))

    place-holds : (r : DeclRef) → HoldsOfOwn (place_of (analysis w) r)
    place-holds r = by (decl_of (analysis w) r) refl
      where
        by : (o : Option Decl) → decl_of (analysis w) r ≡ o → HoldsOfOwn (option_map (λ d. place r.file d.name_span) o)
        by None is = tt
        by (Some d) is = decl-holds r d is

    pub own-holds : (r : DeclRef) (include_declaration : Bool) → HoldsOfOwn (own_place (analysis w) r include_declaration)
    own-holds r true = place-holds r
    own-holds r false = tt

  -- ---- the uses

  module _ (P : ℕ → Span → Type 0) (uses-have : (i : ℕ) → i < length w → All (λ u. P i u.span) (uses_of_file i)) where
    uses-hold : (r : DeclRef) (i : ℕ) → i < length w → All (λ p. (p.file ≡ i) × P p.file (span_of p)) (uses_of (analysis w) r i)
    uses-hold r i lt =
        let us = uses_in (analysis w) i in
        let all : All (λ u. P i u.span) us = subst (All (λ u. P i u.span)) (sym (uses-are i lt)) (uses-have i lt) in
        All-map (λ p. (p.file ≡ i) × P p.file (span_of p)) (λ u. place i u.span) (filter (λ u. is_of r u.target) us)
        (λ k d there. (refl, All-filter (λ u. is_of r u.target) (λ u. P i u.span) us all k d there))

  -- ---- both

  module _ (P : ℕ → Span → Type 0) (names-have : (i : ℕ) → i < length w → All (P i) (names_in (named_tree (source_in w i)).nodes)) (types-have : (i : ℕ) → i < length w → All (P i) (type_components_in (named_tree (source_in w i)).nodes)) where
    abbrev Placed : Place → Type 0
    Placed p = (p.file < length w) × P p.file (span_of p)

    decls-have : (i : ℕ) → i < length w → All (λ d. P i d.name_span) (source_facts (source_in w i)).decls
    decls-have i lt = of_decls (P i) (source_in w i) (names-have i lt)

    uses-have : (i : ℕ) → i < length w → All (λ u. P i u.span) (uses_of_file i)
    uses-have i lt = source_uses (P i) (source_in w i) (all_facts w) i (view_of (graph_of (all_facts w)) i) (types-have i lt)

    sites_in-hold : (r : DeclRef) (o : Option Place) → HoldsOfOwn P decls-have o → (i : ℕ) → i < length w → All Placed (sites_in (analysis w) r o i)
    sites_in-hold r o own i lt = by o own
      where
        used : All Placed (uses_of (analysis w) r i)
        used k d there =
            let h = uses-hold P uses-have r i lt k d there in
            (subst (λ n. n < length w) (sym h.0) lt, h.1)

        by : (o : Option Place) → HoldsOfOwn P decls-have o → All Placed (with_own_in o i (uses_of (analysis w) r i))
        by None own = used
        by (Some o) own = here (o.file == i)
          where
            here : (b : Bool) → All Placed (cond {A = List Place} b (with_own o (uses_of (analysis w) r i)) (uses_of (analysis w) r i))
            here true = with_own-all Placed o (uses_of (analysis w) r i) own used
            here false = used

    -- what holds of the names of the trees holds of the places
    pub sites-hold : (r : DeclRef) (include_declaration : Bool) → All Placed (sites_of (analysis w) r (own_place (analysis w) r include_declaration))
    sites-hold r include_declaration =
        let o = own_place (analysis w) r include_declaration in
        joined-all (sites_in (analysis w) r o) Placed (length w) 0 (map (λ file. file.0) w) (omega (arith, length-map w (λ file. file.0)))
        (λ i le lt. sites_in-hold r o (own-holds P decls-have r include_declaration) i lt)

  -- ---- in order

  module _ (ascend : UsesAscend) (apart : (s : Source) → StandApart (named_tree s).nodes) where
    abbrev nodes_at : ℕ → List Node
    nodes_at i = (named_tree (source_in w i)).nodes

    -- of two uses the first ends before the second starts
    pub uses-end : (i : ℕ) → i < length w → AllPairs (λ u v. u.span.«end» < v.span.start) (uses_of_file i)
    uses-end i lt =
        let us = uses_of_file i in
        let types = type_components_in (nodes_at i) in
        let h = apart (source_in w i) in
        let view = view_of (graph_of (all_facts w)) i in
        let starts = pairs-from_map (λ m n. m < n) (λ u. u.span.start) us (AllPairs-from_increasing (map (λ u. u.span.start) us) (ascend (all_facts w) i view (text_in w i) (source_facts (source_in w i)))) in
        let known = source_uses (λ s. Contains types s × IsSome s) (source_in w i) (all_facts w) i view (λ k d there. (All-contains_itself types k d there, h.types k d there)) in
        pairs-with (λ u v. u.span.start < v.span.start) (λ u v. u.span.«end» < v.span.start) (λ u. Contains types u.span × IsSome u.span) (λ u v p q lt. components-apart (nodes_at i) h u.span v.span p.0 q.0 q.1 lt) us known starts

    uses-ahead : (r : DeclRef) (i : ℕ) → i < length w → AllPairs IsAhead (uses_of (analysis w) r i)
    uses-ahead r i lt =
        let all : AllPairs (λ u v. u.span.«end» < v.span.start) (uses_in (analysis w) i) = subst (AllPairs (λ u v. u.span.«end» < v.span.start)) (sym (uses-are i lt)) (uses-end i lt) in
        let kept = AllPairs-filter (λ u v. u.span.«end» < v.span.start) (λ u. is_of r u.target) (uses_in (analysis w) i) all in
        pairs-map IsAhead (λ u. place i u.span) (filter (λ u. is_of r u.target) (uses_in (analysis w) i)) (λ k m d lt there. inr (refl, kept k m d lt there))

    -- a name of a file, with a byte or more, apart from each component of the file's types
    abbrev IsName : ℕ → Span → Type 0
    IsName i s = IsSome s × All (AreDisjoint s) (type_components_in (nodes_at i))

    are-names : (i : ℕ) → i < length w → All (λ d. IsName i d.name_span) (source_facts (source_in w i)).decls
    are-names i lt = let h = apart (source_in w i) in of_decls (IsName i) (source_in w i) (λ k d there. (h.names k d there, h.across k d there))

    uses-beside : (r : DeclRef) (own : Place) → own.file < length w → IsName own.file (span_of own) → (i : ℕ) → i < length w → i ≡ own.file
        → All (λ p. (p.file ≡ own.file) × (p.start < p.«end») × AreDisjoint (span_of own) (span_of p)) (uses_of (analysis w) r i)
    uses-beside r own within name i lt same =
        let P : ℕ → Span → Type 0 = λ j s. IsSome s × (j ≡ own.file → AreDisjoint (span_of own) s) in
        let known : (j : ℕ) → j < length w → All (λ u. P j u.span) (uses_of_file j) =
        λ j there. let h = apart (source_in w j) in
        source_uses (P j) (source_in w j) (all_facts w) j (view_of (graph_of (all_facts w)) j)
        (λ k d inside. (h.types k d inside, λ is. let all : All (AreDisjoint (span_of own)) (type_components_in (nodes_at j)) = subst (λ n. All (AreDisjoint (span_of own)) (type_components_in (nodes_at n))) (sym is) name.1 in all k d inside)) in
        λ k d there. let h = uses-hold P known r i lt k d there in (h.0 ∙ same, h.1.0, h.1.1 (h.0 ∙ same))

    sites_in-ahead : (r : DeclRef) (o : Option Place) → HoldsOfOwn IsName are-names o → (i : ℕ) → i < length w → AllPairs IsAhead (sites_in (analysis w) r o i)
    sites_in-ahead r o own i lt = by o own
      where
        by : (o : Option Place) → HoldsOfOwn IsName are-names o → AllPairs IsAhead (with_own_in o i (uses_of (analysis w) r i))
        by None own = uses-ahead r i lt
        by (Some o) own = here (o.file == i) refl
          where
            here : (b : Bool) → (o.file == i) ≡ b → AllPairs IsAhead (cond {A = List Place} b (with_own o (uses_of (analysis w) r i)) (uses_of (analysis w) r i))
            here true is = with_own-ahead o own.1.0 (uses_of (analysis w) r i) (uses-beside r o own.0 own.1 i lt (sym (eqb-true o.file i is))) (uses-ahead r i lt)
            here false is = uses-ahead r i lt

    in_file : (r : DeclRef) (include_declaration : Bool) (i : ℕ) → i < length w → All (λ p. p.file ≡ i) (sites_in (analysis w) r (own_place (analysis w) r include_declaration) i)
    in_file r include_declaration i lt = by (own_place (analysis w) r include_declaration)
      where
        used : All (λ p. p.file ≡ i) (uses_of (analysis w) r i)
        used = All-map (λ p. p.file ≡ i) (λ u. place i u.span) (filter (λ u. is_of r u.target) (uses_in (analysis w) i)) (λ k d there. refl)

        by : (o : Option Place) → All (λ p. p.file ≡ i) (with_own_in o i (uses_of (analysis w) r i))
        by None = used
        by (Some o) = here (o.file == i) refl
          where
            here : (b : Bool) → (o.file == i) ≡ b → All (λ p. p.file ≡ i) (cond {A = List Place} b (with_own o (uses_of (analysis w) r i)) (uses_of (analysis w) r i))
            here true is = with_own-all (λ p. p.file ≡ i) o (uses_of (analysis w) r i) (eqb-true o.file i is) used
            here false is = used

    pub sites-ahead : (r : DeclRef) (include_declaration : Bool) → AllPairs IsAhead (sites_of (analysis w) r (own_place (analysis w) r include_declaration))
    sites-ahead r include_declaration =
        let o = own_place (analysis w) r include_declaration in
        joined-ahead (sites_in (analysis w) r o) (length w) 0 (map (λ file. file.0) w) (omega (arith, length-map w (λ file. file.0)))
        (λ i lt. in_file r include_declaration i lt) (λ i lt. sites_in-ahead r o (own-holds IsName are-names r include_declaration) i lt)

    -- each place has a byte or more
    pub sites-some : (r : DeclRef) (include_declaration : Bool) → All (λ p. (p.file < length w) × IsSome (span_of p)) (sites_of (analysis w) r (own_place (analysis w) r include_declaration))
    sites-some r include_declaration = sites-hold (λ i s. IsSome s) (λ i lt. (apart (source_in w i)).names) (λ i lt. (apart (source_in w i)).types) r include_declaration

-- ---- the laws

pub places-ascend : UsesAscend → ((s : Source) → StandApart (named_tree s).nodes) → PlacesAscend
places-ascend ascend apart w r include_declaration =
    pairs-with IsAhead IsBefore (λ p. (p.file < length w) × IsSome (span_of p)) (λ p q here there ahead. before p q here.1 ahead) (places_of w r include_declaration) (sites-some w ascend apart r include_declaration)
    (sites-ahead w ascend apart r include_declaration)
  where
    before : (p q : Place) → p.start < p.«end» → IsAhead p q → IsBefore p q
    before p q some (inl lt) = inl lt
    before p q some (inr h) = inr (h.0, omega (arith, h))

pub places-apart : UsesAscend → ((s : Source) → StandApart (named_tree s).nodes) → PlacesAreApart
places-apart ascend apart w r include_declaration k m d lt there =
    let all = places_of w r include_declaration in
    by (get_or all k d) (get_or all m d) (sites-ahead w ascend apart r include_declaration k m d lt there)
  where
    by : (p q : Place) → IsAhead p q → p.file ≡ q.file → p.«end» < q.start
    by p q (inl lt) same = absurd (omega arith)
    by p q (inr h) same = h.1

-- ---- in the texts

-- an identifier stands at each place
pub places-identifiers : read [] ≡ empty_tree → NamesAreIdentifiers → OthersAreIdentifiers → (w : Workspace) (r : DeclRef) (include_declaration : Bool)
    → All (λ p. (p.file < length w) × IsIdentifierAt (text_in w p.file) (span_of p)) (places_of w r include_declaration)
places-identifiers empty identifiers others w r include_declaration =
    sites-hold w (λ i s. IsIdentifierAt (text_in w i) s) (λ i lt. (named-identifiers empty identifiers others (source_in w i)).names) (λ i lt. (named-identifiers empty identifiers others (source_in w i)).types) r include_declaration

pub places-within : read [] ≡ empty_tree → NamesAreIdentifiers → OthersAreIdentifiers → UsesAscend → ((s : Source) → StandApart (named_tree s).nodes) → PlacesLieInTheTexts
places-within empty identifiers others ascend apart w r include_declaration utf8 k d lt =
    let some = sites-some w ascend apart r include_declaration k d lt in
    let is = places-identifiers empty identifiers others w r include_declaration k d lt in
    let text_is = utf8 (get_or (places_of w r include_declaration) k d).file no_file some.0 in
    record { there = some.0; some = some.1; within = (is.1.cut text_is).1.0 }
