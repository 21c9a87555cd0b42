-- At most one name of a file stands at an offset, and the symbol there is what it stands for.
use Rattle.std.proofs.Common.{◌≡◌, ◌⊎◌, ◌∙◌, inl, inr, ℕ, ◌<◌, Bool, true, false, cond, List, length, get_or, Option, Some, None, refl, sym, ap, subst, arith, le-leb}
use Rattle.std.specs.Prelude.{All, Contains, MatchOption, find, nat_le, option_map, position, ⊤}
use Rattle.std.specs.List.{AllPairs, list_any, slice_get}
use Rattle.std.specs.Option.{option_or}
use Rattle.std.proofs.lemmas.Bool.{and_from, and_parts, cases_eq, leb-true}
use Rattle.std.proofs.lemmas.List.Elements.{All-contains, All-contains_itself}
use Rattle.std.proofs.lemmas.Option.{get_or_from_slice_get, slice_get-get_or, slice_get_within}
use Rattle.proto_tree.specs.declared.node.Node.{Node}
use Rattle.proto_tree.specs.declared.node.Span.{Span}
use Rattle.proto_tree.specs.Names.{package_components_in, type_components_in}
use Rattle.proto_decls.specs.declared.fact.Decl.{Decl}
use Rattle.proto_decls.specs.declared.fact.PackageFact.{PackageFact}
use Rattle.proto_laws.proofs.Holders.{inside}
use Rattle.proto_laws.proofs.Lists.{list_any-has, list_any-is}
use Rattle.import_graph.specs.Closures.{view_of}
use Rattle.import_graph.specs.Imports.{graph_of}
use Rattle.proto_resolve.specs.declared.target.Target.{Target}
use Rattle.proto_resolve.specs.declared.target.Target.TheVariants as target
use Rattle.proto_resolve.specs.declared.uses.NameUse.{NameUse}
use Rattle.work_index.specs.Workspace.{Source, Workspace, all_facts, analysis, source_facts}
use Rattle.proto_laws.specs.OrderLaws.{UsesAscend}
use Rattle.lsp_queries.specs.Files.{components_in, decls_in, uses_in}
use Rattle.lsp_queries.specs.Offsets.{holds, symbol_at, symbol_of}
use Rattle.lsp_queries.specs.declared.offsets.Symbol.{Symbol}
use Rattle.lsp_queries.specs.declared.offsets.Symbol.TheVariants.{Declared, Package}
use Rattle.lsp_queries.specs.PlaceLaws.{source_in}
use Rattle.lsp_queries.specs.Standing.{HasComponent, HasDecl, HasUse, Holds, IsNameSpan, OneNameHolds, StandsAt, SymbolsStandThere, declared, of_decl, of_package, of_use, own_package, used, used_package}
use Rattle.lsp_queries.proofs.NamedTree.{named_tree}
use Rattle.lsp_queries.proofs.Names.{AreDisjoint, StandApart}
use Rattle.lsp_queries.proofs.Pairs.{any_two, pairs-with}
use Rattle.lsp_queries.proofs.Places.{uses-end, uses_of_file}
use Rattle.lsp_queries.proofs.Read.{component-there, decl-there, facts-are, find-first, find-tells, has-component, has-decl, has-use, links-are, position-first, position-tells, use-there}
use Rattle.lsp_queries.proofs.Spans.{of_decls, of_package as package_has, pairs_of_decls, source_uses}

-- ---- an offset in a span

pub holds-tells : (offset : ℕ) (s : Span) → holds offset s ≡ true → Holds offset s
holds-tells offset s e = let h = and_parts (nat_le s.start offset) (nat_le offset s.«end») e in (leb-true s.start offset h.0, leb-true offset s.«end» h.1)

pub holds-is : (offset : ℕ) (s : Span) → Holds offset s → holds offset s ≡ true
holds-is offset s h = and_from (nat_le s.start offset) (nat_le offset s.«end») (le-leb s.start offset h.0) (le-leb offset s.«end» h.1)

clash : (offset : ℕ) (s t : Span) → AreDisjoint s t → Holds offset s → Holds offset t → ⊥
clash offset s t (inl lt) h g = omega (arith, lt, h, g)
clash offset s t (inr lt) h g = omega (arith, lt, h, g)

turned : (s t : Span) → AreDisjoint s t → AreDisjoint t s
turned s t (inl lt) = inr lt
turned s t (inr lt) = inl lt

-- of elements whose spans stand apart but one holds an offset
module _ {X : Type 0} (span : X → Span) (xs : List X) (apart : AllPairs (λ x y. AreDisjoint (span x) (span y)) xs) (offset : ℕ) where
  one_number : (i j : ℕ) (x y : X) → slice_get xs i ≡ Some x → slice_get xs j ≡ Some y → Holds offset (span x) → Holds offset (span y) → i ≡ j
  one_number i j x y p q h g = by (cases_eq i j)
    where
      by : (i ≡ j) ⊎ (i ≡ j → ⊥) → i ≡ j
      by (inl same) = same
      by (inr differ) =
          let two = any_two (λ x y. AreDisjoint (span x) (span y)) (λ x y. turned (span x) (span y)) xs apart i j x differ (slice_get_within xs i x p) (slice_get_within xs j y q) in
          absurd (clash offset (span x) (span y) (subst (λ z. AreDisjoint (span x) (span z)) (get_or_from_slice_get xs j y x q) (subst (λ z. AreDisjoint (span z) (span (get_or xs j x))) (get_or_from_slice_get xs i x x p) two)) h g)

  one_element : (x y : X) → Contains xs x → Contains xs y → Holds offset (span x) → Holds offset (span y) → x ≡ y
  one_element x y c d h g =
      let p : slice_get xs c.0 ≡ Some x = slice_get-get_or xs c.0 x c.1 ∙ ap (λ z. Some z) c.2 in
      let q : slice_get xs d.0 ≡ Some y = slice_get-get_or xs d.0 y d.1 ∙ ap (λ z. Some z) d.2 in
      inside x y (sym p ∙ ap (slice_get xs) (one_number c.0 d.0 x y p q h g) ∙ q)

-- ---- the names of a file

module _ (ascend : UsesAscend) (apart : (s : Source) → StandApart (named_tree s).nodes) (w : Workspace) where
  abbrev nodes_at : ℕ → List Node
  nodes_at i = (named_tree (source_in w i)).nodes

  module _ (i : ℕ) where
    abbrev decls : List Decl
    decls = (source_facts (source_in w i)).decls

    decls-apart : AllPairs (λ (d e : Decl). AreDisjoint d.name_span e.name_span) decls
    decls-apart = pairs_of_decls AreDisjoint (source_in w i) (apart (source_in w i)).names_among

    uses-apart : i < length w → AllPairs (λ (u v : NameUse). AreDisjoint u.span v.span) (uses_of_file w i)
    uses-apart lt = pairs-with (λ (u v : NameUse). u.span.«end» < v.span.start) (λ (u v : NameUse). AreDisjoint u.span v.span) (λ u. ⊤) (λ u v p q lt. inl lt) (uses_of_file w i) (λ k d lt. tt) (uses-end w ascend apart i lt)

    -- what holds of the components of types holds of uses
    all_uses : (P : Span → Type 0) → All P (type_components_in (nodes_at i)) → All (λ u. P u.span) (uses_of_file w i)
    all_uses P all = source_uses P (source_in w i) (all_facts w) i (view_of (graph_of (all_facts w)) i) all

    decl_number : (n : ℕ) (d : Decl) → HasDecl (analysis w) i n d → slice_get decls n ≡ Some d
    decl_number n d h = let is = facts-are w i h.0 h.1 in subst (λ facts. slice_get facts.decls n ≡ Some d) is.1 h.2

    decl_in : (n : ℕ) (d : Decl) → HasDecl (analysis w) i n d → Contains decls d
    decl_in n d h = let e = decl_number n d h in (n, slice_get_within decls n d e, get_or_from_slice_get decls n d d e)

    use_in : (u : NameUse) → HasUse (analysis w) i u → (i < length w) × Contains (uses_of_file w i) u
    use_in u h = let is = links-are w i h.0 h.1 in (is.0, subst (λ l. Contains l u) is.1 h.2)

    component_in : (s : Span) → HasComponent (analysis w) i s → Contains (package_components_in (nodes_at i)) s
    component_in s h =
        let is = facts-are w i h.0 h.2 in
        by (source_facts (source_in w i)).«package» (ap (λ facts. facts.«package») (sym is.1) ∙ h.3) (package_has (Contains (package_components_in (nodes_at i))) (source_in w i) (All-contains_itself (package_components_in (nodes_at i))))
      where
        by : (o : Option PackageFact) → o ≡ Some h.1 → MatchOption o ⊤ (λ p. All (Contains (package_components_in (nodes_at i))) p.components) → Contains (package_components_in (nodes_at i)) s
        by None e all = absurd (cc (e))
        by (Some p) e all = let same = inside p h.1 e in All-contains (Contains (package_components_in (nodes_at i))) p.components s all (subst (λ p. Contains p.components s) (sym same) h.4)

    -- ---- names of two kinds

    decl_use : (n : ℕ) (d : Decl) (u : NameUse) → HasDecl (analysis w) i n d → HasUse (analysis w) i u → AreDisjoint d.name_span u.span
    decl_use n d u h g =
        let types = All-contains (λ d. All (AreDisjoint d.name_span) (type_components_in (nodes_at i))) decls d (of_decls (λ s. All (AreDisjoint s) (type_components_in (nodes_at i))) (source_in w i) (apart (source_in w i)).across) (decl_in n d h) in
        All-contains (λ u. AreDisjoint d.name_span u.span) (uses_of_file w i) u (all_uses (AreDisjoint d.name_span) types) (use_in u g).1

    decl_component : (n : ℕ) (d : Decl) (s : Span) → HasDecl (analysis w) i n d → HasComponent (analysis w) i s → AreDisjoint d.name_span s
    decl_component n d s h g =
        let packages = All-contains (λ d. All (AreDisjoint d.name_span) (package_components_in (nodes_at i))) decls d (of_decls (λ s. All (AreDisjoint s) (package_components_in (nodes_at i))) (source_in w i) (apart (source_in w i)).names_beside) (decl_in n d h) in
        All-contains (AreDisjoint d.name_span) (package_components_in (nodes_at i)) s packages (component_in s g)

    use_component : (u : NameUse) (s : Span) → HasUse (analysis w) i u → HasComponent (analysis w) i s → AreDisjoint u.span s
    use_component u s h g =
        let packages = All-contains (λ u. All (AreDisjoint u.span) (package_components_in (nodes_at i))) (uses_of_file w i) u (all_uses (λ s. All (AreDisjoint s) (package_components_in (nodes_at i))) (apart (source_in w i)).types_beside) (use_in u h).1 in
        All-contains (AreDisjoint u.span) (package_components_in (nodes_at i)) s packages (component_in s g)

    -- ---- at most one

    module _ (offset : ℕ) where
      one_decl : (n k : ℕ) (d e : Decl) → HasDecl (analysis w) i n d → HasDecl (analysis w) i k e → Holds offset d.name_span → Holds offset e.name_span → n ≡ k
      one_decl n k d e h g p q = one_number (λ (d : Decl). d.name_span) decls decls-apart offset n k d e (decl_number n d h) (decl_number k e g) p q

      one_use : (u v : NameUse) → HasUse (analysis w) i u → HasUse (analysis w) i v → Holds offset u.span → Holds offset v.span → u ≡ v
      one_use u v h g p q = let a = use_in u h in let b = use_in v g in one_element (λ (u : NameUse). u.span) (uses_of_file w i) (uses-apart a.0) offset u v a.1 b.1 p q

      one_component : (s t : Span) → HasComponent (analysis w) i s → HasComponent (analysis w) i t → Holds offset s → Holds offset t → s ≡ t
      one_component s t h g p q = one_element (λ (s : Span). s) (package_components_in (nodes_at i)) (apart (source_in w i)).packages_among offset s t (component_in s h) (component_in t g) p q

      one-name : (s t : Span) → IsNameSpan (analysis w) i s → IsNameSpan (analysis w) i t → Holds offset s → Holds offset t → s ≡ t
      one-name s t (of_decl {number = n} {d} h) (of_decl {number = k} {d = e} g) p q =
          let same = one_decl n k d e h g p q in
          ap (λ (d : Decl). d.name_span) (inside d e (sym (decl_number n d h) ∙ ap (slice_get decls) same ∙ decl_number k e g))
      one-name s t (of_decl {number = n} {d} h) (of_use {u} g) p q = absurd (clash offset s t (decl_use n d u h g) p q)
      one-name s t (of_decl {number = n} {d} h) (of_package {s = c} g) p q = absurd (clash offset s t (decl_component n d c h g) p q)
      one-name s t (of_use {u} h) (of_decl {number = n} {d} g) p q = absurd (clash offset t s (decl_use n d u g h) q p)
      one-name s t (of_use {u} h) (of_use {u = v} g) p q = ap (λ (u : NameUse). u.span) (one_use u v h g p q)
      one-name s t (of_use {u} h) (of_package {s = c} g) p q = absurd (clash offset s t (use_component u c h g) p q)
      one-name s t (of_package {s = c} h) (of_decl {number = n} {d} g) p q = absurd (clash offset t s (decl_component n d c g h) q p)
      one-name s t (of_package {s = c} h) (of_use {u} g) p q = absurd (clash offset t s (use_component u c g h) q p)
      one-name s t (of_package {s = c} h) (of_package {s = b} g) p q = one_component c b h g p q

      -- ---- the symbol

      at_decl : Decl → Bool
      at_decl d = holds offset d.name_span

      at_use : NameUse → Bool
      at_use u = holds offset u.span

      -- by the number of a declared name there
      abbrev declared_by : Option ℕ → Option Symbol
      declared_by o = option_map (λ number. Declared (record { file = i; number = number })) o

      abbrev used_by : Option NameUse → Option Symbol
      used_by o = option_map (λ u. symbol_of u.target) o

      abbrev own_by : Bool → Option Symbol
      own_by b = cond {A = Option Symbol} b (Some Package) None

      abbrev number_there : Option ℕ
      number_there = position (λ d. holds offset d.name_span) (decls_in (analysis w) i)

      abbrev use_there : Option NameUse
      use_there = find (λ u. holds offset u.span) (uses_in (analysis w) i)

      abbrev own_there : Bool
      own_there = list_any (holds offset) (components_in (analysis w) i)

      declared-stands : (n : ℕ) (s : Symbol) → number_there ≡ Some n → Declared (record { file = i; number = n }) ≡ s → StandsAt (analysis w) i offset s
      declared-stands n s is e =
          let h = position-tells (λ d. holds offset d.name_span) (decls_in (analysis w) i) n is in
          subst (StandsAt (analysis w) i offset) e (declared (has-decl w i n h.0 h.1) (holds-tells offset h.0.name_span h.2))

      used-stands : (u : NameUse) (s : Symbol) → use_there ≡ Some u → symbol_of u.target ≡ s → StandsAt (analysis w) i offset s
      used-stands u s is e =
          let h = find-tells (λ u. holds offset u.span) (uses_in (analysis w) i) u is in
          subst (StandsAt (analysis w) i offset) e (by u.target refl (has-use w i u h.0) (holds-tells offset u.span h.1))
        where
          by : (t : Target) → u.target ≡ t → HasUse (analysis w) i u → Holds offset u.span → StandsAt (analysis w) i offset (symbol_of t)
          by (target.Declared r) is has at = used has at is
          by (target.Package name) is has at = used_package has at is

      own-stands : (s : Symbol) → own_there ≡ true → Package ≡ s → StandsAt (analysis w) i offset s
      own-stands s is e =
          let h = list_any-has (holds offset) (components_in (analysis w) i) is in
          subst (StandsAt (analysis w) i offset) e (own_package (has-component w i h.0 h.1) (holds-tells offset h.0 h.2))

      symbol-stands : (s : Symbol) (n : Option ℕ) (u : Option NameUse) (b : Bool) → number_there ≡ n → use_there ≡ u → own_there ≡ b → option_or (declared_by n) (option_or (used_by u) (own_by b)) ≡ Some s → StandsAt (analysis w) i offset s
      symbol-stands s (Some n) u b is here own e = declared-stands n s is (inside (Declared (record { file = i; number = n })) s e)
      symbol-stands s None (Some u) b is here own e = used-stands u s here (inside (symbol_of u.target) s e)
      symbol-stands s None None true is here own e = own-stands s own (inside Package s e)
      symbol-stands s None None false is here own e = absurd (cc (e))

      -- ---- what stands there is the symbol

      no_decl : ((n : ℕ) (d : Decl) → HasDecl (analysis w) i n d → Holds offset d.name_span → ⊥) → number_there ≡ None
      no_decl none = by number_there refl
        where
          by : (o : Option ℕ) → number_there ≡ o → o ≡ None
          by None is = refl
          by (Some n) is =
              let h = position-tells (λ d. holds offset d.name_span) (decls_in (analysis w) i) n is in
              absurd (none n h.0 (has-decl w i n h.0 h.1) (holds-tells offset h.0.name_span h.2))

      no_use : ((u : NameUse) → HasUse (analysis w) i u → Holds offset u.span → ⊥) → use_there ≡ None
      no_use none = by use_there refl
        where
          by : (o : Option NameUse) → use_there ≡ o → o ≡ None
          by None is = refl
          by (Some u) is =
              let h = find-tells (λ u. holds offset u.span) (uses_in (analysis w) i) u is in
              absurd (none u (has-use w i u h.0) (holds-tells offset u.span h.1))

      decl-number : (n : ℕ) (d : Decl) → HasDecl (analysis w) i n d → Holds offset d.name_span → number_there ≡ Some n
      decl-number n d h at =
          let g = position-first (λ d. holds offset d.name_span) (decls_in (analysis w) i) n (d, decl-there w i n d h, holds-is offset d.name_span at) in
          let e = g.2 in
          g.1 ∙ ap (λ (k : ℕ). Some k) (one_decl g.0 n e.0 d (has-decl w i g.0 e.0 e.1) h (holds-tells offset e.0.name_span e.2) at)

      use-found : (u : NameUse) → HasUse (analysis w) i u → Holds offset u.span → use_there ≡ Some u
      use-found u h at =
          let g = find-first (λ u. holds offset u.span) (uses_in (analysis w) i) u (use-there w i u h) (holds-is offset u.span at) in
          g.1 ∙ ap (λ (v : NameUse). Some v) (one_use g.0 u (has-use w i g.0 g.2) h (holds-tells offset g.0.span g.3) at)

      by_parts : (n : Option ℕ) (u : Option NameUse) (b : Bool) → number_there ≡ n → use_there ≡ u → own_there ≡ b → symbol_at (analysis w) i offset ≡ option_or (declared_by n) (option_or (used_by u) (own_by b))
      by_parts n u b is here own =
          ap (λ (n : Option ℕ). option_or (declared_by n) (option_or (used_by use_there) (own_by own_there))) is
          ∙ ap (λ (u : Option NameUse). option_or (declared_by n) (option_or (used_by u) (own_by own_there))) here
          ∙ ap (λ (b : Bool). option_or (declared_by n) (option_or (used_by u) (own_by b))) own

      stands-symbol : (s : Symbol) → StandsAt (analysis w) i offset s → symbol_at (analysis w) i offset ≡ Some s
      stands-symbol s (declared {number} {d} h at) = by_parts (Some number) use_there own_there (decl-number number d h at) refl refl
      stands-symbol s (used {u} {r} h at is) =
          by_parts None (Some u) own_there (no_decl (λ n d g p. clash offset d.name_span u.span (decl_use n d u g h) p at)) (use-found u h at) refl ∙ ap (λ (t : Target). Some (symbol_of t)) is
      stands-symbol s (used_package {u} {name} h at is) =
          by_parts None (Some u) own_there (no_decl (λ n d g p. clash offset d.name_span u.span (decl_use n d u g h) p at)) (use-found u h at) refl ∙ ap (λ (t : Target). Some (symbol_of t)) is
      stands-symbol s (own_package {s = c} h at) =
          by_parts None None true (no_decl (λ n d g p. clash offset d.name_span c (decl_component n d c g h) p at)) (no_use (λ u g p. clash offset u.span c (use_component u c g h) p at))
          (list_any-is (holds offset) (components_in (analysis w) i) c (component-there w i c h) (holds-is offset c at))

-- ---- the laws

pub one-name_holds : UsesAscend → ((s : Source) → StandApart (named_tree s).nodes) → OneNameHolds
one-name_holds ascend apart w file offset = one-name ascend apart w file offset

pub symbols-stand : UsesAscend → ((s : Source) → StandApart (named_tree s).nodes) → SymbolsStandThere
symbols-stand ascend apart w file offset s = (
  symbol-stands ascend apart w file offset s (number_there ascend apart w file offset) (use_there ascend apart w file offset) (own_there ascend apart w file offset) refl refl refl,
  stands-symbol ascend apart w file offset s,
)
