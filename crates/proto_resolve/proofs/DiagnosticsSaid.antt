-- What is wrong in a file by what it sees is what the words say.
use Rattle.std.proofs.Common.{◌≡◌, ◌∙◌, sym, subst, inl, inr, ⊎_elim, ◌↔◌, ℕ, ◌<◌, ◌==◌, List, [], ◌∷◌, ◌++◌, Bool, true, false, not, Option, Some, None, length, map, refl, arith}
use Rattle.std.specs.Prelude.{Contains, if◌then◌else◌}
use Rattle.std.specs.List.{flat_map, list_any, range_with_len}
use Rattle.std.proofs.lemmas.Bool.{cases_Bool, cases_lt}
use Rattle.std.proofs.lemmas.List.{get_or_past, length-map}
use Rattle.std.proofs.lemmas.List.Elements.{All-contains, All-nil, All-weaker, Contains-append_cases, Contains-append_left, Contains-append_right, filter_passes}
use Rattle.std.proofs.lemmas.List.FromFn.{get_or-range_with_len, length-range_with_len}
use Rattle.proto_decls.specs.declared.diagnostic.Diag.{Diag}
use Rattle.proto_decls.specs.declared.fact.Decl.{Decl}
use Rattle.proto_decls.specs.declared.fact.ImportFact.{ImportFact}
use Rattle.proto_decls.specs.declared.problem.Problem.TheVariants as m
use Rattle.proto_decls.specs.Diags.{diag}
use Rattle.proto_decls.specs.declared.named_facts.NamedFacts.{NamedFacts}
use Rattle.import_graph.specs.declared.imports.FileImports.{FileImports}
use Rattle.import_graph.specs.Imports.{graph_of, is_analysed, edges_at, target_at}
use Rattle.import_graph.specs.Views.{IsClosed, Sees}
use Rattle.import_graph.specs.Closures.{is_closed, is_complete, reaches, sees, view_of}
use Rattle.import_graph.specs.Laws.{ViewLaw}
use Rattle.import_graph.proofs.Closures.{and_both, both_and, or_right}
use Rattle.import_graph.proofs.ImportEdges.{filter_to, here, here_or_next, next}
use Rattle.import_graph.proofs.SeesTest.{all_is}
use Rattle.proto_resolve.specs.declared.site.NameSite.{NameSite}
use Rattle.proto_names.specs.declared.decl_ref.DeclRef.{DeclRef}
use Rattle.proto_resolve.specs.declared.target.Target.{Target}
use Rattle.proto_names.specs.Files.{all_named, decls_at, has_package, is_seen}
use Rattle.proto_resolve.specs.Names.{has_kind, is_type}
use Rattle.proto_resolve.specs.Finding.{IsSeenAs}
use Rattle.proto_resolve.specs.ViewDiagnostics.{decl_diagnostics, diagnostics_of_meaning, diagnostics_of_target, import_diagnostics, is_declared_elsewhere, name_diagnostics, view_diagnostics}
use Rattle.proto_resolve.specs.DiagnosticLaws.{IsViewDiagnostic, means, numbered_imports}
use Rattle.proto_resolve.specs.DiagnosticLaws.IsViewDiagnostic.{unresolved, wrong_kind, import_not_found, import_cycle, declared_elsewhere, name_is_package}
use Rattle.proto_resolve.proofs.Firsts.{agrees, differs, is_another}
use Rattle.proto_resolve.proofs.Meets.{in_named, named_in, package_seen, seen_package, seen_so, visible}
use Rattle.proto_resolve.proofs.Members.{In}

-- ---- lists

module _ {X Y : Type 0} (h : X → List Y) where
  -- what is in the lists of all elements is in the list of one
  each_of : {G : Type 0} (xs : List X) (y : Y) → ((x : X) → Contains xs x → Contains (h x) y → G) → Contains (flat_map h xs) y → G
  each_of [] y by (k, lt, e) = absurd (omega arith)
  each_of (x ∷ xs) y by has = ⊎_elim (by x (here x xs)) (each_of xs y (λ z there. by z (next x z xs there))) (Contains-append_cases (h x) (flat_map h xs) y has)

  in_flat_map : (xs : List X) (x : X) (y : Y) → Contains xs x → Contains (h x) y → Contains (flat_map h xs) y
  in_flat_map [] x y (k, lt, e) own = absurd (omega arith)
  in_flat_map (z ∷ xs) x y has own = ⊎_elim
      (λ same. Contains-append_left (h z) (flat_map h xs) y (subst (λ w. Contains (h w) y) (sym same) own))
      (λ later. Contains-append_right (h z) (flat_map h xs) y (in_flat_map xs x y later own))
      (here_or_next z x xs has)

module _ {X : Type 0} (p : X → Bool) where
  some_in : (xs : List X) → list_any p xs ≡ true → (x : X) × In x xs × (p x ≡ true)
  some_in [] e = absurd (cc (e))
  some_in (x ∷ xs) e = elim (cases_Bool (p x)) [
    | inl passes ↦ (x, inl refl, passes)
    | inr fails ↦ let one = some_in xs (rw fails at e) in (one.0, inr one.1, one.2)
  ]

  in_some : (xs : List X) (x : X) → In x xs → p x ≡ true → list_any p xs ≡ true
  in_some [] x there passes = elim there [ ]
  in_some (y ∷ ys) x (inl same) passes = let here : p y ≡ true = rw same passes in rw here refl
  in_some (y ∷ ys) x (inr later) passes = or_right (p y) (list_any p ys) (in_some ys x later passes)

-- one diagnostic, and one by a test
module _ (d x : Diag) where
  in_one : x ≡ d → Contains (d ∷ []) x
  in_one e = (0, omega arith, sym e)

  from_one : Contains (d ∷ []) x → x ≡ d
  from_one has = ⊎_elim sym (λ none. absurd (omega (arith, none.1))) (here_or_next d x [] has)

  from_true : (b : Bool) → Contains (if b then d ∷ [] else []) x → (b ≡ true) × (x ≡ d)
  from_true true has = (refl, from_one has)
  from_true false none = absurd (omega (arith, none.1))

  from_false : (b : Bool) → Contains (if b then [] else d ∷ []) x → (b ≡ false) × (x ≡ d)
  from_false true none = absurd (omega (arith, none.1))
  from_false false has = (refl, from_one has)

-- ---- what is seen

module _ (files : List NamedFacts) (law : ViewLaw files) (f : ℕ) where
  abbrev graph : List FileImports
  graph = graph_of files

  abbrev view : List ℕ
  view = view_of graph f

  in_view : (g : ℕ) → g < length graph → Sees graph f g → Contains view g
  in_view g lt there =
      filter_to (sees graph f) (range_with_len 0 (length graph)) g (g, rw (length-range_with_len 0 (length graph)) lt, get_or-range_with_len 0 (length graph) g g lt ∙ omega arith)
      ((law f g).0.1 there)

  closed_so : is_closed graph f ≡ true → IsClosed graph f
  closed_so e g there = elim (cases_lt g (length graph)) [
    | inl lt ↦ (all_is (λ l. is_analysed graph l.target) (edges_at graph g)).0
        (All-contains (λ h. is_complete graph h ≡ true) view g ((all_is (is_complete graph) view).0 e) (in_view g lt there))
    | inr past ↦
        let none : edges_at graph g ≡ [] = get_or_past (map (λ (file : FileImports). file.edges) graph) g [] (rw length-map past) in
        rw none (All-nil (λ l. is_analysed graph l.target ≡ true))
  ]

  so_closed : IsClosed graph f → is_closed graph f ≡ true
  so_closed closed =
      (all_is (is_complete graph) view).1
      (All-weaker (λ g. sees graph f g ≡ true) (λ g. is_complete graph g ≡ true)
      (λ g e. (all_is (λ l. is_analysed graph l.target) (edges_at graph g)).1 (closed g ((law f g).0.0 e)))
      view (filter_passes (sees graph f) (range_with_len 0 (length graph))))

  elsewhere_so : (name : List ℕ) → is_declared_elsewhere files f view name ≡ true → (r : DeclRef) × IsSeenAs files f name r × (r.file ≡ f → ⊥)
  elsewhere_so name e =
      let one = some_in (is_another f view) (all_named files name) e in
      let r : DeclRef = one.0 in
      let both = and_both (not (r.file == f)) (is_seen view r.file) one.2 in
      let there = in_named files name r one.1 in
      (r, record { seen = seen_so files law f name r.file both.1; there = there.0; named = there.1 }, λ own. absurd (cc (both.0, agrees r.file f own)))

  so_elsewhere : (name : List ℕ) (r : DeclRef) → IsSeenAs files f name r → (r.file ≡ f → ⊥) → is_declared_elsewhere files f view name ≡ true
  so_elsewhere name r seen other =
      let passes : not (r.file == f) ≡ true = rw (differs r.file f other) refl in
      in_some (is_another f view) (all_named files name) r (named_in files f name r seen)
      (both_and (not (r.file == f)) (is_seen view r.file) passes (visible files law f name r seen))

  -- ---- what is wrong

  module _ (sites : List NameSite) (x : Diag) where
    abbrev Diagnostic : Type 0
    Diagnostic = IsViewDiagnostic files f sites x

    name_so : IsClosed graph f → (n : NameSite) → Contains sites n → (t : Option Target) → means files f n ≡ t → Contains (diagnostics_of_meaning files f view n t) x → Diagnostic
    name_so closed n there None e has = unresolved closed n there e (from_one (diag m.Unresolved n.span) x has)
    name_so closed n there (Some t) e has =
        let both = from_false (diag m.WrongKind n.span) x (has_kind files (is_type n.needs) (Some t)) has in
        wrong_kind closed n there t e both.0 both.1

    names_so : (b : Bool) → is_closed graph f ≡ b → Contains (if b then flat_map (name_diagnostics files f view) sites else []) x → Diagnostic
    names_so true e = each_of (name_diagnostics files f view) sites x (λ n there. name_so (closed_so e) n there (means files f n) refl)
    names_so false e = λ none. absurd (omega (arith, none.1))

    import_so : (k : ℕ) (i : ImportFact) → Contains (numbered_imports files f) (k, i) → (t : Option ℕ) → target_at graph f k ≡ t → Contains (diagnostics_of_target files f i t) x → Diagnostic
    import_so k i there None e has = import_not_found k i there e (from_one (diag m.ImportNotFound i.span) x has)
    import_so k i there (Some g) e has =
        let both = from_true (diag m.ImportCycle i.span) x (reaches graph g f) has in
        import_cycle k i there (g, e, (law g f).1.0 both.0) both.1

    -- the two diagnostics of a declaration
    abbrev elsewhere : Decl → List Diag
    elsewhere d = if is_declared_elsewhere files f view d.full_name then diag m.DeclaredElsewhere d.name_span ∷ [] else []

    abbrev packaged : Decl → List Diag
    packaged d = if list_any (has_package files d.full_name) view then diag m.NameIsPackage d.name_span ∷ [] else []

    elsewhere_diagnostic : (d : Decl) → Contains (decls_at files f) d → Contains (elsewhere d) x → Diagnostic
    elsewhere_diagnostic d there has =
        let both = from_true (diag m.DeclaredElsewhere d.name_span) x (is_declared_elsewhere files f view d.full_name) has in
        let by = elsewhere_so d.full_name both.0 in
        declared_elsewhere d there by.0 by.1 by.2 both.1

    package_diagnostic : (d : Decl) → Contains (decls_at files f) d → Contains (packaged d) x → Diagnostic
    package_diagnostic d there has =
        let both = from_true (diag m.NameIsPackage d.name_span) x (list_any (has_package files d.full_name) view) has in
        let by = package_seen files law f d.full_name both.0 in
        name_is_package d there by.0 by.1 by.2 both.1

    decl_so : (d : Decl) → Contains (decls_at files f) d → Contains (decl_diagnostics files f view d) x → Diagnostic
    decl_so d there has = ⊎_elim (elsewhere_diagnostic d there) (package_diagnostic d there) (Contains-append_cases (elsewhere d) (packaged d) x has)

    -- the three parts of the list
    abbrev of_names : List Diag
    of_names = if is_closed graph f then flat_map (name_diagnostics files f view) sites else []

    abbrev of_imports : List Diag
    of_imports = flat_map (import_diagnostics files f) (numbered_imports files f)

    abbrev of_decls : List Diag
    of_decls = flat_map (decl_diagnostics files f view) (decls_at files f)

    abbrev IsListed : Type 0
    IsListed = Contains (view_diagnostics files f sites) x

    listed_so : IsListed → Diagnostic
    listed_so has = ⊎_elim
        (names_so (is_closed graph f) refl)
        (λ later. ⊎_elim
        (each_of (import_diagnostics files f) (numbered_imports files f) x (λ i there. import_so i.0 i.1 there (target_at graph f i.0) refl))
        (each_of (decl_diagnostics files f view) (decls_at files f) x decl_so)
        (Contains-append_cases of_imports of_decls x later))
        (Contains-append_cases of_names (of_imports ++ of_decls) x has)

    by_name : IsClosed graph f → (n : NameSite) → Contains sites n → Contains (name_diagnostics files f view n) x → IsListed
    by_name closed n there has =
        Contains-append_left of_names (of_imports ++ of_decls) x (rw (so_closed closed) (in_flat_map (name_diagnostics files f view) sites n x there has))

    by_import : (k : ℕ) (i : ImportFact) → Contains (numbered_imports files f) (k, i) → Contains (import_diagnostics files f (k, i)) x → IsListed
    by_import k i there has =
        Contains-append_right of_names (of_imports ++ of_decls) x
        (Contains-append_left of_imports of_decls x (in_flat_map (import_diagnostics files f) (numbered_imports files f) (k, i) x there has))

    by_decl : (d : Decl) → Contains (decls_at files f) d → Contains (decl_diagnostics files f view d) x → IsListed
    by_decl d there has =
        Contains-append_right of_names (of_imports ++ of_decls) x
        (Contains-append_right of_imports of_decls x (in_flat_map (decl_diagnostics files f view) (decls_at files f) d x there has))

    so_listed : Diagnostic → IsListed
    so_listed (unresolved closed n there e is) = by_name closed n there (rw e (in_one (diag m.Unresolved n.span) x is))
    so_listed (wrong_kind closed n there t e fails is) = by_name closed n there (rw (e, fails) (in_one (diag m.WrongKind n.span) x is))
    so_listed (import_not_found k i there e is) = by_import k i there (rw e (in_one (diag m.ImportNotFound i.span) x is))
    so_listed (import_cycle k i there (g, e, back) is) = by_import k i there (rw (e, (law g f).1.1 back) (in_one (diag m.ImportCycle i.span) x is))
    so_listed (declared_elsewhere d there r seen other is) =
        by_decl d there (Contains-append_left (elsewhere d) (packaged d) x (rw (so_elsewhere d.full_name r seen other) (in_one (diag m.DeclaredElsewhere d.name_span) x is)))
    so_listed (name_is_package d there g seen has is) =
        by_decl d there (Contains-append_right (elsewhere d) (packaged d) x (rw (seen_package files law f d.full_name g seen has) (in_one (diag m.NameIsPackage d.name_span) x is)))

    pub said : Contains (view_diagnostics files f sites) x ↔ IsViewDiagnostic files f sites x
    said = (listed_so, so_listed)
