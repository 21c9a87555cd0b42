-- The places of a declaration are those of its name and of all its uses.
use Rattle.std.proofs.Common.{◌≡◌, ◌⊎◌, ◌∙◌, inl, inr, ℕ, ◌<◌, Bool, true, false, cond, List, [], ◌∷◌, length, get_or, Option, Some, None, refl, sym, ap, subst, arith, zero-add}
use Rattle.std.specs.Prelude.{Contains, ◌==◌, filter, nat_lt, not, option_map}
use Rattle.std.specs.List.{enumerate_from}
use Rattle.std.proofs.lemmas.Bool.{and_from, and_parts, eq-eqb, eqb-true, cases_Bool, not_from_false}
use Rattle.std.proofs.lemmas.List.{length-map}
use Rattle.std.proofs.lemmas.List.Elements.{Contains-append_cases, Contains-append_left, Contains-append_right}
use Rattle.std.proofs.lemmas.Option.{slice_get-get_or}
use Rattle.proto_decls.specs.declared.fact.Decl.{Decl}
use Rattle.proto_laws.proofs.Holders.{cases_in, either, first_in, inside, later_in}
use Rattle.proto_laws.proofs.Lists.{filter-has, flat_map-has, in_filter, in_flat_map, in_map, in_numbered, map-has}
use Rattle.proto_names.specs.declared.decl_ref.DeclRef.{DeclRef}
use Rattle.proto_resolve.specs.declared.target.Target.{Target}
use Rattle.proto_resolve.specs.declared.target.Target.TheVariants.{Declared, Package}
use Rattle.proto_resolve.specs.declared.uses.NameUse.{NameUse}
use Rattle.work_index.specs.Workspace.{Workspace, analysis}
use Rattle.lsp_queries.specs.Answers.{is_of, own_place, sites_in, sites_of, uses_of, with_own, with_own_in}
use Rattle.lsp_queries.specs.Files.{decl_of, place, place_of, uses_in}
use Rattle.lsp_queries.specs.declared.place.Place.{Place}
use Rattle.lsp_queries.specs.Standing.{HasDecl, HasUse, IsPlaceOf, OneListOfPlaces, PlacesAreAll, by_name, by_use}
use Rattle.lsp_queries.specs.PlaceLaws.{IsBefore, PlacesAscend, places_of}
use Rattle.lsp_queries.proofs.Pairs.{one_ordered}
use Rattle.lsp_queries.proofs.Read.{decl-there, facts-are, has-decl, has-use, links-are, use-there}

-- ---- targets

of-is : (r : DeclRef) (t : Target) → is_of r t ≡ true → t ≡ Declared r
of-is r (Declared s) e =
    let h = and_parts (s.file == r.file) (s.number == r.number) e in
    let file = eqb-true s.file r.file h.0 in
    let number = eqb-true s.number r.number h.1 in
    λ i. Declared (record { file = file i; number = number i })
of-is r (Package name) e = absurd (cc (e))

is-of : (r : DeclRef) (t : Target) → t ≡ Declared r → is_of r t ≡ true
is-of r t e = ap (is_of r) e ∙ and_from (r.file == r.file) (r.number == r.number) (eq-eqb r.file r.file refl) (eq-eqb r.number r.number refl)

-- ---- one's own place among others

with_own-has : (own p : Place) (places : List Place) → Contains (with_own own places) p → (own ≡ p) ⊎ Contains places p
with_own-has own p places c =
    let first = filter (λ p. nat_lt p.start own.start) places in
    let later = filter (λ p. not (nat_lt p.start own.start)) places in
    either (λ c. inr (filter-has (λ p. nat_lt p.start own.start) places p c).0)
    (λ c. either (λ same. inl same) (λ c. inr (filter-has (λ p. not (nat_lt p.start own.start)) places p c).0) (cases_in own later p c))
    (Contains-append_cases first (own ∷ later) p c)

own-there : (own : Place) (places : List Place) → Contains (with_own own places) own
own-there own places =
    let first = filter (λ p. nat_lt p.start own.start) places in
    let later = filter (λ p. not (nat_lt p.start own.start)) places in
    Contains-append_right first (own ∷ later) own (first_in own later)

others-there : (own p : Place) (places : List Place) → Contains places p → Contains (with_own own places) p
others-there own p places c =
    let first = filter (λ p. nat_lt p.start own.start) places in
    let later = filter (λ p. not (nat_lt p.start own.start)) places in
    either (λ e. Contains-append_left first (own ∷ later) p (in_filter (λ p. nat_lt p.start own.start) places p c e))
    (λ e. Contains-append_right first (own ∷ later) p (later_in own later p (in_filter (λ p. not (nat_lt p.start own.start)) places p c (not_from_false (nat_lt p.start own.start) e))))
    (cases_Bool (nat_lt p.start own.start))

-- ---- a workspace

module _ (w : Workspace) (r : DeclRef) (include_declaration : Bool) (p : Place) where
  -- the own place that is asked for
  own-is : (o : Place) → own_place (analysis w) r include_declaration ≡ Some o → (include_declaration ≡ true) × ((d : Decl) × HasDecl (analysis w) r.file r.number d × (o ≡ place r.file d.name_span))
  own-is o e = by include_declaration refl (decl_of (analysis w) r) refl e
    where
      by : (b : Bool) → include_declaration ≡ b → (found : Option Decl) → decl_of (analysis w) r ≡ found → cond {A = Option Place} b (option_map (λ d. place r.file d.name_span) found) None ≡ Some o
          → (include_declaration ≡ true) × ((d : Decl) × HasDecl (analysis w) r.file r.number d × (o ≡ place r.file d.name_span))
      by true asked (Some d) is e = (asked, (d, has-decl w r.file r.number d is, sym (inside (place r.file d.name_span) o e)))
      by true asked None is e = absurd (cc (e))
      by false asked found is e = absurd (cc (e))

  is-own : (d : Decl) → include_declaration ≡ true → HasDecl (analysis w) r.file r.number d → own_place (analysis w) r include_declaration ≡ Some (place r.file d.name_span)
  is-own d asked h =
      ap (λ (b : Bool). cond {A = Option Place} b (place_of (analysis w) r) None) asked
      ∙ ap (option_map (λ d. place r.file d.name_span)) (decl-there w r.file r.number d h)

  -- the uses of a file
  used-has : (i : ℕ) → Contains (uses_of (analysis w) r i) p → IsPlaceOf (analysis w) r include_declaration p
  used-has i c =
      let m = map-has (λ u. place i u.span) (filter (λ u. is_of r u.target) (uses_in (analysis w) i)) p c in
      let f = filter-has (λ u. is_of r u.target) (uses_in (analysis w) i) m.source m.there in
      by_use (has-use w i m.source f.0) (of-is r m.source.target f.1) (sym m.is)

  use-in : (i : ℕ) (u : NameUse) → HasUse (analysis w) i u → u.target ≡ Declared r → p ≡ place i u.span → Contains (uses_of (analysis w) r i) p
  use-in i u h is at =
      subst (Contains (uses_of (analysis w) r i)) (sym at)
      (in_map (λ u. place i u.span) (filter (λ u. is_of r u.target) (uses_in (analysis w) i)) u (in_filter (λ u. is_of r u.target) (uses_in (analysis w) i) u (use-there w i u h) (is-of r u.target is)))

  -- with the own place, in a file
  site-has : (i : ℕ) → Contains (sites_in (analysis w) r (own_place (analysis w) r include_declaration) i) p → IsPlaceOf (analysis w) r include_declaration p
  site-has i c = by (own_place (analysis w) r include_declaration) refl c
    where
      with : (o : Place) → own_place (analysis w) r include_declaration ≡ Some o → (b : Bool) → Contains (cond {A = List Place} b (with_own o (uses_of (analysis w) r i)) (uses_of (analysis w) r i)) p → IsPlaceOf (analysis w) r include_declaration p
      with o is true c =
          let d = own-is o is in
          either (λ same. by_name d.0 d.1.1 (sym same ∙ d.1.2)) (used-has i) (with_own-has o p (uses_of (analysis w) r i) c)
      with o is false c = used-has i c

      by : (o : Option Place) → own_place (analysis w) r include_declaration ≡ o → Contains (with_own_in o i (uses_of (analysis w) r i)) p → IsPlaceOf (analysis w) r include_declaration p
      by None is c = used-has i c
      by (Some o) is c = with o is (o.file == i) c

  use-site : (i : ℕ) → Contains (uses_of (analysis w) r i) p → Contains (sites_in (analysis w) r (own_place (analysis w) r include_declaration) i) p
  use-site i c = by (own_place (analysis w) r include_declaration)
    where
      with : (o : Place) (b : Bool) → Contains (cond {A = List Place} b (with_own o (uses_of (analysis w) r i)) (uses_of (analysis w) r i)) p
      with o true = others-there o p (uses_of (analysis w) r i) c
      with o false = c

      by : (o : Option Place) → Contains (with_own_in o i (uses_of (analysis w) r i)) p
      by None = c
      by (Some o) = with o (o.file == i)

  own-site : (o : Place) → own_place (analysis w) r include_declaration ≡ Some o → p ≡ o → Contains (sites_in (analysis w) r (own_place (analysis w) r include_declaration) o.file) p
  own-site o is at =
      subst (λ own. Contains (with_own_in own o.file (uses_of (analysis w) r o.file)) p) (sym is)
      (subst (λ (b : Bool). Contains (cond {A = List Place} b (with_own o (uses_of (analysis w) r o.file)) (uses_of (analysis w) r o.file)) p) (sym (eq-eqb o.file o.file refl))
      (subst (Contains (with_own o (uses_of (analysis w) r o.file))) (sym at) (own-there o (uses_of (analysis w) r o.file))))

  -- of all files
  abbrev sites : ℕ × List ℕ → List Place
  sites e = sites_in (analysis w) r (own_place (analysis w) r include_declaration) e.0

  place-has : Contains (sites_of (analysis w) r (own_place (analysis w) r include_declaration)) p → IsPlaceOf (analysis w) r include_declaration p
  place-has c = let h = flat_map-has sites (enumerate_from 0 (analysis w).paths) p c in site-has h.whole.0 h.has

  in_file : (i : ℕ) → i < length w → Contains (sites_in (analysis w) r (own_place (analysis w) r include_declaration) i) p → Contains (sites_of (analysis w) r (own_place (analysis w) r include_declaration)) p
  in_file i lt c =
      let paths = (analysis w).paths in
      let within : i < length paths = omega (arith, lt, length-map w (λ file. file.0)) in
      let path = get_or paths i [] in
      let numbered = subst (λ n. Contains (enumerate_from 0 paths) (n, path)) (zero-add i) (in_numbered 0 paths i path (slice_get-get_or paths i [] within)) in
      in_flat_map sites (enumerate_from 0 paths) (i, path) p numbered c

  has-place : IsPlaceOf (analysis w) r include_declaration p → Contains (sites_of (analysis w) r (own_place (analysis w) r include_declaration)) p
  has-place (by_name {d} asked h at) =
      let own = is-own d asked h in
      in_file r.file (facts-are w r.file h.0 h.1).0 (own-site (place r.file d.name_span) own at)
  has-place (by_use {file} {u} h is at) = in_file file (links-are w file h.0 h.1).0 (use-site file (use-in file u h is at))

pub places-all : PlacesAreAll
places-all w r include_declaration p = (place-has w r include_declaration p, has-place w r include_declaration p)

never-both : (p q : Place) → IsBefore p q → IsBefore q p → ⊥
never-both p q (inl a) (inl b) = omega arith
never-both p q (inl a) (inr b) = omega (arith, b)
never-both p q (inr a) (inl b) = omega (arith, a)
never-both p q (inr a) (inr b) = omega (arith, a, b)

pub one-list : PlacesAscend → OneListOfPlaces
one-list ascend w r include_declaration places order each =
    one_ordered IsBefore never-both places (places_of w r include_declaration) order (ascend w r include_declaration)
    (λ p c. (places-all w r include_declaration p).1 ((each p).0 c)) (λ p c. (each p).1 ((places-all w r include_declaration p).0 c))
