-- What is known of a file by what it sees, by the declarations of the names for which it asks.
use Rattle.std.proofs.Common.{◌≡◌, ◌∙◌, sym, ap, ap₂, inl, inr, ℕ, ◌+◌, ◌==◌, List, [], ◌∷◌, ◌++◌, Bool, true, false, not, ◌&&◌, ◌||◌, Option, Some, None, find, filter, length, get_or, map, subst, refl}
use Rattle.std.specs.Prelude.{All, is_some, option_and_then, option_map, if◌then◌else◌}
use Rattle.std.specs.Option.{option_map_or, option_or}
use Rattle.std.specs.List.{cons_option, enumerate_from, filter_map, flat_map, list_any}
use Rattle.std.proofs.Math.ListN.{get_or-map}
use Rattle.std.proofs.Math.Path.{fun_ext}
use Rattle.std.proofs.lemmas.Bool.{cases_Bool}
use Rattle.std.proofs.lemmas.List.{map-append}
use Rattle.std.proofs.lemmas.List.Elements.{All-nil, All-head, All-tail, All-cons}
use Rattle.std.proofs.lemmas.Map.Views.{any-filter_same}
use Rattle.proto_tree.specs.declared.node.FileTree.{FileTree}
use Rattle.proto_tree.specs.declared.node.Span.{Span}
use Rattle.proto_decls.specs.declared.diagnostic.Diag.{Diag}
use Rattle.proto_decls.specs.declared.fact.Decl.{Decl}
use Rattle.proto_decls.specs.declared.fact.DeclKind.{DeclKind}
use Rattle.proto_decls.specs.declared.fact.FileFacts.{FileFacts}
use Rattle.proto_decls.specs.declared.fact.ImportFact.{ImportFact}
use Rattle.proto_decls.specs.declared.fact.PackageFact.{PackageFact}
use Rattle.proto_decls.specs.declared.problem.Problem.TheVariants as m
use Rattle.proto_decls.specs.Diags.{diag}
use Rattle.proto_decls.specs.Order.{in_order}
use Rattle.proto_decls.specs.Text.{joined}
use Rattle.proto_decls.specs.declared.named_facts.NamedFacts.{NamedFacts}
use Rattle.import_graph.specs.Imports.{graph_of, target_at}
use Rattle.import_graph.specs.Closures.{is_closed, view_of}
use Rattle.import_graph.specs.Outlooks.{import_outlook, imports_outlook}
use Rattle.import_graph.proofs.Outlooks.{said_at}
use Rattle.proto_resolve.specs.declared.resolve.Links.{Links}
use Rattle.proto_resolve.specs.declared.site.NameSite.{NameSite}
use Rattle.proto_resolve.specs.declared.site.Needs.TheVariants as needs
use Rattle.proto_names.specs.declared.decl_ref.DeclRef.{DeclRef}
use Rattle.proto_resolve.specs.declared.target.Target.{Target}
use Rattle.proto_resolve.specs.declared.target.Target.TheVariants.{Declared, Package}
use Rattle.proto_resolve.specs.declared.uses.NameUse.{NameUse}
use Rattle.proto_names.specs.Files.{all_named, begins, decl_at, decls_at, facts_at, has_package, is_within, is_seen}
use Rattle.proto_resolve.specs.Names.{first_declared, first_text, found, has_kind, is_type, joined_all, scope_of, settles, settles_at, texts_of}
use Rattle.proto_names.specs.Holders.{is_holder}
use Rattle.proto_resolve.specs.Resolved.{resolved, sites_at}
use Rattle.proto_resolve.specs.Sites.{names_of_file}
use Rattle.proto_resolve.specs.Uses.{prefixes, use_at, uses, uses_at, uses_in, uses_of}
use Rattle.proto_resolve.specs.ViewDiagnostics.{decl_diagnostics, diagnostics_of_meaning, diagnostics_of_target, import_diagnostics, is_declared_elsewhere, name_diagnostics, view_diagnostics}
use Rattle.proto_names.proofs.Alike.{any_agree}
use Rattle.proto_resolve.proofs.Firsts.{found_has, is_another, is_own, is_visible}
use Rattle.work_links.specs.Asked.{asked_by, names_asked_in, names_asked, scopes_asked}
use Rattle.work_links.specs.Laws.{AskedLaw, AsksTheSame, seen_named}
use Rattle.proto_names.specs.Outlines.{package_name}
use Rattle.work_links.specs.Touched.{links_after, target_after, use_after}

-- ---- lists and options

module _ {X : Type 0} (P : X → Type 0) where
  all_left : (xs ys : List X) → All P (xs ++ ys) → All P xs
  all_left [] ys all = All-nil P
  all_left (x ∷ xs) ys all = All-cons P x xs (All-head P x (xs ++ ys) all) (all_left xs ys (All-tail P x (xs ++ ys) all))

  all_right : (xs ys : List X) → All P (xs ++ ys) → All P ys
  all_right [] ys all = all
  all_right (x ∷ xs) ys all = all_right xs ys (All-tail P x (xs ++ ys) all)

module _ {X Y : Type 0} where
  each_part : (P : Y → Type 0) (parts : X → List Y) (xs : List X) → All P (flat_map parts xs) → All (λ x. All P (parts x)) xs
  each_part P parts [] all = All-nil (λ x. All P (parts x))
  each_part P parts (x ∷ xs) all =
      All-cons (λ x. All P (parts x)) x xs (all_left P (parts x) (flat_map parts xs) all) (each_part P parts xs (all_right P (parts x) (flat_map parts xs) all))

  each_made : (P : Y → Type 0) (make : X → Y) (xs : List X) → All P (map make xs) → All (λ x. P (make x)) xs
  each_made P make [] all = All-nil (λ x. P (make x))
  each_made P make (x ∷ xs) all = All-cons (λ x. P (make x)) x xs (All-head P (make x) (map make xs) all) (each_made P make xs (All-tail P (make x) (map make xs) all))

  find_made : (q : Y → Bool) (make : X → Y) (xs : List X) → find q (map make xs) ≡ option_map make (find (λ x. q (make x)) xs)
  find_made q make [] = refl
  find_made q make (x ∷ xs) = elim (cases_Bool (q (make x))) [
    | inl passes ↦ rw passes refl
    | inr fails ↦ rw fails (find_made q make xs)
  ]

  any_made : (q : Y → Bool) (make : X → Y) (xs : List X) → list_any q (map make xs) ≡ list_any (λ x. q (make x)) xs
  any_made q make [] = refl
  any_made q make (x ∷ xs) = ap (λ (b : Bool). q (make x) || b) (any_made q make xs)

  either_made : (make : X → Y) (a b : Option X) → option_or (option_map make a) (option_map make b) ≡ option_map make (option_or a b)
  either_made make None b = refl
  either_made make (Some x) b = refl

  as_there : (make : X → Y) (o : Option X) → is_some (option_map make o) ≡ is_some o
  as_there make None = refl
  as_there make (Some x) = refl

  flat_agree : (g h : X → List Y) (xs : List X) → All (λ x. g x ≡ h x) xs → flat_map g xs ≡ flat_map h xs
  flat_agree g h [] all = refl
  flat_agree g h (x ∷ xs) all = ap₂ (λ (us vs : List Y). us ++ vs) (All-head (λ x. g x ≡ h x) x xs all) (flat_agree g h xs (All-tail (λ x. g x ≡ h x) x xs all))

module _ {X : Type 0} where
  fails_too : (p q : X → Bool) (x : X) → (q x ≡ true → p x ≡ true) → p x ≡ false → q x ≡ false
  fails_too p q x more fails = elim (cases_Bool (q x)) [
    | inl passes ↦ absurd (cc (fails, more passes))
    | inr fails' ↦ fails'
  ]

  find_kept : (p q : X → Bool) → ((x : X) → q x ≡ true → p x ≡ true) → (xs : List X) → find q (filter p xs) ≡ find q xs
  find_kept p q more [] = refl
  find_kept p q more (x ∷ xs) = elim (cases_Bool (p x)) [
    | inl passes ↦ rw (passes, find_kept p q more xs) refl
    | inr fails ↦ rw (fails, fails_too p q x (more x) fails) (find_kept p q more xs)
  ]

  find_agree : (p q : X → Bool) (xs : List X) → All (λ x. p x ≡ q x) xs → find p xs ≡ find q xs
  find_agree p q [] all = refl
  find_agree p q (x ∷ xs) all = rw (All-head (λ x. p x ≡ q x) x xs all, find_agree p q xs (All-tail (λ x. p x ≡ q x) x xs all)) refl

-- ---- declarations with their kinds

abbrev Kinded : Type 0
Kinded = DeclRef × DeclKind

abbrev with_kind : List NamedFacts → DeclRef → Kinded
with_kind files r = (r, let d = decl_at files r in d.kind)

abbrev moved : (DeclRef → DeclRef) → Kinded → Kinded
moved move e = (move e.0, e.1)

-- the first one of the file f, else the first one of a file of the view
abbrev first_kinded : ℕ → List ℕ → List Kinded → Option Kinded
first_kinded f view es = option_or (find (λ e. is_own f e.0) es) (find (λ e. is_visible view e.0) es)

module _ (f : ℕ) (view : List ℕ) where
  -- of f itself, or of a file of the view
  abbrev pub near : DeclRef → Bool
  near r = (r.file == f) || is_seen view r.file

  own_near : (r : DeclRef) → is_own f r ≡ true → near r ≡ true
  own_near r e = rw e refl

  seen_near : (r : DeclRef) → is_visible view r ≡ true → near r ≡ true
  seen_near r e = elim (cases_Bool (r.file == f)) [
    | inl own_file ↦ rw own_file refl
    | inr other ↦ rw other e
  ]

  another_near : (r : DeclRef) → is_another f view r ≡ true → near r ≡ true
  another_near r e = elim (cases_Bool (r.file == f)) [
    | inl own_file ↦ rw own_file refl
    | inr other ↦ rw other (rw other at e)
  ]

  module _ (files : List NamedFacts) (name : List ℕ) where
    first_is : first_kinded f view (seen_named files f view name) ≡ option_map (with_kind files) (first_declared f view (all_named files name))
    first_is =
        ap₂ (λ (a b : Option Kinded). option_or a b)
        (find_made (λ e. is_own f e.0) (with_kind files) (filter near (all_named files name))
        ∙ ap (λ (o : Option DeclRef). option_map (with_kind files) o) (find_kept near (is_own f) own_near (all_named files name)))
        (find_made (λ e. is_visible view e.0) (with_kind files) (filter near (all_named files name))
        ∙ ap (λ (o : Option DeclRef). option_map (with_kind files) o) (find_kept near (is_visible view) seen_near (all_named files name)))
        ∙ either_made (with_kind files) (find (is_own f) (all_named files name)) (find (is_visible view) (all_named files name))

    elsewhere_is : list_any (λ e. is_another f view e.0) (seen_named files f view name) ≡ is_declared_elsewhere files f view name
    elsewhere_is =
        any_made (λ e. is_another f view e.0) (with_kind files) (filter near (all_named files name))
        ∙ any-filter_same (is_another f view) near true another_near (all_named files name)

    -- those of them that are kept are near
    near_ones : (P : DeclRef → Type 0) → ((r : DeclRef) → near r ≡ true → P r) → (rs : List DeclRef) → All (λ e. P e.0) (map (with_kind files) (filter near rs))
    near_ones P each [] = All-nil (λ e. P e.0)
    near_ones P each (r ∷ rs) = elim (cases_Bool (near r)) [
      | inl passes ↦ rw passes (All-cons (λ e. P e.0) (with_kind files r) (map (with_kind files) (filter near rs)) (each r passes) (near_ones P each rs))
      | inr fails ↦ rw fails (near_ones P each rs)
    ]

-- To the file f' with its view, what `move` makes of a declaration is its own where the declaration was f's own, and is seen where f saw it.
pub record KeepsPlace (f : ℕ) (view : List ℕ) (f' : ℕ) (view' : List ℕ) (move : DeclRef → DeclRef) (r : DeclRef) : Type 0 where
  pub own : is_own f' (move r) ≡ is_own f r
  pub seen : is_visible view' (move r) ≡ is_visible view r

module _ (f : ℕ) (view : List ℕ) (f' : ℕ) (view' : List ℕ) (move : DeclRef → DeclRef) (es : List Kinded) (keeps : All (λ e. KeepsPlace f view f' view' move e.0) es) where
  found_moved : (test test' : DeclRef → Bool) → All (λ e. test' (move e.0) ≡ test e.0) es
      → find (λ e. test' e.0) (map (moved move) es) ≡ option_map (moved move) (find (λ e. test e.0) es)
  found_moved test test' agree =
      find_made (λ e. test' e.0) (moved move) es
      ∙ ap (λ (o : Option Kinded). option_map (moved move) o) (find_agree (λ e. test' (move e.0)) (λ e. test e.0) es agree)

  first_moved : first_kinded f' view' (map (moved move) es) ≡ option_map (moved move) (first_kinded f view es)
  first_moved =
      ap₂ (λ (a b : Option Kinded). option_or a b)
      (found_moved (is_own f) (is_own f') (λ k d lt. let kept = keeps k d lt in kept.own))
      (found_moved (is_visible view) (is_visible view') (λ k d lt. let kept = keeps k d lt in kept.seen))
      ∙ either_made (moved move) (find (λ e. is_own f e.0) es) (find (λ e. is_visible view e.0) es)

  elsewhere_moved : list_any (λ e. is_another f' view' e.0) (map (moved move) es) ≡ list_any (λ e. is_another f view e.0) es
  elsewhere_moved =
      any_made (λ e. is_another f' view' e.0) (moved move) es
      ∙ any_agree (λ e. is_another f' view' (move e.0)) (λ e. is_another f view e.0) es
      (λ k d lt. let kept = keeps k d lt in ap₂ (λ (own seen : Bool). not own && seen) kept.own kept.seen)

-- ---- targets

abbrev kind_passes : (DeclKind → Bool) → Option Kinded → Bool
kind_passes test o = option_map_or (λ e. test e.1) o false

-- whether a name's first component, found like this, settles the scope
abbrev settled : Bool → Bool → Option Kinded → Bool
settled true has o = kind_passes (is_type needs.MessageOrEnum) o
settled false has None = has
settled false has (Some e) = is_holder e.1

abbrev target_by : List ℕ → Option DeclRef → Bool → Option Target
target_by name first has = option_or (option_map Declared first) (if has then Some (Package name) else None)

module _ (files : List NamedFacts) (name : List ℕ) where
  kind_by : (test : DeclKind → Bool) (o : Option DeclRef) (has : Bool) → has_kind files test (target_by name o has) ≡ kind_passes test (option_map (with_kind files) o)
  kind_by test (Some r) has = refl
  kind_by test None true = refl
  kind_by test None false = refl

  settled_by : (alone : Bool) (o : Option DeclRef) (has : Bool) → settles files alone (target_by name o has) ≡ settled alone has (option_map (with_kind files) o)
  settled_by true o has = kind_by (is_type needs.MessageOrEnum) o has
  settled_by false (Some r) has = refl
  settled_by false None true = refl
  settled_by false None false = refl

module _ (move : DeclRef → DeclRef) where
  kind_kept : (test : DeclKind → Bool) (o : Option Kinded) → kind_passes test (option_map (moved move) o) ≡ kind_passes test o
  kind_kept test None = refl
  kind_kept test (Some e) = refl

  settled_kept : (alone has : Bool) (o : Option Kinded) → settled alone has (option_map (moved move) o) ≡ settled alone has o
  settled_kept true has o = kind_kept (is_type needs.MessageOrEnum) o
  settled_kept false has None = refl
  settled_kept false has (Some e) = refl

  target_moved : (name : List ℕ) (o : Option DeclRef) (has : Bool) → target_by name (option_map move o) has ≡ option_map (target_after move) (target_by name o has)
  target_moved name (Some r) has = refl
  target_moved name None true = refl
  target_moved name None false = refl

  first_without : (old new : List NamedFacts) (a b : Option DeclRef) → option_map (with_kind new) b ≡ option_map (moved move) (option_map (with_kind old) a) → b ≡ option_map move a
  first_without old new a b e = without new b ∙ ap (λ (o : Option Kinded). option_map (λ e. e.0) o) e ∙ again a
    where
      without : (files : List NamedFacts) (o : Option DeclRef) → o ≡ option_map (λ e. e.0) (option_map (with_kind files) o)
      without files None = refl
      without files (Some r) = refl

      again : (o : Option DeclRef) → option_map (λ e. e.0) (option_map (moved move) (option_map (with_kind old) o)) ≡ option_map move o
      again None = refl
      again (Some r) = refl

within_by_name : (name : List ℕ) (o : Option PackageFact) → is_within name o ≡ option_map_or (λ n. begins n name) (option_map (λ p. p.full_name) o) false
within_by_name name None = refl
within_by_name name (Some p) = refl

-- the full name of a file's package, by the file's number
abbrev pub package_at : List NamedFacts → ℕ → Option (List ℕ)
package_at files g = package_name (facts_at files g)

abbrev begins_there : List ℕ → Option (List ℕ) → Bool
begins_there name o = option_map_or (λ n. begins n name) o false

any_package : (files : List NamedFacts) (name : List ℕ) (view : List ℕ) → list_any (has_package files name) view ≡ list_any (begins_there name) (map (package_at files) view)
any_package files name view =
    any_agree (has_package files name) (λ g. begins_there name (package_at files g)) view
    (λ k d lt. let facts = facts_at files (get_or view k d) in within_by_name name facts.«package»)
    ∙ sym (any_made (begins_there name) (package_at files) view)

-- ---- what is found

module _ (old new : List NamedFacts) (f f' : ℕ) (move : DeclRef → DeclRef) (view view' : List ℕ)
    (keeps : (r : DeclRef) → near f view r ≡ true → KeepsPlace f view f' view' move r) (packages : map (package_at old) view ≡ map (package_at new) view') where
  -- the declarations of the name are the same, but for their numbers
  abbrev IsNamed : List ℕ → Type 0
  IsNamed name = seen_named new f' view' name ≡ map (moved move) (seen_named old f view name)

  abbrev old_first : List ℕ → Option DeclRef
  old_first name = first_declared f view (all_named old name)

  abbrev new_first : List ℕ → Option DeclRef
  new_first name = first_declared f' view' (all_named new name)

  abbrev old_has : List ℕ → Bool
  old_has name = list_any (has_package old name) view

  abbrev new_has : List ℕ → Bool
  new_has name = list_any (has_package new name) view'

  has_alike : (name : List ℕ) → old_has name ≡ new_has name
  has_alike name = any_package old name view ∙ ap (list_any (begins_there name)) packages ∙ sym (any_package new name view')

  module _ (name : List ℕ) (named : IsNamed name) where
    kept : All (λ e. KeepsPlace f view f' view' move e.0) (seen_named old f view name)
    kept = near_ones f view old name (KeepsPlace f view f' view' move) keeps (all_named old name)

    first_alike : option_map (with_kind new) (new_first name) ≡ option_map (moved move) (option_map (with_kind old) (old_first name))
    first_alike =
        sym (first_is f' view' new name)
        ∙ ap (λ (es : List Kinded). first_kinded f' view' es) named
        ∙ first_moved f view f' view' move (seen_named old f view name) kept
        ∙ ap (λ (o : Option Kinded). option_map (moved move) o) (first_is f view old name)

    found_alike : found new f' view' name ≡ option_map (target_after move) (found old f view name)
    found_alike =
        ap (λ (o : Option DeclRef). target_by name o (new_has name)) (first_without move old new (old_first name) (new_first name) first_alike)
        ∙ target_moved move name (old_first name) (new_has name)
        ∙ ap (λ (has : Bool). option_map (target_after move) (target_by name (old_first name) has)) (sym (has_alike name))

    kind_alike : (test : DeclKind → Bool) → has_kind old test (found old f view name) ≡ has_kind new test (found new f' view' name)
    kind_alike test =
        kind_by old name test (old_first name) (old_has name)
        ∙ sym (kind_kept move test (option_map (with_kind old) (old_first name)))
        ∙ ap (λ (o : Option Kinded). kind_passes test o) (sym first_alike)
        ∙ sym (kind_by new name test (new_first name) (new_has name))

    settles_alike : (alone : Bool) → settles old alone (found old f view name) ≡ settles new alone (found new f' view' name)
    settles_alike alone =
        settled_by old name alone (old_first name) (old_has name)
        ∙ ap (λ (has : Bool). settled alone has (option_map (with_kind old) (old_first name))) (has_alike name)
        ∙ sym (settled_kept move alone (new_has name) (option_map (with_kind old) (old_first name)))
        ∙ ap (λ (o : Option Kinded). settled alone (new_has name) o) (sym first_alike)
        ∙ sym (settled_by new name alone (new_first name) (new_has name))

    elsewhere_alike : is_declared_elsewhere old f view name ≡ is_declared_elsewhere new f' view' name
    elsewhere_alike =
        sym (elsewhere_is f view old name)
        ∙ sym (elsewhere_moved f view f' view' move (seen_named old f view name) kept)
        ∙ ap (λ (es : List Kinded). list_any (λ e. is_another f' view' e.0) es) (sym named)
        ∙ elsewhere_is f' view' new name

  -- ---- what names mean

  -- so are those of all names for which a name asks in a scope
  abbrev AreNamed : NameSite → List ℕ → Type 0
  AreNamed site s = All IsNamed (names_asked_in site s)

  first_named : (site : NameSite) (s : List ℕ) → AreNamed site s → IsNamed (joined s (first_text site))
  first_named site s all = All-head IsNamed (joined s (first_text site)) (joined_all s (texts_of site) ∷ map (λ c. c.0) (prefixes s site.components)) all

  others_named : (site : NameSite) (s : List ℕ) → AreNamed site s → All IsNamed (joined_all s (texts_of site) ∷ map (λ c. c.0) (prefixes s site.components))
  others_named site s all = All-tail IsNamed (joined s (first_text site)) (joined_all s (texts_of site) ∷ map (λ c. c.0) (prefixes s site.components)) all

  whole_named : (site : NameSite) (s : List ℕ) → AreNamed site s → IsNamed (joined_all s (texts_of site))
  whole_named site s all = All-head IsNamed (joined_all s (texts_of site)) (map (λ c. c.0) (prefixes s site.components)) (others_named site s all)

  prefixes_named : (site : NameSite) (s : List ℕ) → AreNamed site s → All (λ c. IsNamed c.0) (prefixes s site.components)
  prefixes_named site s all = each_made IsNamed (λ c. c.0) (prefixes s site.components)
      (All-tail IsNamed (joined_all s (texts_of site)) (map (λ c. c.0) (prefixes s site.components)) (others_named site s all))

  abbrev scope_by : List NamedFacts → ℕ → List ℕ → NameSite → Bool → Option (List ℕ)
  scope_by files g seen site absolute = if absolute then Some [] else find (settles_at files g seen site) site.scopes

  scope_by_alike : (site : NameSite) (absolute : Bool) → All (AreNamed site) (if absolute then [] ∷ [] else site.scopes) → scope_by old f view site absolute ≡ scope_by new f' view' site absolute
  scope_by_alike site true all = refl
  scope_by_alike site false all = find_agree (settles_at old f view site) (settles_at new f' view' site) site.scopes
      (λ k d lt. let s : List ℕ = get_or site.scopes k d in settles_alike (joined s (first_text site)) (first_named site s (all k d lt)) (length (texts_of site) == 1))

  scope_by_named : (site : NameSite) (absolute : Bool) → All (AreNamed site) (if absolute then [] ∷ [] else site.scopes) → (s : List ℕ) → scope_by new f' view' site absolute ≡ Some s → AreNamed site s
  scope_by_named site true all s e = let same : [] ≡ s = cc (e) in subst (AreNamed site) same (All-head (AreNamed site) [] [] all)
  scope_by_named site false all s e = found_has (settles_at new f' view' site) (AreNamed site) site.scopes s all e

  -- so are those of all names for which a name asks
  abbrev IsAsked : NameSite → Type 0
  IsAsked site = All IsNamed (asked_by site)

  in_scopes : (site : NameSite) → IsAsked site → All (AreNamed site) (scopes_asked site)
  in_scopes site asked = each_part IsNamed (names_asked_in site) (scopes_asked site) asked

  scope_alike : (site : NameSite) → IsAsked site → scope_of old f view site ≡ scope_of new f' view' site
  scope_alike site asked = scope_by_alike site site.is_absolute (in_scopes site asked)

  scope_named : (site : NameSite) → IsAsked site → (s : List ℕ) → scope_of new f' view' site ≡ Some s → AreNamed site s
  scope_named site asked = scope_by_named site site.is_absolute (in_scopes site asked)

  -- ---- uses

  abbrev after : NameUse → NameUse
  after u = use_after move u

  use_made : (i : ℕ) (span : Span) (o : Option Target)
      → option_map (λ t. record { span = span; name = i; target = t }) (option_map (target_after move) o) ≡ option_map after (option_map (λ t. record { span = span; name = i; target = t }) o)
  use_made i span None = refl
  use_made i span (Some t) = refl

  use_alike : (i : ℕ) (c : List ℕ × Span) → IsNamed c.0 → use_at new f' view' i c ≡ option_map after (use_at old f view i c)
  use_alike i c named =
      ap (λ (o : Option Target). option_map (λ t. record { span = c.1; name = i; target = t }) o) (found_alike c.0 named)
      ∙ use_made i c.1 (found old f view c.0)

  with_first : (o : Option NameUse) (us : List NameUse) → cons_option (option_map after o) (map after us) ≡ map after (cons_option o us)
  with_first None us = refl
  with_first (Some u) us = refl

  uses_in_alike : (i : ℕ) (cs : List (List ℕ × Span)) → All (λ c. IsNamed c.0) cs → filter_map (use_at new f' view' i) cs ≡ map after (filter_map (use_at old f view i) cs)
  uses_in_alike i [] all = refl
  uses_in_alike i (c ∷ cs) all =
      ap₂ (λ (o : Option NameUse) (us : List NameUse). cons_option o us)
      (use_alike i c (All-head (λ c. IsNamed c.0) c cs all)) (uses_in_alike i cs (All-tail (λ c. IsNamed c.0) c cs all))
      ∙ with_first (use_at old f view i c) (filter_map (use_at old f view i) cs)

  if_there : (there : Bool) (us : List NameUse) → (if there then map after us else []) ≡ map after (if there then us else [])
  if_there true us = refl
  if_there false us = refl

  uses_at_alike : (i : ℕ) (site : NameSite) (s : List ℕ) → AreNamed site s → uses_at new f' view' i site s ≡ map after (uses_at old f view i site s)
  uses_at_alike i site s all =
      let name : List ℕ = joined_all s (texts_of site) in
      ap₂ (λ (there : Bool) (us : List NameUse). if there then us else [])
      (ap (λ (t : Option Target). is_some t) (found_alike name (whole_named site s all)) ∙ as_there (target_after move) (found old f view name))
      (uses_in_alike i (prefixes s site.components) (prefixes_named site s all))
      ∙ if_there (is_some (found old f view name)) (uses_in old f view i s site.components)

  uses_by_scope : (i : ℕ) (site : NameSite) (o : Option (List ℕ)) → ((s : List ℕ) → o ≡ Some s → AreNamed site s)
      → option_map_or (uses_at new f' view' i site) o [] ≡ map after (option_map_or (uses_at old f view i site) o [])
  uses_by_scope i site None named = refl
  uses_by_scope i site (Some s) named = uses_at_alike i site s (named s refl)

  uses_of_alike : (i : ℕ) (site : NameSite) → IsAsked site → uses_of new f' view' i site ≡ map after (uses_of old f view i site)
  uses_of_alike i site asked =
      uses_by_scope i site (scope_of new f' view' site) (scope_named site asked)
      ∙ ap (λ (o : Option (List ℕ)). map after (option_map_or (uses_at old f view i site) o [])) (sym (scope_alike site asked))

  abbrev uses_from : List NamedFacts → ℕ → List ℕ → ℕ → List NameSite → List NameUse
  uses_from files g seen n sites = flat_map (λ e. uses_of files g seen e.0 e.1) (enumerate_from n sites)

  uses_alike : (n : ℕ) (sites : List NameSite) → All IsAsked sites → uses_from new f' view' n sites ≡ map after (uses_from old f view n sites)
  uses_alike n [] all = refl
  uses_alike n (site ∷ sites) all =
      ap₂ (λ (us vs : List NameUse). us ++ vs) (uses_of_alike n site (All-head IsAsked site sites all)) (uses_alike (n + 1) sites (All-tail IsAsked site sites all))
      ∙ sym (map-append after (uses_of old f view n site) (uses_from old f view (n + 1) sites))

  -- ---- what is wrong

  diagnostics_by_kind : (n : NameSite) (t : Option Target) → has_kind old (is_type n.needs) t ≡ has_kind new (is_type n.needs) (option_map (target_after move) t)
      → diagnostics_of_meaning old f view n t ≡ diagnostics_of_meaning new f' view' n (option_map (target_after move) t)
  diagnostics_by_kind n None e = refl
  diagnostics_by_kind n (Some t) e = ap (λ (fits : Bool). if fits then [] else diag m.WrongKind n.span ∷ []) e

  meaning_diagnostics : (n : NameSite) (name : List ℕ) → IsNamed name → diagnostics_of_meaning old f view n (found old f view name) ≡ diagnostics_of_meaning new f' view' n (found new f' view' name)
  meaning_diagnostics n name named =
      diagnostics_by_kind n (found old f view name)
      (kind_alike name named (is_type n.needs) ∙ ap (λ (t : Option Target). has_kind new (is_type n.needs) t) (found_alike name named))
      ∙ ap (λ (t : Option Target). diagnostics_of_meaning new f' view' n t) (sym (found_alike name named))

  abbrev diagnostics_by_scope : List NamedFacts → ℕ → List ℕ → NameSite → Option (List ℕ) → List Diag
  diagnostics_by_scope files g seen n o = diagnostics_of_meaning files g seen n (option_and_then (λ s. found files g seen (joined_all s (texts_of n))) o)

  scope_diagnostics : (n : NameSite) (o : Option (List ℕ)) → ((s : List ℕ) → o ≡ Some s → AreNamed n s) → diagnostics_by_scope old f view n o ≡ diagnostics_by_scope new f' view' n o
  scope_diagnostics n None named = refl
  scope_diagnostics n (Some s) named = meaning_diagnostics n (joined_all s (texts_of n)) (whole_named n s (named s refl))

  name_diagnostics_alike : (n : NameSite) → IsAsked n → name_diagnostics old f view n ≡ name_diagnostics new f' view' n
  name_diagnostics_alike n asked =
      ap (λ (o : Option (List ℕ)). diagnostics_by_scope old f view n o) (scope_alike n asked)
      ∙ scope_diagnostics n (scope_of new f' view' n) (scope_named n asked)

  decl_diagnostics_alike : (d : Decl) → IsNamed d.full_name → decl_diagnostics old f view d ≡ decl_diagnostics new f' view' d
  decl_diagnostics_alike d named =
      ap₂ (λ (elsewhere has : Bool). (if elsewhere then diag m.DeclaredElsewhere d.name_span ∷ [] else []) ++ (if has then diag m.NameIsPackage d.name_span ∷ [] else []))
      (elsewhere_alike d.full_name named) (has_alike d.full_name)

-- ---- the whole

-- whether an import names a file, and whether it closes a cycle
abbrev pub said_of_import : Option ℕ × Bool → Bool × Bool
said_of_import i = (is_some i.0, i.1)

abbrev import_diagnostics_by : ImportFact → Bool × Bool → List Diag
import_diagnostics_by i (false, closes) = diag m.ImportNotFound i.span ∷ []
import_diagnostics_by i (true, closes) = if closes then diag m.ImportCycle i.span ∷ [] else []

target_diagnostics : (files : List NamedFacts) (f : ℕ) (i : ImportFact) (t : Option ℕ)
    → diagnostics_of_target files f i t ≡ import_diagnostics_by i (said_of_import (import_outlook (graph_of files) f t))
target_diagnostics files f i None = refl
target_diagnostics files f i (Some g) = refl

abbrev all_said : List NamedFacts → ℕ → List (Bool × Bool)
all_said files f = map said_of_import (imports_outlook (graph_of files) f)

import_diagnostics_said : (files : List NamedFacts) (f : ℕ) (e : ℕ × ImportFact) → import_diagnostics files f e ≡ import_diagnostics_by e.1 (get_or (all_said files f) e.0 (false, false))
import_diagnostics_said files f e =
    target_diagnostics files f e.1 (target_at (graph_of files) f e.0)
    ∙ ap (λ (i : Option ℕ × Bool). import_diagnostics_by e.1 (said_of_import i)) (sym (said_at (graph_of files) f e.0))
    ∙ ap (import_diagnostics_by e.1) (sym (get_or-map said_of_import (imports_outlook (graph_of files) f) e.0 (None, false)))

import_diagnostics_alike : (old new : List NamedFacts) (f f' : ℕ) → all_said old f ≡ all_said new f' → (e : ℕ × ImportFact) → import_diagnostics old f e ≡ import_diagnostics new f' e
import_diagnostics_alike old new f f' same e =
    import_diagnostics_said old f e
    ∙ ap (λ (said : List (Bool × Bool)). import_diagnostics_by e.1 (get_or said e.0 (false, false))) same
    ∙ sym (import_diagnostics_said new f' e)

abbrev joined_diagnostics : Bool → List Diag → List Diag → List Diag → List Diag
joined_diagnostics closed of_names of_imports of_decls = (if closed then of_names else []) ++ (of_imports ++ of_decls)

-- What the file f is told among old files and the file f' among new ones: the imports are as they were but for the files that they name,
-- and the declarations of each of the names are those that `move` makes of the old ones.
pub record IsToldTheSame (old new : List NamedFacts) (f f' : ℕ) (move : DeclRef → DeclRef) (names : List (List ℕ)) : Type 0 where
  pub own : facts_at old f ≡ facts_at new f'
  pub closed : is_closed (graph_of old) f ≡ is_closed (graph_of new) f'
  pub imports : map said_of_import (imports_outlook (graph_of old) f) ≡ map said_of_import (imports_outlook (graph_of new) f')
  pub packages : map (package_at old) (view_of (graph_of old) f) ≡ map (package_at new) (view_of (graph_of new) f')
  pub keeps : (r : DeclRef) → near f (view_of (graph_of old) f) r ≡ true → KeepsPlace f (view_of (graph_of old) f) f' (view_of (graph_of new) f') move r
  pub named : All (λ name. seen_named new f' (view_of (graph_of new) f') name ≡ map (moved move) (seen_named old f (view_of (graph_of old) f) name)) names

module _ (old new : List NamedFacts) (f f' : ℕ) (move : DeclRef → DeclRef) (text : List ℕ) (tree : FileTree)
    (same : IsToldTheSame old new f f' move (names_asked (sites_at new f' text tree) (decls_at new f'))) where
  abbrev view : List ℕ
  view = view_of (graph_of old) f

  abbrev view' : List ℕ
  view' = view_of (graph_of new) f'

  abbrev sites : List NameSite
  sites = sites_at new f' text tree

  abbrev decls : List Decl
  decls = decls_at new f'

  sites_same : sites_at old f text tree ≡ sites
  sites_same = ap (λ (facts : FileFacts). names_of_file text facts tree.nodes) same.own

  -- the declarations of a name that the file sees are the same, but for their numbers
  abbrev SameNamed : List ℕ → Type 0
  SameNamed name = IsNamed old new f f' move view view' same.keeps same.packages name

  sites_asked : All (λ site. All SameNamed (asked_by site)) sites
  sites_asked = each_part SameNamed asked_by sites (all_left SameNamed (flat_map asked_by sites) (map (λ d. d.full_name) decls) same.named)

  decls_asked : All (λ d. SameNamed d.full_name) decls
  decls_asked = each_made SameNamed (λ d. d.full_name) decls (all_right SameNamed (flat_map asked_by sites) (map (λ d. d.full_name) decls) same.named)

  uses_same : uses new f' view' sites ≡ map (use_after move) (uses old f view (sites_at old f text tree))
  uses_same =
      uses_alike old new f f' move view view' same.keeps same.packages 0 sites sites_asked
      ∙ ap (λ (ns : List NameSite). map (use_after move) (uses old f view ns)) (sym sites_same)

  names_same : flat_map (name_diagnostics old f view) (sites_at old f text tree) ≡ flat_map (name_diagnostics new f' view') sites
  names_same =
      ap (λ (ns : List NameSite). flat_map (name_diagnostics old f view) ns) sites_same
      ∙ flat_agree (name_diagnostics old f view) (name_diagnostics new f' view') sites
      (λ k d lt. name_diagnostics_alike old new f f' move view view' same.keeps same.packages (get_or sites k d) (sites_asked k d lt))

  abbrev imports_of : FileFacts → List (ℕ × ImportFact)
  imports_of facts = enumerate_from 0 facts.imports

  of_imports_same : flat_map (import_diagnostics old f) (imports_of (facts_at old f)) ≡ flat_map (import_diagnostics new f') (imports_of (facts_at new f'))
  of_imports_same =
      ap (λ (facts : FileFacts). flat_map (import_diagnostics old f) (imports_of facts)) same.own
      ∙ ap (λ (of_import : ℕ × ImportFact → List Diag). flat_map of_import (imports_of (facts_at new f'))) (fun_ext (import_diagnostics_alike old new f f' same.imports))

  decls_same : flat_map (decl_diagnostics old f view) (decls_at old f) ≡ flat_map (decl_diagnostics new f' view') decls
  decls_same =
      ap (λ (facts : FileFacts). flat_map (decl_diagnostics old f view) facts.decls) same.own
      ∙ flat_agree (decl_diagnostics old f view) (decl_diagnostics new f' view') decls
      (λ k d lt. decl_diagnostics_alike old new f f' move view view' same.keeps same.packages (get_or decls k d) (decls_asked k d lt))

  diagnostics_same : view_diagnostics old f (sites_at old f text tree) ≡ view_diagnostics new f' sites
  diagnostics_same =
      ap₂ (λ (closed : Bool) (of_names : List Diag). joined_diagnostics closed of_names
      (flat_map (import_diagnostics old f) (imports_of (facts_at old f))) (flat_map (decl_diagnostics old f view) (decls_at old f)))
      same.closed names_same
      ∙ ap₂ (λ (of_imports of_decls : List Diag). joined_diagnostics (is_closed (graph_of new) f') (flat_map (name_diagnostics new f' view') sites) of_imports of_decls)
      of_imports_same decls_same

  -- a file that is told the same is linked as before, but for what `move` makes of the declarations
  pub resolved_same : resolved new f' text tree ≡ links_after move (resolved old f text tree)
  resolved_same =
      ap₂ (λ (listed : List NameUse) (wrong : List Diag). let links : Links = record { uses = listed; diags = in_order wrong } in links)
      uses_same (sym diagnostics_same)

-- ---- the same number

maps_agree : {X Y : Type 0} (g h : X → Y) (xs : List X) → All (λ x. g x ≡ h x) xs → map g xs ≡ map h xs
maps_agree g h [] all = refl
maps_agree {Y = Y} g h (x ∷ xs) all = ap₂ (λ (y : Y) (ys : List Y). y ∷ ys) (All-head (λ x. g x ≡ h x) x xs all) (maps_agree g h xs (All-tail (λ x. g x ≡ h x) x xs all))

module _ (old new : List NamedFacts) (f : ℕ) (move : DeclRef → DeclRef) (keeps : (r : DeclRef) → (let s = move r in s.file) ≡ r.file) (names : List (List ℕ))
    (same : AsksTheSame old new f move names) where
  abbrev view_of_new : List ℕ
  view_of_new = view_of (graph_of new) f

  view_same : view_of (graph_of old) f ≡ view_of_new
  view_same = ap (λ said. said.0) same.imports

  told_the_same : IsToldTheSame old new f f move names
  told_the_same = record {
    own = same.own;
    closed = ap (λ said. said.1.0) same.imports;
    imports = ap (λ said. map said_of_import said.1.1) same.imports;
    packages = ap (λ (seen : List ℕ). map (package_at old) seen) view_same ∙ maps_agree (package_at old) (package_at new) view_of_new same.packages;
    keeps = λ r here. record {
      own = ap (λ (g : ℕ). g == f) (keeps r);
      seen = ap (λ (g : ℕ). is_seen view_of_new g) (keeps r) ∙ ap (λ (seen : List ℕ). is_seen seen r.file) (sym view_same);
    };
    named = λ k d lt. same.named k d lt ∙ ap (λ (seen : List ℕ). map (moved move) (seen_named old f seen (get_or names k d))) (sym view_same);
  }

pub asked_law : AskedLaw
asked_law old new f move text tree keeps same =
    resolved_same old new f f move text tree (told_the_same old new f move keeps (names_asked (sites_at new f text tree) (decls_at new f)) same)
