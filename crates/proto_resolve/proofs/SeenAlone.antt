-- What a file finds, and what is known of it, by what it sees alone.
use Rattle.std.proofs.Common.{◌≡◌, ◌∙◌, sym, ap, inl, inr, ℕ, ◌+◌, ◌==◌, List, [], ◌∷◌, ◌++◌, Bool, true, false, ◌||◌, Option, Some, None, find, filter, length, get_or, refl, arith}
use Rattle.std.specs.Prelude.{All, ⊤, bytes_eq, is_some, option_and_then, option_map, if◌then◌else◌}
use Rattle.std.specs.Option.{option_map_or, option_or}
use Rattle.std.specs.List.{enumerate_from, filter_map, flat_map, list_any}
use Rattle.std.proofs.Math.Path.{fun_ext}
use Rattle.std.proofs.lemmas.Bool.{cases_Bool}
use Rattle.std.proofs.lemmas.Bool.Decides.{Decides-eqb}
use Rattle.std.proofs.lemmas.List.Elements.{All-head, All-tail}
use Rattle.proto_tree.specs.declared.node.FileTree.{FileTree}
use Rattle.proto_decls.specs.declared.diagnostic.Diag.{Diag}
use Rattle.proto_decls.specs.declared.fact.Decl.{Decl}
use Rattle.proto_decls.specs.declared.fact.DeclKind.{DeclKind}
use Rattle.proto_decls.specs.declared.fact.FileFacts.{FileFacts}
use Rattle.proto_decls.specs.declared.fact.ImportFact.{ImportFact}
use Rattle.proto_decls.specs.declared.problem.Problem.TheVariants as m
use Rattle.proto_decls.specs.Diags.{diag}
use Rattle.proto_decls.specs.Order.{in_order}
use Rattle.proto_decls.specs.Text.{joined}
use Rattle.proto_decls.specs.declared.named_facts.NamedFacts.{NamedFacts}
use Rattle.import_graph.specs.Imports.{graph_of, target_at}
use Rattle.import_graph.specs.Closures.{is_closed, view_of}
use Rattle.import_graph.specs.Outlooks.{import_outlook, imports_outlook}
use Rattle.import_graph.proofs.Outlooks.{said_at}
use Rattle.proto_resolve.specs.declared.resolve.Links.{Links}
use Rattle.proto_resolve.specs.declared.site.NameSite.{NameSite}
use Rattle.proto_resolve.specs.declared.site.Needs.TheVariants as needs
use Rattle.proto_names.specs.declared.decl_ref.DeclRef.{DeclRef}
use Rattle.proto_resolve.specs.declared.target.Target.{Target}
use Rattle.proto_resolve.specs.declared.target.Target.TheVariants.{Declared, Package}
use Rattle.proto_resolve.specs.declared.uses.NameUse.{NameUse}
use Rattle.proto_names.specs.Files.{all_decls, all_named, decl_at, facts_at, has_package, is_seen}
use Rattle.proto_resolve.specs.Names.{first_declared, first_text, found, has_kind, is_type, joined_all, meaning, scope_of, settles, settles_at, texts_of}
use Rattle.proto_names.specs.Holders.{is_holder}
use Rattle.proto_resolve.specs.Resolved.{resolved, sites_at}
use Rattle.proto_names.specs.Outlines.{exports}
use Rattle.proto_resolve.specs.Seen.{SeenLaw, SeesTheSame}
use Rattle.proto_resolve.specs.Sites.{names_of_file}
use Rattle.proto_resolve.specs.Uses.{prefixes, uses}
use Rattle.proto_resolve.specs.ViewDiagnostics.{decl_diagnostics, diagnostics_of_meaning, diagnostics_of_target, import_diagnostics, is_declared_elsewhere, name_diagnostics, view_diagnostics}
use Rattle.proto_names.proofs.Alike.{any_agree, any_alike, filter_kept, filter_swap, find_alike}
use Rattle.proto_resolve.proofs.Firsts.{find_passes, is_another, is_own, is_visible}
use Rattle.proto_resolve.proofs.Exports.{as_many, decls_alike, kind_at, name_at, within_alike}

abbrev has_name : List NamedFacts → List ℕ → DeclRef → Bool
has_name files name r = bytes_eq (let d = decl_at files r in d.full_name) name

module _ (old new : List NamedFacts) (f : ℕ) (view : List ℕ) (lengths : length old ≡ length new) (own : facts_at old f ≡ facts_at new f)
    (seen : All (λ g. exports (facts_at old g) ≡ exports (facts_at new g)) view) where
  abbrev TellsTheSame : ℕ → Type 0
  TellsTheSame g = exports (facts_at old g) ≡ exports (facts_at new g)

  -- f itself, or a file of the view
  abbrev is_near : ℕ → Bool
  is_near g = (g == f) || is_seen view g

  own_near : (g : ℕ) → (g == f) ≡ true → is_near g ≡ true
  own_near g e = rw e refl

  seen_near : (g : ℕ) → is_seen view g ≡ true → is_near g ≡ true
  seen_near g e = elim (cases_Bool (g == f)) [
    | inl own_file ↦ rw own_file refl
    | inr other ↦ rw other e
  ]

  another_near : (r : DeclRef) → is_another f view r ≡ true → is_near r.file ≡ true
  another_near r e = elim (cases_Bool (r.file == f)) [
    | inl own_file ↦ rw own_file refl
    | inr other ↦ rw other (rw other at e)
  ]

  seen_tells : (gs : List ℕ) → All TellsTheSame gs → (g : ℕ) → is_seen gs g ≡ true → TellsTheSame g
  seen_tells [] all g e = absurd (cc (e))
  seen_tells (h ∷ gs) all g e = elim (cases_Bool (h == g)) [
    | inl same ↦ let equal : h ≡ g = (Decides-eqb h g).0 same in rw (← equal) (All-head TellsTheSame h gs all)
    | inr other ↦ seen_tells gs (All-tail TellsTheSame h gs all) g (rw other at e)
  ]

  near_tells : (g : ℕ) → is_near g ≡ true → TellsTheSame g
  near_tells g e = elim (cases_Bool (g == f)) [
    | inl same ↦ let equal : g ≡ f = (Decides-eqb g f).0 same in rw equal (ap (λ (facts : FileFacts). exports facts) own)
    | inr other ↦ seen_tells view seen g (rw other at e)
  ]

  -- ---- what is found

  abbrev near : DeclRef → Bool
  near r = is_near r.file

  name_alike : (name : List ℕ) (r : DeclRef) → near r ≡ true → has_name old name r ≡ has_name new name r
  name_alike name r e = ap (λ (n : List ℕ). bytes_eq n name) (name_at (facts_at old r.file) (facts_at new r.file) (near_tells r.file e) r.number)

  named_alike : (name : List ℕ) → filter near (all_named old name) ≡ filter near (all_named new name)
  named_alike name =
      filter_swap near (has_name old name) (all_decls old)
      ∙ ap (λ (rs : List DeclRef). filter (has_name old name) rs)
      (decls_alike is_near 0 old new lengths (λ k e. as_many (facts_at old k) (facts_at new k) (near_tells k (let here : 0 + k ≡ k = omega arith in rw here at e))))
      ∙ filter_kept near (has_name old name) (has_name new name) (name_alike name) (all_decls new)
      ∙ filter_swap (has_name new name) near (all_decls new)

  first_alike : (name : List ℕ) → first_declared f view (all_named old name) ≡ first_declared f view (all_named new name)
  first_alike name =
      rw (
        find_alike near (all_named old name) (all_named new name) (named_alike name) (is_own f) (λ r e. own_near r.file e),
        find_alike near (all_named old name) (all_named new name) (named_alike name) (is_visible view) (λ r e. seen_near r.file e),
      ) refl

  has_alike : (name : List ℕ) → list_any (has_package old name) view ≡ list_any (has_package new name) view
  has_alike name = any_agree (has_package old name) (has_package new name) view
      (λ k d lt. within_alike (facts_at old (get_or view k d)) (facts_at new (get_or view k d)) (seen k d lt) name)

  abbrev target_by : List ℕ → Option DeclRef → Bool → Option Target
  target_by name first has = option_or (option_map Declared first) (if has then Some (Package name) else None)

  found_alike : (name : List ℕ) → found old f view name ≡ found new f view name
  found_alike name =
      ap (λ (first : Option DeclRef). target_by name first (list_any (has_package old name) view)) (first_alike name)
      ∙ ap (λ (has : Bool). target_by name (first_declared f view (all_named new name)) has) (has_alike name)

  -- ---- kinds of what is found

  abbrev IsNear : Option Target → Type 0
  IsNear (Some (Declared r)) = near r ≡ true
  IsNear (Some (Package name)) = ⊤
  IsNear None = ⊤

  target_near : (name : List ℕ) (a b : Option DeclRef) (has : Bool) → ((r : DeclRef) → a ≡ Some r → near r ≡ true) → ((r : DeclRef) → b ≡ Some r → near r ≡ true)
      → IsNear (target_by name (option_or a b) has)
  target_near name (Some r) b has left right = left r refl
  target_near name None (Some r) has left right = right r refl
  target_near name None None true left right = tt
  target_near name None None false left right = tt

  found_near : (name : List ℕ) → IsNear (found new f view name)
  found_near name =
      target_near name (find (is_own f) (all_named new name)) (find (is_visible view) (all_named new name)) (list_any (has_package new name) view)
      (λ r e. own_near r.file (find_passes (is_own f) (all_named new name) r e))
      (λ r e. seen_near r.file (find_passes (is_visible view) (all_named new name) r e))

  kind_alike : (test : DeclKind → Bool) (t : Option Target) → IsNear t → has_kind old test t ≡ has_kind new test t
  kind_alike test (Some (Declared r)) e = ap (λ (k : DeclKind). test k) (kind_at (facts_at old r.file) (facts_at new r.file) (near_tells r.file e) r.number)
  kind_alike test (Some (Package name)) e = refl
  kind_alike test None e = refl

  settles_alike : (alone : Bool) (t : Option Target) → IsNear t → settles old alone t ≡ settles new alone t
  settles_alike true t e = kind_alike (is_type needs.MessageOrEnum) t e
  settles_alike false (Some (Declared r)) e = kind_alike is_holder (Some (Declared r)) e
  settles_alike false (Some (Package name)) e = refl
  settles_alike false None e = refl

  -- ---- what names mean

  settles_at_alike : (site : NameSite) → settles_at old f view site ≡ settles_at new f view site
  settles_at_alike site = fun_ext λ s.
      let name : List ℕ = joined s (first_text site) in
      ap (λ (t : Option Target). settles old (length (texts_of site) == 1) t) (found_alike name)
      ∙ settles_alike (length (texts_of site) == 1) (found new f view name) (found_near name)

  scope_alike : (site : NameSite) → scope_of old f view site ≡ scope_of new f view site
  scope_alike site = ap (λ (test : List ℕ → Bool). if site.is_absolute then Some [] else find test site.scopes) (settles_at_alike site)

  abbrev meaning_by : (List ℕ → Option Target) → NameSite → Option (List ℕ) → Option Target
  meaning_by finds site scope = option_and_then (λ s. finds (joined_all s (texts_of site))) scope

  meaning_alike : (site : NameSite) → meaning old f view site ≡ meaning new f view site
  meaning_alike site =
      ap (λ (finds : List ℕ → Option Target). meaning_by finds site (scope_of old f view site)) (fun_ext found_alike)
      ∙ ap (λ (scope : Option (List ℕ)). meaning_by (found new f view) site scope) (scope_alike site)

  meaning_near : (site : NameSite) (scope : Option (List ℕ)) → IsNear (meaning_by (found new f view) site scope)
  meaning_near site None = tt
  meaning_near site (Some s) = found_near (joined_all s (texts_of site))

  -- ---- uses

  abbrev uses_by : (List ℕ → Option Target) → (NameSite → Option (List ℕ)) → List NameSite → List NameUse
  uses_by finds scope sites = flat_map (λ e. option_map_or (λ s.
      if is_some (finds (joined_all s (texts_of e.1)))
      then filter_map (λ c. option_map (λ t. record { span = c.1; name = e.0; target = t }) (finds c.0)) (prefixes s (let n = e.1 in n.components))
      else []) (scope e.1) []) (enumerate_from 0 sites)

  uses_alike : (sites : List NameSite) → uses old f view sites ≡ uses new f view sites
  uses_alike sites =
      ap (λ (finds : List ℕ → Option Target). uses_by finds (scope_of old f view) sites) (fun_ext found_alike)
      ∙ ap (λ (scope : NameSite → Option (List ℕ)). uses_by (found new f view) scope sites) (fun_ext scope_alike)

  -- ---- what is wrong

  meaning_diagnostics_alike : (n : NameSite) (t : Option Target) → IsNear t → diagnostics_of_meaning old f view n t ≡ diagnostics_of_meaning new f view n t
  meaning_diagnostics_alike n None e = refl
  meaning_diagnostics_alike n (Some t) e = ap (λ (fits : Bool). if fits then [] else diag m.WrongKind n.span ∷ []) (kind_alike (is_type n.needs) (Some t) e)

  name_diagnostics_alike : (n : NameSite) → name_diagnostics old f view n ≡ name_diagnostics new f view n
  name_diagnostics_alike n =
      ap (λ (t : Option Target). diagnostics_of_meaning old f view n t) (meaning_alike n)
      ∙ meaning_diagnostics_alike n (meaning new f view n) (meaning_near n (scope_of new f view n))

  elsewhere_alike : (name : List ℕ) → is_declared_elsewhere old f view name ≡ is_declared_elsewhere new f view name
  elsewhere_alike name = any_alike near (all_named old name) (all_named new name) (named_alike name) (is_another f view) another_near

  abbrev decl_diagnostics_by : Decl → Bool → Bool → List Diag
  decl_diagnostics_by d elsewhere has =
      (if elsewhere then diag m.DeclaredElsewhere d.name_span ∷ [] else []) ++ (if has then diag m.NameIsPackage d.name_span ∷ [] else [])

  decl_diagnostics_alike : (d : Decl) → decl_diagnostics old f view d ≡ decl_diagnostics new f view d
  decl_diagnostics_alike d =
      ap (λ (elsewhere : Bool). decl_diagnostics_by d elsewhere (list_any (has_package old d.full_name) view)) (elsewhere_alike d.full_name)
      ∙ ap (λ (has : Bool). decl_diagnostics_by d (is_declared_elsewhere new f view d.full_name) has) (has_alike d.full_name)

-- ---- the whole

-- the diagnostics of an import by what it names and whether it closes a cycle
abbrev import_diagnostics_by : ImportFact → Option ℕ × Bool → List Diag
import_diagnostics_by i (None, closes) = diag m.ImportNotFound i.span ∷ []
import_diagnostics_by i (Some g, closes) = if closes then diag m.ImportCycle i.span ∷ [] else []

target_diagnostics : (files : List NamedFacts) (f : ℕ) (i : ImportFact) (t : Option ℕ) → diagnostics_of_target files f i t ≡ import_diagnostics_by i (import_outlook (graph_of files) f t)
target_diagnostics files f i None = refl
target_diagnostics files f i (Some g) = refl

import_diagnostics_said : (files : List NamedFacts) (f : ℕ) (e : ℕ × ImportFact) → import_diagnostics files f e ≡ import_diagnostics_by e.1 (get_or (imports_outlook (graph_of files) f) e.0 (None, false))
import_diagnostics_said files f e =
    target_diagnostics files f e.1 (target_at (graph_of files) f e.0)
    ∙ ap (import_diagnostics_by e.1) (sym (said_at (graph_of files) f e.0))

import_diagnostics_alike : (old new : List NamedFacts) (f : ℕ) → imports_outlook (graph_of old) f ≡ imports_outlook (graph_of new) f → (e : ℕ × ImportFact) → import_diagnostics old f e ≡ import_diagnostics new f e
import_diagnostics_alike old new f same e =
    import_diagnostics_said old f e
    ∙ ap (λ (said : List (Option ℕ × Bool)). import_diagnostics_by e.1 (get_or said e.0 (None, false))) same
    ∙ sym (import_diagnostics_said new f e)

abbrev diagnostics_by : Bool → FileFacts → (NameSite → List Diag) → (ℕ × ImportFact → List Diag) → (Decl → List Diag) → List NameSite → List Diag
diagnostics_by closed facts of_names of_imports of_decls sites =
    (if closed then flat_map of_names sites else []) ++ (flat_map of_imports (enumerate_from 0 facts.imports) ++ flat_map of_decls facts.decls)

module _ (old new : List NamedFacts) (f : ℕ) (same : SeesTheSame old new f) (text : List ℕ) (tree : FileTree) where
  abbrev view : List ℕ
  view = view_of (graph_of new) f

  abbrev sites : List NameSite
  sites = sites_at new f text tree

  view_same : view_of (graph_of old) f ≡ view
  view_same = ap (λ said. said.0) same.imports

  closed_same : is_closed (graph_of old) f ≡ is_closed (graph_of new) f
  closed_same = ap (λ said. said.1.0) same.imports

  imports_same : imports_outlook (graph_of old) f ≡ imports_outlook (graph_of new) f
  imports_same = ap (λ said. said.1.1) same.imports

  uses_same : uses old f (view_of (graph_of old) f) (sites_at old f text tree) ≡ uses new f view sites
  uses_same =
      ap (λ (seen : List ℕ). uses old f seen (sites_at old f text tree)) view_same
      ∙ ap (λ (facts : FileFacts). uses old f view (names_of_file text facts tree.nodes)) same.own
      ∙ uses_alike old new f view same.files same.own same.seen sites

  -- the diagnostics by the files as they were, by a view, whether it is closed, and the facts of f
  abbrev old_diagnostics : List ℕ → Bool → FileFacts → List Diag
  old_diagnostics seen closed facts =
      diagnostics_by closed facts (name_diagnostics old f seen) (import_diagnostics old f) (decl_diagnostics old f seen) (names_of_file text facts tree.nodes)

  abbrev diagnostics : (NameSite → List Diag) → (ℕ × ImportFact → List Diag) → (Decl → List Diag) → List Diag
  diagnostics of_names of_imports of_decls = diagnostics_by (is_closed (graph_of new) f) (facts_at new f) of_names of_imports of_decls sites

  diagnostics_same : view_diagnostics old f (sites_at old f text tree) ≡ view_diagnostics new f sites
  diagnostics_same =
      ap (λ (seen : List ℕ). old_diagnostics seen (is_closed (graph_of old) f) (facts_at old f)) view_same
      ∙ ap (λ (closed : Bool). old_diagnostics view closed (facts_at old f)) closed_same
      ∙ ap (λ (facts : FileFacts). old_diagnostics view (is_closed (graph_of new) f) facts) same.own
      ∙ ap (λ (of_names : NameSite → List Diag). diagnostics of_names (import_diagnostics old f) (decl_diagnostics old f view))
      (fun_ext (name_diagnostics_alike old new f view same.files same.own same.seen))
      ∙ ap (λ (of_imports : ℕ × ImportFact → List Diag). diagnostics (name_diagnostics new f view) of_imports (decl_diagnostics old f view))
      (fun_ext (import_diagnostics_alike old new f imports_same))
      ∙ ap (λ (of_decls : Decl → List Diag). diagnostics (name_diagnostics new f view) (import_diagnostics new f) of_decls)
      (fun_ext (decl_diagnostics_alike old new f view same.files same.own same.seen))

  abbrev links : List NameUse → List Diag → Links
  links listed wrong = record { uses = listed; diags = in_order wrong }

  resolved_same : resolved old f text tree ≡ resolved new f text tree
  resolved_same =
      ap (λ (listed : List NameUse). links listed (view_diagnostics old f (sites_at old f text tree))) uses_same
      ∙ ap (λ (wrong : List Diag). links (uses new f view sites) wrong) diagnostics_same

pub seen_law : SeenLaw
seen_law old new f within same text tree = resolved_same old new f same text tree
