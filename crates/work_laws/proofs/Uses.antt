-- Each name of each file of a workspace has its uses.
use Rattle.std.proofs.Common.{◌≡◌, ◌∙◌, sym, subst, ℕ, ◌+◌, ◌<◌, ◌==◌, List, [], ◌∷◌, Bool, true, Option, Some, None, length, get_or, refl, arith}
use Rattle.std.specs.Prelude.{◌≢◌, All, IsUtf8, option_and_then}
use Rattle.std.specs.List.{enumerate_from}
use Rattle.std.proofs.lemmas.List.{length-map}
use Rattle.std.proofs.lemmas.List.Elements.{All-nil, All-cons, All-head, All-map, All-tail, All-weaker}
use Rattle.proto_tree.specs.Identifiers.{IsIdentifier}
use Rattle.proto_tree.specs.Read.{value_tree}
use Rattle.proto_decls.specs.Facts.{facts_by}
use Rattle.proto_tree.specs.Names.{type_components_in}
use Rattle.proto_decls.specs.IdentifierLaws.{HasIdentifiers, IsIdentifierIn, NamesAreIdentifiers}
use Rattle.proto_decls.specs.Nesting.{NamesNest}
use Rattle.proto_decls.specs.Text.{text_at}
use Rattle.import_graph.specs.Closures.{sees, view_of}
use Rattle.import_graph.specs.Imports.{graph_of, imports_of}
use Rattle.proto_decls.specs.declared.named_facts.NamedFacts.{NamedFacts}
use Rattle.proto_resolve.specs.declared.site.NameSite.{NameSite}
use Rattle.proto_resolve.specs.declared.target.Target.{Target}
use Rattle.proto_names.specs.Files.{facts_at, is_seen}
use Rattle.proto_resolve.specs.declared.uses.NameUse.{NameUse}
use Rattle.proto_resolve.specs.Laws.{AreUsesOf, UsesLaw}
use Rattle.proto_resolve.specs.Names.{found, joined_all, scope_of, texts_of}
use Rattle.proto_resolve.specs.Uses.{uses_of}
use Rattle.work_laws.proofs.Components.{of_names}
use Rattle.proto_resolve.proofs.Firsts.{agrees}
use Rattle.proto_resolve.proofs.Members.{to_any}
use Rattle.proto_resolve.proofs.UsesByName.{uses_by_name}
use Rattle.work_laws.specs.UseLaws.{HasItsUses, NamesHaveTheirUses, names_in, uses_in, view_in}
use Rattle.work_index.specs.Workspace.{SourceAt, Workspace, all_facts, named_facts}

-- a file sees itself
sees_itself : (files : List NamedFacts) (f : ℕ) → f < length files → is_seen (view_of (graph_of files) f) f ≡ true
sees_itself files f there =
    let as_long : length (graph_of files) ≡ length files = length-map files (λ x. imports_of files x.facts) in
    let own : sees (graph_of files) f f ≡ true = rw (agrees f f refl) refl in
    to_any (sees (graph_of files) f) (λ h. h == f) 0 (length (graph_of files)) f (omega arith) (omega arith) own (agrees f f refl)

-- ---- numbered lists

numbered : {X : Type 0} (P : X → Type 0) (n : ℕ) (xs : List X) → All P xs → All (λ e. P e.1) (enumerate_from n xs)
numbered P n [] all = All-nil (λ e. P e.1)
numbered P n (x ∷ xs) all = All-cons (λ e. P e.1) (n, x) (enumerate_from (n + 1) xs) (All-head P x xs all) (numbered P (n + 1) xs (All-tail P x xs all))

numbered_below : {X : Type 0} (P : X → Type 0) (n limit : ℕ) (xs : List X) → n + length xs ≡ limit → All P xs → All (λ e. (e.0 < limit) × P e.1) (enumerate_from n xs)
numbered_below P n limit [] e all = All-nil (λ e. (e.0 < limit) × P e.1)
numbered_below P n limit (x ∷ xs) e all =
    All-cons (λ e. (e.0 < limit) × P e.1) (n, x) (enumerate_from (n + 1) xs) (omega arith, All-head P x xs all) (numbered_below P (n + 1) limit xs (omega arith) (All-tail P x xs all))

-- ---- names

has_scope : (find_in : List ℕ → Option Target) (o : Option (List ℕ)) (t : Target) → option_and_then find_in o ≡ Some t → (s : List ℕ) × (o ≡ Some s)
has_scope find_in None t e = absurd (cc (e))
has_scope find_in (Some s) t e = (s, refl)

-- those that a name is looked for in
abbrev Named : NameSite → Type 0
Named site = All (λ c. c ≢ []) (texts_of site)

some_bytes : (name : List ℕ) → IsIdentifier name → name ≢ []
some_bytes [] is same = is
some_bytes (c ∷ name) is same = cc (same)

module _ (law : UsesLaw) (w : Workspace) (nest : All (λ file. NamesNest file.facts) (all_facts w)) (file : ℕ × SourceAt) (there : file.0 < length w) where
  abbrev of_name : ℕ → NameSite → List NameUse
  of_name i site = uses_of (all_facts w) file.0 (view_in w file) i site

  name_has : (i : ℕ) (site : NameSite) → uses_in w file i ≡ of_name i site → Named site → HasItsUses w file i site
  name_has i site own named =
      let files = all_facts w in
      let view = view_in w file in
      let says = law files file.0 view i site in
      let as_long : length files ≡ length w = length-map w named_facts in
      record {
        none = λ nothing. own ∙ says.0 nothing;
        one_each = λ t means.
            let scope = has_scope (λ s. found files file.0 view (joined_all s (texts_of site))) (scope_of files file.0 view site) t means in
            (scope.0, scope.1, subst (λ us. AreUsesOf files file.0 view i scope.0 site us) (sym own) (says.1 scope.0 t nest (sees_itself files file.0 (omega arith)) named scope.1 means));
      }

  names_have : All Named (names_in w file) → All (λ name. HasItsUses w file name.0 name.1) (enumerate_from 0 (names_in w file))
  names_have all k d lt =
      let named = numbered Named 0 (names_in w file) all in
      let own = uses_by_name (all_facts w) file.0 (view_in w file) (names_in w file) in
      let name = get_or (enumerate_from 0 (names_in w file)) k d in
      name_has name.0 name.1 (own k d lt) (named k d lt)

  file_has : HasIdentifiers file.1.1.text → All (λ name. HasItsUses w file name.0 name.1) (enumerate_from 0 (names_in w file))
  file_has identifiers =
      let text = file.1.1.text in
      let nodes = (let tree = value_tree text in tree.nodes) in
      let components : All (λ s. text_at text s ≢ []) (type_components_in nodes) = All-weaker (IsIdentifierIn text) (λ s. text_at text s ≢ []) (λ s is. some_bytes (text_at text s) is) (type_components_in nodes) identifiers.types in
      names_have (of_names text (λ c. c ≢ []) (facts_at (all_facts w) file.0) nodes components)

pub names-have-uses : UsesLaw → NamesAreIdentifiers → ((reads_others : Bool) (text : List ℕ) → NamesNest (facts_by reads_others text)) → (w : Workspace) → All (λ file. IsUtf8 file.1.text) w → NamesHaveTheirUses w
names-have-uses law identifiers nest w utf8 =
    let all_nest = All-map (λ file. NamesNest file.facts) named_facts w (λ k d lt. let file = get_or w k d in nest file.1.reads_others file.1.text) in
    let all_has = All-weaker (λ (file : SourceAt). IsUtf8 file.1.text) (λ (file : SourceAt). HasIdentifiers file.1.text) (λ file is. identifiers file.1.text is) w utf8 in
    All-weaker (λ (file : ℕ × SourceAt). (file.0 < length w) × HasIdentifiers file.1.1.text) (λ file. All (λ name. HasItsUses w file name.0 name.1) (enumerate_from 0 (names_in w file)))
    (λ file has. file_has law w all_nest file has.0 has.1) (enumerate_from 0 w) (numbered_below (λ (file : SourceAt). HasIdentifiers file.1.text) 0 (length w) w (omega arith) all_has)
