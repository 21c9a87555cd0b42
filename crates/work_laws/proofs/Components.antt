-- The components of the names of a text are those of its type names.
use Rattle.std.proofs.Common.{inl, inr, sym, subst, List, [], ◌∷◌, ℕ, map}
use Rattle.std.specs.Prelude.{All}
use Rattle.std.specs.List.{flat_map}
use Rattle.std.proofs.lemmas.Bool.{cases_Bool}
use Rattle.std.proofs.lemmas.List.Elements.{All-nil, All-cons, All-append, All-head, All-map, All-tail}
use Rattle.proto_tree.specs.declared.node.Node.{Node, roll-Node, map-Node}
use Rattle.proto_tree.specs.declared.node.Node.TheOpen.{Node-F}
use Rattle.proto_tree.specs.declared.node.Node.TheFolds.{fold-roll-Node, ind-Node}
use Rattle.proto_tree.specs.declared.node.TypeName.{TypeName}
use Rattle.proto_tree.specs.Names.{joined as all_types, type_names_step, type_names_of, type_names_in, type_components_in}
use Rattle.proto_decls.specs.Text.{text_at}
use Rattle.proto_decls.specs.declared.fact.FileFacts.{FileFacts}
use Rattle.proto_laws.proofs.Nesting.{all_left, all_right}
use Rattle.proto_resolve.specs.declared.site.NameSite.{NameSite}
use Rattle.proto_resolve.specs.declared.site.Needs.{Needs}
use Rattle.proto_resolve.specs.declared.site.Needs.TheVariants as needs
use Rattle.proto_resolve.specs.Names.{texts_of}
use Rattle.proto_resolve.specs.Sites.{Named, component, in_turn, inner, is_proto3, is_scalar, names_in, names_of, names_of_file, names_step, package_scopes, site, type_names}

-- what holds in all parts of joined lists
each_part : {X Y : Type 0} (P : Y → Type 0) (parts : X → List Y) (xs : List X) → All P (flat_map parts xs) → All (λ x. All P (parts x)) xs
each_part P parts [] all = All-nil (λ x. All P (parts x))
each_part P parts (x ∷ xs) all = All-cons (λ x. All P (parts x)) x xs (all_left P (parts x) (flat_map parts xs) all) (each_part P parts xs (all_right P (parts x) (flat_map parts xs) all))

module _ (text : List ℕ) (P : List ℕ → Type 0) where
  -- it holds of each component of a type name, and of a name
  abbrev OfType : TypeName → Type 0
  OfType t = All (λ s. P (text_at text s)) t.components

  abbrev OfName : NameSite → Type 0
  OfName site = All P (texts_of site)

  -- where it holds of the types, it holds of the names
  abbrev Carries : Named → List TypeName → Type 0
  Carries named types = All OfType types → (scopes : List (List ℕ)) → All OfName (named scopes)

  abbrev Known : Type 0
  Known = (n : Node) × Carries (names_of text n) (type_names_of n)

  in_turn-carries : (items : List Known) → Carries (in_turn (map (names_of text) (map (λ e. e.0) items))) (all_types (map type_names_of (map (λ e. e.0) items)))
  in_turn-carries [] all scopes = All-nil OfName
  in_turn-carries (e ∷ more) all scopes =
      let later = all_types (map type_names_of (map (λ e. e.0) more)) in
      All-append OfName (names_of text e.0 scopes) (in_turn (map (names_of text) (map (λ e. e.0) more)) scopes)
      (e.1 (all_left OfType (type_names_of e.0) later all) scopes) (in_turn-carries more (all_right OfType (type_names_of e.0) later all) scopes)

  -- one name
  of_site : (wants : Needs) (t : TypeName) (scopes : List (List ℕ)) → OfType t → OfName (site text wants t scopes)
  of_site wants t scopes all = All-map P (λ c. c.text) (map (component text) t.components) (All-map (λ c. P c.text) (component text) t.components all)

  type-carries : (t : TypeName) → Carries (type_names text t) (t ∷ [])
  type-carries t all scopes = elim (cases_Bool (is_scalar text t)) [
    | inl scalar ↦ rw scalar (All-nil OfName)
    | inr named ↦ rw named (All-cons OfName (site text needs.MessageOrEnum t scopes) [] (of_site needs.MessageOrEnum t scopes (All-head OfType t [] all)) (All-nil OfName))
  ]

  none-carries : (types : List TypeName) → Carries (λ scopes. []) types
  none-carries types all scopes = All-nil OfName

  extend-carries : (target : TypeName) (items : List Known)
      → Carries (λ scopes. site text needs.Message target scopes ∷ in_turn (map (names_of text) (map (λ e. e.0) items)) scopes) (target ∷ all_types (map type_names_of (map (λ e. e.0) items)))
  extend-carries target items all scopes =
      let inside = all_types (map type_names_of (map (λ e. e.0) items)) in
      All-cons OfName (site text needs.Message target scopes) (in_turn (map (names_of text) (map (λ e. e.0) items)) scopes)
      (of_site needs.Message target scopes (All-head OfType target inside all)) (in_turn-carries items (All-tail OfType target inside all) scopes)

  rpc-carries : (request response : TypeName) → Carries (λ scopes. site text needs.Message request scopes ∷ site text needs.Message response scopes ∷ []) (request ∷ response ∷ [])
  rpc-carries request response all scopes =
      let second = All-tail OfType request (response ∷ []) all in
      All-cons OfName (site text needs.Message request scopes) (site text needs.Message response scopes ∷ []) (of_site needs.Message request scopes (All-head OfType request (response ∷ []) all))
      (All-cons OfName (site text needs.Message response scopes) [] (of_site needs.Message response scopes (All-head OfType response [] second)) (All-nil OfName))

  -- one level
  step-carries : (y : Node-F Known) → Carries (names_step text (map-Node Node Named (names_of text) (map-Node Known Node (λ e. e.0) y))) (type_names_step (map-Node Node (List TypeName) type_names_of (map-Node Known Node (λ e. e.0) y)))
  step-carries (Node-F.Message span name items) = λ all scopes. in_turn-carries items all (inner text name scopes)
  step-carries (Node-F.EnumDef span name items) = none-carries (all_types (map type_names_of (map (λ e. e.0) items)))
  step-carries (Node-F.Service span name items) = λ all scopes. in_turn-carries items all (inner text name scopes)
  step-carries (Node-F.Oneof span name items) = in_turn-carries items
  step-carries (Node-F.Extend span target items) = extend-carries target items
  step-carries (Node-F.Rpc span name request response items) = rpc-carries request response
  step-carries (Node-F.Field f) = type-carries f.type_name
  step-carries (Node-F.MapField f) = type-carries f.value
  step-carries (Node-F.Value span name number) = none-carries []
  step-carries (Node-F.Reserved span list) = none-carries []
  step-carries (Node-F.Import span is_public path) = none-carries []
  step-carries (Node-F.Package span name components) = none-carries []
  step-carries (Node-F.OptionDef span name value) = none-carries []
  step-carries (Node-F.Syntax span value) = none-carries []
  step-carries (Node-F.Empty span) = none-carries []

  names_of-carries : (n : Node) → Carries (names_of text n) (type_names_of n)
  names_of-carries = ind-Node (λ n. Carries (names_of text n) (type_names_of n)) (λ x y is. subst (λ z. Carries (names_of text (roll-Node z)) (type_names_of (roll-Node z))) is (
      let layer = map-Node Known Node (λ e. e.0) y in
      subst (λ d. Carries d (type_names_of (roll-Node layer))) (sym (fold-roll-Node Named (names_step text) layer))
      (subst (λ types. Carries (names_step text (map-Node Node Named (names_of text) layer)) types) (sym (fold-roll-Node (List TypeName) type_names_step layer)) (step-carries y))))

  names_in-carries : (nodes : List Node) → Carries (names_in text nodes) (type_names_in nodes)
  names_in-carries [] all scopes = All-nil OfName
  names_in-carries (n ∷ more) all scopes =
      All-append OfName (names_of text n scopes) (names_in text more scopes)
      (names_of-carries n (all_left OfType (type_names_of n) (type_names_in more) all) scopes) (names_in-carries more (all_right OfType (type_names_of n) (type_names_in more) all) scopes)

  -- the names of a file, of which one that isn't proto3 has none
  pub of_names : (facts : FileFacts) (nodes : List Node) → All (λ s. P (text_at text s)) (type_components_in nodes) → All OfName (names_of_file text facts nodes)
  of_names facts nodes all = elim (cases_Bool (is_proto3 facts.syntax)) [
    | inl proto3 ↦ rw proto3 (names_in-carries nodes (each_part (λ s. P (text_at text s)) (λ t. t.components) (type_names_in nodes) all) (package_scopes text facts.«package»))
    | inr other ↦ rw other (All-nil OfName)
  ]
