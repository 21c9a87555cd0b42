-- What holds of the names of a source's tree holds of its declarations, and of the uses of its names.
use Rattle.std.proofs.Common.{◌≡◌, ◌∙◌, ℕ, ◌+◌, Bool, true, false, cond, List, [], ◌∷◌, ◌++◌, length, map, Option, Some, None, refl, sym, ap, subst}
use Rattle.std.specs.Prelude.{All, MatchOption, is_some, option_map, ⊤}
use Rattle.std.specs.List.{AllPairs, cons_option, enumerate_from, flat_map}
use Rattle.std.specs.Option.{option_map_or}
use Rattle.std.proofs.lemmas.List.{map-append}
use Rattle.std.proofs.lemmas.List.Elements.{All-nil, All-cons, All-append, All-head, All-map, All-tail}
use Rattle.proto_tree.specs.declared.node.FileTree.{FileTree}
use Rattle.proto_tree.specs.declared.node.Node.{Node, roll-Node, map-Node}
use Rattle.proto_tree.specs.declared.node.Node.TheOpen.{Node-F}
use Rattle.proto_tree.specs.declared.node.Node.TheFolds.{fold-roll-Node, ind-Node}
use Rattle.proto_tree.specs.declared.node.Span.{Span}
use Rattle.proto_tree.specs.declared.node.TypeName.{TypeName}
use Rattle.proto_tree.specs.Names.{joined as all_of, names_step as spans_step, names_of as spans_of, names_in as spans_in, package_components_in, type_names_step, type_names_of, type_names_in, type_components_in}
use Rattle.proto_tree.specs.Others.{other_tree}
use Rattle.proto_tree.specs.Read.{value_tree}
use Rattle.proto_decls.specs.Decls.{Placed, in_turn as placed_in_turn, decls_step, decls_of, decls_in}
use Rattle.proto_decls.specs.declared.diagnostic.Diag.{Diag}
use Rattle.proto_decls.specs.declared.fact.Decl.{Decl}
use Rattle.proto_decls.specs.declared.fact.DeclKind.{DeclKind}
use Rattle.proto_decls.specs.declared.fact.DeclKind.TheVariants as kind
use Rattle.proto_decls.specs.declared.fact.FileFacts.{FileFacts}
use Rattle.proto_decls.specs.declared.stated.StatedSyntax.{StatedSyntax}
use Rattle.proto_decls.specs.Facts.{facts_at, facts_of, opaque, stated, package_name, first_package, packages}
use Rattle.proto_decls.specs.Text.{joined as scoped}
use Rattle.proto_laws.proofs.Nesting.{all_left, all_right}
use Rattle.proto_decls.specs.declared.named_facts.NamedFacts.{NamedFacts}
use Rattle.proto_resolve.specs.declared.site.Component.{Component}
use Rattle.proto_resolve.specs.declared.site.NameSite.{NameSite}
use Rattle.proto_resolve.specs.declared.site.Needs.{Needs}
use Rattle.proto_resolve.specs.declared.site.Needs.TheVariants as needs
use Rattle.proto_resolve.specs.declared.target.Target.{Target}
use Rattle.proto_resolve.specs.declared.uses.NameUse.{NameUse}
use Rattle.proto_resolve.specs.Names.{found, joined_all, scope_of, texts_of}
use Rattle.proto_resolve.specs.Sites.{Named, component, in_turn, inner, is_proto3, is_scalar, names_in, names_of, names_of_file, names_step, package_scopes, site, type_names}
use Rattle.proto_resolve.specs.Uses.{uses, uses_at, uses_in, uses_of}
use Rattle.proto_laws.proofs.IdentifierLaws.{facts-have}
use Rattle.work_index.specs.Workspace.{Source, source_facts}
use Rattle.lsp_queries.proofs.NamedTree.{by_tree, named_tree}
use Rattle.lsp_queries.proofs.Pairs.{from_map, pairs-from_map, pairs-nil}

-- ---- declarations

-- what is declared at any place has these names
abbrev Declares : Placed → List Span → Type 0
Declares declared spans = (k : DeclKind) (scope : List ℕ) (parent : Option ℕ) (next : ℕ) → map (λ d. d.name_span) (declared k scope parent next) ≡ spans

module _ (text : List ℕ) where
  abbrev KnownDecls : Type 0
  KnownDecls = (n : Node) × Declares (decls_of text n) (spans_of n)

  placed-declares : (items : List KnownDecls) → Declares (placed_in_turn (map (decls_of text) (map (λ e. e.0) items))) (all_of (map spans_of (map (λ e. e.0) items)))
  placed-declares [] k scope parent next = refl
  placed-declares (e ∷ more) k scope parent next =
      let first = decls_of text e.0 k scope parent next in
      let rest = placed_in_turn (map (decls_of text) (map (λ e. e.0) more)) k scope parent (next + length first) in
      map-append (λ d. d.name_span) first rest
      ∙ ap (λ l. l ++ map (λ d. d.name_span) rest) (e.1 k scope parent next)
      ∙ ap (λ l. spans_of e.0 ++ l) (placed-declares more k scope parent (next + length first))

  step-declares : (y : Node-F KnownDecls) → Declares (decls_step text (map-Node Node Placed (decls_of text) (map-Node KnownDecls Node (λ e. e.0) y))) (spans_step (map-Node Node (List Span) spans_of (map-Node KnownDecls Node (λ e. e.0) y)))
  step-declares (Node-F.Message span name items) k scope parent next = ap (λ l. name ∷ l) (placed-declares items kind.Field _ (Some next) (next + 1))
  step-declares (Node-F.EnumDef span name items) k scope parent next = ap (λ l. name ∷ l) (placed-declares items kind.Field scope (Some next) (next + 1))
  step-declares (Node-F.Service span name items) k scope parent next = ap (λ l. name ∷ l) (placed-declares items kind.Field _ (Some next) (next + 1))
  step-declares (Node-F.Oneof span name items) k scope parent next = ap (λ l. name ∷ l) (placed-declares items kind.Field scope (Some next) (next + 1))
  step-declares (Node-F.Extend span target items) k scope parent next = placed-declares items kind.Extension scope parent next
  step-declares (Node-F.Rpc span name request response items) k scope parent next = refl
  step-declares (Node-F.Field f) k scope parent next = refl
  step-declares (Node-F.MapField f) k scope parent next = refl
  step-declares (Node-F.Value span name number) k scope parent next = refl
  step-declares (Node-F.Reserved span list) k scope parent next = refl
  step-declares (Node-F.Import span is_public path) k scope parent next = refl
  step-declares (Node-F.Package span name components) k scope parent next = refl
  step-declares (Node-F.OptionDef span name value) k scope parent next = refl
  step-declares (Node-F.Syntax span value) k scope parent next = refl
  step-declares (Node-F.Empty span) k scope parent next = refl

  node-declares : (n : Node) → Declares (decls_of text n) (spans_of n)
  node-declares = ind-Node (λ n. Declares (decls_of text n) (spans_of n)) (λ x y is. subst (λ z. Declares (decls_of text (roll-Node z)) (spans_of (roll-Node z))) is (λ k scope parent next.
      let layer = map-Node KnownDecls Node (λ e. e.0) y in
      ap (λ (d : Placed). map (λ d. d.name_span) (d k scope parent next)) (fold-roll-Node Placed (decls_step text) layer)
      ∙ step-declares y k scope parent next
      ∙ sym (fold-roll-Node (List Span) spans_step layer)))

  nodes-declare : (nodes : List Node) → Declares (decls_in text nodes) (spans_in nodes)
  nodes-declare [] k scope parent next = refl
  nodes-declare (n ∷ more) k scope parent next =
      let first = decls_of text n k scope parent next in
      let rest = decls_in text more k scope parent (next + length first) in
      map-append (λ d. d.name_span) first rest
      ∙ ap (λ l. l ++ map (λ d. d.name_span) rest) (node-declares n k scope parent next)
      ∙ ap (λ l. spans_of n ++ l) (nodes-declare more k scope parent (next + length first))

facts-decls : (P : Span → Type 0) (o : Option Diag) (syntaxes : List StatedSyntax) (text : List ℕ) (tree : FileTree) → All P (spans_in tree.nodes)
    → All (λ d. P d.name_span) (facts_at o syntaxes text tree).decls
facts-decls P None syntaxes text tree all =
    let place = package_name (first_package (packages text tree.nodes)) in
    from_map P (λ d. d.name_span) (decls_in text tree.nodes kind.Field place None 0)
    (subst (All P) (sym (nodes-declare text tree.nodes kind.Field place None 0)) all)
facts-decls P (Some d) syntaxes text tree all = All-nil (λ d. P d.name_span)

facts-pairs : (R : Span → Span → Type 0) (o : Option Diag) (syntaxes : List StatedSyntax) (text : List ℕ) (tree : FileTree) → AllPairs R (spans_in tree.nodes)
    → AllPairs (λ d e. R d.name_span e.name_span) (facts_at o syntaxes text tree).decls
facts-pairs R None syntaxes text tree pairs =
    let place = package_name (first_package (packages text tree.nodes)) in
    pairs-from_map R (λ d. d.name_span) (decls_in text tree.nodes kind.Field place None 0)
    (subst (AllPairs R) (sym (nodes-declare text tree.nodes kind.Field place None 0)) pairs)
facts-pairs R (Some d) syntaxes text tree pairs = pairs-nil (λ (d e : Decl). R d.name_span e.name_span)

-- of each two declarations of a source
pub pairs_of_decls : (R : Span → Span → Type 0) (s : Source) → AllPairs R (spans_in (named_tree s).nodes) → AllPairs (λ d e. R d.name_span e.name_span) (source_facts s).decls
pairs_of_decls R s =
    let text = s.text in
    let tree = value_tree text in
    by_tree s (λ tree facts. AllPairs R (spans_in tree.nodes) → AllPairs (λ (d e : Decl). R d.name_span e.name_span) facts.decls) (facts-pairs R None [] text (other_tree text))
    (facts-pairs R (opaque text (stated text tree.nodes)) (stated text tree.nodes) text tree)

-- the components of the package that counts
pub of_package : (P : Span → Type 0) (s : Source) → All P (package_components_in (named_tree s).nodes) → MatchOption (source_facts s).«package» ⊤ (λ p. All P p.components)
of_package P s =
    let text = s.text in
    let tree = value_tree text in
    by_tree s (λ tree facts. All P (package_components_in tree.nodes) → MatchOption facts.«package» ⊤ (λ p. All P p.components)) (facts-have P text None [] (other_tree text))
    (facts-have P text (opaque text (stated text tree.nodes)) (stated text tree.nodes) tree)

-- the declarations of a source
pub of_decls : (P : Span → Type 0) (s : Source) → All P (spans_in (named_tree s).nodes) → All (λ d. P d.name_span) (source_facts s).decls
of_decls P s =
    let text = s.text in
    let tree = value_tree text in
    by_tree s (λ tree facts. All P (spans_in tree.nodes) → All (λ (d : Decl). P d.name_span) facts.decls) (facts-decls P None [] text (other_tree text))
    (facts-decls P (opaque text (stated text tree.nodes)) (stated text tree.nodes) text tree)

-- ---- uses

-- what holds in all parts of joined lists
each_part : {X Y : Type 0} (P : Y → Type 0) (parts : X → List Y) (xs : List X) → All P (flat_map parts xs) → All (λ x. All P (parts x)) xs
each_part P parts [] all = All-nil (λ x. All P (parts x))
each_part P parts (x ∷ xs) all = All-cons (λ x. All P (parts x)) x xs (all_left P (parts x) (flat_map parts xs) all) (each_part P parts xs (all_right P (parts x) (flat_map parts xs) all))

module _ (text : List ℕ) (P : Span → Type 0) where
  -- it holds of each component of a type name, and of a name
  abbrev OfType : TypeName → Type 0
  OfType t = All P t.components

  abbrev OfName : NameSite → Type 0
  OfName n = All (λ c. P c.span) n.components

  -- where it holds of the types, it holds of the names
  abbrev Carries : Named → List TypeName → Type 0
  Carries named types = All OfType types → (scopes : List (List ℕ)) → All OfName (named scopes)

  abbrev Known : Type 0
  Known = (n : Node) × Carries (names_of text n) (type_names_of n)

  in_turn-carries : (items : List Known) → Carries (in_turn (map (names_of text) (map (λ e. e.0) items))) (all_of (map type_names_of (map (λ e. e.0) items)))
  in_turn-carries [] all scopes = All-nil OfName
  in_turn-carries (e ∷ more) all scopes =
      let later = all_of (map type_names_of (map (λ e. e.0) more)) in
      All-append OfName (names_of text e.0 scopes) (in_turn (map (names_of text) (map (λ e. e.0) more)) scopes)
      (e.1 (all_left OfType (type_names_of e.0) later all) scopes) (in_turn-carries more (all_right OfType (type_names_of e.0) later all) scopes)

  -- one name
  of_site : (wants : Needs) (t : TypeName) (scopes : List (List ℕ)) → OfType t → OfName (site text wants t scopes)
  of_site wants t scopes all = All-map (λ c. P c.span) (component text) t.components all

  type-carries : (t : TypeName) → Carries (type_names text t) (t ∷ [])
  type-carries t all scopes = by (is_scalar text t)
    where
      by : (b : Bool) → All OfName (cond {A = List NameSite} b [] (site text needs.MessageOrEnum t scopes ∷ []))
      by true = All-nil OfName
      by false = All-cons OfName (site text needs.MessageOrEnum t scopes) [] (of_site needs.MessageOrEnum t scopes (All-head OfType t [] all)) (All-nil OfName)

  none-carries : (types : List TypeName) → Carries (λ scopes. []) types
  none-carries types all scopes = All-nil OfName

  extend-carries : (target : TypeName) (items : List Known)
      → Carries (λ scopes. site text needs.Message target scopes ∷ in_turn (map (names_of text) (map (λ e. e.0) items)) scopes) (target ∷ all_of (map type_names_of (map (λ e. e.0) items)))
  extend-carries target items all scopes =
      let inside = all_of (map type_names_of (map (λ e. e.0) items)) in
      All-cons OfName (site text needs.Message target scopes) (in_turn (map (names_of text) (map (λ e. e.0) items)) scopes)
      (of_site needs.Message target scopes (All-head OfType target inside all)) (in_turn-carries items (All-tail OfType target inside all) scopes)

  rpc-carries : (request response : TypeName) → Carries (λ scopes. site text needs.Message request scopes ∷ site text needs.Message response scopes ∷ []) (request ∷ response ∷ [])
  rpc-carries request response all scopes =
      let second = All-tail OfType request (response ∷ []) all in
      All-cons OfName (site text needs.Message request scopes) (site text needs.Message response scopes ∷ []) (of_site needs.Message request scopes (All-head OfType request (response ∷ []) all))
      (All-cons OfName (site text needs.Message response scopes) [] (of_site needs.Message response scopes (All-head OfType response [] second)) (All-nil OfName))

  -- one level
  step-carries : (y : Node-F Known) → Carries (names_step text (map-Node Node Named (names_of text) (map-Node Known Node (λ e. e.0) y))) (type_names_step (map-Node Node (List TypeName) type_names_of (map-Node Known Node (λ e. e.0) y)))
  step-carries (Node-F.Message span name items) = λ all scopes. in_turn-carries items all (inner text name scopes)
  step-carries (Node-F.EnumDef span name items) = none-carries (all_of (map type_names_of (map (λ e. e.0) items)))
  step-carries (Node-F.Service span name items) = λ all scopes. in_turn-carries items all (inner text name scopes)
  step-carries (Node-F.Oneof span name items) = in_turn-carries items
  step-carries (Node-F.Extend span target items) = extend-carries target items
  step-carries (Node-F.Rpc span name request response items) = rpc-carries request response
  step-carries (Node-F.Field f) = type-carries f.type_name
  step-carries (Node-F.MapField f) = type-carries f.value
  step-carries (Node-F.Value span name number) = none-carries []
  step-carries (Node-F.Reserved span list) = none-carries []
  step-carries (Node-F.Import span is_public path) = none-carries []
  step-carries (Node-F.Package span name components) = none-carries []
  step-carries (Node-F.OptionDef span name value) = none-carries []
  step-carries (Node-F.Syntax span value) = none-carries []
  step-carries (Node-F.Empty span) = none-carries []

  node-carries : (n : Node) → Carries (names_of text n) (type_names_of n)
  node-carries = ind-Node (λ n. Carries (names_of text n) (type_names_of n)) (λ x y is. subst (λ z. Carries (names_of text (roll-Node z)) (type_names_of (roll-Node z))) is (
      let layer = map-Node Known Node (λ e. e.0) y in
      subst (λ d. Carries d (type_names_of (roll-Node layer))) (sym (fold-roll-Node Named (names_step text) layer))
      (subst (λ types. Carries (names_step text (map-Node Node Named (names_of text) layer)) types) (sym (fold-roll-Node (List TypeName) type_names_step layer)) (step-carries y))))

  nodes-carry : (nodes : List Node) → Carries (names_in text nodes) (type_names_in nodes)
  nodes-carry [] all scopes = All-nil OfName
  nodes-carry (n ∷ more) all scopes =
      All-append OfName (names_of text n scopes) (names_in text more scopes)
      (node-carries n (all_left OfType (type_names_of n) (type_names_in more) all) scopes) (nodes-carry more (all_right OfType (type_names_of n) (type_names_in more) all) scopes)

  -- the names of a file, of which one that isn't proto3 has none
  of_names : (facts : FileFacts) (nodes : List Node) → All P (type_components_in nodes) → All OfName (names_of_file text facts nodes)
  of_names facts nodes all = by (is_proto3 facts.syntax)
    where
      by : (b : Bool) → All OfName (cond {A = List NameSite} b (names_in text nodes (package_scopes text facts.«package»)) [])
      by true = nodes-carry nodes (each_part P (λ t. t.components) (type_names_in nodes) all) (package_scopes text facts.«package»)
      by false = All-nil OfName

  abbrev OfUse : NameUse → Type 0
  OfUse u = P u.span

  module _ (files : List NamedFacts) (f : ℕ) (view : List ℕ) where
    component-uses : (i : ℕ) (scope : List ℕ) (cs : List Component) → All (λ c. P c.span) cs → All OfUse (uses_in files f view i scope cs)
    component-uses i scope [] all = All-nil OfUse
    component-uses i scope (c ∷ cs) all = by (found files f view (scoped scope c.text)) (component-uses i (scoped scope c.text) cs (All-tail (λ c. P c.span) c cs all))
      where
        by : (t : Option Target) → All OfUse (uses_in files f view i (scoped scope c.text) cs)
            → All OfUse (cons_option (option_map (λ t. record { span = c.span; name = i; target = t }) t) (uses_in files f view i (scoped scope c.text) cs))
        by None h = h
        by (Some t) h = All-cons OfUse (record { span = c.span; name = i; target = t }) (uses_in files f view i (scoped scope c.text) cs) (All-head (λ c. P c.span) c cs all) h

    name-uses : (i : ℕ) (n : NameSite) → OfName n → All OfUse (uses_of files f view i n)
    name-uses i n all = by (scope_of files f view n)
      where
        there : (scope : List ℕ) (b : Bool) → All OfUse (cond {A = List NameUse} b (uses_in files f view i scope n.components) [])
        there scope true = component-uses i scope n.components all
        there scope false = All-nil OfUse

        by : (o : Option (List ℕ)) → All OfUse (option_map_or (uses_at files f view i n) o [])
        by None = All-nil OfUse
        by (Some scope) = there scope (is_some (found files f view (joined_all scope (texts_of n))))

    names-uses : (i : ℕ) (names : List NameSite) → All OfName names → All OfUse (flat_map (λ e. uses_of files f view e.0 e.1) (enumerate_from i names))
    names-uses i [] all = All-nil OfUse
    names-uses i (n ∷ more) all =
        All-append OfUse (uses_of files f view i n) (flat_map (λ e. uses_of files f view e.0 e.1) (enumerate_from (i + 1) more))
        (name-uses i n (All-head OfName n more all)) (names-uses (i + 1) more (All-tail OfName n more all))

    -- the uses of the names of a file
    of_uses : (facts : FileFacts) (nodes : List Node) → All P (type_components_in nodes) → All OfUse (uses files f view (names_of_file text facts nodes))
    of_uses facts nodes all = names-uses 0 (names_of_file text facts nodes) (of_names facts nodes all)

-- the uses of the names of a source, of which one that isn't proto3 has none
pub source_uses : (P : Span → Type 0) (s : Source) (files : List NamedFacts) (f : ℕ) (view : List ℕ) → All P (type_components_in (named_tree s).nodes)
    → All (λ u. P u.span) (uses files f view (names_of_file s.text (source_facts s) (value_tree s.text).nodes))
source_uses P s files f view =
    let text = s.text in
    let tree = value_tree text in
    by_tree s (λ named facts. All P (type_components_in named.nodes) → All (λ (u : NameUse). P u.span) (uses files f view (names_of_file text facts tree.nodes))) (λ all. All-nil (λ (u : NameUse). P u.span))
    (of_uses text P files f view (facts_of text) tree.nodes)
