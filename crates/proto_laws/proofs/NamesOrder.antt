-- The names of a file are type names of its tree, in the tree's order.
use Rattle.std.proofs.Common.{◌≡◌, ℕ, ◌+◌, ◌≤◌, Bool, true, false, List, [], ◌∷◌, ◌++◌, length, map, Option, Some, None, refl, sym, ap, subst, ◌∙◌, cond, append_assoc}
use Rattle.std.specs.Prelude.{nat_lt, is_some, option_map}
use Rattle.std.specs.List.{enumerate_from, cons_option, flat_map}
use Rattle.std.specs.List.Sorted.{IsStrictlyIncreasing}
use Rattle.std.specs.Option.{option_map_or}
use Rattle.std.proofs.lemmas.Grind.{flat_map-append}
use Rattle.proto_tree.specs.declared.node.FileTree.{FileTree}
use Rattle.proto_tree.specs.declared.node.Node.{Node, roll-Node, map-Node}
use Rattle.proto_tree.specs.declared.node.Node.TheOpen.{Node-F}
use Rattle.proto_tree.specs.declared.node.Node.TheFolds.{fold-roll-Node, ind-Node}
use Rattle.proto_tree.specs.declared.node.Span.{Span}
use Rattle.proto_tree.specs.declared.node.TypeName.{TypeName}
use Rattle.proto_tree.specs.Names.{joined, type_names_step, type_names_of, type_names_in, type_components_in}
use Rattle.proto_tree.specs.Read.{read, value_tree}
use Rattle.proto_laws.proofs.Rise.{Rise, rise-behind, rise-from_increasing, increasing-from_rise}
use Rattle.proto_decls.specs.Text.{joined as scoped}
use Rattle.proto_decls.specs.declared.fact.FileFacts.{FileFacts}
use Rattle.proto_decls.specs.declared.named_facts.NamedFacts.{NamedFacts}
use Rattle.proto_resolve.specs.declared.site.Component.{Component}
use Rattle.proto_resolve.specs.declared.site.NameSite.{NameSite}
use Rattle.proto_resolve.specs.declared.site.Needs.{Needs}
use Rattle.proto_resolve.specs.declared.site.Needs.TheVariants as needs
use Rattle.proto_resolve.specs.declared.target.Target.{Target}
use Rattle.proto_resolve.specs.declared.uses.NameUse.{NameUse}
use Rattle.proto_resolve.specs.Names.{found, joined_all, scope_of, texts_of}
use Rattle.proto_resolve.specs.Sites.{Named, component, in_turn, inner, is_proto3, is_scalar, names_in, names_of, names_of_file, names_step, package_scopes, site, type_names}
use Rattle.proto_resolve.specs.Uses.{uses, uses_at, uses_in, uses_of}
use Rattle.proto_laws.specs.OrderLaws.{NamesAscend, ComponentsAscend, UsesAscend}

-- ---- some of a list, in its order

-- each of the second list comes of one of the first, in their order
abbrev pub ComeOf : {X Y : Type 0} → (X → Y → Type 0) → List X → List Y → Type 0
ComeOf {X} R all [] = Unit {0}
ComeOf {X} R all (y ∷ more) = (front : List X) × (x : X) × (behind : List X) × (all ≡ front ++ x ∷ behind) × R x y × ComeOf R behind more

module _ {X Y : Type 0} (R : X → Y → Type 0) where
  come-later : (front behind : List X) (ys : List Y) → ComeOf R behind ys → ComeOf R (front ++ behind) ys
  come-later front behind [] h = tt
  come-later front behind (y ∷ more) h = (front ++ h.0, h.1, h.2, ap (λ l. front ++ l) h.3 ∙ sym (append_assoc front h.0 (h.1 ∷ h.2)), h.4, h.5)

  come-joined : (front behind : List X) (ys more : List Y) → ComeOf R front ys → ComeOf R behind more → ComeOf R (front ++ behind) (ys ++ more)
  come-joined front behind [] more h q = come-later front behind more q
  come-joined front behind (y ∷ ys) more h q = (h.0, h.1, h.2 ++ behind, ap (λ l. l ++ behind) h.3 ∙ append_assoc h.0 (h.1 ∷ h.2) behind, h.4, come-joined h.2 behind ys more h.5 q)

  come-first : (x : X) (xs : List X) (y : Y) (ys : List Y) → R x y → ComeOf R xs ys → ComeOf R (x ∷ xs) (y ∷ ys)
  come-first x xs y ys r h = ([], x, xs, refl, r, h)

-- what parts of the first come of parts of the second, all of them do
come-parts : {X Y A B : Type 0} (R : X → Y → Type 0) (S : A → B → Type 0) (f : X → List A) (g : Y → List B) → ((x : X) (y : Y) → R x y → ComeOf S (f x) (g y))
    → (all : List X) (ys : List Y) → ComeOf R all ys → ComeOf S (flat_map f all) (flat_map g ys)
come-parts R S f g each all [] h = tt
come-parts {X} {Y} {A} {B} R S f g each all (y ∷ more) h =
    let parts = g y ++ flat_map g more in
    let here : ComeOf S (f h.1 ++ flat_map f h.2) parts = come-joined S (f h.1) (flat_map f h.2) (g y) (flat_map g more) (each h.1 y h.4) (come-parts R S f g each h.2 more h.5) in
    subst (λ l. ComeOf S l parts) (sym (ap (λ l. flat_map f l) h.3 ∙ flat_map-append f h.0 (h.1 ∷ h.2)))
    (come-later S (flat_map f h.0) (f h.1 ++ flat_map f h.2) parts here)

-- what starts where that starts of which it comes rises with it
come-rise : {X Y : Type 0} (R : X → Y → Type 0) (first : X → ℕ) (second : Y → ℕ) → ((x : X) (y : Y) → R x y → first x ≡ second y)
    → (at : ℕ) (all : List X) (ys : List Y) → Rise first at all → ComeOf R all ys → Rise second at ys
come-rise R first second same at all [] up h = tt
come-rise R first second same at all (y ∷ more) up h =
    let here = rise-behind first at h.0 (h.1 ∷ h.2) (subst (Rise first at) h.3 up) in
    subst (λ n. (at ≤ n) × Rise second (n + 1) more) (same h.1 y h.4) (here.0, come-rise R first second same (first h.1 + 1) h.2 more here.1 h.5)

-- ---- names

-- the name that stands where a type is named
abbrev pub IsNamed : List ℕ → TypeName → NameSite → Type 0
IsNamed text t n = (wants : Needs) × (scopes : List (List ℕ)) × (site text wants t scopes ≡ n)

-- the span of a component
abbrev pub IsAt : Span → Component → Type 0
IsAt s c = s ≡ c.span

module _ (text : List ℕ) where
  -- the names that stand there in any scopes come of these types
  abbrev pub Come : List TypeName → Named → Type 0
  Come types named = (scopes : List (List ℕ)) → ComeOf (IsNamed text) types (named scopes)

  abbrev pub Known : Type 0
  Known = (n : Node) × Come (type_names_of n) (names_of text n)

  -- statements in turn
  in_turn-come : (items : List Known) → Come (joined (map type_names_of (map (λ e. e.0) items))) (in_turn (map (names_of text) (map (λ e. e.0) items)))
  in_turn-come [] scopes = tt
  in_turn-come (e ∷ more) scopes =
      come-joined (IsNamed text) (type_names_of e.0) (joined (map type_names_of (map (λ e. e.0) more)))
      (names_of text e.0 scopes) (in_turn (map (names_of text) (map (λ e. e.0) more)) scopes) (e.1 scopes) (in_turn-come more scopes)

  one-comes : (wants : Needs) (t : TypeName) (types : List TypeName) (scopes : List (List ℕ)) (names : List NameSite)
      → ComeOf (IsNamed text) types names → ComeOf (IsNamed text) (t ∷ types) (site text wants t scopes ∷ names)
  one-comes wants t types scopes names h = come-first (IsNamed text) t types (site text wants t scopes) names (wants, scopes, refl) h

  type-comes : (t : TypeName) → Come (t ∷ []) (type_names text t)
  type-comes t scopes = by (is_scalar text t)
    where
      by : (b : Bool) → ComeOf (IsNamed text) (t ∷ []) (cond {A = List NameSite} b [] (site text needs.MessageOrEnum t scopes ∷ []))
      by true = tt
      by false = one-comes needs.MessageOrEnum t [] scopes [] tt

  -- one level
  step-come : (y : Node-F Known) → Come (type_names_step (map-Node Node (List TypeName) type_names_of (map-Node Known Node (λ e. e.0) y))) (names_step text (map-Node Node Named (names_of text) (map-Node Known Node (λ e. e.0) y)))
  step-come (Node-F.Message span name items) scopes = in_turn-come items (inner text name scopes)
  step-come (Node-F.EnumDef span name items) scopes = tt
  step-come (Node-F.Service span name items) scopes = in_turn-come items (inner text name scopes)
  step-come (Node-F.Oneof span name items) scopes = in_turn-come items scopes
  step-come (Node-F.Extend span target items) scopes = one-comes needs.Message target _ scopes (in_turn (map (names_of text) (map (λ e. e.0) items)) scopes) (in_turn-come items scopes)
  step-come (Node-F.Rpc span name request response items) scopes = one-comes needs.Message request (response ∷ []) scopes (site text needs.Message response scopes ∷ []) (one-comes needs.Message response [] scopes [] tt)
  step-come (Node-F.Field f) scopes = type-comes f.type_name scopes
  step-come (Node-F.MapField f) scopes = type-comes f.value scopes
  step-come (Node-F.Value span name number) scopes = tt
  step-come (Node-F.Reserved span list) scopes = tt
  step-come (Node-F.Import span is_public path) scopes = tt
  step-come (Node-F.Package span name components) scopes = tt
  step-come (Node-F.OptionDef span name value) scopes = tt
  step-come (Node-F.Syntax span value) scopes = tt
  step-come (Node-F.Empty span) scopes = tt

  node-comes : (n : Node) → Come (type_names_of n) (names_of text n)
  node-comes = ind-Node (λ n. Come (type_names_of n) (names_of text n)) (λ x y is. subst (λ z. Come (type_names_of (roll-Node z)) (names_of text (roll-Node z))) is (
      let layer = map-Node Known Node (λ e. e.0) y in
      subst (λ types. Come types (names_of text (roll-Node layer))) (sym (fold-roll-Node (List TypeName) type_names_step layer))
      (subst (λ named. Come (type_names_step (map-Node Node (List TypeName) type_names_of layer)) named) (sym (fold-roll-Node Named (names_step text) layer)) (step-come y))))

  nodes-come : (nodes : List Node) → Come (type_names_in nodes) (names_in text nodes)
  nodes-come [] scopes = tt
  nodes-come (n ∷ more) scopes = come-joined (IsNamed text) (type_names_of n) (type_names_in more) (names_of text n scopes) (names_in text more scopes) (node-comes n scopes) (nodes-come more scopes)

  -- the names of a file
  file-comes : (facts : FileFacts) (nodes : List Node) → ComeOf (IsNamed text) (type_names_in nodes) (names_of_file text facts nodes)
  file-comes facts nodes = by (is_proto3 facts.syntax)
    where
      by : (b : Bool) → ComeOf (IsNamed text) (type_names_in nodes) (cond {A = List NameSite} b (names_in text nodes (package_scopes text facts.«package»)) [])
      by true = nodes-come nodes (package_scopes text facts.«package»)
      by false = tt

  -- and their components
  spans-come : (spans : List Span) → ComeOf IsAt spans (map (component text) spans)
  spans-come [] = tt
  spans-come (s ∷ more) = come-first IsAt s more (component text s) (map (component text) more) refl (spans-come more)

  components-come : (t : TypeName) (n : NameSite) → IsNamed text t n → ComeOf IsAt t.components n.components
  components-come t n named = subst (λ n. ComeOf IsAt t.components n.components) named.2 (spans-come t.components)

  all_components-come : (facts : FileFacts) (nodes : List Node) → ComeOf IsAt (type_components_in nodes) (flat_map (λ n. n.components) (names_of_file text facts nodes))
  all_components-come facts nodes = come-parts (IsNamed text) IsAt (λ t. t.components) (λ n. n.components) components-come (type_names_in nodes) (names_of_file text facts nodes) (file-comes facts nodes)

-- ---- uses

-- the component that is used
abbrev pub IsUsed : Component → NameUse → Type 0
IsUsed c u = c.span ≡ u.span

module _ (files : List NamedFacts) (f : ℕ) (view : List ℕ) where
  components-used : (i : ℕ) (scope : List ℕ) (cs : List Component) → ComeOf IsUsed cs (uses_in files f view i scope cs)
  components-used i scope [] = tt
  components-used i scope (c ∷ cs) = by (found files f view (scoped scope c.text)) (components-used i (scoped scope c.text) cs)
    where
      by : (t : Option Target) → ComeOf IsUsed cs (uses_in files f view i (scoped scope c.text) cs)
          → ComeOf IsUsed (c ∷ cs) (cons_option (option_map (λ t. record { span = c.span; name = i; target = t }) t) (uses_in files f view i (scoped scope c.text) cs))
      by None h = come-later IsUsed (c ∷ []) cs (uses_in files f view i (scoped scope c.text) cs) h
      by (Some t) h = come-first IsUsed c cs (record { span = c.span; name = i; target = t }) (uses_in files f view i (scoped scope c.text) cs) refl h

  name-used : (i : ℕ) (n : NameSite) → ComeOf IsUsed n.components (uses_of files f view i n)
  name-used i n = by (scope_of files f view n)
    where
      there : (scope : List ℕ) (b : Bool) → ComeOf IsUsed n.components (cond {A = List NameUse} b (uses_in files f view i scope n.components) [])
      there scope true = components-used i scope n.components
      there scope false = tt

      by : (o : Option (List ℕ)) → ComeOf IsUsed n.components (option_map_or (uses_at files f view i n) o [])
      by None = tt
      by (Some scope) = there scope (is_some (found files f view (joined_all scope (texts_of n))))

  names-used : (i : ℕ) (names : List NameSite) → ComeOf IsUsed (flat_map (λ n. n.components) names) (flat_map (λ e. uses_of files f view e.0 e.1) (enumerate_from i names))
  names-used i [] = tt
  names-used i (n ∷ more) =
      come-joined IsUsed n.components (flat_map (λ n. n.components) more) (uses_of files f view i n) (flat_map (λ e. uses_of files f view e.0 e.1) (enumerate_from (i + 1) more))
      (name-used i n) (names-used (i + 1) more)

-- ---- texts

-- what holds of the tree of each text holds of the tree that counts
of_value : (Holds : FileTree → Type 0) → ((text : List ℕ) → Holds (read text)) → (text : List ℕ) → Holds (value_tree text)
unfolding value_tree
of_value Holds each text = by (nat_lt 16777216 (length text))
  where
    by : (b : Bool) → Holds (cond {A = FileTree} b (read []) (read text))
    by true = each []
    by false = each text

abbrev pub TypesAscend : FileTree → Type 0
TypesAscend tree = IsStrictlyIncreasing (map (λ t. t.span.start) (type_names_in tree.nodes))

abbrev pub TypeComponentsAscend : FileTree → Type 0
TypeComponentsAscend tree = IsStrictlyIncreasing (map (λ s. s.start) (type_components_in tree.nodes))

pub names-ascend : ((text : List ℕ) → TypesAscend (read text)) → NamesAscend
names-ascend each text facts =
    let nodes = (value_tree text).nodes in
    let types = rise-from_increasing (λ t. t.span.start) (type_names_in nodes) (of_value TypesAscend each text) in
    let start : (t : TypeName) (n : NameSite) → IsNamed text t n → t.span.start ≡ n.span.start = λ t n named. ap (λ n. n.span.start) named.2 in
    increasing-from_rise (λ n. n.span.start) 0 (names_of_file text facts nodes)
    (come-rise (IsNamed text) (λ t. t.span.start) (λ n. n.span.start) start 0 (type_names_in nodes) (names_of_file text facts nodes) types (file-comes text facts nodes))

-- the components of the names of a text rise
components-rise : ((text : List ℕ) → TypeComponentsAscend (read text)) → (text : List ℕ) (facts : FileFacts) → Rise (λ c. c.span.start) 0 (flat_map (λ n. n.components) (names_of_file text facts (value_tree text).nodes))
components-rise each text facts =
    let nodes = (value_tree text).nodes in
    let parts = rise-from_increasing (λ s. s.start) (type_components_in nodes) (of_value TypeComponentsAscend each text) in
    come-rise IsAt (λ s. s.start) (λ c. c.span.start) (λ s c is. ap (λ s. s.start) is) 0 (type_components_in nodes) _ parts (all_components-come text facts nodes)

pub components-ascend : ((text : List ℕ) → TypeComponentsAscend (read text)) → ComponentsAscend
components-ascend each text facts = increasing-from_rise (λ c. c.span.start) 0 _ (components-rise each text facts)

pub uses-ascend : ((text : List ℕ) → TypeComponentsAscend (read text)) → UsesAscend
uses-ascend each files f view text facts =
    let names = names_of_file text facts (value_tree text).nodes in
    increasing-from_rise (λ u. u.span.start) 0 (uses files f view names)
    (come-rise IsUsed (λ c. c.span.start) (λ u. u.span.start) (λ c u is. ap (λ s. s.start) is) 0 (flat_map (λ n. n.components) names) (uses files f view names)
    (components-rise each text facts) (names-used files f view 0 names))
