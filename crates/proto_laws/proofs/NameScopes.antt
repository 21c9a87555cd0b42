-- The names of a tree are its types, each in the scopes of what holds it.
use Rattle.std.proofs.Common.{◌≡◌, ℕ, zero, suc, ◌+◌, ◌-◌, Bool, true, false, cond, List, [], ◌∷◌, length, map, take, Option, Some, None, refl, sym, ap, subst, arith}
use Rattle.std.specs.Prelude.{Contains}
use Rattle.std.specs.List.{slice_get}
use Rattle.std.proofs.lemmas.List.Elements.{Contains-append_cases, Contains-append_left, Contains-append_right}
use Rattle.proto_tree.specs.declared.node.Span.{Span}
use Rattle.proto_tree.specs.declared.node.TypeName.{TypeName}
use Rattle.proto_tree.specs.declared.node.Node.{Node, map-Node, out-Node, out-roll-Node, roll-Node}
use Rattle.proto_tree.specs.declared.node.Node.TheOpen.{Node-F}
use Rattle.proto_tree.specs.declared.node.Node.TheFolds.{fold-roll-Node, fold_out-Node, ind-Node}
use Rattle.proto_decls.specs.declared.fact.FileFacts.{FileFacts}
use Rattle.proto_decls.specs.declared.fact.PackageFact.{PackageFact}
use Rattle.proto_decls.specs.declared.fact.SyntaxFact.{SyntaxFact}
use Rattle.proto_decls.specs.declared.fact.SyntaxFact.TheVariants.{Opaque, Other, Proto3}
use Rattle.proto_decls.specs.Text.{joined, text_at}
use Rattle.proto_laws.proofs.Holders.{cases_in, either, first_in, later_in, none_in}
use Rattle.proto_laws.proofs.Lists.{just, one_only}
use Rattle.proto_resolve.specs.declared.site.NameSite.{NameSite}
use Rattle.proto_resolve.specs.declared.site.Needs.{Needs}
use Rattle.proto_resolve.specs.declared.site.Needs.TheVariants as needs
use Rattle.proto_resolve.specs.Names.{joined_all}
use Rattle.proto_resolve.specs.Sites.{Named, is_proto3, is_scalar, names_in, names_of, names_step, package_scopes, scopes_after, site, type_names}
use Rattle.proto_laws.specs.NameScopes.{IsName, NamesStandInScopes, NamesType, NoPackageIsEmpty, PackagesArePrefixes, StandsInScopes, here, in_extend, in_message, in_oneof, in_service, of_extend, of_field, of_map, of_request, of_response}

-- ---- the names of a tree are said

module _ (text : List ℕ) (found : NameSite) where
  abbrev Said : Node → Type 0
  Said n = (scope : List ℕ) (outer : List (List ℕ)) (body : List Node) → Contains body n → Contains (names_of text n (scope ∷ outer)) found → IsName text (scope ∷ outer) body found

  abbrev Known : Type 0
  Known = (n : Node) × Said n

  abbrev nodes_of : List Known → List Node
  nodes_of items = map (λ e. e.0) items

  turn-said : (items : List Known) (scope : List ℕ) (outer : List (List ℕ)) (body : List Node) → ((n : Node) → Contains (nodes_of items) n → Contains body n) → Contains (names_in text (nodes_of items) (scope ∷ outer)) found
      → IsName text (scope ∷ outer) body found
  turn-said [] scope outer body sub c = absurd (none_in found c)
  turn-said (e ∷ more) scope outer body sub c =
      either (e.1 scope outer body (sub e.0 (first_in e.0 (nodes_of more))))
      (turn-said more scope outer body (λ n c. sub n (later_in e.0 (nodes_of more) n c)))
      (Contains-append_cases (names_of text e.0 (scope ∷ outer)) (names_in text (nodes_of more) (scope ∷ outer)) found c)

  module _ (n : Node) (scope : List ℕ) (outer : List (List ℕ)) (body : List Node) (there : Contains body n) where
    own : (wants : Needs) (t : TypeName) → NamesType text n t wants → found ≡ site text wants t (scope ∷ outer) → IsName text (scope ∷ outer) body found
    own wants t names is = record { statement = n; type_name = t; wants = wants; scopes = scope ∷ outer; stands = here there; names = names; is = is }

    typed : (t : TypeName) → (is_scalar text t ≡ false → NamesType text n t needs.MessageOrEnum) → Contains (type_names text t (scope ∷ outer)) found → IsName text (scope ∷ outer) body found
    typed t names c = by (is_scalar text t) refl c
      where
        by : (b : Bool) → is_scalar text t ≡ b → Contains (cond {A = List NameSite} b [] (site text needs.MessageOrEnum t (scope ∷ outer) ∷ [])) found → IsName text (scope ∷ outer) body found
        by true is c = absurd (none_in found c)
        by false is c = own needs.MessageOrEnum t (names is) (one_only (site text needs.MessageOrEnum t (scope ∷ outer)) found c)

    deeper : (inside : List (List ℕ)) (items : List Node) → ((m : Node) (scopes : List (List ℕ)) → StandsInScopes text inside items m scopes → StandsInScopes text (scope ∷ outer) body m scopes) → IsName text inside items found → IsName text (scope ∷ outer) body found
    deeper inside items out h = record { statement = h.statement; type_name = h.type_name; wants = h.wants; scopes = h.scopes; stands = out h.statement h.scopes h.stands; names = h.names; is = h.is }

    step-said : (y : Node-F Known) → out-Node n ≡ map-Node Known Node (λ e. e.0) y → Contains (names_step text (map-Node Node Named (names_of text) (map-Node Known Node (λ e. e.0) y)) (scope ∷ outer)) found → IsName text (scope ∷ outer) body found
    step-said (Node-F.Message span name items) is c =
        let full = joined scope (text_at text name) in
        deeper (full ∷ scope ∷ outer) (nodes_of items) (λ m scopes h. in_message there is h) (turn-said items full (scope ∷ outer) (nodes_of items) (λ n c. c) c)
    step-said (Node-F.Service span name items) is c =
        let full = joined scope (text_at text name) in
        deeper (full ∷ scope ∷ outer) (nodes_of items) (λ m scopes h. in_service there is h) (turn-said items full (scope ∷ outer) (nodes_of items) (λ n c. c) c)
    step-said (Node-F.Oneof span name items) is c = deeper (scope ∷ outer) (nodes_of items) (λ m scopes h. in_oneof there is h) (turn-said items scope outer (nodes_of items) (λ n c. c) c)
    step-said (Node-F.Extend span target items) is c =
        either (λ same. own needs.Message target (of_extend is) (sym same))
        (λ c. deeper (scope ∷ outer) (nodes_of items) (λ m scopes h. in_extend there is h) (turn-said items scope outer (nodes_of items) (λ n c. c) c))
        (cases_in (site text needs.Message target (scope ∷ outer)) (names_in text (nodes_of items) (scope ∷ outer)) found c)
    step-said (Node-F.Rpc span name request response items) is c =
        either (λ same. own needs.Message request (of_request is) (sym same))
        (λ c. own needs.Message response (of_response is) (one_only (site text needs.Message response (scope ∷ outer)) found c))
        (cases_in (site text needs.Message request (scope ∷ outer)) (site text needs.Message response (scope ∷ outer) ∷ []) found c)
    step-said (Node-F.Field f) is c = typed f.type_name (of_field is) c
    step-said (Node-F.MapField f) is c = typed f.value (of_map is) c
    step-said _ is c = absurd (none_in found c)

  node-said : (n : Node) → Said n
  node-said = ind-Node Said (λ x y is. subst (λ z. Said (roll-Node z)) is (λ scope outer body there c.
      let layer = map-Node Known Node (λ e. e.0) y in
      step-said (roll-Node layer) scope outer body there y (out-roll-Node layer)
      (subst (λ (named : Named). Contains (named (scope ∷ outer)) found) (fold-roll-Node Named (names_step text) layer) c)))

  abbrev known : List Node → List Known
  known nodes = map (λ n. (n, node-said n)) nodes

  bare : (nodes : List Node) → nodes_of (known nodes) ≡ nodes
  bare [] = refl
  bare (n ∷ more) = ap (λ l. n ∷ l) (bare more)

  nodes-said : (scope : List ℕ) (outer : List (List ℕ)) (nodes : List Node) → Contains (names_in text nodes (scope ∷ outer)) found → IsName text (scope ∷ outer) nodes found
  nodes-said scope outer nodes c =
      subst (λ l. IsName text (scope ∷ outer) l found) (bare nodes)
      (turn-said (known nodes) scope outer (nodes_of (known nodes)) (λ n c. c) (subst (λ l. Contains (names_in text l (scope ∷ outer)) found) (sym (bare nodes)) c))

-- ---- what is said is a name of the tree

module _ (text : List ℕ) (found : NameSite) where
  opened : (n : Node) (scopes : List (List ℕ)) → Contains (names_step text (map-Node Node Named (names_of text) (out-Node n)) scopes) found → Contains (names_of text n scopes) found
  opened n scopes c = subst (λ (named : Named). Contains (named scopes) found) (sym (fold_out-Node Named (names_step text) n)) c

  of_body : (nodes : List Node) (n : Node) (scopes : List (List ℕ)) → Contains nodes n → Contains (names_of text n scopes) found → Contains (names_in text nodes scopes) found
  of_body [] n scopes c h = absurd (none_in n c)
  of_body (m ∷ more) n scopes c h =
      either (λ same. Contains-append_left (names_of text m scopes) (names_in text more scopes) found (subst (λ k. Contains (names_of text k scopes) found) (sym same) h))
      (λ later. Contains-append_right (names_of text m scopes) (names_in text more scopes) found (of_body more n scopes later h))
      (cases_in m more n c)

  layer : (n : Node) (y : Node-F Node) (scopes : List (List ℕ)) → out-Node n ≡ y → Contains (names_step text (map-Node Node Named (names_of text) y) scopes) found → Contains (names_of text n scopes) found
  layer n y scopes is c = opened n scopes (subst (λ y. Contains (names_step text (map-Node Node Named (names_of text) y) scopes) found) (sym is) c)

  typed-in : (t : TypeName) (scopes : List (List ℕ)) → is_scalar text t ≡ false → found ≡ site text needs.MessageOrEnum t scopes → Contains (type_names text t scopes) found
  typed-in t scopes is e =
      subst (λ (b : Bool). Contains (cond {A = List NameSite} b [] (site text needs.MessageOrEnum t scopes ∷ [])) found) (sym is) (just (site text needs.MessageOrEnum t scopes) found e)

  type-in : {n : Node} {t : TypeName} {wants : Needs} → NamesType text n t wants → (scopes : List (List ℕ)) → found ≡ site text wants t scopes → Contains (names_of text n scopes) found
  type-in {n} (of_field {f} is plain) scopes e = layer n (Node-F.Field f) scopes is (typed-in f.type_name scopes plain e)
  type-in {n} (of_map {f} is plain) scopes e = layer n (Node-F.MapField f) scopes is (typed-in f.value scopes plain e)
  type-in {n} (of_extend {span} {target} {items} is) scopes e =
      layer n (Node-F.Extend span target items) scopes is
      (subst (Contains (site text needs.Message target scopes ∷ names_in text items scopes)) (sym e) (first_in (site text needs.Message target scopes) (names_in text items scopes)))
  type-in {n} (of_request {span} {name} {request} {response} {items} is) scopes e =
      let other = site text needs.Message response scopes ∷ [] in
      layer n (Node-F.Rpc span name request response items) scopes is (subst (Contains (site text needs.Message request scopes ∷ other)) (sym e) (first_in (site text needs.Message request scopes) other))
  type-in {n} (of_response {span} {name} {request} {response} {items} is) scopes e =
      layer n (Node-F.Rpc span name request response items) scopes is
      (later_in (site text needs.Message request scopes) (site text needs.Message response scopes ∷ []) found (just (site text needs.Message response scopes) found e))

  stands-in : {outer scopes : List (List ℕ)} {body : List Node} {n : Node} → StandsInScopes text outer body n scopes → Contains (names_of text n scopes) found → Contains (names_in text body outer) found
  stands-in (here {scopes} {body} {n} c) h = of_body body n scopes c h
  stands-in (in_message {scope} {outer} {body} {items} {block} {span} {name} c is s) h = of_body body block (scope ∷ outer) c (layer block (Node-F.Message span name items) (scope ∷ outer) is (stands-in s h))
  stands-in (in_service {scope} {outer} {body} {items} {block} {span} {name} c is s) h = of_body body block (scope ∷ outer) c (layer block (Node-F.Service span name items) (scope ∷ outer) is (stands-in s h))
  stands-in (in_extend {outer} {body} {items} {block} {span} {target} c is s) h =
      of_body body block outer c
      (layer block (Node-F.Extend span target items) outer is (later_in (site text needs.Message target outer) (names_in text items outer) found (stands-in s h)))
  stands-in (in_oneof {outer} {body} {items} {block} {span} {name} c is s) h = of_body body block outer c (layer block (Node-F.Oneof span name items) outer is (stands-in s h))

  pub name-in : (outer : List (List ℕ)) (nodes : List Node) → IsName text outer nodes found → Contains (names_in text nodes outer) found
  name-in outer nodes h = stands-in h.stands (type-in h.names h.scopes h.is)

-- ---- packages

-- each scope of a package, and behind them those before
module _ (text : List ℕ) where
  prefixes : (components : List Span) (s : List ℕ) (rest : List (List ℕ)) → length (scopes_after text (s ∷ rest) components) ≡ length components + suc (length rest)
  prefixes [] s rest = let none : suc (length rest) ≡ 0 + suc (length rest) = omega arith in none
  prefixes (c ∷ more) s rest = let h = prefixes more (joined s (text_at text c)) (s ∷ rest) in omega (arith, h)

  outer_prefix : (components : List Span) (s : List ℕ) (rest : List (List ℕ)) (i j : ℕ) → i ≡ length components + j → slice_get (scopes_after text (s ∷ rest) components) i ≡ slice_get (s ∷ rest) j
  outer_prefix [] s rest i j e = let same : i ≡ j = omega (arith, e) in ap (slice_get (s ∷ rest)) same
  outer_prefix (c ∷ more) s rest i j e = outer_prefix more (joined s (text_at text c)) (s ∷ rest) i (suc j) (omega (arith, e))

  prefix_at : (components : List Span) (s : List ℕ) (rest : List (List ℕ)) (i k : ℕ) → i + k ≡ length components → slice_get (scopes_after text (s ∷ rest) components) i ≡ Some (joined_all s (map (text_at text) (take k components)))
  prefix_at [] s rest i zero e = let same : i ≡ 0 = omega (arith, e) in ap (slice_get (s ∷ rest)) same
  prefix_at [] s rest i (suc k) e = absurd (omega (arith, e))
  prefix_at (c ∷ more) s rest i zero e = outer_prefix more (joined s (text_at text c)) (s ∷ rest) i 1 (omega (arith, e))
  prefix_at (c ∷ more) s rest i (suc k) e = prefix_at more (joined s (text_at text c)) (s ∷ rest) i k (omega (arith, e))

  -- there is at least one
  some_scope : (components : List Span) (s : List ℕ) (rest : List (List ℕ)) → (scope : List ℕ) × (outer : List (List ℕ)) × (scopes_after text (s ∷ rest) components ≡ scope ∷ outer)
  some_scope [] s rest = (s, rest, refl)
  some_scope (c ∷ more) s rest = some_scope more (joined s (text_at text c)) (s ∷ rest)

  some_package_scope : (o : Option PackageFact) → (scope : List ℕ) × (outer : List (List ℕ)) × (package_scopes text o ≡ scope ∷ outer)
  some_package_scope None = ([], [], refl)
  some_package_scope (Some p) = some_scope p.components [] []

pub no-package : NoPackageIsEmpty
no-package text = refl

pub packages-are : PackagesArePrefixes
packages-are text p = record {
  count = prefixes text p.components [] [];
  each = λ k le. prefix_at text p.components [] [] (length p.components - k) k (omega (arith, le));
}

-- ---- files

module _ (text : List ℕ) (facts : FileFacts) (nodes : List Node) (found : NameSite) where
  abbrev scopes : List (List ℕ)
  scopes = package_scopes text facts.«package»

  file-said : (x : SyntaxFact) → facts.syntax ≡ x → Contains (cond {A = List NameSite} (is_proto3 x) (names_in text nodes scopes) []) found → (facts.syntax ≡ Proto3) × IsName text scopes nodes found
  file-said Opaque is c = absurd (none_in found c)
  file-said Other is c = absurd (none_in found c)
  file-said Proto3 is c =
      let s = some_package_scope text facts.«package» in
      (is, subst (λ l. IsName text l nodes found) (sym s.2) (nodes-said text found s.0 s.1 nodes (subst (λ l. Contains (names_in text nodes l) found) s.2 c)))

  file-has : (x : SyntaxFact) → facts.syntax ≡ x → facts.syntax ≡ Proto3 → IsName text scopes nodes found → Contains (cond {A = List NameSite} (is_proto3 x) (names_in text nodes scopes) []) found
  file-has Opaque is proto3 h = absurd (cc (is, proto3))
  file-has Other is proto3 h = absurd (cc (is, proto3))
  file-has Proto3 is proto3 h = name-in text found scopes nodes h

pub names-stand : NamesStandInScopes
names-stand text facts nodes found = (file-said text facts nodes found facts.syntax refl, λ h. file-has text facts nodes found facts.syntax refl h.0 h.1)
