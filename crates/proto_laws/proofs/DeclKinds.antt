-- The kind of a declaration is that of the statement that declares its name.
use Rattle.std.proofs.Common.{◌≡◌, ℕ, ◌+◌, List, [], ◌∷◌, ◌++◌, map, Option, Some, refl, sym, ap, subst, length}
use Rattle.std.specs.Prelude.{All, Contains}
use Rattle.std.specs.List.{Any}
use Rattle.std.proofs.lemmas.List.Elements.{All-nil, All-cons, All-append, All-weaker, Contains-append_left, Contains-append_right}
use Rattle.proto_tree.specs.declared.node.Node.{Node, out-Node, roll-Node, map-Node, out-roll-Node}
use Rattle.proto_tree.specs.declared.node.Node.TheOpen.{Node-F}
use Rattle.proto_tree.specs.declared.node.Node.TheFolds.{fold-roll-Node, fold_out-Node, ind-Node}
use Rattle.proto_tree.specs.declared.node.Span.{Span}
use Rattle.proto_decls.specs.Decls.{declared, Placed, decls_step, decls_of, decls_in}
use Rattle.proto_decls.specs.Text.{joined, text_at}
use Rattle.proto_decls.specs.declared.fact.Decl.{Decl}
use Rattle.proto_decls.specs.declared.fact.DeclKind.{DeclKind}
use Rattle.proto_decls.specs.declared.fact.DeclKind.TheVariants as kind
use Rattle.proto_laws.specs.Parents.{members_of}
use Rattle.proto_laws.specs.Scopes.{declared_by, field_in, DeclaresAs, by_statement, in_block}
use Rattle.proto_laws.proofs.Holders.{cases_in, either, first_in, inside, later_in, none_in}

-- ---- a declaration is declared by a statement

module _ (text : List ℕ) where
  abbrev IsStated : DeclKind → List Node → Decl → Type 0
  IsStated members body d = DeclaresAs members body d.kind d.name_span

  -- what a statement declares is declared in each body that has it
  abbrev Stated : Node → Type 0
  Stated n = (members : DeclKind) (scope : List ℕ) (parent : Option ℕ) (next : ℕ) (body : List Node) → Contains body n → All (IsStated members body) (decls_of text n members scope parent next)

  abbrev Known : Type 0
  Known = (n : Node) × Stated n

  abbrev nodes_of : List Known → List Node
  nodes_of items = map (λ e. e.0) items

  turn-stated : (items : List Known) (members : DeclKind) (scope : List ℕ) (parent : Option ℕ) (next : ℕ) (body : List Node) → ((n : Node) → Contains (nodes_of items) n → Contains body n)
      → All (IsStated members body) (decls_in text (nodes_of items) members scope parent next)
  turn-stated [] members scope parent next body sub = All-nil (IsStated members body)
  turn-stated (e ∷ more) members scope parent next body sub =
      let first = decls_of text e.0 members scope parent next in
      let rest = decls_in text (nodes_of more) members scope parent (next + length first) in
      All-append (IsStated members body) first rest
      (e.1 members scope parent next body (sub e.0 (first_in e.0 (nodes_of more))))
      (turn-stated more members scope parent (next + length first) body (λ n c. sub n (later_in e.0 (nodes_of more) n c)))

  -- what the body of a block declares
  inner-stated : (n : Node) (items : List Known) (k members : DeclKind) (scope : List ℕ) (parent : Option ℕ) (next : ℕ) (body : List Node) → field_in (out-Node n) ≡ k → members_of (out-Node n) ≡ nodes_of items → Contains body n
      → All (IsStated members body) (decls_in text (nodes_of items) k scope parent next)
  inner-stated n items k members scope parent next body fields are there =
      All-weaker (IsStated k (nodes_of items)) (IsStated members body)
      (λ d h. in_block there (subst (λ l. DeclaresAs (field_in (out-Node n)) l d.kind d.name_span) (sym are) (subst (λ f. DeclaresAs f (nodes_of items) d.kind d.name_span) (sym fields) h)))
      (decls_in text (nodes_of items) k scope parent next)
      (turn-stated items k scope parent next (nodes_of items) (λ n c. c))

  module _ (n : Node) (members : DeclKind) (scope : List ℕ) (parent : Option ℕ) (next : ℕ) (body : List Node) (there : Contains body n) where
    own : (k : DeclKind) (name : Span) (ds : List Decl) → declared_by members (out-Node n) ≡ Some (k, name) → All (IsStated members body) ds → All (IsStated members body) (declared text k name scope parent ∷ ds)
    own k name ds is more = All-cons (IsStated members body) (declared text k name scope parent) ds (by_statement there is) more

    alone : (k : DeclKind) (name : Span) → declared_by members (out-Node n) ≡ Some (k, name) → All (IsStated members body) (declared text k name scope parent ∷ [])
    alone k name is = own k name [] is (All-nil (IsStated members body))

    block : (k : DeclKind) (name : Span) (items : List Known) (inner : List ℕ) → declared_by members (out-Node n) ≡ Some (k, name) → field_in (out-Node n) ≡ kind.Field → members_of (out-Node n) ≡ nodes_of items
        → All (IsStated members body) (declared text k name scope parent ∷ decls_in text (nodes_of items) kind.Field inner (Some next) (next + 1))
    block k name items inner is fields are =
        own k name (decls_in text (nodes_of items) kind.Field inner (Some next) (next + 1)) is (inner-stated n items kind.Field members inner (Some next) (next + 1) body fields are there)

    step-stated : (y : Node-F Known) → out-Node n ≡ map-Node Known Node (λ e. e.0) y → All (IsStated members body) (decls_step text (map-Node Node Placed (decls_of text) (map-Node Known Node (λ e. e.0) y)) members scope parent next)
    step-stated (Node-F.Message span name items) is = block kind.Message name items (joined scope (text_at text name)) (ap (declared_by members) is) (ap field_in is) (ap members_of is)
    step-stated (Node-F.Service span name items) is = block kind.Service name items (joined scope (text_at text name)) (ap (declared_by members) is) (ap field_in is) (ap members_of is)
    step-stated (Node-F.EnumDef span name items) is = block kind.EnumDef name items scope (ap (declared_by members) is) (ap field_in is) (ap members_of is)
    step-stated (Node-F.Oneof span name items) is = block kind.Oneof name items scope (ap (declared_by members) is) (ap field_in is) (ap members_of is)
    step-stated (Node-F.Extend span target items) is = inner-stated n items kind.Extension members scope parent next body (ap field_in is) (ap members_of is) there
    step-stated (Node-F.Rpc span name request response items) is = alone kind.Rpc name (ap (declared_by members) is)
    step-stated (Node-F.Field f) is = alone members f.name (ap (declared_by members) is)
    step-stated (Node-F.MapField f) is = alone members f.name (ap (declared_by members) is)
    step-stated (Node-F.Value span name number) is = alone kind.Value name (ap (declared_by members) is)
    step-stated _ is = All-nil (IsStated members body)

  decls_of-stated : (n : Node) → Stated n
  decls_of-stated = ind-Node Stated (λ x y is. subst (λ z. Stated (roll-Node z)) is (λ members scope parent next body there.
      let layer = map-Node Known Node (λ e. e.0) y in
      subst (λ (d : Placed). All (IsStated members body) (d members scope parent next)) (sym (fold-roll-Node Placed (decls_step text) layer))
      (step-stated (roll-Node layer) members scope parent next body there y (out-roll-Node layer))))

  abbrev known : List Node → List Known
  known nodes = map (λ n. (n, decls_of-stated n)) nodes

  bare : (nodes : List Node) → nodes_of (known nodes) ≡ nodes
  bare [] = refl
  bare (n ∷ more) = ap (λ l. n ∷ l) (bare more)

  pub decls-stated : (nodes : List Node) (members : DeclKind) (scope : List ℕ) (parent : Option ℕ) (next : ℕ) → All (IsStated members nodes) (decls_in text nodes members scope parent next)
  decls-stated nodes members scope parent next =
      subst (λ l. All (IsStated members l) (decls_in text l members scope parent next)) (bare nodes)
      (turn-stated (known nodes) members scope parent next (nodes_of (known nodes)) (λ n c. c))

-- ---- each name that a statement declares is declared

module _ {X : Type 0} (P : X → Type 0) where
  any_in : (xs : List X) (x : X) → Contains xs x → P x → Any P xs
  any_in xs x c p = (c.0, x, c.1, c.2, p)

  any_first : (x : X) (xs : List X) → P x → Any P (x ∷ xs)
  any_first x xs p = any_in (x ∷ xs) x (first_in x xs) p

  any_left : (xs ys : List X) → Any P xs → Any P (xs ++ ys)
  any_left xs ys a = any_in (xs ++ ys) a.1 (Contains-append_left xs ys a.1 (a.0, a.2, a.3)) a.4

  any_right : (xs ys : List X) → Any P ys → Any P (xs ++ ys)
  any_right xs ys a = any_in (xs ++ ys) a.1 (Contains-append_right xs ys a.1 (a.0, a.2, a.3)) a.4

  any_none : Any P [] → ⊥
  any_none a = none_in a.1 (a.0, a.2, a.3)

module _ (text : List ℕ) (k : DeclKind) (name : Span) where
  abbrev IsIt : Decl → Type 0
  IsIt d = (d.kind ≡ k) × (d.name_span ≡ name)

  -- it is declared at any place
  abbrev IsDeclared : DeclKind → Placed → Type 0
  IsDeclared members placed = (scope : List ℕ) (parent : Option ℕ) (next : ℕ) → Any IsIt (placed members scope parent next)

  abbrev layer_decls : Node-F Node → Placed
  layer_decls y = decls_step text (map-Node Node Placed (decls_of text) y)

  opened : (n : Node) (members : DeclKind) → IsDeclared members (layer_decls (out-Node n)) → IsDeclared members (decls_of text n)
  opened n members h scope parent next = subst (λ (d : Placed). Any IsIt (d members scope parent next)) (sym (fold_out-Node Placed (decls_step text) n)) (h scope parent next)

  of_body : (nodes : List Node) (n : Node) (members : DeclKind) → Contains nodes n → IsDeclared members (decls_of text n) → IsDeclared members (decls_in text nodes)
  of_body [] n members c h scope parent next = absurd (none_in n c)
  of_body (m ∷ more) n members c h scope parent next =
      let first = decls_of text m members scope parent next in
      let rest = decls_in text more members scope parent (next + length first) in
      either (λ same. any_left IsIt first rest (subst (λ x. Any IsIt (decls_of text x members scope parent next)) (sym same) (h scope parent next)))
      (λ later. any_right IsIt first rest (of_body more n members later h scope parent (next + length first)))
      (cases_in m more n c)

  it : (j : DeclKind) (own : Span) (scope : List ℕ) (parent : Option ℕ) (ds : List Decl) → ◌≡◌ {A = Option (DeclKind × Span)} (Some (j, own)) (Some (k, name)) → Any IsIt (declared text j own scope parent ∷ ds)
  it j own scope parent ds e =
      let pair = inside {X = DeclKind × Span} (j, own) (k, name) e in
      any_first IsIt (declared text j own scope parent) ds (ap (λ (x : DeclKind × Span). x.0) pair, ap (λ (x : DeclKind × Span). x.1) pair)

  by_itself : (y : Node-F Node) (members : DeclKind) → declared_by members y ≡ Some (k, name) → IsDeclared members (layer_decls y)
  by_itself (Node-F.Message span own items) members e scope parent next = it kind.Message own scope parent (decls_in text items kind.Field (joined scope (text_at text own)) (Some next) (next + 1)) e
  by_itself (Node-F.Service span own items) members e scope parent next = it kind.Service own scope parent (decls_in text items kind.Field (joined scope (text_at text own)) (Some next) (next + 1)) e
  by_itself (Node-F.EnumDef span own items) members e scope parent next = it kind.EnumDef own scope parent (decls_in text items kind.Field scope (Some next) (next + 1)) e
  by_itself (Node-F.Oneof span own items) members e scope parent next = it kind.Oneof own scope parent (decls_in text items kind.Field scope (Some next) (next + 1)) e
  by_itself (Node-F.Rpc span own request response items) members e scope parent next = it kind.Rpc own scope parent [] e
  by_itself (Node-F.Field f) members e scope parent next = it members f.name scope parent [] e
  by_itself (Node-F.MapField f) members e scope parent next = it members f.name scope parent [] e
  by_itself (Node-F.Value span own number) members e scope parent next = it kind.Value own scope parent [] e
  by_itself _ members e scope parent next = cc

  by_members : (y : Node-F Node) (members : DeclKind) → IsDeclared (field_in y) (decls_in text (members_of y)) → IsDeclared members (layer_decls y)
  by_members (Node-F.Message span own items) members h scope parent next = any_right IsIt (declared text kind.Message own scope parent ∷ []) _ (h (joined scope (text_at text own)) (Some next) (next + 1))
  by_members (Node-F.Service span own items) members h scope parent next = any_right IsIt (declared text kind.Service own scope parent ∷ []) _ (h (joined scope (text_at text own)) (Some next) (next + 1))
  by_members (Node-F.EnumDef span own items) members h scope parent next = any_right IsIt (declared text kind.EnumDef own scope parent ∷ []) _ (h scope (Some next) (next + 1))
  by_members (Node-F.Oneof span own items) members h scope parent next = any_right IsIt (declared text kind.Oneof own scope parent ∷ []) _ (h scope (Some next) (next + 1))
  by_members (Node-F.Extend span target items) members h scope parent next = h scope parent next
  by_members _ members h scope parent next = absurd (any_none IsIt (h scope parent next))

pub stated-declared : {members k : DeclKind} {body : List Node} {name : Span} → DeclaresAs members body k name → (text : List ℕ) → IsDeclared text k name members (decls_in text body)
stated-declared (by_statement {members} {k} {body} {n} {name} c e) text = of_body text k name body n members c (opened text k name n members (by_itself text k name (out-Node n) members e))
stated-declared (in_block {members} {k} {body} {block} {name} c h) text = of_body text k name body block members c (opened text k name block members (by_members text k name (out-Node block) members (stated-declared h text)))
