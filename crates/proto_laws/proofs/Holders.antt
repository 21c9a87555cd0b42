-- Each declared name with the block whose body declares it.
use Rattle.std.proofs.Common.{◌≡◌, ◌⊎◌, inl, inr, ℕ, zero, suc, get_or, ◌<◌, List, [], ◌∷◌, ◌++◌, map, Option, Some, None, refl, sym, ap, subst, ◌∙◌, arith, length}
use Rattle.std.specs.Prelude.{Contains}
use Rattle.std.proofs.lemmas.List.Elements.{Contains-append_left, Contains-append_right, Contains-append_cases}
use Rattle.proto_tree.specs.declared.node.Node.{Node, out-Node, roll-Node, map-Node, out-roll-Node}
use Rattle.proto_tree.specs.declared.node.Node.TheOpen.{Node-F}
use Rattle.proto_tree.specs.declared.node.Node.TheFolds.{fold-Node, fold-roll-Node, fold_out-Node, ind-Node}
use Rattle.proto_tree.specs.declared.node.Span.{Span}
use Rattle.proto_decls.specs.declared.fact.DeclKind.{DeclKind}
use Rattle.proto_decls.specs.declared.fact.DeclKind.TheVariants as kind
use Rattle.proto_laws.specs.Parents.{name_of, block_of, members_of, extensions_of, Declares, by_statement, by_extend, StandsIn, here, deeper}

-- a block's kind and name, or no block
abbrev pub Block : Type 0
Block = Option (DeclKind × Span)

-- a declared name, and the block whose body declares it
abbrev pub Entry : Type 0
Entry = Span × Block

-- given the block whose body it is
abbrev pub Entries : Type 0
Entries = Block → List Entry

abbrev pub in_body : List Entries → Entries
in_body [] outer = []
in_body (e ∷ es) outer = e outer ++ in_body es outer

abbrev pub entries_step : Node-F Entries → Entries
entries_step (Node-F.Message span name items) outer = (name, outer) ∷ in_body items (Some (kind.Message, name))
entries_step (Node-F.EnumDef span name items) outer = (name, outer) ∷ in_body items (Some (kind.EnumDef, name))
entries_step (Node-F.Service span name items) outer = (name, outer) ∷ in_body items (Some (kind.Service, name))
entries_step (Node-F.Oneof span name items) outer = (name, outer) ∷ in_body items (Some (kind.Oneof, name))
entries_step (Node-F.Extend span target items) outer = in_body items outer
entries_step (Node-F.Rpc span name request response items) outer = (name, outer) ∷ []
entries_step (Node-F.Field f) outer = (f.name, outer) ∷ []
entries_step (Node-F.MapField f) outer = (f.name, outer) ∷ []
entries_step (Node-F.Value span name number) outer = (name, outer) ∷ []
entries_step _ outer = []

abbrev pub entries_of : Node → Entries
entries_of = fold-Node Entries entries_step

abbrev pub entries_in : List Node → Entries
entries_in nodes = in_body (map entries_of nodes)

-- ---- elements

pub first_in : {X : Type 0} (x : X) (xs : List X) → Contains (x ∷ xs) x
first_in x xs = (0, omega arith, refl)

pub later_in : {X : Type 0} (y : X) (xs : List X) (x : X) → Contains xs x → Contains (y ∷ xs) x
later_in y xs x h = Contains-append_right (y ∷ []) xs x h

pub none_in : {X : Type 0} (x : X) → Contains [] x → ⊥
none_in x h = let lt = h.1 in omega (arith, lt)

pub cases_in : {X : Type 0} (y : X) (xs : List X) (x : X) → Contains (y ∷ xs) x → (y ≡ x) ⊎ Contains xs x
cases_in y xs x h = at h.0 h.1 h.2
  where
    at : (k : ℕ) → k < length (y ∷ xs) → get_or (y ∷ xs) k x ≡ x → (y ≡ x) ⊎ Contains xs x
    at zero lt e = inl e
    at (suc k) lt e = inr (k, omega (arith, lt), e)

pub inside : {X : Type 0} (x y : X) → Some x ≡ Some y → x ≡ y
inside x y e = cc

pub either : {A B C : Type 0} → (A → C) → (B → C) → A ⊎ B → C
either f g (inl a) = f a
either f g (inr b) = g b

-- ---- what the relations have is an entry

-- an entry of a statement is one of its body
body-in : (nodes : List Node) (n : Node) (outer : Block) (e : Entry) → Contains nodes n → Contains (entries_of n outer) e → Contains (entries_in nodes outer) e
body-in [] n outer e c h = absurd (none_in n c)
body-in (m ∷ more) n outer e c h =
    either (λ same. Contains-append_left (entries_of m outer) (entries_in more outer) e (subst (λ n. Contains (entries_of n outer) e) (sym same) h))
    (λ later. Contains-append_right (entries_of m outer) (entries_in more outer) e (body-in more n outer e later h))
    (cases_in m more n c)

abbrev layer_entries : Node-F Node → Entries
layer_entries y = entries_step (map-Node Node Entries entries_of y)

opened : (n : Node) (outer : Block) (e : Entry) → Contains (layer_entries (out-Node n) outer) e → Contains (entries_of n outer) e
opened n outer e h = subst (λ (f : Entries). Contains (f outer) e) (sym (fold_out-Node Entries entries_step n)) h

-- the name that a statement declares
first_entry : (it name : Span) (outer : Block) (more : List Entry) → Some it ≡ Some name → Contains ((it, outer) ∷ more) (name, outer)
first_entry it name outer more e = subst (λ (x : Span). Contains ((it, outer) ∷ more) (x, outer)) (inside it name e) (first_in (it, outer) more)

named-in : (y : Node-F Node) (name : Span) (outer : Block) → name_of y ≡ Some name → Contains (layer_entries y outer) (name, outer)
named-in (Node-F.Message span it items) name outer e = first_entry it name outer (entries_in items (Some (kind.Message, it))) e
named-in (Node-F.EnumDef span it items) name outer e = first_entry it name outer (entries_in items (Some (kind.EnumDef, it))) e
named-in (Node-F.Service span it items) name outer e = first_entry it name outer (entries_in items (Some (kind.Service, it))) e
named-in (Node-F.Oneof span it items) name outer e = first_entry it name outer (entries_in items (Some (kind.Oneof, it))) e
named-in (Node-F.Rpc span it request response items) name outer e = first_entry it name outer [] e
named-in (Node-F.Field f) name outer e = first_entry f.name name outer [] e
named-in (Node-F.MapField f) name outer e = first_entry f.name name outer [] e
named-in (Node-F.Value span it number) name outer e = first_entry it name outer [] e
named-in _ name outer e = cc

extend-in : (y : Node-F Node) (items : List Node) (outer : Block) (e : Entry) → extensions_of y ≡ Some items → Contains (entries_in items outer) e → Contains (layer_entries y outer) e
extend-in (Node-F.Extend span target its) items outer e is h = subst (λ (l : List Node). Contains (entries_in l outer) e) (sym (inside its items is)) h
extend-in _ items outer e is h = cc

pub declares-in : {body : List Node} {name : Span} → Declares body name → (outer : Block) → Contains (entries_in body outer) (name, outer)
declares-in (by_statement {body} {n} {name} c e) outer = body-in body n outer (name, outer) c (opened n outer (name, outer) (named-in (out-Node n) name outer e))
declares-in (by_extend {body} {n} {items} {name} c e d) outer = body-in body n outer (name, outer) c (opened n outer (name, outer) (extend-in (out-Node n) items outer (name, outer) e (declares-in d outer)))

block-in : (y : Node-F Node) (k : DeclKind × Span) (outer : Block) (e : Entry) → block_of y ≡ Some k → Contains (entries_in (members_of y) (Some k)) e → Contains (layer_entries y outer) e
block-in (Node-F.Message span it items) k outer e is h = later_in (it, outer) (entries_in items (Some (kind.Message, it))) e (subst (λ o. Contains (entries_in items o) e) (sym is) h)
block-in (Node-F.EnumDef span it items) k outer e is h = later_in (it, outer) (entries_in items (Some (kind.EnumDef, it))) e (subst (λ o. Contains (entries_in items o) e) (sym is) h)
block-in (Node-F.Service span it items) k outer e is h = later_in (it, outer) (entries_in items (Some (kind.Service, it))) e (subst (λ o. Contains (entries_in items o) e) (sym is) h)
block-in (Node-F.Oneof span it items) k outer e is h = later_in (it, outer) (entries_in items (Some (kind.Oneof, it))) e (subst (λ o. Contains (entries_in items o) e) (sym is) h)
block-in _ k outer e is h = cc

members-in : (y : Node-F Node) (outer : Block) (e : Entry) → ((o : Block) → Contains (entries_in (members_of y) o) e) → Contains (layer_entries y outer) e
members-in (Node-F.Message span it items) outer e h = later_in (it, outer) (entries_in items (Some (kind.Message, it))) e (h (Some (kind.Message, it)))
members-in (Node-F.EnumDef span it items) outer e h = later_in (it, outer) (entries_in items (Some (kind.EnumDef, it))) e (h (Some (kind.EnumDef, it)))
members-in (Node-F.Service span it items) outer e h = later_in (it, outer) (entries_in items (Some (kind.Service, it))) e (h (Some (kind.Service, it)))
members-in (Node-F.Oneof span it items) outer e h = later_in (it, outer) (entries_in items (Some (kind.Oneof, it))) e (h (Some (kind.Oneof, it)))
members-in (Node-F.Extend span target items) outer e h = h outer
members-in _ outer e h = absurd (none_in e (h None))

pub holds-in : {body : List Node} {b : Node} (k : DeclKind × Span) (name : Span) → StandsIn body b → block_of (out-Node b) ≡ Some k → Declares (members_of (out-Node b)) name → (outer : Block) → Contains (entries_in body outer) (name, Some k)
holds-in k name (here {body} {n} c) is d outer = body-in body n outer (name, Some k) c (opened n outer (name, Some k) (block-in (out-Node n) k outer (name, Some k) is (declares-in d (Some k))))
holds-in k name (deeper {body} {block} {n} c s) is d outer =
    body-in body block outer (name, Some k) c (opened block outer (name, Some k) (members-in (out-Node block) outer (name, Some k) (λ o. holds-in k name s is d o)))

-- ---- an entry is what the relations have

abbrev pub Blocked : List Node → Span → Block → Type 0
Blocked nodes x o = (b : Node) × (k : DeclKind × Span) × StandsIn nodes b × (block_of (out-Node b) ≡ Some k) × Declares (members_of (out-Node b)) x × (o ≡ Some k)

abbrev pub Found : List Node → Span → Block → Block → Type 0
Found nodes x o outer = ((o ≡ outer) × Declares nodes x) ⊎ Blocked nodes x o

abbrev Sound : Node → Type 0
Sound n = (outer : Block) (x : Span) (o : Block) → Contains (entries_of n outer) (x, o) → (nodes : List Node) → Contains nodes n → Found nodes x o outer

abbrev Known : Type 0
Known = (n : Node) × Sound n

abbrev nodes_of : List Known → List Node
nodes_of items = map (λ e. e.0) items

sound-body : (items : List Known) (nodes : List Node) → ((n : Node) → Contains (nodes_of items) n → Contains nodes n) → (outer : Block) (x : Span) (o : Block) → Contains (entries_in (nodes_of items) outer) (x, o) → Found nodes x o outer
sound-body [] nodes sub outer x o c = absurd (none_in (x, o) c)
sound-body (e ∷ more) nodes sub outer x o c =
    either (λ own. e.1 outer x o own nodes (sub e.0 (first_in e.0 (nodes_of more))))
    (λ later. sound-body more nodes (λ n c. sub n (later_in e.0 (nodes_of more) n c)) outer x o later)
    (Contains-append_cases (entries_of e.0 outer) (entries_in (nodes_of more) outer) (x, o) c)

-- the name that a statement declares itself
own-found : (n : Node) (name : Span) (outer : Block) (x : Span) (o : Block) (nodes : List Node) → name_of (out-Node n) ≡ Some name → ◌≡◌ {A = Entry} (name, outer) (x, o) → Contains nodes n → Found nodes x o outer
own-found n name outer x o nodes is same there =
    inl (sym (ap (λ (e : Entry). e.1) same), by_statement there (is ∙ ap (λ (e : Entry). Some e.0) same))

leaf-found : (n : Node) (name : Span) (outer : Block) (x : Span) (o : Block) (nodes : List Node) → name_of (out-Node n) ≡ Some name → Contains nodes n → Contains {X = Entry} ((name, outer) ∷ []) (x, o) → Found nodes x o outer
leaf-found n name outer x o nodes is there c = by (cases_in (name, outer) [] (x, o) c)
  where
    by : (◌≡◌ {A = Entry} (name, outer) (x, o)) ⊎ Contains {X = Entry} [] (x, o) → Found nodes x o outer
    by (inl same) = own-found n name outer x o nodes is same there
    by (inr none) = absurd (none_in (x, o) none)

block-found : (n : Node) (k : DeclKind) (name : Span) (items : List Known) (outer : Block) (x : Span) (o : Block) (nodes : List Node) → name_of (out-Node n) ≡ Some name → block_of (out-Node n) ≡ Some (k, name) → members_of (out-Node n) ≡ nodes_of items → Contains nodes n
    → Contains {X = Entry} ((name, outer) ∷ entries_in (nodes_of items) (Some (k, name))) (x, o) → Found nodes x o outer
block-found n k name items outer x o nodes is block members there c = by (cases_in (name, outer) (entries_in (nodes_of items) (Some (k, name))) (x, o) c)
  where
    inner : Found (nodes_of items) x o (Some (k, name)) → Found nodes x o outer
    inner (inl own) = inr (n, (k, name), here there, block, subst (λ (l : List Node). Declares l x) (sym members) own.1, own.0)
    inner (inr b) = inr (b.0, b.1, deeper there (subst (λ (l : List Node). StandsIn l b.0) (sym members) b.2), b.3, b.4, b.5)

    by : (◌≡◌ {A = Entry} (name, outer) (x, o)) ⊎ Contains (entries_in (nodes_of items) (Some (k, name))) (x, o) → Found nodes x o outer
    by (inl same) = own-found n name outer x o nodes is same there
    by (inr later) = inner (sound-body items (nodes_of items) (λ n c. c) (Some (k, name)) x o later)

extend-found : (n : Node) (items : List Known) (outer : Block) (x : Span) (o : Block) (nodes : List Node) → extensions_of (out-Node n) ≡ Some (nodes_of items) → members_of (out-Node n) ≡ nodes_of items → Contains nodes n
    → Contains (entries_in (nodes_of items) outer) (x, o) → Found nodes x o outer
extend-found n items outer x o nodes is members there c = inner (sound-body items (nodes_of items) (λ n c. c) outer x o c)
  where
    inner : Found (nodes_of items) x o outer → Found nodes x o outer
    inner (inl own) = inl (own.0, by_extend there is own.1)
    inner (inr b) = inr (b.0, b.1, deeper there (subst (λ (l : List Node). StandsIn l b.0) (sym members) b.2), b.3, b.4, b.5)

step-sound : (y : Node-F Known) (n : Node) → out-Node n ≡ map-Node Known Node (λ e. e.0) y → (outer : Block) (x : Span) (o : Block) → Contains (layer_entries (map-Node Known Node (λ e. e.0) y) outer) (x, o) → (nodes : List Node) → Contains nodes n → Found nodes x o outer
step-sound (Node-F.Message span name items) n is outer x o c nodes there = block-found n kind.Message name items outer x o nodes (ap name_of is) (ap block_of is) (ap members_of is) there c
step-sound (Node-F.EnumDef span name items) n is outer x o c nodes there = block-found n kind.EnumDef name items outer x o nodes (ap name_of is) (ap block_of is) (ap members_of is) there c
step-sound (Node-F.Service span name items) n is outer x o c nodes there = block-found n kind.Service name items outer x o nodes (ap name_of is) (ap block_of is) (ap members_of is) there c
step-sound (Node-F.Oneof span name items) n is outer x o c nodes there = block-found n kind.Oneof name items outer x o nodes (ap name_of is) (ap block_of is) (ap members_of is) there c
step-sound (Node-F.Extend span target items) n is outer x o c nodes there = extend-found n items outer x o nodes (ap extensions_of is) (ap members_of is) there c
step-sound (Node-F.Rpc span name request response items) n is outer x o c nodes there = leaf-found n name outer x o nodes (ap name_of is) there c
step-sound (Node-F.Field f) n is outer x o c nodes there = leaf-found n f.name outer x o nodes (ap name_of is) there c
step-sound (Node-F.MapField f) n is outer x o c nodes there = leaf-found n f.name outer x o nodes (ap name_of is) there c
step-sound (Node-F.Value span name number) n is outer x o c nodes there = leaf-found n name outer x o nodes (ap name_of is) there c
step-sound _ n is outer x o c nodes there = absurd (none_in (x, o) c)

sound : (n : Node) → Sound n
sound = ind-Node Sound (λ x y is. subst (λ z. Sound (roll-Node z)) is (λ outer name o c nodes there.
    let layer = map-Node Known Node (λ e. e.0) y in
    step-sound y (roll-Node layer) (out-roll-Node layer) outer name o (subst (λ (f : Entries). Contains (f outer) (name, o)) (fold-roll-Node Entries entries_step layer) c) nodes there))

abbrev known : List Node → List Known
known nodes = map (λ n. (n, sound n)) nodes

bare : (nodes : List Node) → nodes_of (known nodes) ≡ nodes
bare [] = refl
bare (n ∷ more) = ap (λ l. n ∷ l) (bare more)

pub entries-found : (nodes : List Node) (outer : Block) (x : Span) (o : Block) → Contains (entries_in nodes outer) (x, o) → Found nodes x o outer
entries-found nodes outer x o c =
    sound-body (known nodes) nodes (λ n c. subst (λ l. Contains l n) (bare nodes) c) outer x o (subst (λ l. Contains {X = Entry} (entries_in l outer) (x, o)) (sym (bare nodes)) c)
