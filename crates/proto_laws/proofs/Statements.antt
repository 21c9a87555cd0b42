-- The statements of a tree at any depth.
use Rattle.std.proofs.Common.{◌≡◌, ◌∙◌, List, [], ◌∷◌, ◌++◌, map, refl, sym, ap, subst}
use Rattle.std.specs.Prelude.{Contains}
use Rattle.std.proofs.lemmas.List.Elements.{Contains-append_cases, Contains-append_left, Contains-append_right}
use Rattle.proto_tree.specs.declared.node.Node.{Node, out-Node, out-roll-Node, roll-Node, map-Node}
use Rattle.proto_tree.specs.declared.node.Node.TheOpen.{Node-F}
use Rattle.proto_tree.specs.declared.node.Node.TheFolds.{ind-Node}
use Rattle.proto_decls.specs.Tree.{all_statements, inside, inside_of}
use Rattle.proto_decls.proofs.Statements.{all_statements-cons}
use Rattle.proto_laws.specs.Bodies.{HasStatement, between_braces, itself as alone, within}
use Rattle.proto_laws.proofs.Holders.{cases_in, either, first_in, later_in, none_in}

-- ---- what stands between braces

braces-at : (y : Node-F Node) → inside_of y ≡ between_braces y
braces-at (Node-F.Message span name items) = refl
braces-at (Node-F.EnumDef span name items) = refl
braces-at (Node-F.Service span name items) = refl
braces-at (Node-F.Oneof span name items) = refl
braces-at (Node-F.Extend span target items) = refl
braces-at (Node-F.Rpc span name request response items) = refl
braces-at (Node-F.Field f) = refl
braces-at (Node-F.MapField f) = refl
braces-at (Node-F.Value span name number) = refl
braces-at (Node-F.Reserved span list) = refl
braces-at (Node-F.Import span is_public path) = refl
braces-at (Node-F.Package span name components) = refl
braces-at (Node-F.OptionDef span name value) = refl
braces-at (Node-F.Syntax span value) = refl
braces-at (Node-F.Empty span) = refl

braces : (n : Node) → inside n ≡ between_braces (out-Node n)
braces n = braces-at (out-Node n)

-- ---- each of them stands in the tree

abbrev Stands : Node → Type 0
Stands m = (body : List Node) (n : Node) → Contains body m → Contains (all_statements (inside m)) n → HasStatement body n

abbrev Standing : Type 0
Standing = (m : Node) × Stands m

abbrev nodes_of : List Standing → List Node
nodes_of items = map (λ e. e.0) items

part-stands : (items : List Standing) (body : List Node) (n : Node) → ((m : Node) → Contains (nodes_of items) m → Contains body m) → Contains (all_statements (nodes_of items)) n → HasStatement body n
part-stands [] body n sub c = absurd (none_in n c)
part-stands (e ∷ more) body n sub c =
    let here : Contains body e.0 = sub e.0 (first_in e.0 (nodes_of more)) in
    either (λ same. alone (subst (Contains body) same here))
    (λ rest. either (e.1 body n here) (λ later. part-stands more body n (λ m at. sub m (later_in e.0 (nodes_of more) m at)) later)
    (Contains-append_cases (all_statements (inside e.0)) (all_statements (nodes_of more)) n rest))
    (cases_in e.0 (all_statements (inside e.0) ++ all_statements (nodes_of more)) n (subst (λ l. Contains l n) (all_statements-cons e.0 (nodes_of more)) c))

block-stands : (m : Node) (items : List Standing) → inside m ≡ nodes_of items → Stands m
block-stands m items is body n here c =
    within here (subst (λ l. HasStatement l n) (sym is ∙ braces m) (part-stands items (nodes_of items) n (λ m at. at) (subst (λ l. Contains (all_statements l) n) is c)))

leaf-stands : (m : Node) → inside m ≡ [] → Stands m
leaf-stands m is body n here c = absurd (none_in n (subst (λ l. Contains (all_statements l) n) is c))

layer-stands : (y : Node-F Standing) (m : Node) → out-Node m ≡ map-Node Standing Node (λ e. e.0) y → Stands m
layer-stands (Node-F.Message span name items) m is = block-stands m items (ap inside_of is)
layer-stands (Node-F.EnumDef span name items) m is = block-stands m items (ap inside_of is)
layer-stands (Node-F.Service span name items) m is = block-stands m items (ap inside_of is)
layer-stands (Node-F.Oneof span name items) m is = block-stands m items (ap inside_of is)
layer-stands (Node-F.Extend span target items) m is = block-stands m items (ap inside_of is)
layer-stands (Node-F.Rpc span name request response items) m is = block-stands m items (ap inside_of is)
layer-stands (Node-F.Field f) m is = leaf-stands m (ap inside_of is)
layer-stands (Node-F.MapField f) m is = leaf-stands m (ap inside_of is)
layer-stands (Node-F.Value span name number) m is = leaf-stands m (ap inside_of is)
layer-stands (Node-F.Reserved span list) m is = leaf-stands m (ap inside_of is)
layer-stands (Node-F.Import span is_public path) m is = leaf-stands m (ap inside_of is)
layer-stands (Node-F.Package span name components) m is = leaf-stands m (ap inside_of is)
layer-stands (Node-F.OptionDef span name value) m is = leaf-stands m (ap inside_of is)
layer-stands (Node-F.Syntax span value) m is = leaf-stands m (ap inside_of is)
layer-stands (Node-F.Empty span) m is = leaf-stands m (ap inside_of is)

stands : (m : Node) → Stands m
stands = ind-Node Stands (λ x y is. subst (λ z. Stands (roll-Node z)) is (let layer = map-Node Standing Node (λ e. e.0) y in layer-stands y (roll-Node layer) (out-roll-Node layer)))

pub statements-stand : (nodes : List Node) (n : Node) → Contains (all_statements nodes) n → HasStatement nodes n
statements-stand nodes n c = by nodes nodes (λ m at. at) c
  where
    by : (part body : List Node) → ((m : Node) → Contains part m → Contains body m) → Contains (all_statements part) n → HasStatement body n
    by [] body sub c = absurd (none_in n c)
    by (m ∷ more) body sub c =
        let here : Contains body m = sub m (first_in m more) in
        either (λ same. alone (subst (Contains body) same here))
        (λ rest. either (stands m body n here) (λ later. by more body (λ k at. sub k (later_in m more k at)) later)
        (Contains-append_cases (all_statements (inside m)) (all_statements more) n rest))
        (cases_in m (all_statements (inside m) ++ all_statements more) n (subst (λ l. Contains l n) (all_statements-cons m more) c))

-- ---- what stands in the tree is one of them

own_statement : (nodes : List Node) (n : Node) → Contains nodes n → Contains (all_statements nodes) n
own_statement [] n c = absurd (none_in n c)
own_statement (m ∷ more) n c =
    subst (λ l. Contains l n) (sym (all_statements-cons m more))
    (either (λ same. subst (Contains (m ∷ all_statements (inside m) ++ all_statements more)) same (first_in m (all_statements (inside m) ++ all_statements more)))
    (λ later. later_in m (all_statements (inside m) ++ all_statements more) n (Contains-append_right (all_statements (inside m)) (all_statements more) n (own_statement more n later)))
    (cases_in m more n c))

inner_statement : (nodes : List Node) (block n : Node) → Contains nodes block → Contains (all_statements (inside block)) n → Contains (all_statements nodes) n
inner_statement [] block n c h = absurd (none_in block c)
inner_statement (m ∷ more) block n c h =
    subst (λ l. Contains l n) (sym (all_statements-cons m more))
    (later_in m (all_statements (inside m) ++ all_statements more) n
    (either (λ same. Contains-append_left (all_statements (inside m)) (all_statements more) n (subst (λ b. Contains (all_statements (inside b)) n) (sym same) h))
    (λ later. Contains-append_right (all_statements (inside m)) (all_statements more) n (inner_statement more block n later h))
    (cases_in m more block c)))

pub in_statements : {nodes : List Node} {n : Node} → HasStatement nodes n → Contains (all_statements nodes) n
in_statements (alone {body} {n} c) = own_statement body n c
in_statements (within {body} {block} {n} c h) = inner_statement body block n c (subst (λ l. Contains (all_statements l) n) (sym (braces block)) (in_statements h))
