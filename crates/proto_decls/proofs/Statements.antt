-- The statements of a tree: a list of all of them begins with the first, and then come those inside it.
use Rattle.std.proofs.Common.{◌≡◌, ◌∙◌, List, [], ◌∷◌, ◌++◌, map, refl, ap, subst}
use Rattle.proto_tree.specs.declared.node.Node.{Node, map-Node, out-Node, roll-Node}
use Rattle.proto_tree.specs.declared.node.Node.TheOpen.{Node-F}
use Rattle.proto_tree.specs.declared.node.Node.TheFolds.{fold-roll-Node, fold_out-Node, ind-Node}
use Rattle.proto_decls.specs.Tree.{Seen, all_of, all_statements, inside, inside_of, seen, seen_step}

abbrev Same : Node → Type 0
Same n = (seen n).0 ≡ n

abbrev Known : Type 0
Known = (f : Node) × Same f

sames : (items : List Known) → map (λ s. s.0) (map seen (map (λ e. e.0) items)) ≡ map (λ e. e.0) items
sames [] = refl
sames (e ∷ es) = ap (λ n. n ∷ map (λ s. s.0) (map seen (map (λ e. e.0) es))) e.1 ∙ ap (λ ns. e.0 ∷ ns) (sames es)

again : (y : Node-F Known) → map-Node Seen Node (λ s. s.0) (map-Node Node Seen seen (map-Node Known Node (λ e. e.0) y)) ≡ map-Node Known Node (λ e. e.0) y
again (Node-F.Message span name items) = ap (Node-F.Message span name) (sames items)
again (Node-F.EnumDef span name items) = ap (Node-F.EnumDef span name) (sames items)
again (Node-F.Service span name items) = ap (Node-F.Service span name) (sames items)
again (Node-F.Oneof span name items) = ap (Node-F.Oneof span name) (sames items)
again (Node-F.Extend span target items) = ap (Node-F.Extend span target) (sames items)
again (Node-F.Rpc span name request response items) = ap (Node-F.Rpc span name request response) (sames items)
again (Node-F.Field f) = refl
again (Node-F.MapField f) = refl
again (Node-F.Value span name number) = refl
again (Node-F.Reserved span list) = refl
again (Node-F.Import span is_public path) = refl
again (Node-F.Package span name components) = refl
again (Node-F.OptionDef span name value) = refl
again (Node-F.Syntax span value) = refl
again (Node-F.Empty span) = refl

seen-itself : (n : Node) → (seen n).0 ≡ n
seen-itself = ind-Node Same (λ x y is. subst (λ z. (seen (roll-Node z)).0 ≡ roll-Node z) is (ap (λ (s : Seen). s.0) (fold-roll-Node Seen seen_step (map-Node Known Node (λ e. e.0) y)) ∙ ap roll-Node (again y)))

inner : (y : Node-F Node) → inside_of (map-Node Node Seen seen y) ≡ map seen (inside_of y)
inner (Node-F.Message span name items) = refl
inner (Node-F.EnumDef span name items) = refl
inner (Node-F.Service span name items) = refl
inner (Node-F.Oneof span name items) = refl
inner (Node-F.Extend span target items) = refl
inner (Node-F.Rpc span name request response items) = refl
inner (Node-F.Field f) = refl
inner (Node-F.MapField f) = refl
inner (Node-F.Value span name number) = refl
inner (Node-F.Reserved span list) = refl
inner (Node-F.Import span is_public path) = refl
inner (Node-F.Package span name components) = refl
inner (Node-F.OptionDef span name value) = refl
inner (Node-F.Syntax span value) = refl
inner (Node-F.Empty span) = refl

pub all_statements-cons : (n : Node) (more : List Node) → all_statements (n ∷ more) ≡ n ∷ all_statements (inside n) ++ all_statements more
all_statements-cons n more =
    ap (λ m. m ∷ (seen n).1 ++ all_statements more) (seen-itself n)
    ∙ ap (λ ns. n ∷ ns ++ all_statements more) (ap (λ (s : Seen). s.1) (fold_out-Node Seen seen_step n) ∙ ap all_of (inner (out-Node n)))
