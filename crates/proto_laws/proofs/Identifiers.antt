-- The identifiers of a text's names in the order of its tokens.
use Rattle.std.proofs.Common.{◌≡◌, ℕ, List, [], ◌∷◌, ◌++◌, map, refl, sym, ap, subst, ◌∙◌, append_assoc, append-nil}
use Rattle.std.specs.List.Sorted.{IsPermutation}
use Rattle.std.proofs.lemmas.Grind.{flat_map-append}
use Rattle.std.proofs.lemmas.List.Sorted.{IsPermutation-refl, IsPermutation-trans, IsPermutation-cons, IsPermutation-append, IsPermutation-append_comm}
use Rattle.proto_tree.specs.declared.lexeme.Lexeme.{Lexeme}
use Rattle.proto_tree.specs.declared.lexeme.Body.{Body}
use Rattle.proto_tree.specs.declared.node.Header.TheVariants as header
use Rattle.proto_tree.specs.declared.node.Node.{Node, roll-Node, map-Node}
use Rattle.proto_tree.specs.declared.node.Node.TheVariants as node
use Rattle.proto_tree.specs.declared.node.Node.TheOpen.{Node-F}
use Rattle.proto_tree.specs.declared.node.Node.TheFolds.{fold-Node, fold-roll-Node, ind-Node}
use Rattle.proto_tree.specs.declared.node.Span.{Span}
use Rattle.proto_tree.specs.declared.node.TypeName.{TypeName}
use Rattle.proto_tree.specs.Grammar.{◌⊳◌, IsIdent, IsInParentheses, IsHeader, is_syntax, is_import, is_package, is_option, is_field, is_map_field, is_value, is_reserved_in_message, is_reserved_in_enum, is_rpc, is_empty}
use Rattle.proto_tree.specs.Names.{joined, names_step, names_of, names_in, type_names_step, type_names_of, type_names_in, components_of, type_components_in, package_components_step, package_components_of, package_components_in}
use Rattle.proto_tree.specs.Read.{body_tree}
use Rattle.proto_laws.proofs.Spelled.{Spell, spell-one, spell-later, spell-joined, spell-sooner, spell-behind, spell-before, spell-turn, type-spelled, full-spelled}
use Rattle.proto_laws.proofs.TreeSpells.{StatementsSpell, BlocksSpell, body-spells}

-- ---- in the order of the tree

-- One level: the identifiers of its names, and those of the statements between the braces, but for packages.
abbrev pub identifiers_step : Node-F (List Span) → List Span
identifiers_step (Node-F.Message span name items) = name ∷ joined items
identifiers_step (Node-F.EnumDef span name items) = name ∷ joined items
identifiers_step (Node-F.Service span name items) = name ∷ joined items
identifiers_step (Node-F.Oneof span name items) = name ∷ joined items
identifiers_step (Node-F.Extend span target items) = target.components ++ joined items
identifiers_step (Node-F.Rpc span name request response items) = name ∷ (request.components ++ response.components)
identifiers_step (Node-F.Field f) = f.type_name.components ++ f.name ∷ []
identifiers_step (Node-F.MapField f) = f.value.components ++ f.name ∷ []
identifiers_step (Node-F.Value span name number) = name ∷ []
identifiers_step _ = []

abbrev pub identifiers_of : Node → List Span
identifiers_of = fold-Node (List Span) identifiers_step

-- of a statement of the file: those of its package, if it states one, and its others
abbrev pub all_of : Node → List Span
all_of n = package_components_of n ++ identifiers_of n

abbrev pub identifiers_in : List Node → List Span
identifiers_in nodes = joined (map all_of nodes)

-- ---- they are spelled by the tokens in turn

-- one level opened
fold_at : (step : Node-F (List Span) → List Span) (y : Node-F Node) (n : Node) → roll-Node y ≡ n → fold-Node (List Span) step n ≡ step (map-Node Node (List Span) (fold-Node (List Span) step) y)
fold_at step y n same = ap (fold-Node (List Span) step) (sym same) ∙ fold-roll-Node (List Span) step y

-- a statement that states no package
at_level : (ts : List Lexeme) (y : Node-F Node) (n : Node) → roll-Node y ≡ n → package_components_step (map-Node Node (List Span) package_components_of y) ≡ [] → Spell IsIdent ts (identifiers_step (map-Node Node (List Span) identifiers_of y))
    → Spell IsIdent ts (all_of n)
at_level ts y n same none h =
    subst (λ (l : List Span). Spell IsIdent ts (l ++ identifiers_of n)) (sym (fold_at package_components_step y n same ∙ none)) (subst (Spell IsIdent ts) (sym (fold_at identifiers_step y n same)) h)

named : {Q : List Lexeme → Type 0} (name : Span) (ts : List Lexeme) → (IsIdent name ⊳ Q) ts → Spell IsIdent ts (name ∷ [])
named name ts h = spell-before IsIdent (name ∷ []) (spell-one IsIdent name) ts h

-- it stands in the second form
behind : {P Q : List Lexeme → Type 0} (spans : List Span) → ((rest : List Lexeme) → Q rest → Spell IsIdent rest spans) → (ts : List Lexeme) → (P ⊳ Q) ts → Spell IsIdent ts spans
behind spans q ts h = spell-behind IsIdent spans q ts h

in_parentheses : (its : TypeName) (ts : List Lexeme) → IsInParentheses its ts → Spell IsIdent ts its.components
in_parentheses its ts h = behind its.components (λ inside p. behind its.components (λ rest q. spell-before IsIdent its.components (type-spelled its) rest q) inside p) ts h

rpc-spells : (name : Span) (request response : TypeName) (ts : List Lexeme) → IsHeader (header.Rpc name request response) ts → Spell IsIdent ts (name ∷ (request.components ++ response.components))
rpc-spells name request response ts h =
    let types = request.components ++ response.components in
    behind (name ∷ types)
    (λ rest p. spell-turn IsIdent (name ∷ []) types (spell-one IsIdent name) (λ back q. spell-turn IsIdent request.components response.components (in_parentheses request) (λ last r. behind response.components (in_parentheses response) last r) back q) rest p)
    ts h

statement-spells : StatementsSpell IsIdent all_of
statement-spells body first span n ts (is_syntax {value = value} h) = at_level ts _ _ (node.rolls-Syntax span value) refl tt
statement-spells body first span n ts (is_import {is_public = is_public} {path = path} h) = at_level ts _ _ (node.rolls-Import span is_public path) refl tt
statement-spells body first span n ts (is_package {name = name} {components = components} h) =
    let is = node.rolls-Package span name components in
    let packages = fold_at package_components_step _ _ is in
    let others = fold_at identifiers_step _ _ is in
    subst (Spell IsIdent ts) (sym (ap (λ (l : List Span). l ++ identifiers_of (node.Package span name components)) packages ∙ ap (λ (l : List Span). components ++ l) others ∙ append-nil components))
    (spell-behind IsIdent components (spell-before IsIdent components (λ front full. full-spelled components front full.0)) ts h)
statement-spells body first span n ts (is_option {name = name} {value = value} fits h) = at_level ts _ _ (node.rolls-OptionDef span name value) refl tt
statement-spells body first span n ts (is_field {f = f} fits whole h) =
    let its = f.type_name.components ++ f.name ∷ [] in
    at_level ts _ _ (node.rolls-Field f) refl (behind its (λ rest p. spell-turn IsIdent f.type_name.components (f.name ∷ []) (type-spelled f.type_name) (named f.name) rest p.1) ts h)
statement-spells body first span n ts (is_map_field {f = f} fits whole h) =
    let its = f.value.components ++ f.name ∷ [] in
    let found = behind its (behind its (behind its (behind its (λ rest p. spell-turn IsIdent f.value.components (f.name ∷ []) (type-spelled f.value) (behind (f.name ∷ []) (named f.name)) rest p)))) in
    at_level ts _ _ (node.rolls-MapField f) refl (behind its (λ rest p. found rest p.1) ts h)
statement-spells body first span n ts (is_value {name = name} {n = number} fits h) = at_level ts _ _ (node.rolls-Value span name number) refl (named name ts h)
statement-spells body first span n ts (is_reserved_in_message {list = list} h) = at_level ts _ _ (node.rolls-Reserved span list) refl tt
statement-spells body first span n ts (is_reserved_in_enum {list = list} h) = at_level ts _ _ (node.rolls-Reserved span list) refl tt
statement-spells body first span n ts (is_rpc {name = name} {request = request} {response = response} h) =
    at_level ts _ _ (node.rolls-Rpc span name request response []) refl (spell-before IsIdent (name ∷ (request.components ++ response.components)) (rpc-spells name request response) ts h)
statement-spells body first span n ts (is_empty h) = at_level ts _ _ (node.rolls-Empty span) refl tt

-- what two lists spell in turn, each of them does
split : (xs ys : List Span) (ts : List Lexeme) → Spell IsIdent ts (xs ++ ys) → (front : List Lexeme) × (back : List Lexeme) × (ts ≡ front ++ back) × Spell IsIdent front xs × Spell IsIdent back ys
split [] ys ts h = ([], ts, refl, tt, h)
split (x ∷ xs) ys ts h =
    let more = split xs ys h.2 h.5 in
    let whole : ts ≡ (h.0 ++ (h.1 ++ more.0)) ++ more.1 = h.3 ∙ ap (λ l. h.0 ++ (h.1 ++ l)) more.2 ∙ ap (λ l. h.0 ++ l) (sym (append_assoc h.1 more.0 more.1)) ∙ sym (append_assoc h.0 (h.1 ++ more.0) more.1) in
    (h.0 ++ (h.1 ++ more.0), more.1, whole, (h.0, h.1, more.0, refl, h.4, more.3), more.4)

-- without packages
fewer : (nodes : List Node) (ts : List Lexeme) → Spell IsIdent ts (identifiers_in nodes) → Spell IsIdent ts (joined (map identifiers_of nodes))
fewer [] ts h = tt
fewer (n ∷ more) ts h =
    let cut = split (all_of n) (identifiers_in more) ts h in
    let own = split (package_components_of n) (identifiers_of n) cut.0 cut.3 in
    let first : Spell IsIdent cut.0 (identifiers_of n) = subst (λ l. Spell IsIdent l (identifiers_of n)) (sym own.2) (spell-later IsIdent own.0 own.1 (identifiers_of n) own.4) in
    subst (λ l. Spell IsIdent l (identifiers_of n ++ joined (map identifiers_of more))) (sym cut.2) (spell-joined IsIdent cut.0 cut.1 (identifiers_of n) (joined (map identifiers_of more)) first (fewer more cut.1 cut.4))

block-spells : BlocksSpell IsIdent all_of
block-spells span (header.Message name) nodes front back h q =
    at_level (front ++ back) _ _ (node.rolls-Message span name nodes) refl (spell-joined IsIdent front back (name ∷ []) (joined (map identifiers_of nodes)) (behind (name ∷ []) (spell-one IsIdent name) front h) (fewer nodes back q))
block-spells span (header.Enum name) nodes front back h q =
    at_level (front ++ back) _ _ (node.rolls-EnumDef span name nodes) refl (spell-joined IsIdent front back (name ∷ []) (joined (map identifiers_of nodes)) (behind (name ∷ []) (spell-one IsIdent name) front h) (fewer nodes back q))
block-spells span (header.Service name) nodes front back h q =
    at_level (front ++ back) _ _ (node.rolls-Service span name nodes) refl (spell-joined IsIdent front back (name ∷ []) (joined (map identifiers_of nodes)) (behind (name ∷ []) (spell-one IsIdent name) front h) (fewer nodes back q))
block-spells span (header.Oneof name) nodes front back h q =
    at_level (front ++ back) _ _ (node.rolls-Oneof span name nodes) refl (spell-joined IsIdent front back (name ∷ []) (joined (map identifiers_of nodes)) (behind (name ∷ []) (spell-one IsIdent name) front h) (fewer nodes back q))
block-spells span (header.Extend target) nodes front back h q =
    at_level (front ++ back) _ _ (node.rolls-Extend span target nodes) refl (spell-joined IsIdent front back target.components (joined (map identifiers_of nodes)) (behind target.components (type-spelled target) front h) (fewer nodes back q))
block-spells span (header.Group name) nodes front back h q =
    at_level (front ++ back) _ _ (node.rolls-Message span name nodes) refl (spell-joined IsIdent front back (name ∷ []) (joined (map identifiers_of nodes)) (behind (name ∷ []) (named name) front h) (fewer nodes back q))
block-spells span (header.Rpc name request response) nodes front back h q =
    at_level (front ++ back) _ _ (node.rolls-Rpc span name request response nodes) refl (spell-sooner IsIdent front back (name ∷ (request.components ++ response.components)) (rpc-spells name request response front h))

pub identifiers-spelled : (limit : ℕ) (body : Body) (ts : List Lexeme) → Spell IsIdent ts (identifiers_in (body_tree limit body ts).nodes)
identifiers-spelled = body-spells IsIdent all_of statement-spells block-spells

-- ---- they are the names of the three lists

abbrev Known : Type 0
Known = (n : Node) × IsPermutation (identifiers_of n) (names_of n ++ components_of (type_names_of n))

abbrev nodes_of : List Known → List Node
nodes_of items = map (λ e. e.0) items

-- the second of four lists and the third change places
four : (a b c d : List Span) → IsPermutation ((a ++ b) ++ (c ++ d)) ((a ++ c) ++ (b ++ d))
four a b c d =
    subst (λ l. IsPermutation l ((a ++ c) ++ (b ++ d))) (sym (append_assoc a b (c ++ d)))
    (subst (IsPermutation (a ++ (b ++ (c ++ d)))) (sym (append_assoc a c (b ++ d)))
    (IsPermutation-append a a (b ++ (c ++ d)) (c ++ (b ++ d)) (IsPermutation-refl a)
    (subst (λ l. IsPermutation l (c ++ (b ++ d))) (append_assoc b c d) (subst (IsPermutation ((b ++ c) ++ d)) (append_assoc c b d) (IsPermutation-append (b ++ c) (c ++ b) d d (IsPermutation-append_comm b c) (IsPermutation-refl d))))))

components-append : (ts more : List TypeName) → components_of (ts ++ more) ≡ components_of ts ++ components_of more
components-append ts more = flat_map-append (λ t. t.components) ts more

body-same : (items : List Known) → IsPermutation (joined (map identifiers_of (nodes_of items))) (names_in (nodes_of items) ++ components_of (type_names_in (nodes_of items)))
body-same [] = IsPermutation-refl []
body-same (e ∷ more) =
    let names = names_in (nodes_of more) in
    let types = type_names_in (nodes_of more) in
    subst (λ l. IsPermutation (identifiers_of e.0 ++ joined (map identifiers_of (nodes_of more))) ((names_of e.0 ++ names) ++ l)) (sym (components-append (type_names_of e.0) types))
    (IsPermutation-trans _ _ _ (IsPermutation-append (identifiers_of e.0) (names_of e.0 ++ components_of (type_names_of e.0)) _ (names ++ components_of types) e.1 (body-same more)) (four (names_of e.0) (components_of (type_names_of e.0)) names (components_of types)))

abbrev Same : List Span → List Span → List TypeName → Type 0
Same found names types = IsPermutation found (names ++ components_of types)

block-same : (name : Span) (items : List Known) → Same (name ∷ joined (map identifiers_of (nodes_of items))) (name ∷ names_in (nodes_of items)) (type_names_in (nodes_of items))
block-same name items = IsPermutation-cons name _ _ (body-same items)

one-type : (its : TypeName) → components_of (its ∷ []) ≡ its.components
one-type its = append-nil its.components

typed-same : (its : TypeName) (name : Span) → Same (its.components ++ name ∷ []) (name ∷ []) (its ∷ [])
typed-same its name = subst (λ l. IsPermutation (its.components ++ name ∷ []) (name ∷ l)) (sym (one-type its)) (IsPermutation-append_comm its.components (name ∷ []))

step-same : (y : Node-F Known)
    → Same (identifiers_step (map-Node Node (List Span) identifiers_of (map-Node Known Node (λ e. e.0) y))) (names_step (map-Node Node (List Span) names_of (map-Node Known Node (λ e. e.0) y))) (type_names_step (map-Node Node (List TypeName) type_names_of (map-Node Known Node (λ e. e.0) y)))
step-same (Node-F.Message span name items) = block-same name items
step-same (Node-F.EnumDef span name items) = block-same name items
step-same (Node-F.Service span name items) = block-same name items
step-same (Node-F.Oneof span name items) = block-same name items
step-same (Node-F.Extend span target items) =
    let names = names_in (nodes_of items) in
    let types = components_of (type_names_in (nodes_of items)) in
    IsPermutation-trans _ _ _ (IsPermutation-append target.components target.components _ (names ++ types) (IsPermutation-refl target.components) (body-same items)) (four [] target.components names types)
step-same (Node-F.Rpc span name request response items) =
    subst (λ l. IsPermutation (name ∷ (request.components ++ response.components)) (name ∷ (request.components ++ l))) (sym (one-type response)) (IsPermutation-refl (name ∷ (request.components ++ response.components)))
step-same (Node-F.Field f) = typed-same f.type_name f.name
step-same (Node-F.MapField f) = typed-same f.value f.name
step-same (Node-F.Value span name number) = IsPermutation-refl (name ∷ [])
step-same _ = IsPermutation-refl []

node-same : (n : Node) → Same (identifiers_of n) (names_of n) (type_names_of n)
node-same = ind-Node (λ n. Same (identifiers_of n) (names_of n) (type_names_of n)) (λ x y is. subst (λ z. Same (identifiers_of (roll-Node z)) (names_of (roll-Node z)) (type_names_of (roll-Node z))) is (
    let layer = map-Node Known Node (λ e. e.0) y in
    subst (λ l. Same l (names_of (roll-Node layer)) (type_names_of (roll-Node layer))) (sym (fold-roll-Node (List Span) identifiers_step layer))
    (subst (λ l. Same (identifiers_step (map-Node Node (List Span) identifiers_of layer)) l (type_names_of (roll-Node layer))) (sym (fold-roll-Node (List Span) names_step layer))
    (subst (Same (identifiers_step (map-Node Node (List Span) identifiers_of layer)) (names_step (map-Node Node (List Span) names_of layer))) (sym (fold-roll-Node (List TypeName) type_names_step layer)) (step-same y)))))

-- the identifiers of a statement of the file
all-same : (n : Node) → IsPermutation (all_of n) (names_of n ++ (components_of (type_names_of n) ++ package_components_of n))
all-same n =
    let names = names_of n in
    let types = components_of (type_names_of n) in
    let packages = package_components_of n in
    subst (IsPermutation (packages ++ identifiers_of n)) (append_assoc names types packages)
    (IsPermutation-trans _ _ _ (IsPermutation-append packages packages (identifiers_of n) (names ++ types) (IsPermutation-refl packages) (node-same n)) (IsPermutation-append_comm packages (names ++ types)))

pub identifiers-same : (nodes : List Node) → IsPermutation (identifiers_in nodes) (names_in nodes ++ (type_components_in nodes ++ package_components_in nodes))
identifiers-same [] = IsPermutation-refl []
identifiers-same (n ∷ more) =
    let names = names_in more in
    let types = type_components_in more in
    let packages = package_components_in more in
    let own = components_of (type_names_of n) in
    let its = package_components_of n in
    subst (λ l. IsPermutation (all_of n ++ identifiers_in more) ((names_of n ++ names) ++ (l ++ (its ++ packages)))) (sym (components-append (type_names_of n) (type_names_in more)))
    (IsPermutation-trans _ _ _ (IsPermutation-append (all_of n) (names_of n ++ (own ++ its)) (identifiers_in more) (names ++ (types ++ packages)) (all-same n) (identifiers-same more))
    (IsPermutation-trans _ _ _ (four (names_of n) (own ++ its) names (types ++ packages)) (IsPermutation-append (names_of n ++ names) (names_of n ++ names) _ _ (IsPermutation-refl (names_of n ++ names)) (four own its types packages))))
