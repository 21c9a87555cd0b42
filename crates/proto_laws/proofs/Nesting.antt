-- The declarations of a text nest.
use Rattle.std.proofs.Common.{◌≡◌, ◌∙◌, sym, subst, inl, inr, ℕ, ◌+◌, List, [], ◌∷◌, ◌++◌, Option, Some, None, length, get_or, map, refl, cond}
use Rattle.std.specs.Prelude.{◌≢◌, ◌⊎◌, ◌&&◌, All, Bool, true, false, nat_le, slice_range}
use Rattle.std.specs.List.{Any}
use Rattle.std.proofs.lemmas.List.{get_or_default}
use Rattle.std.proofs.lemmas.List.Elements.{All-nil, All-cons, All-head, All-tail, All-append}
use Rattle.proto_tree.specs.declared.node.FileTree.{FileTree}
use Rattle.proto_tree.specs.declared.node.Node.{Node, roll-Node, map-Node}
use Rattle.proto_tree.specs.declared.node.Node.TheOpen.{Node-F}
use Rattle.proto_tree.specs.declared.node.Node.TheFolds.{fold-roll-Node, ind-Node}
use Rattle.proto_tree.specs.declared.node.Span.{Span}
use Rattle.proto_tree.specs.Names.{joined as all_names, names_step, names_of, names_in}
use Rattle.proto_tree.specs.Identifiers.{IsIdentifierAt, NamesAreIdentifiers}
use Rattle.proto_tree.specs.Others.{other_tree}
use Rattle.proto_tree.specs.Read.{empty_tree, read, value_tree}
use Rattle.proto_laws.proofs.TokenNames.{no_dot}
use Rattle.proto_decls.specs.declared.diagnostic.Diag.{Diag}
use Rattle.proto_decls.specs.declared.fact.Decl.{Decl}
use Rattle.proto_decls.specs.declared.fact.DeclKind.{DeclKind}
use Rattle.proto_decls.specs.declared.fact.DeclKind.TheVariants as kind
use Rattle.proto_decls.specs.declared.fact.FileFacts.{FileFacts}
use Rattle.proto_decls.specs.declared.fact.PackageFact.{PackageFact}
use Rattle.proto_decls.specs.declared.stated.StatedSyntax.{StatedSyntax}
use Rattle.proto_decls.specs.Decls.{declared, Placed, in_turn, decls_step, decls_of, decls_in}
use Rattle.proto_decls.specs.Facts.{decls, facts_at, facts_by, facts_of, first_package, is_other, opaque, other_facts, package_name, packages, stated}
use Rattle.proto_laws.proofs.IdentifierLaws.{OthersAreIdentifiers, of_value, weaker}
use Rattle.proto_decls.specs.Nesting.{HasName, IsWithin, HasOuterNames, NamesNest}
use Rattle.proto_decls.specs.Text.{is_boundary, joined, text_at}

module _ {X : Type 0} (P : X → Type 0) where
  pub all_left : (xs ys : List X) → All P (xs ++ ys) → All P xs
  all_left [] ys all = All-nil P
  all_left (x ∷ xs) ys all = All-cons P x xs (All-head P x (xs ++ ys) all) (all_left xs ys (All-tail P x (xs ++ ys) all))

  pub all_right : (xs ys : List X) → All P (xs ++ ys) → All P ys
  all_right [] ys all = all
  all_right (x ∷ xs) ys all = all_right xs ys (All-tail P x (xs ++ ys) all)

-- ---- names

abbrev HasNoDot : List ℕ → Type 0
HasNoDot name = All (λ c. c ≢ 46) name

abbrev pub HasNoDotAt : List ℕ → Span → Type 0
HasNoDotAt text s = HasNoDot (text_at text s)

dot_inside : (b name : List ℕ) → HasNoDot (b ++ 46 ∷ name) → ⊥
dot_inside [] name none = All-head (λ c. c ≢ 46) 46 name none refl
dot_inside (x ∷ b) name none = dot_inside b name (All-tail (λ c. c ≢ 46) x (b ++ 46 ∷ name) none)

joined_dot : (outer name : List ℕ) → outer ≢ [] → joined outer name ≡ outer ++ 46 ∷ name
joined_dot [] name some = absurd (some refl)
joined_dot (c ∷ outer) name some = refl

not_empty : (outer name : List ℕ) → outer ≢ [] → [] ≡ joined outer name → ⊥
not_empty [] name some e = some refl
not_empty (c ∷ outer) name some e = absurd (cc (e))

one_longer : (x y : ℕ) (a b : List ℕ) → x ≡ y → (a ≡ b) ⊎ ((rest : List ℕ) × (a ≡ b ++ 46 ∷ rest)) → (x ∷ a ≡ y ∷ b) ⊎ ((rest : List ℕ) × (x ∷ a ≡ y ∷ (b ++ 46 ∷ rest)))
one_longer x y a b same (inl equal) = inl (rw (same, equal) refl)
one_longer x y a b same (inr longer) = inr (longer.0, rw (same, longer.1) refl)

-- what stands before the last dot is the outer name, or lies in it
split : (a t b name : List ℕ) → HasNoDot t → a ++ 46 ∷ t ≡ b ++ 46 ∷ name → (a ≡ b) ⊎ ((rest : List ℕ) × (a ≡ b ++ 46 ∷ rest))
split [] t [] name none e = inl refl
split [] t (y ∷ b) name none e = let same : t ≡ b ++ 46 ∷ name = cc (e) in absurd (dot_inside b name (subst HasNoDot same none))
split (x ∷ a) t [] name none e = let here : x ≡ 46 = cc (e) in inr (a, rw here refl)
split (x ∷ a) t (y ∷ b) name none e =
    let here : x ≡ y = cc (e) in
    let later : a ++ 46 ∷ t ≡ b ++ 46 ∷ name = cc (e) in
    one_longer x y a b here (split a t b name none later)

-- ---- statements

module _ (Held : List ℕ → Type 0) where
  -- each name that a full name lies in is held
  abbrev Nests : List ℕ → Type 0
  Nests full_name = (outer name : List ℕ) → outer ≢ [] → full_name ≡ joined outer name → Held outer

  -- a scope is held, and so is each that it lies in
  pub record IsScope (scope : List ℕ) : Type 0 where
    pub itself : scope ≢ [] → Held scope
    pub outer : Nests scope

  nests : (scope name : List ℕ) → HasNoDot name → IsScope scope → Nests (joined scope name)
  nests [] name none held outer more some e = absurd (dot_inside outer more (subst HasNoDot (e ∙ joined_dot outer more some) none))
  nests (c ∷ scope) name none held outer more some e = elim (split (c ∷ scope) name outer more none (e ∙ joined_dot outer more some)) [
    | inl same ↦ subst Held same (held.itself (λ bad. absurd (cc (bad))))
    | inr longer ↦ held.outer outer longer.0 some (longer.1 ∙ sym (joined_dot outer longer.0 some))
  ]

  module _ (text : List ℕ) where
    abbrev AreHeld : List Decl → Type 0
    AreHeld ds = All (λ d. Held d.full_name) ds

    abbrev AllNest : List Decl → Type 0
    AllNest ds = All (λ d. Nests d.full_name) ds

    -- where the names have no dots and the scope and what is declared are held, what is declared nests
    abbrev Nest : Placed → List Span → Type 0
    Nest declared names = All (HasNoDotAt text) names → (k : DeclKind) (scope : List ℕ) (parent : Option ℕ) (next : ℕ) → IsScope scope
        → AreHeld (declared k scope parent next) → AllNest (declared k scope parent next)

    abbrev Known : Type 0
    Known = (n : Node) × Nest (decls_of text n) (names_of n)

    in_turn-nest : (items : List Known) → Nest (in_turn (map (decls_of text) (map (λ e. e.0) items))) (all_names (map names_of (map (λ e. e.0) items)))
    in_turn-nest [] names k scope parent next held there = All-nil (λ d. Nests d.full_name)
    in_turn-nest (e ∷ more) names k scope parent next held there =
        let first = decls_of text e.0 k scope parent next in
        let rest = in_turn (map (decls_of text) (map (λ e. e.0) more)) k scope parent (next + length first) in
        let later = all_names (map names_of (map (λ e. e.0) more)) in
        All-append (λ d. Nests d.full_name) first rest
        (e.1 (all_left (HasNoDotAt text) (names_of e.0) later names) k scope parent next held (all_left (λ d. Held d.full_name) first rest there))
        (in_turn-nest more (all_right (HasNoDotAt text) (names_of e.0) later names) k scope parent (next + length first) held (all_right (λ d. Held d.full_name) first rest there))

    -- a declaration alone
    own-nests : (name : Span) (more : List Span) (scope : List ℕ) → All (HasNoDotAt text) (name ∷ more) → IsScope scope → Nests (joined scope (text_at text name))
    own-nests name more scope names held = nests scope (text_at text name) (All-head (HasNoDotAt text) name more names) held

    one-nests : (what : DeclKind → DeclKind) (name : Span) → Nest (λ k scope parent next. declared text (what k) name scope parent ∷ []) (name ∷ [])
    one-nests what name names k scope parent next held there =
        All-cons (λ d. Nests d.full_name) (declared text (what k) name scope parent) [] (own-nests name [] scope names held) (All-nil (λ d. Nests d.full_name))

    -- with those inside it, in the same scope
    block-nests : (what : DeclKind) (name : Span) (items : List Known)
        → Nest (λ k scope parent next. declared text what name scope parent ∷ in_turn (map (decls_of text) (map (λ e. e.0) items)) kind.Field scope (Some next) (next + 1)) (name ∷ all_names (map names_of (map (λ e. e.0) items)))
    block-nests what name items names k scope parent next held there =
        let d = declared text what name scope parent in
        let inner = in_turn (map (decls_of text) (map (λ e. e.0) items)) kind.Field scope (Some next) (next + 1) in
        let inside = all_names (map names_of (map (λ e. e.0) items)) in
        All-cons (λ d. Nests d.full_name) d inner (own-nests name inside scope names held)
        (in_turn-nest items (All-tail (HasNoDotAt text) name inside names) kind.Field scope (Some next) (next + 1) held (All-tail (λ d. Held d.full_name) d inner there))

    -- with those inside it, of which it is the scope
    scope-nests : (what : DeclKind) (name : Span) (items : List Known)
        → Nest (λ k scope parent next. declared text what name scope parent ∷ in_turn (map (decls_of text) (map (λ e. e.0) items)) kind.Field (joined scope (text_at text name)) (Some next) (next + 1))
        (name ∷ all_names (map names_of (map (λ e. e.0) items)))
    scope-nests what name items names k scope parent next held there =
        let full_name = joined scope (text_at text name) in
        let d = declared text what name scope parent in
        let inner = in_turn (map (decls_of text) (map (λ e. e.0) items)) kind.Field full_name (Some next) (next + 1) in
        let inside = all_names (map names_of (map (λ e. e.0) items)) in
        let own : Nests full_name = own-nests name inside scope names held in
        let is_scope : IsScope full_name = record { itself = λ some. All-head (λ d. Held d.full_name) d inner there; outer = own } in
        All-cons (λ d. Nests d.full_name) d inner own
        (in_turn-nest items (All-tail (HasNoDotAt text) name inside names) kind.Field full_name (Some next) (next + 1) is_scope (All-tail (λ d. Held d.full_name) d inner there))

    none-nests : Nest (λ k scope parent next. []) []
    none-nests names k scope parent next held there = All-nil (λ d. Nests d.full_name)

    -- one level
    step-nests : (y : Node-F Known) → Nest (decls_step text (map-Node Node Placed (decls_of text) (map-Node Known Node (λ e. e.0) y))) (names_step (map-Node Node (List Span) names_of (map-Node Known Node (λ e. e.0) y)))
    step-nests (Node-F.Message span name items) = scope-nests kind.Message name items
    step-nests (Node-F.EnumDef span name items) = block-nests kind.EnumDef name items
    step-nests (Node-F.Service span name items) = scope-nests kind.Service name items
    step-nests (Node-F.Oneof span name items) = block-nests kind.Oneof name items
    step-nests (Node-F.Extend span target items) = λ names k scope parent next. in_turn-nest items names kind.Extension scope parent next
    step-nests (Node-F.Rpc span name request response items) = one-nests (λ k. kind.Rpc) name
    step-nests (Node-F.Field f) = one-nests (λ k. k) f.name
    step-nests (Node-F.MapField f) = one-nests (λ k. k) f.name
    step-nests (Node-F.Value span name number) = one-nests (λ k. kind.Value) name
    step-nests (Node-F.Reserved span list) = none-nests
    step-nests (Node-F.Import span is_public path) = none-nests
    step-nests (Node-F.Package span name components) = none-nests
    step-nests (Node-F.OptionDef span name value) = none-nests
    step-nests (Node-F.Syntax span value) = none-nests
    step-nests (Node-F.Empty span) = none-nests

    decls_of-nest : (n : Node) → Nest (decls_of text n) (names_of n)
    decls_of-nest = ind-Node (λ n. Nest (decls_of text n) (names_of n)) (λ x y is. subst (λ z. Nest (decls_of text (roll-Node z)) (names_of (roll-Node z))) is (
        let layer = map-Node Known Node (λ e. e.0) y in
        subst (λ d. Nest d (names_of (roll-Node layer))) (sym (fold-roll-Node Placed (decls_step text) layer))
        (subst (λ names. Nest (decls_step text (map-Node Node Placed (decls_of text) layer)) names) (sym (fold-roll-Node (List Span) names_step layer)) (step-nests y))))

    known : List Node → List Known
    known nodes = map (λ n. (n, decls_of-nest n)) nodes

    decls_in-nest : (nodes : List Node) → Nest (decls_in text nodes) (names_in nodes)
    decls_in-nest [] names k scope parent next held there = All-nil (λ d. Nests d.full_name)
    decls_in-nest (n ∷ more) names k scope parent next held there =
        let first = decls_of text n k scope parent next in
        let rest = decls_in text more k scope parent (next + length first) in
        All-append (λ d. Nests d.full_name) first rest
        (decls_of-nest n (all_left (HasNoDotAt text) (names_of n) (names_in more) names) k scope parent next held (all_left (λ d. Held d.full_name) first rest there))
        (decls_in-nest more (all_right (HasNoDotAt text) (names_of n) (names_in more) names) k scope parent (next + length first) held (all_right (λ d. Held d.full_name) first rest there))

-- ---- files

package-scope : (Held : List ℕ → Type 0) (o : Option PackageFact) → ((name : List ℕ) → IsWithin name o → Held name) → IsScope Held (package_name o)
package-scope Held None known = record { itself = λ some. absurd (some refl); outer = λ outer name some e. absurd (not_empty outer name some e) }
package-scope Held (Some p) known = record { itself = λ some. known p.full_name (inl refl); outer = λ outer name some e. known outer (inr (name, e ∙ joined_dot outer name some)) }

-- each declaration is one of them
all-declared : (ds : List Decl) → All (λ d. Any (λ e. e.full_name ≡ d.full_name) ds) ds
all-declared ds k d lt = (k, get_or ds k d, lt, get_or_default ds k (get_or ds k d) d lt, refl)

facts-nest : (o : Option Diag) (syntaxes : List StatedSyntax) (text : List ℕ) (tree : FileTree) → All (HasNoDotAt text) (names_in tree.nodes) → NamesNest (facts_at o syntaxes text tree)
facts-nest None syntaxes text tree names =
    let facts = facts_at None syntaxes text tree in
    let place = first_package (packages text tree.nodes) in
    decls_in-nest (HasName facts) text tree.nodes names kind.Field (package_name place) None 0 (package-scope (HasName facts) place (λ name within. inr within)) (λ k d lt. inl (all-declared (decls text tree.nodes) k d lt))
facts-nest (Some diag) syntaxes text tree names = All-nil (λ (d : Decl). HasOuterNames (facts_at (Some diag) syntaxes text tree) d.full_name)

pub decls-nest : (text : List ℕ) → All (HasNoDotAt text) (names_in (let tree = value_tree text in tree.nodes)) → NamesNest (facts_of text)
decls-nest text names = let tree = value_tree text in facts-nest (opaque text (stated text tree.nodes)) (stated text tree.nodes) text tree names

-- what stands at a span of the text is the identifier there, or nothing
no_dot_at : (text : List ℕ) (s : Span) → IsIdentifierAt text s → HasNoDotAt text s
no_dot_at text s is = by (nat_le s.start s.«end» && (is_boundary text s.start && is_boundary text s.«end»))
  where
    by : (b : Bool) → HasNoDot (cond {A = List ℕ} b (slice_range text s.start s.«end») [])
    by true = no_dot (slice_range text s.start s.«end») is.bytes
    by false = All-nil (λ c. c ≢ 46)

own-nest : read [] ≡ empty_tree → NamesAreIdentifiers → (text : List ℕ) → NamesNest (facts_of text)
own-nest empty identifiers text =
    let all = of_value (HasNoDotAt text) text empty (weaker (IsIdentifierAt text) (HasNoDotAt text) (read text).nodes (no_dot_at text) (identifiers text)) in
    decls-nest text all.names

-- of a text that isn't proto3, as it is read for what it declares
others-nest : OthersAreIdentifiers → (text : List ℕ) → NamesNest (other_facts text)
others-nest others text =
    let tree = other_tree text in
    let all = weaker (IsIdentifierAt text) (HasNoDotAt text) tree.nodes (no_dot_at text) (others text) in
    facts-nest None [] text tree all.names

pub names-nest : read [] ≡ empty_tree → NamesAreIdentifiers → OthersAreIdentifiers → (reads_others : Bool) (text : List ℕ) → NamesNest (facts_by reads_others text)
names-nest empty identifiers others reads_others text = by (reads_others && is_other text)
  where
    by : (b : Bool) → NamesNest (cond {A = FileFacts} b (other_facts text) (facts_of text))
    by true = others-nest others text
    by false = own-nest empty identifiers text
