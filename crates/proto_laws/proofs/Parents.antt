-- The parent of a declaration is the one whose body declares it.
use Rattle.std.proofs.Common.{◌≡◌, ◌⊎◌, inl, inr, ℕ, zero, suc, ◌+◌, ◌<◌, List, [], ◌∷◌, ◌++◌, map, Option, Some, None, refl, sym, ap, subst, ◌∙◌, arith, length, get_or, drop, append_assoc, append-nil, drop-drop}
use Rattle.std.specs.Prelude.{Contains}
use Rattle.std.proofs.lemmas.List.{get_or-map, length-map}
use Rattle.std.proofs.lemmas.List.Elements.{Contains-get_or}
use Rattle.std.proofs.lemmas.List.Kept.{AllPairs-from_increasing}
use Rattle.proto_tree.specs.declared.node.FileTree.{FileTree}
use Rattle.proto_tree.specs.declared.node.Node.{Node, out-Node, roll-Node, map-Node}
use Rattle.proto_tree.specs.declared.node.Node.TheOpen.{Node-F}
use Rattle.proto_tree.specs.declared.node.Node.TheFolds.{fold-roll-Node, ind-Node}
use Rattle.proto_tree.specs.declared.node.Span.{Span}
use Rattle.proto_tree.specs.Read.{value_tree}
use Rattle.proto_decls.specs.Decls.{declared, Placed, decls_step, decls_of, decls_in}
use Rattle.proto_decls.specs.Text.{joined, text_at}
use Rattle.proto_decls.specs.declared.diagnostic.Diag.{Diag}
use Rattle.proto_decls.specs.declared.fact.Decl.{Decl}
use Rattle.proto_decls.specs.declared.fact.DeclKind.{DeclKind}
use Rattle.proto_decls.specs.declared.fact.DeclKind.TheVariants as kind
use Rattle.proto_decls.specs.declared.stated.StatedSyntax.{StatedSyntax}
use Rattle.proto_decls.specs.Facts.{facts_at, facts_of, opaque, stated, package_name, first_package, packages}
use Rattle.proto_laws.specs.Parents.{Holds, ParentsHold, Declares, members_of}
use Rattle.proto_laws.proofs.DeclOrder.{Ascend}
use Rattle.proto_laws.proofs.Holders.{Block, Entry, Entries, entries_step, entries_of, entries_in, holds-in, entries-found, Found}

-- ---- what stands where in a list of declarations

-- the kind and the name of the declaration with this number
abbrev block_in : List Decl → Block
block_in [] = None
block_in (d ∷ more) = Some (d.kind, d.name_span)

abbrev parent_in : List Decl → Option ℕ → Block
parent_in all None = None
parent_in all (Some p) = block_in (drop p all)

abbrev IsBelow : ℕ → Option ℕ → Type 0
IsBelow next None = Unit {0}
IsBelow next (Some p) = p < next

-- these stand in the whole list from this number on
abbrev pub StandFrom : List Decl → ℕ → List Decl → Type 0
StandFrom all next ds = (rest : List Decl) × (drop next all ≡ ds ++ rest)

-- declarations from this number on, and the entries that they are: each has the entry's name, and its parent is the entry's block
abbrev AreMarked : List Decl → ℕ → List Decl → List Entry → Type 0
AreMarked all next [] [] = Unit {0}
AreMarked all next [] (e ∷ es) = ⊥
AreMarked all next (d ∷ ds) [] = ⊥
AreMarked all next (d ∷ ds) (e ∷ es) = (d.name_span ≡ e.0) × (parent_in all d.parent ≡ e.1) × IsBelow next d.parent × AreMarked all (suc next) ds es

marked-append : (all : List Decl) (next : ℕ) (ds : List Decl) (es : List Entry) (more : List Decl) (others : List Entry) → AreMarked all next ds es → AreMarked all (next + length ds) more others → AreMarked all next (ds ++ more) (es ++ others)
marked-append all next [] [] more others h g = let same : next + 0 ≡ next = omega arith in subst (λ n. AreMarked all n more others) same g
marked-append all next [] (e ∷ es) more others h g = absurd h
marked-append all next (d ∷ ds) [] more others h g = absurd h
marked-append all next (d ∷ ds) (e ∷ es) more others h g =
    let same : next + length (d ∷ ds) ≡ suc next + length ds = omega arith in
    (h.0, h.1, h.2, marked-append all (suc next) ds es more others h.3 (subst (λ n. AreMarked all n more others) same g))

drop-front : (ds rest : List Decl) → drop (length ds) (ds ++ rest) ≡ rest
drop-front [] rest = refl
drop-front (d ∷ ds) rest = drop-front ds rest

-- behind those that stand first stand the others
pub stand-left : (all : List Decl) (next : ℕ) (ds more : List Decl) → StandFrom all next (ds ++ more) → StandFrom all next ds
stand-left all next ds more h = (more ++ h.0, h.1 ∙ append_assoc ds more h.0)

pub stand-right : (all : List Decl) (next : ℕ) (ds more : List Decl) → StandFrom all next (ds ++ more) → StandFrom all (next + length ds) more
stand-right all next ds more h =
    (h.0, sym (drop-drop (length ds) next all) ∙ ap (drop (length ds)) (h.1 ∙ append_assoc ds more h.0) ∙ drop-front ds (more ++ h.0))

-- ---- statements

module _ (text : List ℕ) (all : List Decl) where
  -- what is declared at a place, and the entries of that place
  abbrev Marks : Placed → Entries → Type 0
  Marks placed entries = (members : DeclKind) (scope : List ℕ) (parent : Option ℕ) (next : ℕ) (outer : Block) → StandFrom all next (placed members scope parent next) → parent_in all parent ≡ outer → IsBelow next parent
      → AreMarked all next (placed members scope parent next) (entries outer)

  abbrev Known : Type 0
  Known = (n : Node) × Marks (decls_of text n) (entries_of n)

  abbrev nodes_of : List Known → List Node
  nodes_of items = map (λ e. e.0) items

  below-later : (parent : Option ℕ) (next k : ℕ) → IsBelow next parent → IsBelow (next + k) parent
  below-later None next k h = tt
  below-later (Some p) next k h = omega (arith, h)

  turn-marks : (items : List Known) → Marks (decls_in text (nodes_of items)) (entries_in (nodes_of items))
  turn-marks [] members scope parent next outer stand is below = tt
  turn-marks (e ∷ more) members scope parent next outer stand is below =
      let first = decls_of text e.0 members scope parent next in
      let rest = decls_in text (nodes_of more) members scope parent (next + length first) in
      marked-append all next first (entries_of e.0 outer) rest (entries_in (nodes_of more) outer)
      (e.1 members scope parent next outer (stand-left all next first rest stand) is below)
      (turn-marks more members scope parent (next + length first) outer (stand-right all next first rest stand) is (below-later parent next (length first) below))

  one-marks : (d : Decl) (name : Span) (parent : Option ℕ) (next : ℕ) (outer : Block) → d.name_span ≡ name → d.parent ≡ parent → parent_in all parent ≡ outer → IsBelow next parent → AreMarked all next (d ∷ []) ((name, outer) ∷ [])
  one-marks d name parent next outer named held is below = (named, ap (parent_in all) held ∙ is, subst (IsBelow next) (sym held) below, tt)

  -- a block and what is declared in it
  block-marks : (k members : DeclKind) (name : Span) (items : List Known) (scope inner : List ℕ) (parent : Option ℕ) (next : ℕ) (outer : Block) (d : Decl) → d.kind ≡ k → d.name_span ≡ name → d.parent ≡ parent
      → StandFrom all next (d ∷ decls_in text (nodes_of items) members inner (Some next) (next + 1)) → parent_in all parent ≡ outer → IsBelow next parent
      → AreMarked all next (d ∷ decls_in text (nodes_of items) members inner (Some next) (next + 1)) ((name, outer) ∷ entries_in (nodes_of items) (Some (k, name)))
  block-marks k members name items scope inner parent next outer d is_kind named held stand is below =
      let ds = decls_in text (nodes_of items) members inner (Some next) (next + 1) in
      let here : block_in (drop next all) ≡ Some (k, name) = ap block_in stand.1 ∙ ap (λ (x : DeclKind). Some (x, d.name_span)) is_kind ∙ ap (λ (x : Span). Some (k, x)) named in
      let one : next + 1 ≡ suc next = omega arith in (
        named,
        ap (parent_in all) held ∙ is,
        subst (IsBelow next) (sym held) below,
        subst (λ n. AreMarked all n ds (entries_in (nodes_of items) (Some (k, name)))) one
            (turn-marks items members inner (Some next) (next + 1) (Some (k, name)) (stand-right all next (d ∷ []) ds stand) here (omega arith)),
      )

  step-marks : (y : Node-F Known) → Marks (decls_step text (map-Node Node Placed (decls_of text) (map-Node Known Node (λ e. e.0) y))) (entries_step (map-Node Node Entries entries_of (map-Node Known Node (λ e. e.0) y)))
  step-marks (Node-F.Message span name items) members scope parent next outer stand is below =
      block-marks kind.Message kind.Field name items scope (joined scope (text_at text name)) parent next outer (declared text kind.Message name scope parent) refl refl refl stand is below
  step-marks (Node-F.EnumDef span name items) members scope parent next outer stand is below =
      block-marks kind.EnumDef kind.Field name items scope scope parent next outer (declared text kind.EnumDef name scope parent) refl refl refl stand is below
  step-marks (Node-F.Service span name items) members scope parent next outer stand is below =
      block-marks kind.Service kind.Field name items scope (joined scope (text_at text name)) parent next outer (declared text kind.Service name scope parent) refl refl refl stand is below
  step-marks (Node-F.Oneof span name items) members scope parent next outer stand is below =
      block-marks kind.Oneof kind.Field name items scope scope parent next outer (declared text kind.Oneof name scope parent) refl refl refl stand is below
  step-marks (Node-F.Extend span target items) members scope parent next outer stand is below = turn-marks items kind.Extension scope parent next outer stand is below
  step-marks (Node-F.Rpc span name request response items) members scope parent next outer stand is below = one-marks (declared text kind.Rpc name scope parent) name parent next outer refl refl is below
  step-marks (Node-F.Field f) members scope parent next outer stand is below = one-marks (declared text members f.name scope parent) f.name parent next outer refl refl is below
  step-marks (Node-F.MapField f) members scope parent next outer stand is below = one-marks (declared text members f.name scope parent) f.name parent next outer refl refl is below
  step-marks (Node-F.Value span name number) members scope parent next outer stand is below = one-marks (declared text kind.Value name scope parent) name parent next outer refl refl is below
  step-marks _ members scope parent next outer stand is below = tt

  decls_of-marks : (n : Node) → Marks (decls_of text n) (entries_of n)
  decls_of-marks = ind-Node (λ n. Marks (decls_of text n) (entries_of n)) (λ x y is. subst (λ z. Marks (decls_of text (roll-Node z)) (entries_of (roll-Node z))) is (
      let layer = map-Node Known Node (λ e. e.0) y in
      subst (λ d. Marks d (entries_of (roll-Node layer))) (sym (fold-roll-Node Placed (decls_step text) layer))
      (subst (λ es. Marks (decls_step text (map-Node Node Placed (decls_of text) layer)) es) (sym (fold-roll-Node Entries entries_step layer)) (step-marks y))))

  abbrev known : List Node → List Known
  known nodes = map (λ n. (n, decls_of-marks n)) nodes

  bare : (nodes : List Node) → nodes_of (known nodes) ≡ nodes
  bare [] = refl
  bare (n ∷ more) = ap (λ l. n ∷ l) (bare more)

  pub decls_in-marks : (nodes : List Node) → Marks (decls_in text nodes) (entries_in nodes)
  decls_in-marks nodes = subst (λ l. Marks (decls_in text l) (entries_in l)) (bare nodes) (turn-marks (known nodes))

-- ---- one declaration

block_at : (all : List Decl) (p : ℕ) (d : Decl) → p < length all → block_in (drop p all) ≡ Some ((get_or all p d).kind, (get_or all p d).name_span)
block_at [] p d lt = absurd (omega (arith, lt))
block_at (x ∷ all) zero d lt = refl
block_at (x ∷ all) (suc p) d lt = block_at all p d (omega (arith, lt))

marked-length : (all : List Decl) (next : ℕ) (ds : List Decl) (es : List Entry) → AreMarked all next ds es → length ds ≡ length es
marked-length all next [] [] h = refl
marked-length all next [] (e ∷ es) h = absurd h
marked-length all next (d ∷ ds) [] h = absurd h
marked-length all next (d ∷ ds) (e ∷ es) h = ap suc (marked-length all (suc next) ds es h.3)

-- what is said of one of them
abbrev IsMarked : List Decl → ℕ → Decl → Entry → Type 0
IsMarked all at d e = (d.name_span ≡ e.0) × (parent_in all d.parent ≡ e.1) × IsBelow at d.parent

marked-at : (all : List Decl) (next : ℕ) (ds : List Decl) (es : List Entry) (i : ℕ) (d : Decl) (e : Entry) → AreMarked all next ds es → i < length ds → IsMarked all (next + i) (get_or ds i d) (get_or es i e)
marked-at all next [] es i d e h lt = absurd (omega (arith, lt))
marked-at all next (x ∷ ds) [] i d e h lt = absurd h
marked-at all next (x ∷ ds) (y ∷ es) zero d e h lt = let same : next + 0 ≡ next = omega arith in (h.0, h.1, subst (λ n. IsBelow n x.parent) (sym same) h.2)
marked-at all next (x ∷ ds) (y ∷ es) (suc i) d e h lt =
    let same : next + suc i ≡ suc next + i = omega arith in
    subst (λ n. IsMarked all n (get_or ds i d) (get_or es i e)) (sym same) (marked-at all (suc next) ds es i d e h.3 (omega (arith, lt)))

order : (i j : ℕ) → (i < j) ⊎ ((j < i) ⊎ (i ≡ j))
order zero zero = inr (inr refl)
order zero (suc j) = inl (omega arith)
order (suc i) zero = inr (inl (omega arith))
order (suc i) (suc j) = by (order i j)
  where
    by : (i < j) ⊎ ((j < i) ⊎ (i ≡ j)) → (suc i < suc j) ⊎ ((suc j < suc i) ⊎ (suc i ≡ suc j))
    by (inl lt) = inl (omega (arith, lt))
    by (inr (inl lt)) = inr (inl (omega (arith, lt)))
    by (inr (inr same)) = inr (inr (ap suc same))

-- where names ascend, two declarations with one name are the same
sooner : (all : List Decl) → Ascend all → (i j : ℕ) (d : Decl) → i < j → j < length all → (get_or all i d).name_span.start < (get_or all j d).name_span.start
sooner all up i j d lt within =
    let f : Decl → ℕ = λ d. d.name_span.start in
    let long : length (map f all) ≡ length all = length-map all f in
    let at : get_or (map f all) i 0 < get_or (map f all) j 0 = AllPairs-from_increasing (map f all) up i j 0 lt (omega (arith, within, long)) in
    omega (arith, at, get_or-map f all i d 0 (omega (arith, lt, within)), get_or-map f all j d 0 within)

same_place : (all : List Decl) → Ascend all → (i j : ℕ) (d : Decl) → i < length all → j < length all → (get_or all i d).name_span ≡ (get_or all j d).name_span → i ≡ j
same_place all up i j d lti ltj e = by (order i j)
  where
    starts : (get_or all i d).name_span.start ≡ (get_or all j d).name_span.start
    starts = ap (λ s. s.start) e

    by : (i < j) ⊎ ((j < i) ⊎ (i ≡ j)) → i ≡ j
    by (inl lt) = absurd (omega (arith, starts, sooner all up i j d lt ltj))
    by (inr (inl lt)) = absurd (omega (arith, starts, sooner all up j i d lt lti))
    by (inr (inr same)) = same

-- ---- the law

inside : {X : Type 0} (x y : X) → Some x ≡ Some y → x ≡ y
inside x y e = cc

never : {X : Type 0} {C : Type 0} (x : X) → ◌≡◌ {A = Option X} None (Some x) → C
never x e = absurd (nothing e)
  where
    nothing : {X : Type 0} {x : X} → ◌≡◌ {A = Option X} None (Some x) → ⊥
    nothing e = cc

module _ (nodes : List Node) (all : List Decl) (marked : AreMarked all 0 all (entries_in nodes None)) where
  abbrev es : List Entry
  es = entries_in nodes None

  at : (i : ℕ) (d : Decl) (e : Entry) → i < length all → IsMarked all i (get_or all i d) (get_or es i e)
  at i d e lt = let same : 0 + i ≡ i = omega arith in subst (λ n. IsMarked all n (get_or all i d) (get_or es i e)) same (marked-at all 0 all es i d e marked lt)

  has : (i : ℕ) (e : Entry) → i < length all → Contains es (get_or es i e)
  has i e lt = Contains-get_or es i e (omega (arith, lt, marked-length all 0 all es marked))

  held : (i p : ℕ) (d : Decl) → i < length all → (get_or all i d).parent ≡ Some p → (p < i) × Holds nodes (get_or all p d) (get_or all i d)
  held i p d lt e =
      let it = get_or all i d in
      let entry = get_or es i (it.name_span, None) in
      let m = at i d (it.name_span, None) lt in
      let before : p < i = subst (IsBelow i) e m.2 in
      let block : Some ((get_or all p d).kind, (get_or all p d).name_span) ≡ entry.1 = sym (block_at all p d (omega (arith, before, lt))) ∙ sym (ap (parent_in all) e) ∙ m.1 in
      (before, by it entry.0 entry.1 m.0 block (entries-found nodes None entry.0 entry.1 (has i (it.name_span, None) lt)))
    where
      by : (it : Decl) (name : Span) (o : Block) → it.name_span ≡ name → Some ((get_or all p d).kind, (get_or all p d).name_span) ≡ o → Found nodes name o None → Holds nodes (get_or all p d) it
      by it name o named block (inl own) = never _ (sym own.0 ∙ sym block)
      by it name o named block (inr b) = record { block = b.0; stands = b.2; is_its = b.3 ∙ sym b.5 ∙ sym block; declares = subst (Declares (members_of (out-Node b.0))) (sym named) b.4 }

  at_top : (i : ℕ) (d : Decl) → i < length all → (get_or all i d).parent ≡ None → Declares nodes (get_or all i d).name_span
  at_top i d lt e =
      let it = get_or all i d in
      let entry = get_or es i (it.name_span, None) in
      let m = at i d (it.name_span, None) lt in
      by it entry.0 entry.1 m.0 (sym (ap (parent_in all) e) ∙ m.1) (entries-found nodes None entry.0 entry.1 (has i (it.name_span, None) lt))
    where
      by : (it : Decl) (name : Span) (o : Block) → it.name_span ≡ name → ◌≡◌ {A = Block} None o → Found nodes name o None → Declares nodes it.name_span
      by it name o named none (inl own) = subst (Declares nodes) (sym named) own.1
      by it name o named none (inr b) = never _ (none ∙ b.5)

  its_parent : Ascend all → (i p : ℕ) (d : Decl) → i < length all → p < length all → Holds nodes (get_or all p d) (get_or all i d) → (get_or all i d).parent ≡ Some p
  its_parent up i p d lt within h =
      let it = get_or all i d in
      let outer = get_or all p d in
      let entry : Entry = (it.name_span, Some (outer.kind, outer.name_span)) in
      let c : Contains es entry = holds-in (outer.kind, outer.name_span) it.name_span h.stands h.is_its h.declares None in
      let place : c.0 < length all = omega (arith, c.1, marked-length all 0 all es marked) in
      let m = at c.0 d entry place in
      let named : (get_or all c.0 d).name_span ≡ it.name_span = m.0 ∙ ap (λ (e : Entry). e.0) c.2 in
      let same : c.0 ≡ i = same_place all up c.0 i d place lt named in
      let block : parent_in all (get_or all c.0 d).parent ≡ Some (outer.kind, outer.name_span) = m.1 ∙ ap (λ (e : Entry). e.1) c.2 in
      subst (λ k. (get_or all k d).parent ≡ Some p) same (by c.0 place (get_or all c.0 d).parent refl m.2 block)
    where
      by : (i : ℕ) → i < length all → (o : Option ℕ) → (get_or all i d).parent ≡ o → IsBelow i o → parent_in all o ≡ Some ((get_or all p d).kind, (get_or all p d).name_span) → (get_or all i d).parent ≡ Some p
      by i lt None e below block = never _ block
      by i lt (Some q) e below block =
          let inner : q < length all = omega (arith, lt, below) in
          let pairs = inside _ _ (sym (block_at all q d inner) ∙ block) in
          e ∙ ap (λ (k : ℕ). Some k) (same_place all up q p d inner within (ap (λ (x : DeclKind × Span). x.1) pairs))

  parents-hold : Ascend all → ParentsHold nodes all
  parents-hold up = record { holds = held; only = its_parent up; top = at_top }

no-parents : (nodes : List Node) → ParentsHold nodes []
no-parents nodes = record { holds = λ i p d lt. absurd (omega (arith, lt)); only = λ i p d lt. absurd (omega (arith, lt)); top = λ i d lt. absurd (omega (arith, lt)) }

facts-hold : (o : Option Diag) (syntaxes : List StatedSyntax) (text : List ℕ) (tree : FileTree) → Ascend (facts_at o syntaxes text tree).decls → ParentsHold tree.nodes (facts_at o syntaxes text tree).decls
facts-hold None syntaxes text tree up =
    let place = package_name (first_package (packages text tree.nodes)) in
    let all = decls_in text tree.nodes kind.Field place None 0 in
    parents-hold tree.nodes all (decls_in-marks text all tree.nodes kind.Field place None 0 None ([], sym (append-nil all)) refl tt) up
facts-hold (Some d) syntaxes text tree up = no-parents tree.nodes

pub parents-hold_in : (text : List ℕ) → Ascend (facts_of text).decls → ParentsHold (value_tree text).nodes (facts_of text).decls
parents-hold_in text up =
    let tree = value_tree text in
    facts-hold (opaque text (stated text tree.nodes)) (stated text tree.nodes) text tree up
