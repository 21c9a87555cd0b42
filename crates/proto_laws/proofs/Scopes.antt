-- The full name of a declaration is its scope and its own name, joined.
use Rattle.std.proofs.Common.{◌≡◌, inl, inr, ℕ, zero, suc, ◌+◌, List, [], ◌∷◌, ◌++◌, map, Option, Some, None, refl, sym, ap, subst, ◌∙◌, arith, length, drop}
use Rattle.std.specs.List.{slice_get}
use Rattle.proto_tree.specs.declared.node.Node.{Node, roll-Node, map-Node}
use Rattle.proto_tree.specs.declared.node.Node.TheOpen.{Node-F}
use Rattle.proto_tree.specs.declared.node.Node.TheFolds.{fold-roll-Node, ind-Node}
use Rattle.proto_tree.specs.declared.node.Span.{Span}
use Rattle.proto_decls.specs.Decls.{declared, Placed, decls_step, decls_of, decls_in}
use Rattle.proto_decls.specs.Text.{joined, text_at}
use Rattle.proto_decls.specs.declared.fact.Decl.{Decl}
use Rattle.proto_decls.specs.declared.fact.DeclKind.{DeclKind}
use Rattle.proto_decls.specs.declared.fact.DeclKind.TheVariants as kind
use Rattle.proto_laws.specs.Scopes.{IsScope, IsTransparent, HasScope, of_file, of_scope, of_block}
use Rattle.proto_laws.proofs.Holders.{inside}
use Rattle.proto_laws.proofs.Parents.{StandFrom, stand-left, stand-right}

-- the declaration with a number is one that stands from there on
at_front : (all : List Decl) (next : ℕ) (d : Decl) (ds : List Decl) → drop next all ≡ d ∷ ds → slice_get all next ≡ Some d
at_front [] zero d ds e = cc
at_front [] (suc next) d ds e = cc
at_front (x ∷ all) zero d ds e = cc
at_front (x ∷ all) (suc next) d ds e = at_front all next d ds e

module _ (text : List ℕ) (package_is : List ℕ) (all : List Decl) where
  -- the declaration of this number has a scope that its full name lies in
  abbrev pub IsScoped : ℕ → Decl → Type 0
  IsScoped i d = (s : List ℕ) × HasScope package_is all i s × (d.full_name ≡ joined s (text_at text d.name_span))

  -- so have those from this number on
  abbrev pub AreScoped : ℕ → List Decl → Type 0
  AreScoped next [] = Unit {0}
  AreScoped next (d ∷ ds) = IsScoped next d × AreScoped (suc next) ds

  -- the scope of what has this parent
  abbrev pub Gives : Option ℕ → List ℕ → Type 0
  Gives parent scope = (i : ℕ) (d : Decl) → slice_get all i ≡ Some d → d.parent ≡ parent → HasScope package_is all i scope

  abbrev pub Scoped : Placed → Type 0
  Scoped placed = (members : DeclKind) (scope : List ℕ) (parent : Option ℕ) (next : ℕ) → StandFrom all next (placed members scope parent next) → Gives parent scope → AreScoped next (placed members scope parent next)

  abbrev Known : Type 0
  Known = (n : Node) × Scoped (decls_of text n)

  abbrev nodes_of : List Known → List Node
  nodes_of items = map (λ e. e.0) items

  scoped-append : (next : ℕ) (ds more : List Decl) → AreScoped next ds → AreScoped (next + length ds) more → AreScoped next (ds ++ more)
  scoped-append next [] more h g = let same : next + 0 ≡ next = omega arith in subst (λ n. AreScoped n more) same g
  scoped-append next (d ∷ ds) more h g =
      let same : next + length (d ∷ ds) ≡ suc next + length ds = omega arith in
      (h.0, scoped-append (suc next) ds more h.1 (subst (λ n. AreScoped n more) same g))

  turn-scoped : (items : List Known) → Scoped (decls_in text (nodes_of items))
  turn-scoped [] members scope parent next stand gives = tt
  turn-scoped (e ∷ more) members scope parent next stand gives =
      let first = decls_of text e.0 members scope parent next in
      let rest = decls_in text (nodes_of more) members scope parent (next + length first) in
      scoped-append next first rest
      (e.1 members scope parent next (stand-left all next first rest stand) gives)
      (turn-scoped more members scope parent (next + length first) (stand-right all next first rest stand) gives)

  -- a declaration alone
  one-scoped : (k : DeclKind) (name : Span) (scope : List ℕ) (parent : Option ℕ) (next : ℕ) (ds : List Decl) → StandFrom all next (declared text k name scope parent ∷ ds) → Gives parent scope → IsScoped next (declared text k name scope parent)
  one-scoped k name scope parent next ds stand gives =
      let d = declared text k name scope parent in
      (scope, gives next d (at_front all next d (ds ++ stand.0) stand.1) refl, refl)

  -- with what its body declares, in this scope
  block-scoped : (k : DeclKind) (name : Span) (items : List Known) (scope inner : List ℕ) (parent : Option ℕ) (next : ℕ)
      → (let ds = decls_in text (nodes_of items) kind.Field inner (Some next) (next + 1) in StandFrom all next (declared text k name scope parent ∷ ds) → Gives parent scope → Gives (Some next) inner → AreScoped next (declared text k name scope parent ∷ ds))
  block-scoped k name items scope inner parent next stand gives within =
      let d = declared text k name scope parent in
      let ds = decls_in text (nodes_of items) kind.Field inner (Some next) (next + 1) in
      let one : next + 1 ≡ suc next = omega arith in
      (one-scoped k name scope parent next ds stand gives, subst (λ n. AreScoped n ds) one (turn-scoped items kind.Field inner (Some next) (next + 1) (stand-right all next (d ∷ []) ds stand) within))

  module _ (k : DeclKind) (name : Span) (scope : List ℕ) (parent : Option ℕ) (next : ℕ) (ds : List Decl) (stand : StandFrom all next (declared text k name scope parent ∷ ds)) where
    stands : slice_get all next ≡ Some (declared text k name scope parent)
    stands = at_front all next (declared text k name scope parent) (ds ++ stand.0) stand.1

    in_scope : IsScope k → Gives (Some next) (joined scope (text_at text name))
    in_scope is i d at has = of_scope at has stands is

    in_block : IsTransparent k → Gives parent scope → Gives (Some next) scope
    in_block is gives i d at has = of_block at has stands is (gives next (declared text k name scope parent) stands refl)

  step-scoped : (y : Node-F Known) → Scoped (decls_step text (map-Node Node Placed (decls_of text) (map-Node Known Node (λ e. e.0) y)))
  step-scoped (Node-F.Message span name items) members scope parent next stand gives =
      let inner = joined scope (text_at text name) in
      block-scoped kind.Message name items scope inner parent next stand gives (in_scope kind.Message name scope parent next (decls_in text (nodes_of items) kind.Field inner (Some next) (next + 1)) stand (inl refl))
  step-scoped (Node-F.Service span name items) members scope parent next stand gives =
      let inner = joined scope (text_at text name) in
      block-scoped kind.Service name items scope inner parent next stand gives (in_scope kind.Service name scope parent next (decls_in text (nodes_of items) kind.Field inner (Some next) (next + 1)) stand (inr refl))
  step-scoped (Node-F.EnumDef span name items) members scope parent next stand gives =
      block-scoped kind.EnumDef name items scope scope parent next stand gives (in_block kind.EnumDef name scope parent next (decls_in text (nodes_of items) kind.Field scope (Some next) (next + 1)) stand (inl refl) gives)
  step-scoped (Node-F.Oneof span name items) members scope parent next stand gives =
      block-scoped kind.Oneof name items scope scope parent next stand gives (in_block kind.Oneof name scope parent next (decls_in text (nodes_of items) kind.Field scope (Some next) (next + 1)) stand (inr refl) gives)
  step-scoped (Node-F.Extend span target items) members scope parent next stand gives = turn-scoped items kind.Extension scope parent next stand gives
  step-scoped (Node-F.Rpc span name request response items) members scope parent next stand gives = (one-scoped kind.Rpc name scope parent next [] stand gives, tt)
  step-scoped (Node-F.Field f) members scope parent next stand gives = (one-scoped members f.name scope parent next [] stand gives, tt)
  step-scoped (Node-F.MapField f) members scope parent next stand gives = (one-scoped members f.name scope parent next [] stand gives, tt)
  step-scoped (Node-F.Value span name number) members scope parent next stand gives = (one-scoped kind.Value name scope parent next [] stand gives, tt)
  step-scoped _ members scope parent next stand gives = tt

  decls_of-scoped : (n : Node) → Scoped (decls_of text n)
  decls_of-scoped = ind-Node (λ n. Scoped (decls_of text n)) (λ x y is. subst (λ z. Scoped (decls_of text (roll-Node z))) is (
      let layer = map-Node Known Node (λ e. e.0) y in
      subst Scoped (sym (fold-roll-Node Placed (decls_step text) layer)) (step-scoped y)))

  abbrev known : List Node → List Known
  known nodes = map (λ n. (n, decls_of-scoped n)) nodes

  bare : (nodes : List Node) → nodes_of (known nodes) ≡ nodes
  bare [] = refl
  bare (n ∷ more) = ap (λ l. n ∷ l) (bare more)

  pub decls_in-scoped : (nodes : List Node) → Scoped (decls_in text nodes)
  decls_in-scoped nodes = subst (λ l. Scoped (decls_in text l)) (bare nodes) (turn-scoped (known nodes))

  pub scoped-at : (next : ℕ) (ds : List Decl) (i : ℕ) (d : Decl) → AreScoped next ds → slice_get ds i ≡ Some d → IsScoped (next + i) d
  scoped-at next [] i d h e = cc
  scoped-at next (x ∷ ds) zero d h e =
      let same : next ≡ next + 0 = omega arith in
      subst (λ n. IsScoped n d) same (subst (IsScoped next) (inside x d e) h.0)
  scoped-at next (x ∷ ds) (suc i) d h e =
      let same : suc next + i ≡ next + suc i = omega arith in
      subst (λ n. IsScoped n d) same (scoped-at (suc next) ds i d h.1 e)

  -- ---- there is but one scope

  same_decl : (i : ℕ) (d e : Decl) → slice_get all i ≡ Some d → slice_get all i ≡ Some e → d ≡ e
  same_decl i d e p q = inside d e (sym p ∙ q)

  same_parent : (i : ℕ) (d e : Decl) → slice_get all i ≡ Some d → slice_get all i ≡ Some e → d.parent ≡ e.parent
  same_parent i d e p q = ap (λ (x : Decl). x.parent) (same_decl i d e p q)

  at_top : (i p : ℕ) (d e : Decl) → slice_get all i ≡ Some d → slice_get all i ≡ Some e → d.parent ≡ None → e.parent ≡ Some p → ⊥
  at_top i p d e first second none some = let same = same_parent i d e first second in cc

  -- the two parents are the same declaration
  same_outer : (i p q : ℕ) (d e outer other : Decl) → slice_get all i ≡ Some d → slice_get all i ≡ Some e → d.parent ≡ Some p → e.parent ≡ Some q → slice_get all p ≡ Some outer → slice_get all q ≡ Some other → (p ≡ q) × (outer ≡ other)
  same_outer i p q d e outer other first second has its at also =
      let same = same_parent i d e first second in
      let number : p ≡ q = cc in
      (number, same_decl q outer other (ap (λ n. slice_get all n) (sym number) ∙ at) also)

  never_both : (k : DeclKind) → IsScope k → IsTransparent k → ⊥
  never_both k (inl a) (inl b) = cc
  never_both k (inl a) (inr b) = cc
  never_both k (inr a) (inl b) = cc
  never_both k (inr a) (inr b) = cc

  pub one_scope : (i : ℕ) (s t : List ℕ) → HasScope package_is all i s → HasScope package_is all i t → s ≡ t
  one_scope i s t (of_file {d} at top) (of_file {d = e} also none) = refl
  one_scope i s t (of_file {d} at top) (of_scope {p = q} {d = e} also its outer is) = absurd (at_top i q d e at also top its)
  one_scope i s t (of_file {d} at top) (of_block {p = q} {d = e} also its outer is h) = absurd (at_top i q d e at also top its)
  one_scope i s t (of_scope {p} {d} at has up is) (of_file {d = e} also none) = absurd (at_top i p e d also at none has)
  one_scope i s t (of_scope {p} {d} {outer} at has up is) (of_scope {p = q} {d = e} {outer = other} also its over holds) = ap (λ (x : Decl). x.full_name) (same_outer i p q d e outer other at also has its up over).1
  one_scope i s t (of_scope {p} {d} {outer} at has up is) (of_block {p = q} {d = e} {outer = other} also its over holds h) =
      absurd (never_both outer.kind is (subst (λ (x : Decl). IsTransparent x.kind) (sym (same_outer i p q d e outer other at also has its up over).1) holds))
  one_scope i s t (of_block {p} {d} at has up is h) (of_file {d = e} also none) = absurd (at_top i p e d also at none has)
  one_scope i s t (of_block {p} {d} {outer} at has up is h) (of_scope {p = q} {d = e} {outer = other} also its over holds) =
      absurd (never_both other.kind holds (subst (λ (x : Decl). IsTransparent x.kind) (same_outer i p q d e outer other at also has its up over).1 is))
  one_scope i s t (of_block {p} {d} {outer} at has up is h) (of_block {p = q} {d = e} {outer = other} also its over holds g) =
      one_scope p s t h (subst (λ n. HasScope package_is all n t) (sym (same_outer i p q d e outer other at also has its up over).0) g)
