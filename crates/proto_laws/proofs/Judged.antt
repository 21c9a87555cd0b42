-- What a check of each element by those before it finds.
use Rattle.std.proofs.Common.{◌≡◌, ◌∙◌, ◌+◌, Bool, true, false, cond, List, take, Option, Some, None, refl, sym, ap, subst, zero-add}
use Rattle.std.specs.Prelude.{Contains}
use Rattle.std.specs.List.{enumerate_from}
use Rattle.proto_tree.specs.declared.node.Span.{Span}
use Rattle.proto_decls.specs.declared.diagnostic.Diag.{Diag}
use Rattle.proto_decls.specs.declared.problem.Problem.{Problem}
use Rattle.proto_decls.specs.Checks.{diag_if, judged, judged_at}
use Rattle.proto_decls.specs.Diags.{diag}
use Rattle.proto_laws.specs.Bodies.{Precedes}
use Rattle.proto_laws.proofs.Holders.{inside}
use Rattle.proto_laws.proofs.Lists.{before-order, filter_map-has, in_filter_map, in_numbered, numbered-has, order-before}

-- a diagnostic where a test holds
pub diag_if-tells : (b : Bool) (p : Problem) (s : Span) (d : Diag) → diag_if b p s ≡ Some d → (b ≡ true) × (d ≡ diag p s)
diag_if-tells true p s d e = (refl, sym (inside (diag p s) d e))
diag_if-tells false p s d e = cc

pub diag_if-is : (b : Bool) (p : Problem) (s : Span) (d : Diag) → b ≡ true → d ≡ diag p s → diag_if b p s ≡ Some d
diag_if-is b p s d e is = ap (λ (b : Bool). cond {A = Option Diag} b (Some (diag p s)) None) e ∙ ap (λ (x : Diag). Some x) (sym is)

module _ {X : Type 0} (asks : List X → X → Bool) (R : X → X → Type 0) (p : Problem) (at : X → Span) where
  abbrev judge : List X → X → Option Diag
  judge before x = diag_if (asks before x) p (at x)

  -- an element stands behind one to which it is related
  pub record IsSecond (xs : List X) (d : Diag) : Type 0 where
    pub one : X
    pub two : X
    pub order : Precedes xs one two
    pub related : R one two
    pub is : d ≡ diag p (at two)

  pub judged-has : ((before : List X) (y : X) → asks before y ≡ true → (x : X) × Contains before x × R x y) → (xs : List X) (d : Diag) → Contains (judged judge xs) d → IsSecond xs d
  judged-has tells xs d c =
      let h = filter_map-has (judged_at judge xs) (enumerate_from 0 xs) d c in
      let g = numbered-has 0 xs h.0 h.1 in
      let number : h.0.0 ≡ g.0 = g.1 ∙ zero-add g.0 in
      let k = diag_if-tells (asks (take h.0.0 xs) h.0.1) p (at h.0.1) d h.2 in
      let t = tells (take h.0.0 xs) h.0.1 k.0 in
      record { one = t.0; two = h.0.1; order = before-order xs g.0 t.0 h.0.1 g.2 (subst (λ i. Contains (take i xs) t.0) number t.1); related = t.2; is = k.1 }

  pub in_judged : ((before : List X) (x y : X) → Contains before x → R x y → asks before y ≡ true) → (xs : List X) (x y : X) (d : Diag) → Precedes xs x y → R x y → d ≡ diag p (at y) → Contains (judged judge xs) d
  in_judged is_asked xs x y d order related is =
      let g = order-before order in
      let number : 0 + g.0 ≡ g.0 = zero-add g.0 in
      in_filter_map (judged_at judge xs) (enumerate_from 0 xs) (g.0, y) d
      (subst (λ i. Contains (enumerate_from 0 xs) (i, y)) number (in_numbered 0 xs g.0 y g.1))
      (diag_if-is (asks (take g.0 xs) y) p (at y) d (is_asked (take g.0 xs) x y g.2 related) is)
