-- The test of two analyses.
use Rattle.std.proofs.Common.{◌≡◌, ℕ, true, List, refl, ap, ap₂, subst}
use Rattle.std.specs.Prelude.{◌==◌, bytes_eq}
use Rattle.std.specs.Cmp.Lexicographic.{bytes_decides, pointwise, pointwise_decides}
use Rattle.std.proofs.lemmas.Bool.{and_from, and_parts, eq-eqb, eqb-true}
use Rattle.work_meaning.specs.Bindings.{SameMeaningLaw, bindings, codes, same_bound, same_target}
use Rattle.proto_resolve.specs.declared.target.Target.{Target}
use Rattle.proto_resolve.specs.declared.target.Target.TheVariants.{Declared, Package}

same-target : (a b : Target) → same_target a b ≡ true → a ≡ b
same-target (Declared r) (Declared s) is =
    let parts = and_parts (r.file == s.file) (r.number == s.number) is in
    ap₂ (λ file number. Declared (record { file = file; number = number })) (eqb-true r.file s.file parts.0) (eqb-true r.number s.number parts.1)
same-target (Declared r) (Package q) is = absurd (cc (is))
same-target (Package p) (Declared s) is = absurd (cc (is))
same-target (Package p) (Package q) is = ap (λ name. Package name) ((bytes_decides p q).0 is)

own-target : (a : Target) → same_target a a ≡ true
own-target (Declared r) = and_from (r.file == r.file) (r.number == r.number) (eq-eqb r.file r.file refl) (eq-eqb r.number r.number refl)
own-target (Package p) = (bytes_decides p p).1 refl

bound-decides : (a b : ℕ × Target) → (same_bound a b ≡ true → a ≡ b) × (a ≡ b → same_bound a b ≡ true)
bound-decides a b = (
  λ is. let parts = and_parts (a.0 == b.0) (same_target a.1 b.1) is in ap₂ (λ (n : ℕ) (t : Target). (n, t)) (eqb-true a.0 b.0 parts.0) (same-target a.1 b.1 parts.1),
  λ is. subst (λ (x : ℕ × Target). same_bound a x ≡ true) is (and_from (a.0 == a.0) (same_target a.1 a.1) (eq-eqb a.0 a.0 refl) (own-target a.1)),
)

pub same-meaning-law : SameMeaningLaw
same-meaning-law a b = (
  λ is. let parts = and_parts (pointwise (pointwise same_bound) (bindings a) (bindings b)) (pointwise bytes_eq (codes a) (codes b)) is in record {
    bindings_are = (by_bindings (bindings a) (bindings b)).0 parts.0;
    codes_are = (by_codes (codes a) (codes b)).0 parts.1;
  },
  λ same. and_from (pointwise (pointwise same_bound) (bindings a) (bindings b)) (pointwise bytes_eq (codes a) (codes b))
      ((by_bindings (bindings a) (bindings b)).1 same.bindings_are) ((by_codes (codes a) (codes b)).1 same.codes_are),
)
  where
    by_bindings : (x y : List (List (ℕ × Target))) → (pointwise (pointwise same_bound) x y ≡ true → x ≡ y) × (x ≡ y → pointwise (pointwise same_bound) x y ≡ true)
    by_bindings = pointwise_decides (pointwise_decides bound-decides)

    by_codes : (x y : List (List ℕ)) → (pointwise bytes_eq x y ≡ true → x ≡ y) × (x ≡ y → pointwise bytes_eq x y ≡ true)
    by_codes = pointwise_decides bytes_decides
