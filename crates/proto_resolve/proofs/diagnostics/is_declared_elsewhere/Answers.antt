use Rattle.std.proofs.Common.{◌≡◌, ◌∙◌, sym, refl, ℕ, List, [], ◌∷◌, Bool, true, false, ◌==◌, ◌||◌, not}
use Rattle.std.specs.List.{list_any}
use Rattle.proto_names.specs.declared.decl_ref.DeclRef.{DeclRef}
use Rattle.proto_names.specs.Files.{all_named}
use Rattle.proto_resolve.proofs.Firsts.{is_another, nobody, one_or_later}
use Rattle.proto_names.proofs.Order.{named_by_file}
use Rattle.proto_resolve.proofs.diagnostics.is_declared_elsewhere.Goals as goal

neither_of : (a b : Bool) → (a || b) ≡ false → (a ≡ false) × (b ≡ false)
neither_of true b e = absurd (cc (e))
neither_of false b e = (refl, e)

-- in a view of no other file nobody else has a declaration
alone : (f : ℕ) (gs : List ℕ) (rs : List DeclRef) → list_any (λ g. not (g == f)) gs ≡ false → list_any (is_another f gs) rs ≡ false
alone f [] rs e = nobody rs f
alone f (g ∷ gs) rs e =
    let both = neither_of (not (g == f)) (list_any (λ g. not (g == f)) gs) e in
    one_or_later f g gs rs ∙ rw (both.0, alone f gs rs both.1) refl

pub is_elsewhere-requires : goal.is_elsewhere-requires
is_elsewhere-requires g c = rw c.declared_as.ensures (named_by_file (g.I.Index.files c.args.index.now) c.args.name.now)

pub returns-else-sees_another : goal.returns-else-sees_another
returns-else-sees_another g c =
    c.if-sees_another.false
    ∙ sym (alone c.args.view.now.file c.args.view.now.files (all_named (g.I.Index.files c.args.index.now) c.args.name.now) (sym c.sees_another.ensures ∙ c.if-sees_another.false))
