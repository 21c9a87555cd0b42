use Rattle.std.proofs.Common.{◌≡◌, ◌∙◌, sym, ap, false}
use Rattle.proto_decls.specs.FullNames.{has_dot}
use Rattle.proto_decls.proofs.ApartNames.{last_joined, scope_joined}
use Rattle.proto_decls.proofs.full_name.FullName.in_scope.Goals as goal

pub invariant_of-result : goal.invariant_of-result
invariant_of-result c =
    let plain : has_dot c.args.name.now ≡ false = ap has_dot (sym c.as_bytes.ensures.value) ∙ sym c.contains.ensures.value ∙ c.if-contains.false in
    let scope : c.in_ok-another.field-0 ≡ c.args.scope.now = c.in_ok-another.ensures in
    let last : c.in_ok-with_text.field-0 ≡ c.args.name.now = c.in_ok-with_text.ensures in
    rw (scope, last) (scope_joined c.args.scope.now c.args.name.now plain, last_joined c.args.scope.now c.args.name.now plain)
