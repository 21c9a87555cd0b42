use Rattle.std.proofs.Common.{◌≤◌, ◌∙◌, sym, ap, length, drop, arith}
use Rattle.std.specs.Cmp.Lexicographic.{slice_cmp}
use Rattle.std.specs.Ordering.{nat_cmp, ordering_then}
use Rattle.proto_decls.specs.Text.{joined}
use Rattle.proto_decls.proofs.ApartNames.{by_scopes, decided}
use Rattle.proto_decls.proofs.full_name.NameParts.compare.Goals as goal

pub returns-in-Equal : goal.returns-in-Equal
returns-in-Equal c =
    let n = c.min-common.result in
    let le : n ≤ length c.args.self.scope.now = omega (arith, c.min-common.ensures) in
    let le' : n ≤ length c.args.other.scope.now = omega (arith, c.min-common.ensures) in
    let fronts = by_scopes n c.args.self.scope.now c.args.self.last.now c.args.other.scope.now c.args.other.last.now le le' in
    c.compare_from.ensures
    ∙ sym (fronts ∙ ap (λ o. ordering_then o (slice_cmp nat_cmp (drop n (joined c.args.self.scope.now c.args.self.last.now)) (drop n (joined c.args.other.scope.now c.args.other.last.now)))) (sym c.in-Equal.ensures))

pub returns-in_default : goal.returns-in_default
returns-in_default c =
    let n = c.min-common.result in
    let le : n ≤ length c.args.self.scope.now = omega (arith, c.min-common.ensures) in
    let le' : n ≤ length c.args.other.scope.now = omega (arith, c.min-common.ensures) in
    let fronts = by_scopes n c.args.self.scope.now c.args.self.last.now c.args.other.scope.now c.args.other.last.now le le' in
    let rest = slice_cmp nat_cmp (drop n (joined c.args.self.scope.now c.args.self.last.now)) (drop n (joined c.args.other.scope.now c.args.other.last.now)) in
    sym (fronts ∙ ap (λ o. ordering_then o rest) (sym c.cmp.ensures) ∙ decided c.cmp.result rest c.in_default.not-Equal)
