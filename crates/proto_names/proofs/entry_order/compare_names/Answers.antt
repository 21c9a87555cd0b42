use Rattle.std.proofs.Common.{◌∙◌, sym, ap, ap₂}
use Rattle.std.specs.Cmp.Lexicographic.{slice_cmp}
use Rattle.std.specs.Ordering.{nat_cmp, ordering_then}
use Rattle.proto_decls.proofs.ApartNames.{decided}
use Rattle.proto_names.specs.Files.{name_at}
use Rattle.proto_names.specs.Tables.{by_place}
use Rattle.proto_names.proofs.Apart.{whole}
use Rattle.proto_names.proofs.entry_order.compare_names.Goals as goal

pub returns-in-Equal : goal.returns-in-Equal
returns-in-Equal c =
    let a = whole (name_at c.args.files.now c.args.a) c.parts_at.result.scope.now c.parts_at.result.last.now c.parts_at.ensures.scope c.parts_at.ensures.last in
    let b = whole (name_at c.args.files.now c.args.b) c.parts_at-2.result.scope.now c.parts_at-2.result.last.now c.parts_at-2.ensures.scope c.parts_at-2.ensures.last in
    c.compare_places.ensures ∙ ap (λ o. ordering_then o (by_place c.args.a c.args.b)) (c.in-Equal.ensures ∙ ap₂ (slice_cmp nat_cmp) a b)

pub returns-in_default : goal.returns-in_default
returns-in_default c =
    let a = whole (name_at c.args.files.now c.args.a) c.parts_at.result.scope.now c.parts_at.result.last.now c.parts_at.ensures.scope c.parts_at.ensures.last in
    let b = whole (name_at c.args.files.now c.args.b) c.parts_at-2.result.scope.now c.parts_at-2.result.last.now c.parts_at-2.ensures.scope c.parts_at-2.ensures.last in
    sym (ap (λ o. ordering_then o (by_place c.args.a c.args.b)) (sym (c.compare.ensures ∙ ap₂ (slice_cmp nat_cmp) a b)) ∙ decided c.compare.result (by_place c.args.a c.args.b) c.in_default.not-Equal)
