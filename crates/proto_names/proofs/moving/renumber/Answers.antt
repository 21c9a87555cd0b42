use Rattle.std.proofs.Common.{◌<◌, List, ap, arith, get_or, length}
use Rattle.proto_names.specs.declared.decl_ref.DeclRef.{DeclRef}
use Rattle.proto_names.specs.Moved.{moved}
use Rattle.proto_names.proofs.Walked.{one_more_mapped, still_long, still_there}
use Rattle.proto_names.proofs.moving.renumber.Goals as goal

pub number_after-decl-requires : goal.number_after-decl-requires
number_after-decl-requires c =
    let nothing : DeclRef = record { file = 0; number = 0 } in
    let old : List DeclRef = c.args.decls.now.items in
    let long : c.loop-decl.decl-index < length c.loop-decl.decl-items = omega (arith, c.loop-decl-test.true, c.loop-decl.auto.decl-items) in
    let small = c.requires c.loop-decl.decl-index nothing (still_long old c.loop-decl.decl-items c.loop-decl.decl-index c.loop-decl.invariant.1 nothing long) in
    let same = ap (λ (r : DeclRef). r.file) (still_there old c.loop-decl.decl-items c.loop-decl.decl-index c.loop-decl.invariant.1 nothing long) in
    omega (arith, small, same)

pub loop-decl-preserved : goal.loop-decl-preserved
loop-decl-preserved c =
    let nothing : DeclRef = record { file = 0; number = 0 } in
    let old : List DeclRef = c.args.decls.now.items in
    let long : c.loop-decl.decl-index < length c.loop-decl.decl-items = omega (arith, c.loop-decl-test.true, c.loop-decl.auto.decl-items) in
    one_more_mapped old c.loop-decl.decl-items c.loop-decl.decl-index c.loop-decl.invariant.1 nothing long (moved c.args.change c.args.at) _ c.loop-decl.invariant.0
    (ap (λ n. record { file = n; number = (let r = get_or c.loop-decl.decl-items c.loop-decl.decl-index nothing in r.number) }) c.number_after-decl.ensures)
