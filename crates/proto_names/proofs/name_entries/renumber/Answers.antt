use Rattle.std.proofs.Common.{◌<◌, ap, arith, get_or, length}
use Rattle.proto_names.specs.declared.hashed.HashedDecl.{HashedDecl}
use Rattle.proto_names.proofs.Entries.{as_before, as_long, either_way, one_more_done}
use Rattle.proto_names.proofs.name_entries.renumber.Goals as goal

pub overflow_add-entry : goal.overflow_add-entry
overflow_add-entry c =
    let nothing : HashedDecl = record { hash = 0; decl = record { file = 0; number = 0 } } in
    let long : c.loop-entry.entry-index < length c.loop-entry.entry-items = omega (arith, c.loop-entry-test.true, c.loop-entry.auto.entry-items) in
    let small = c.requires c.loop-entry.entry-index nothing (as_long c.args.by c.args.entries.now.items c.loop-entry.entry-items c.loop-entry.entry-index c.loop-entry.invariant.0 c.loop-entry.invariant.1 nothing long) in
    let same = ap (λ k. let r = k.decl in r.file) (as_before c.args.by c.args.entries.now.items c.loop-entry.entry-items c.loop-entry.entry-index c.loop-entry.invariant.0 c.loop-entry.invariant.1 nothing long) in
    omega (arith, small, same)

pub loop-entry-preserved : goal.loop-entry-preserved
loop-entry-preserved c =
    let nothing : HashedDecl = record { hash = 0; decl = record { file = 0; number = 0 } } in
    let long : c.loop-entry.entry-index < length c.loop-entry.entry-items = omega (arith, c.loop-entry-test.true, c.loop-entry.auto.entry-items) in
    one_more_done c.args.by c.args.entries.now.items c.loop-entry.entry-items c.loop-entry.entry-index c.loop-entry.invariant.0 c.loop-entry.invariant.1 nothing long _
    (either_way c.args.by (get_or c.loop-entry.entry-items c.loop-entry.entry-index nothing))
