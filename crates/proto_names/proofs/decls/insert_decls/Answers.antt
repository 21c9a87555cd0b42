use Rattle.proto_names.proofs.ChangedDecls.{StartsAt}
use Rattle.proto_names.proofs.InsertedDecls.{are_small, own_come, starts_within}
use Rattle.proto_names.proofs.decls.insert_decls.Goals as goal

pub make_way-requires : goal.make_way-requires
make_way-requires c = are_small c.args.files.now c.args.at c.args.decls.now.items c.requires

pub put-requires-clause-within : goal.put-requires-clause-within
put-requires-clause-within c =
    let start : StartsAt c.args.at c.args.decls.now.items c.start_of-start.result = rw c.deref.ensures.value at c.start_of-start.ensures in
    starts_within c.args.files.now c.args.at c.args.decls.now.items c.requires c.start_of-start.result start c.make_way.new.decls.items c.make_way.ensures

pub returns : goal.returns
returns c =
    let start : StartsAt c.args.at c.args.decls.now.items c.start_of-start.result = rw c.deref.ensures.value at c.start_of-start.ensures in
    rw (← own_come c.args.files.now c.args.at c.args.decls.now.items c.requires c.start_of-start.result start c.make_way.new.decls.items c.make_way.ensures, ← c.in_ok-own.ensures) c.put.ensures
