use Rattle.proto_resolve.proofs.BaseChanges.{graph_now, ordered_now, packaged_now}
use Rattle.proto_resolve.proofs.table_base.TableBase.changed.Goals as goal

pub returns-then-same_package : goal.returns-then-same_package
returns-then-same_package c =
    let w = c.requires in
    record {
      ordered = ordered_now c.args.files.now c.args.file c.args.same_package c.args.self w;
      graph = graph_now c.args.files.now c.args.file c.args.same_package c.args.self w;
      packaged = packaged_now c.args.files.now c.args.file c.args.same_package c.args.self w c.if-same_package.true;
      longest = w.was.longest;
    }

pub returns : goal.returns
returns c =
    let w = c.requires in
    record {
      ordered = ordered_now c.args.files.now c.args.file c.args.same_package c.args.self w;
      graph = graph_now c.args.files.now c.args.file c.args.same_package c.args.self w;
      packaged = c.in_ok-base.ensures;
      longest = rw c.as_slice.ensures.value at c.longest_of.ensures;
    }
