use Rattle.std.proofs.Common.{IsTrue, arith}
use Rattle.import_graph.proofs.MovedImports.{more_moved, moved_at}
use Rattle.import_graph.proofs.moves.are_imports_moved.Goals as goal

pub returns-then-not-branch : goal.returns-then-not-branch
returns-then-not-branch c = (
  λ h. absurd (cc (h)),
  λ same.
      let moved = moved_at c.args.to.now c.args.a.now c.args.b.now c.args.from c.args.at c.loop-import.import same in
      let is : IsTrue c.in_ok-is_import_moved.field-0 = c.in_ok-is_import_moved.ensures.1 moved in
      absurd (cc (is, c.if-not-branch.true)),
)

pub loop-import-preserved : goal.loop-import-preserved
loop-import-preserved c =
    let a = c.args.a.now in
    let b = c.args.b.now in
    let to = c.args.to.now in
    let before = c.loop-import.invariant in
    let is : IsTrue c.in_ok-is_import_moved.field-0 = cc (c.if-not-branch.false) in record {
      all = before.all;
      as_many = before.as_many;
      so_far = more_moved to a b c.args.from c.args.at c.loop-import.import (omega (arith, before.all, c.loop-import-test.true)) before.as_many before.so_far
          (c.in_ok-is_import_moved.ensures.0 is);
    }
