use Rattle.std.proofs.Common.{◌≡◌, ◌++◌, drop, map, take}
use Rattle.work_links.specs.Touched.{decl_after, use_after}
use Rattle.work_links.proofs.renumbering.renumber.Given as goal

-- those so far have the numbers after the change
abbrev pub invariant-loop-at : goal.invariant-loop-at
invariant-loop-at l = record {
  uses : l.links.uses ≡ map (use_after (decl_after l.by)) (take l.at l.fn.links.uses) ++ drop l.at l.fn.links.uses;
  diags : l.links.diags ≡ l.fn.links.diags;
}
