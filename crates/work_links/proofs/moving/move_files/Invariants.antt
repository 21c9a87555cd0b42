use Rattle.std.proofs.Common.{◌≡◌, ◌++◌, drop, map, take}
use Rattle.work_links.specs.Laws.{decl_moved}
use Rattle.work_links.specs.Touched.{use_after}
use Rattle.work_links.proofs.moving.move_files.Given as goal

-- those so far have the new numbers
abbrev pub invariant-loop-at : goal.invariant-loop-at
invariant-loop-at l = record {
  uses : l.links.uses ≡ map (use_after (decl_moved l.to)) (take l.at l.fn.links.uses) ++ drop l.at l.fn.links.uses;
  diags : l.links.diags ≡ l.fn.links.diags;
}
