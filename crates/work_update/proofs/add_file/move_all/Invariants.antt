use Rattle.std.proofs.Common.{◌≡◌, take, drop, map}
use Rattle.work_links.specs.Laws.{decl_moved}
use Rattle.work_links.specs.Touched.{links_after}
use Rattle.work_update.proofs.add_file.move_all.Given as goal

-- those so far have the new numbers, the others are as they were
abbrev pub invariant-loop-own : goal.invariant-loop-own
invariant-loop-own l = (take l.own-index l.own-items ≡ map (links_after (decl_moved l.to)) (take l.own-index l.fn.links.items)) × (drop l.own-index l.own-items ≡ drop l.own-index l.fn.links.items)
