use Rattle.std.proofs.Common.{◌≡◌, ◌<◌, ◌≤◌, ◌+◌, ◌-◌, length, take, drop, []}
use Rattle.proto_syntax.specs.Skips.{opened, closed}
use Rattle.proto_tree.specs.Cut.{items_from}
use Rattle.proto_syntax.proofs.cut.next_item.Given as goal

abbrev pub invariant-places : goal.invariant-places
invariant-places l = record {
  within : l.end < length l.ts;
  few_opened : l.opened ≤ l.end;
  few_closed : l.closed ≤ l.end;
  depth : l.opened + closed (take l.end l.ts) ≡ l.closed + opened (take l.end l.ts);
  so_far : items_from l.body [] l.ts ≡ items_from l.body (take l.end l.ts) (drop l.end l.ts);
}

abbrev pub decreases-places : goal.decreases-places
decreases-places l = length l.ts - l.end
