use Rattle.std.proofs.Common.{◌≡◌, List, ℕ, true, drop}
use Rattle.std.specs.List.{flat_map}
use Rattle.proto_resolve.specs.Sites.{names_in}
use Rattle.work_links.specs.declared.asked.Asked.{Asked}
use Rattle.work_links.specs.Asked.{asked_by, has_all}
use Rattle.work_links.proofs.AskedNames.{Grows}
use Rattle.work_links.proofs.asked.Asked.+asked.Given as goal

-- what has the names of the statements that are left, besides what is kept, has all
abbrev pub invariant-add_nodes-nodes : goal.invariant-add_nodes-nodes
invariant-add_nodes-nodes l = record {
  left : (later : Asked) (scopes : List (List ℕ)) → Grows l.self later
      → has_all later (flat_map asked_by (names_in l.text (drop l.node-index l.nodes) scopes)) ≡ true
      → has_all later (flat_map asked_by (names_in l.text l.nodes scopes)) ≡ true;
  kept : Grows l.fn.self l.self;
}
