use Rattle.std.proofs.Common.{◌≡◌, ◌<◌, ◌^◌, ℕ, take, map}
use Rattle.std.specs.Prelude.{nat_lt}
use Rattle.std.specs.List.{list_any}
use Rattle.proto_tree.specs.declared.node.Node.{out-Node}
use Rattle.proto_decls.specs.Starts.{start_of}
use Rattle.proto_facts.proofs.file.earliest_node.Given as goal

abbrev pub invariant-nodes : goal.invariant-nodes
invariant-nodes l = (x : ℕ) → x < 2 ^ 64 → nat_lt l.least x ≡ list_any (λ start. nat_lt start x) (map (λ n. start_of (out-Node n)) (take l.node-index l.nodes))
