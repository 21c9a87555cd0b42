use Rattle.std.proofs.Common.{List, subst, sym}
use Rattle.proto_decls.specs.declared.named_facts.NamedFacts.{NamedFacts}
use Rattle.import_graph.specs.Paths.{IsInPathOrder}
use Rattle.proto_resolve.proofs.table.Table.copy.Goals as goal

pub of_names-requires : goal.of_names-requires
of_names-requires c = subst (λ (fs : List NamedFacts). IsInPathOrder fs) (sym c.in_ok-names.ensures) c.self.invariant.0.ordered
