use Rattle.std.proofs.Common.{◌≡◌, ◌<◌, List, length, subst, sym}
use Rattle.proto_decls.specs.declared.named_facts.NamedFacts.{NamedFacts}
use Rattle.import_graph.specs.Paths.{IsInPathOrder}
use Rattle.proto_resolve.proofs.FilesInOrder.{rest_in_order}
use Rattle.proto_resolve.proofs.table.Table.update.Goals as goal

pub of_names-requires : goal.of_names-requires
of_names-requires c =
    let files : List NamedFacts = c.self.inside.names in
    let seen : c.args.self ≡ files = cc in
    let at = c.in-Removed.at in
    let there : at < length files = rw (← seen) (rw c.in-Removed.is at c.requires) in
    subst (λ (fs : List NamedFacts). IsInPathOrder fs) (sym c.in_ok-names-in-Removed.ensures) (rest_in_order files at there c.self.invariant.0.ordered)
