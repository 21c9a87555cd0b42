use Rattle.std.proofs.Common.{◌≡◌, ◌∙◌, List, ap, map, sym}
use Rattle.proto_decls.specs.declared.named_facts.NamedFacts.{NamedFacts}
use Rattle.proto_names.specs.Outlines.{with_facts}
use Rattle.proto_resolve.proofs.Outlines.{asking, asks_alike, same_graph, stays_in_order}
use Rattle.proto_names.proofs.Outlines.{telling, tells_alike, same_decls, still_packaged}
use Rattle.proto_resolve.proofs.table.Table.set_facts.Goals as goal

pub invariant_of-self : goal.invariant_of-self
invariant_of-self c =
    let files : List NamedFacts = c.self.inside.names in
    let seen : c.args.self.now ≡ files = cc in
    let f = c.args.file in
    let new : List NamedFacts = with_facts files f c.args.facts in
    let asks : map asking files ≡ map asking new = asks_alike files f c.args.facts (rw seen at c.requires.within) (rw seen at c.requires.imports) in
    let tells : map telling files ≡ map telling new = tells_alike files f c.args.facts (rw seen at c.requires.within) (rw seen at c.requires.exports) in
    rw c.set_facts.ensures (
      record {
        ordered = stays_in_order files f c.args.facts c.self.invariant.0.ordered;
        graph = c.self.invariant.0.graph ∙ same_graph files new asks;
        packaged = still_packaged files new tells c.self.inside.base.packaged.items c.self.invariant.0.packaged;
        longest = c.self.invariant.0.longest;
      },
      c.self.invariant.1 ∙ same_decls files new tells,
    )
