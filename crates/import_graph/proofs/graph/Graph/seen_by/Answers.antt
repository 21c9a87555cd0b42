use Rattle.std.proofs.Common.{◌<◌, length}
use Rattle.std.specs.Prelude.{Contains}
use Rattle.std.proofs.lemmas.List.Elements.{All-weaker, All-contains_itself}
use Rattle.import_graph.proofs.Seers.{one_seen, seer_within, seers_is}
use Rattle.import_graph.proofs.Views.{Within}
use Rattle.import_graph.proofs.graph.Graph.seen_by.Goals as goal

pub returns-clause-exact : goal.returns-clause-exact
returns-clause-exact c g =
    let has = c.in_ok-seers.ensures.exact g in
    let one = one_seen c.args.self.now c.args.file g in
    (λ in_list. one.0 (has.0 in_list), λ s. has.1 (one.1 s))

pub returns-clause-within : goal.returns-clause-within
returns-clause-within c =
    let within : Within c.args.self.now = rw c.self.view_is at c.self.invariant.within in
    All-weaker (Contains c.in_ok-seers.seers.items) (λ g. g < length c.args.self.now) (λ g has. seer_within c.args.self.now c.args.file within c.requires g ((returns-clause-exact c g).0 has))
    c.in_ok-seers.seers.items (All-contains_itself c.in_ok-seers.seers.items)

pub returns-clause-seers : goal.returns-clause-seers
returns-clause-seers c =
    let within : Within c.args.self.now = rw c.self.view_is at c.self.invariant.within in
    seers_is c.args.self.now c.args.file within c.requires c.in_ok-seers.seers.items c.in_ok-seers.ensures.ascending (returns-clause-exact c)
