use Rattle.proto_decls.specs.Checks.{name_reserved}
use Rattle.proto_facts.proofs.Places.{filter_map-next}
use Rattle.proto_facts.proofs.checks.add_name_reserved.Goals as goal

pub members-preserved : goal.members-preserved
members-preserved c = λ names met.
    rw (c.in_ok-add.ensures, c.name_reserved.ensures names met)
    (filter_map-next (name_reserved c.args.text.now names) c.args.members.now c.members.member-index _ _ _ c.members-test.true (c.members.invariant names met))
