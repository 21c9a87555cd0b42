use Rattle.std.proofs.Common.{◌≡◌, ap, ◌∙◌, get_or}
use Rattle.proto_facts.specs.Reach.{is_held}
use Rattle.proto_decls.specs.Checks.{number_reserved, diag_if}
use Rattle.proto_decls.specs.declared.problem.Problem.TheVariants as m
use Rattle.proto_facts.proofs.Places.{no_member, filter_map-next}
use Rattle.proto_facts.proofs.ReachLemmas.{held-is}
use Rattle.proto_facts.proofs.reach.add_number_held.Goals as goal

pub members-preserved : goal.members-preserved
members-preserved c =
    let l = c.members in
    let good = c.args.good.now in
    let x = get_or c.args.members.now l.member-index no_member in
    let judged : c.number_reserved.result ≡ number_reserved good x =
    c.number_reserved.ensures
    ∙ ap (λ s. diag_if (is_held x.value s) m.NumberReserved x.number) c.as_slice-in-members.ensures.value
    ∙ ap (λ b. diag_if b m.NumberReserved x.number) (held-is x.value c.in_ok-sorted.sorted.items good c.in_ok-sorted.ensures.same) in
    rw (c.in_ok-add.ensures, judged)
    (filter_map-next (number_reserved good) c.args.members.now l.member-index no_member _ _ c.members-test.true l.invariant)
