use Rattle.std.proofs.Common.{ap, ◌∙◌, take, get_or}
use Rattle.proto_decls.specs.Checks.{number_used, is_value, diag_if, used_twice}
use Rattle.proto_facts.proofs.Places.{no_member, diags-next, judged-end, any-next, has-is}
use Rattle.proto_facts.proofs.checks.add_number_used.Goals as goal

pub members-preserved : goal.members-preserved
members-preserved c =
    let l = c.members in
    let xs = c.args.members.now in
    record {
      met = λ q. any-next (λ e. is_value q e.value) xs l.member-index _ _ _ c.members-test.true (c.in_ok-again.ensures.more q) (l.invariant.met q);
      diags = diags-next (number_used c.args.numbering) xs l.member-index no_member _ _ _ _ c.members-test.true l.invariant.diags c.in_ok-add.ensures
          (c.diag_if.ensures ∙ ap (λ m. diag_if c.in_ok-again.again m (get_or xs l.member-index no_member).number) c.used_twice.ensures
          ∙ ap (λ b. diag_if b (used_twice c.args.numbering) (get_or xs l.member-index no_member).number) (c.in_ok-again.ensures.found ∙ has-is l.seen (take l.member-index xs) (get_or xs l.member-index no_member).value l.invariant.met));
    }

pub returns : goal.returns
returns c = judged-end (number_used c.args.numbering) c.args.members.now c.members.member-index _ _ c.members-test.false c.members.invariant.diags
