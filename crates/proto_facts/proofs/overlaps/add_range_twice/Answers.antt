use Rattle.std.proofs.Common.{◌++◌, sym, ap, ◌∙◌, append-nil, get_or}
use Rattle.proto_decls.specs.Checks.{diag_if, range_twice}
use Rattle.proto_decls.specs.declared.problem.Problem.TheVariants as m
use Rattle.proto_facts.proofs.ReachLemmas.{none-overlap}
use Rattle.proto_facts.proofs.TwiceLemmas.{judged-none}
use Rattle.proto_facts.proofs.overlaps.add_range_twice.Goals as goal

pub returns-then-branch : goal.returns-then-branch
returns-then-branch c =
    let good = c.args.good.now in
    let apart = c.in_ok-are_apart.ensures c.if-branch.true in
    let none = judged-none range_twice good (λ k d lt. ap (λ b. diag_if b m.ReservedTwice (get_or good k d).span) (none-overlap good k d lt apart)) in
    sym (ap (λ ds. c.args.diags.now ++ ds) none ∙ append-nil c.args.diags.now)
