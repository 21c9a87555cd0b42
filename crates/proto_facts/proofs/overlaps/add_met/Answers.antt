use Rattle.std.proofs.Common.{◌≡◌, ◌∙◌, [], ap, false, get_or, take, length, arith}
use Rattle.std.specs.List.{list_any}
use Rattle.proto_decls.specs.Checks.{diag_if, overlap, range_twice}
use Rattle.proto_decls.specs.declared.problem.Problem.TheVariants as m
use Rattle.proto_facts.proofs.OverlapLemmas.{no_interval, length-met, met-at}
use Rattle.proto_facts.proofs.Places.{diags-next, judged-end}
use Rattle.proto_facts.proofs.overlaps.add_met.Goals as goal

pub bounds-met-i : goal.bounds-met-i
bounds-met-i c = omega (arith, length-met [] c.args.good.now, ap length c.requires)

pub good-preserved : goal.good-preserved
good-preserved c =
    let good = c.args.good.now in
    let x = get_or good c.good.i no_interval in
    let again : get_or c.args.met.now c.good.i false ≡ list_any (overlap x) (take c.good.i good) =
    ap (λ bs. get_or bs c.good.i false) c.requires ∙ met-at [] good c.good.i no_interval c.good-test.true in
    diags-next range_twice good c.good.i no_interval _ _ _ _ c.good-test.true c.good.invariant c.in_ok-add.ensures
    (c.diag_if.ensures ∙ ap (λ b. diag_if b m.ReservedTwice x.span) again)

pub returns : goal.returns
returns c = judged-end range_twice c.args.good.now c.good.i _ _ c.good-test.false c.good.invariant
