use Rattle.std.proofs.Common.{◌≡◌, ◌∙◌, ◌||◌, ap, false, get_or}
use Rattle.std.specs.List.{list_any}
use Rattle.proto_facts.specs.Reach.{between}
use Rattle.proto_decls.specs.Checks.{overlap}
use Rattle.proto_facts.proofs.OverlapLemmas.{no_interval, also-more, also-end}
use Rattle.proto_facts.proofs.overlaps.add_met_also.Goals as goal

pub good-preserved : goal.good-preserved
good-preserved c =
    let good = c.args.good.now in
    let before = c.args.before.now in
    let x = get_or good c.good.i no_interval in
    let late = get_or c.args.met.now c.good.i false in
    let met : c.meets.result ≡ (list_any (overlap x) before || late) =
    c.meets.ensures
    ∙ ap (λ s. list_any (between x.high x.low) s || late) c.as_slice-in-good.ensures.value
    ∙ ap (λ b. b || late) (c.in_ok-sorted.ensures.meets x) in
    also-more before good c.args.met.now c.good.i no_interval _ _ _ _ c.good-test.true c.requires c.good.invariant met c.in_ok-push.ensures.items

pub returns : goal.returns
returns c = also-end c.args.before.now c.args.good.now c.args.met.now c.good.i _ _ c.good-test.false c.good.invariant
