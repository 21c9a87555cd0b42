use Rattle.std.proofs.Common.{◌≡◌, ◌∙◌, sym, take, arith}
use Rattle.std.proofs.lemmas.List.{take_more}
use Rattle.std.proofs.lemmas.List.Elements.{All-push}
use Rattle.std.proofs.lemmas.Slice.Eq.{bytes_eq-Decides}
use Rattle.import_graph.proofs.shared.alike_count.Goals as goal

pub loop-count-preserved : goal.loop-count-preserved
loop-count-preserved c =
    let same = sym c.as_slice.ensures ∙ (bytes_eq-Decides c.as_slice.result.now c.args.first.now).0 (sym c.eq.ensures ∙ c.if-eq.true) in
    let more = take_more c.args.starts.now c.loop-count.count c.index-starts-count.result c.loop-count-test.true in (
      omega (arith, c.loop-count-test.true),
      rw more (All-push (λ s. s.first ≡ c.args.first.now) (take c.loop-count.count c.args.starts.now) _ c.loop-count.invariant.1 same),
    )
