use Rattle.std.proofs.Common.{◌≡◌}
use Rattle.std.proofs.lemmas.List.Elements.{All-more}
use Rattle.lsp_queries.proofs.place.count_in.Goals as goal

pub loop-number-preserved : goal.loop-number-preserved
loop-number-preserved c = All-more (λ p. p.file ≡ c.args.file) c.args.places.now c.loop-number.number _ c.loop-number-test.true c.loop-number.invariant c.if-place-file.false
