use Rattle.std.proofs.Common.{string_bytes, ◌∙◌}
use Rattle.lsp_answers.proofs.DeclarationsLemmas.{symbols-more}
use Rattle.lsp_answers.proofs.answers.Answers.symbols_in.Goals as goal

pub loop-i-preserved : goal.loop-i-preserved
loop-i-preserved c =
    let is = c.symbol_at.ensures in
    symbols-more c.args.self.now (string_bytes c.args.document.uri) c.args.document.ranges.items c.args.found.now c.loop-i.symbols.items c.push.new.self.items c.symbol_at.result c.loop-i.i _ _
    c.loop-i-test.true c.requires c.loop-i.invariant is.name is.container is.kind (is.range ∙ c.index.ensures) c.in_ok-push.ensures.items
