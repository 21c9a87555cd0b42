use Rattle.std.proofs.Common.{◌∙◌}
use Rattle.lsp_queries.proofs.MatchingLemmas.{finds-contains}
use Rattle.lsp_queries.proofs.matching.contains_long.Goals as goal

pub returns : goal.returns
returns c =
    let found = rw (c.as_slice.ensures.value, c.as_slice-2.ensures.value, c.in_ok-text.ensures.ok, c.in_ok-query.ensures.ok) at c.find.ensures in
    c.is_some.ensures ∙ finds-contains c.args.query.now c.args.text.now c.find.result found
