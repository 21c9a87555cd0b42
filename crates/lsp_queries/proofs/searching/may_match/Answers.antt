use Rattle.lsp_queries.proofs.NeighbourLemmas.{no-match}
use Rattle.lsp_queries.proofs.searching.may_match.Goals as goal

pub returns : goal.returns
returns c = λ none number. rw c.facts.ensures (no-match c.args.query.now c.facts.result.now.decls number (c.may_contain.ensures none))
