use Rattle.lsp_queries.proofs.MatchingLemmas.{contains-law}
use Rattle.lsp_queries.proofs.laws.contains_law.Goals as goal

pub returns : goal.returns
returns c = contains-law
