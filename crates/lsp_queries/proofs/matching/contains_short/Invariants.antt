use Rattle.std.proofs.Common.{◌≡◌, ◌≤◌, ◌-◌, drop, length}
use Rattle.lsp_queries.specs.Matching.{contains}
use Rattle.lsp_queries.proofs.matching.contains_short.Given as goal

-- what is left contains the query where the text does
abbrev pub invariant-text : goal.invariant-text
invariant-text l = record {
  within : l.start ≤ length l.text;
  left : contains l.query (drop l.start l.text) ≡ contains l.query l.text;
}

abbrev pub decreases-text : goal.decreases-text
decreases-text l = length l.text - l.start
