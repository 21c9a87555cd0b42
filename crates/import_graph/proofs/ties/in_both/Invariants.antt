use Rattle.std.proofs.Common.{◌≡◌, ℕ, vec_len, get_or, true, false}
use Rattle.import_graph.specs.FileSearches.{IsSeen}
use Rattle.import_graph.proofs.ties.in_both.Given as goal

abbrev pub invariant-loop-file : goal.invariant-loop-file
invariant-loop-file l = record {
  length_is : vec_len l.flags ≡ l.file;
  both : (g : ℕ) → get_or l.flags.items g false ≡ true → IsSeen l.some g × IsSeen l.others g;
}
