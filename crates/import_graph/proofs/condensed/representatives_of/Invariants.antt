use Rattle.std.proofs.Common.{◌≡◌, ℕ, vec_len}
use Rattle.import_graph.specs.Walks.{AllWithin}
use Rattle.import_graph.specs.Condensed.{StandsFor, representative}
use Rattle.import_graph.proofs.condensed.representatives_of.Given as goal

abbrev pub invariant-loop-file : goal.invariant-loop-file
invariant-loop-file l = record {
  length_is : vec_len l.found ≡ l.file;
  within : AllWithin (vec_len l.components.numbers) l.found.items;
  stands : (f : ℕ) → StandsFor l.components.numbers.items l.components.tied.items (representative l.found.items f) f;
}
