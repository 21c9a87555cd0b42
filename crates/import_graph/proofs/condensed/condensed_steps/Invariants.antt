use Rattle.std.proofs.Common.{◌≡◌, vec_len, length}
use Rattle.std.specs.Prelude.{All}
use Rattle.import_graph.specs.Walks.{AllWithin}
use Rattle.import_graph.specs.Condensed.{Condenses}
use Rattle.import_graph.proofs.condensed.condensed_steps.Given as goal

abbrev pub invariant-loop-file : goal.invariant-loop-file
invariant-loop-file l = record {
  length_is : vec_len l.rows ≡ length l.next;
  within : All (AllWithin (length l.next)) l.rows.items;
  condenses : Condenses l.next l.representatives.items l.rows.items l.file;
}
