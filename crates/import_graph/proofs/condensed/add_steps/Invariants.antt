use Rattle.std.proofs.Common.{◌≡◌, take, vec_len}
use Rattle.std.specs.Prelude.{All}
use Rattle.import_graph.specs.Walks.{AllWithin}
use Rattle.import_graph.specs.Condensed.{Adds, IsToTarget}
use Rattle.import_graph.proofs.condensed.add_steps.Given as goal

abbrev pub invariant-loop-target : goal.invariant-loop-target
invariant-loop-target l = record {
  length_is : vec_len l.rows ≡ vec_len l.fn.rows;
  within : All (AllWithin (vec_len l.fn.rows)) l.rows.items;
  adds : Adds (IsToTarget l.representatives l.from (take l.target-index l.targets)) l.fn.rows.items l.rows.items;
}
