use Rattle.std.proofs.Common.{◌≡◌, vec_len}
use Rattle.import_graph.specs.Ties.{IsInner}
use Rattle.import_graph.proofs.ties.inner_imports.Given as goal

abbrev pub invariant-loop-file : goal.invariant-loop-file
invariant-loop-file l = record { length_is : vec_len l.rows ≡ l.file; inner : IsInner l.imports l.numbers l.rows.items }
