use Rattle.std.proofs.Common.{◌≡◌, true, false, rules, sym}
use Rattle.std.specs.List.Sorted.{IsPartitionPoint}
use Rattle.std.proofs.lemmas.List.Sorted.{IsPartitionPoint-from_clause}
use Rattle.import_graph.proofs.PathPlaces.{is_before, turns_once, turns_there}
use Rattle.import_graph.proofs.paths.place_for.Goals as goal

pub returns : goal.returns
returns c = λ at file is room ordered.
    let point : IsPartitionPoint (λ f. is_before c.args.path.now f ≡ true) (λ f. is_before c.args.path.now f ≡ false) c.args.files.now c.partition_point.result =
    IsPartitionPoint-from_clause (is_before c.args.path.now) c.args.files.now c.partition_point.result c.partition_point.ensures.partitioned
    (rw is at (turns_once c.args.files.now at file room ordered)) (λ a r q k. search rules) in
    turns_there c.args.files.now at file room ordered c.partition_point.result c.partition_point.ensures.bound (rw (sym is) at point)
