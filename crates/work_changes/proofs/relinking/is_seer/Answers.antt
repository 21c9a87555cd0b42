use Rattle.std.proofs.Common.{◌≡◌, sym, ◌∙◌}
use Rattle.std.specs.Prelude.{is_ok}
use Rattle.std.specs.List.Sorted.{IsStrictlyIncreasing}
use Rattle.import_graph.specs.Closures.{seers_of}
use Rattle.import_graph.specs.Imports.{graph_of}
use Rattle.proto_names.specs.Files.{is_seen}
use Rattle.proto_names.proofs.Search.{searched}
use Rattle.work_changes.proofs.Changed.{seers_rise, unseen_by}
use Rattle.work_changes.proofs.relinking.is_seer.Goals as goal

pub returns : goal.returns
returns c old new change differ told there untold =
    let file = c.args.file in
    let seers = (let told = c.args.told.now in told.seers.items) in
    let both = rw told at differ.told in
    let are : seers ≡ seers_of (graph_of new) change.file = both.0 in
    let rise : IsStrictlyIncreasing seers = rw are (seers_rise (graph_of new) change.file) in
    let found : is_ok c.binary_search.result ≡ is_seen seers file =
    searched seers rise file c.binary_search.result (rw c.as_slice.ensures.value at c.binary_search.ensures.bound) (rw c.as_slice.ensures.value at c.binary_search.ensures.position) in
    unseen_by old new change file differ there (rw (← are) (sym found ∙ sym c.is_ok.ensures.value ∙ untold))
