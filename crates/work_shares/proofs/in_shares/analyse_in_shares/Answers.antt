use Rattle.std.proofs.Common.{◌∙◌, List, refl, sym, ap, subst}
use Rattle.piece_collector.specs.Board.{Ascends}
use Rattle.piece_collector.specs.Views.{TextAt}
use Rattle.work_index.specs.Pieces.{workspace_of}
use Rattle.work_index.specs.Workspace.{analysis}
use Rattle.work_shares.proofs.in_shares.analyse_in_shares.Goals as goal

pub of-requires-after_bounds : goal.of-requires-after_bounds
of-requires-after_bounds g c κs =
    subst Ascends (sym (c.in_ok-table.ensures.linked.pieces)) c.into_pieces-pieces.ensures.ascends

pub of_parts-analysis-requires : goal.of_parts-analysis-requires
of_parts-analysis-requires g c =
    let ts : List TextAt = c.into_pieces-pieces.result.items in
    let r = c.args.settings.reads_others in
    let linked = c.in_ok-table.ensures.linked in
    let files = c.in_ok-files.ensures ∙ ap (workspace_of r) (c.as_slice.ensures.value ∙ linked.pieces) in
    (workspace_of r ts, record { table = c.in_ok-table.ensures.table; files = files; links = linked.links refl; diagnostics = linked.diagnostics })

pub returns-clause-pieces : goal.returns-clause-pieces
returns-clause-pieces g c = c.of.ensures ∙ (c.in_ok-table.ensures.linked.pieces ∙ c.into_pieces-pieces.ensures.pieces)

pub returns-clause-analysis : goal.returns-clause-analysis
returns-clause-analysis g c =
    let ts : List TextAt = c.into_pieces-pieces.result.items in
    let r = c.args.settings.reads_others in
    let linked = c.in_ok-table.ensures.linked in
    let files = c.in_ok-files.ensures ∙ ap (workspace_of r) (c.as_slice.ensures.value ∙ linked.pieces) in
    c.of_parts-analysis.ensures (workspace_of r ts) (record { table = c.in_ok-table.ensures.table; files = files; links = linked.links refl; diagnostics = linked.diagnostics }) ∙ ap (λ us. analysis (workspace_of r us)) c.into_pieces-pieces.ensures.pieces
