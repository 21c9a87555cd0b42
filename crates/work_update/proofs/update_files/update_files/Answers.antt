use Rattle.std.proofs.Common.{arith}
use Rattle.work_index.specs.AnalysisParts.{AreParts}
use Rattle.work_index.specs.Pieces.{workspace_of}
use Rattle.work_index.specs.Workspace.{workspace_in}
use Rattle.work_index.proofs.Numbered.{pieces_length}
use Rattle.work_update.specs.Stayed.{IsSameFile}
use Rattle.work_update.proofs.Stayed.{none_taken_now}
use Rattle.work_update.proofs.update_files.update_files.Goals as goal

pub numbers_before-requires : goal.numbers_before-requires
numbers_before-requires c = λ g n moves.
    let file : IsSameFile (workspace_in c.args.earlier) (workspace_of c.args.reads_others c.args.pieces.now) g n = c.requires.stayed g n moves in
    omega (arith, file.here, pieces_length c.args.reads_others c.args.pieces.now)

pub link_after-requires-clause-earlier : goal.link_after-requires-clause-earlier
link_after-requires-clause-earlier c =
    let parts = c.into_parts-known.result in
    let of : AreParts (workspace_in c.args.earlier) parts = c.into_parts-known.ensures.parts in (
      c.args.reads_others,
      none_taken_now (workspace_in c.args.earlier) (workspace_of c.args.reads_others c.args.pieces.now) c.args.to.now c.requires.stayed parts.table c.in_ok-table.table of.table c.in_ok-table.ensures.table
          (record { graph = c.in_ok-table.graph; links = parts.resolutions.links }) c.in_ok-table.ensures.graph of.links,
    )

pub of_parts-requires : goal.of_parts-requires
of_parts-requires c =
    let r = c.args.reads_others in
    let w = workspace_of r c.args.pieces.now in
    let parts = c.into_parts-known.result in
    let of : AreParts (workspace_in c.args.earlier) parts = c.into_parts-known.ensures.parts in
    let known = none_taken_now (workspace_in c.args.earlier) w c.args.to.now c.requires.stayed parts.table c.in_ok-table.table of.table c.in_ok-table.ensures.table
    (record { graph = c.in_ok-table.graph; links = parts.resolutions.links }) c.in_ok-table.ensures.graph of.links in
    (w, record { table = c.in_ok-table.ensures.table; files = c.in_ok-files.ensures; links = c.in_ok-resolutions.ensures.links r known; diagnostics = c.in_ok-resolutions.ensures.diagnostics r known })

pub returns : goal.returns
returns c =
    let r = c.args.reads_others in
    let w = workspace_of r c.args.pieces.now in
    let parts = c.into_parts-known.result in
    let of : AreParts (workspace_in c.args.earlier) parts = c.into_parts-known.ensures.parts in
    let known = none_taken_now (workspace_in c.args.earlier) w c.args.to.now c.requires.stayed parts.table c.in_ok-table.table of.table c.in_ok-table.ensures.table
    (record { graph = c.in_ok-table.graph; links = parts.resolutions.links }) c.in_ok-table.ensures.graph of.links in
    c.of_parts.ensures w (record { table = c.in_ok-table.ensures.table; files = c.in_ok-files.ensures; links = c.in_ok-resolutions.ensures.links r known; diagnostics = c.in_ok-resolutions.ensures.diagnostics r known })

pub table_after-requires-clause-before : goal.table_after-requires-clause-before
table_after-requires-clause-before c =
    let of : AreParts (workspace_in c.args.earlier) c.into_parts-known.result = c.into_parts-known.ensures.parts in
    record { old = workspace_in c.args.earlier; is = of.table; stayed = c.requires.stayed }
