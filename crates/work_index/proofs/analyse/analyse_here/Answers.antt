use Rattle.std.proofs.Common.{rules}
use Rattle.work_index.specs.Pieces.{workspace_of}
use Rattle.work_index.proofs.Steps.{all_numbered}
use Rattle.work_index.proofs.analyse.analyse_here.Goals as goal

pub link_files-requires-after_bounds : goal.link_files-requires-after_bounds
link_files-requires-after_bounds c κs = all_numbered c.args.reads_others c.args.pieces.now _ c.in_ok-table.ensures (search rules)

pub of_parts-requires : goal.of_parts-requires
of_parts-requires c =
    let w = workspace_of c.args.reads_others c.args.pieces.now in
    let all = c.in_ok-table.ensures in
    (w, record { table = all; files = c.in_ok-files.ensures; links = c.in_ok-resolutions.ensures.links w c.args.reads_others all; diagnostics = c.in_ok-resolutions.ensures.diagnostics w c.args.reads_others all })

pub returns : goal.returns
returns c =
    let w = workspace_of c.args.reads_others c.args.pieces.now in
    let all = c.in_ok-table.ensures in
    c.of_parts.ensures w (record { table = all; files = c.in_ok-files.ensures; links = c.in_ok-resolutions.ensures.links w c.args.reads_others all; diagnostics = c.in_ok-resolutions.ensures.diagnostics w c.args.reads_others all })
