use Rattle.std.proofs.Common.{◌∙◌, List, map, sym, ap, ap₂}
use Rattle.std.proofs.lemmas.Simd.{map-map}
use Rattle.piece_collector.specs.Views.{TextAt}
use Rattle.work_index.specs.Pieces.{source_of, workspace_of}
use Rattle.work_index.specs.Workspace.{analysis, diagnostics_of}
use Rattle.work_index.proofs.Steps.{length_made}
use Rattle.work_shares.specs.Diagnosis.{diagnosis}
use Rattle.work_shares.proofs.in_shares.diagnose.Goals as goal

pub invariant_of-result : goal.invariant_of-result
invariant_of-result g c =
    let ts : List TextAt = c.into_pieces-pieces.result.items in
    let linked = c.in_ok-table.ensures.linked in
    rw (linked.diagnostics, linked.pieces) (length_made c.args.settings.reads_others (diagnostics_of (workspace_of c.args.settings.reads_others ts)) ts)

pub returns-clause-diagnosis : goal.returns-clause-diagnosis
returns-clause-diagnosis g c =
    let ts : List TextAt = c.into_pieces-pieces.result.items in
    let r = c.args.settings.reads_others in
    let w = workspace_of r ts in
    let linked = c.in_ok-table.ensures.linked in
    let paths = ap (map (λ (t : TextAt). t.path)) linked.pieces ∙ sym (map-map (λ file. file.0) (source_of r) ts) in
    let sources = ap (map (λ (t : TextAt). record { text = t.text; reads_others = r })) linked.pieces ∙ sym (map-map (λ file. file.1) (source_of r) ts) in
    ap₂ (λ ps us. record { paths = ps; sources = us; files = c.in_ok-table.table; diagnostics = c.in_ok-table.linked.resolutions.diagnostics.items }) paths sources
    ∙ ap₂ (λ fs ds. let a = analysis w in record { paths = a.paths; sources = a.sources; files = fs; diagnostics = ds }) c.in_ok-table.ensures.table linked.diagnostics
    ∙ ap (λ us. diagnosis (workspace_of r us)) c.into_pieces-pieces.ensures.pieces
