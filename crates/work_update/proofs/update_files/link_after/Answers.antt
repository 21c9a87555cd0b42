use Rattle.std.proofs.Common.{◌≡◌, ◌+◌, ◌++◌, ◌∷◌, [], get_or, sym, ap, ◌∙◌, zero-add}
use Rattle.std.proofs.lemmas.List.{drop_all}
use Rattle.proto_decls.specs.Facts.{facts_of}
use Rattle.work_index.specs.Pieces.{source_of, workspace_of}
use Rattle.work_index.specs.Workspace.{diagnostics_of, merged, no_file, resolution_of}
use Rattle.work_index.proofs.Steps.{one_more}
use Rattle.work_index.proofs.Numbered.{piece_at}
use Rattle.work_update.proofs.Stayed.{all_diagnosed, all_linked, none_linked_yet}
use Rattle.work_update.proofs.update_files.link_after.Goals as goal

pub loop-file-init : goal.loop-file-init
loop-file-init c = λ r known. none_linked_yet r c.args.to.now c.args.pieces.now c.args.table.now c.args.earlier _ known c.new-links.ensures.items c.new-diagnostics.ensures.items

pub links_now-requires-clause-earlier : goal.links_now-requires-clause-earlier
links_now-requires-clause-earlier c =
    let r = c.requires.earlier.0 in
    let so_far = c.loop-file.invariant r c.requires.earlier.1 in
    (r, so_far.known)

pub loop-file-preserved : goal.loop-file-preserved
loop-file-preserved c = λ r known.
    let ts = c.args.pieces.now in
    let w = workspace_of r ts in
    let k = c.loop-file.file in
    let piece = c.index-pieces-file.result in
    let so_far = c.loop-file.invariant r known in
    let at : get_or w k no_file ≡ source_of r piece = piece_at r ts k piece c.loop-file-test.true c.index-pieces-file.is in
    let found : c.in_ok-found.found ≡ resolution_of w (0 + k, source_of r piece) = c.in_ok-found.ensures.links r so_far.known ∙ ap (λ file. resolution_of w (k, file)) at ∙ ap (λ n. resolution_of w (n, source_of r piece)) (sym (zero-add k)) in record {
      known = c.in_ok-found.ensures.earlier r so_far.known;
      links = one_more r (resolution_of w) 0 k ts piece _ _ _ c.loop-file-test.true c.index-pieces-file.is (c.in_ok-push_found.ensures.links ∙ ap (λ links. c.loop-file.resolutions.links.items ++ links ∷ []) found) so_far.links;
      diagnostics = one_more r (diagnostics_of w) 0 k ts piece _ _ _ c.loop-file-test.true c.index-pieces-file.is (c.in_ok-push_found.ensures.diagnostics ∙ ap (λ links. c.loop-file.resolutions.diagnostics.items ++ merged (facts_of piece.text) links ∷ []) found) so_far.diagnostics;
    }

pub returns-clause-links : goal.returns-clause-links
returns-clause-links c = λ r known.
    all_linked r c.args.to.now c.args.pieces.now c.args.table.now c.loop-file.earlier c.loop-file.resolutions c.loop-file.file (c.loop-file.invariant r known) (drop_all c.loop-file.file c.args.pieces.now c.loop-file-test.false)

pub returns-clause-diagnostics : goal.returns-clause-diagnostics
returns-clause-diagnostics c = λ r known.
    all_diagnosed r c.args.to.now c.args.pieces.now c.args.table.now c.loop-file.earlier c.loop-file.resolutions c.loop-file.file (c.loop-file.invariant r known) (drop_all c.loop-file.file c.args.pieces.now c.loop-file-test.false)
