use Rattle.std.proofs.Common.{◌<◌, ◌∙◌, ℕ, ap, map, subst, sym}
use Rattle.std.specs.Prelude.{All}
use Rattle.std.proofs.lemmas.Simd.{map-map}
use Rattle.work_index.specs.AnalysisParts.{AreParts}
use Rattle.work_index.specs.Pieces.{source_of, workspace_of}
use Rattle.work_index.specs.Workspace.{SourceAt, Workspace, all_facts, diagnostics_of, resolution_of, workspace_in}
use Rattle.work_index.proofs.Numbered.{made, pieces_length}
use Rattle.work_changes.specs.Changes.{StaysBut, WasKnown}
use Rattle.work_changes.proofs.KeptFiles.{none_kept}
use Rattle.work_changes.proofs.relinking.update_texts.Goals as goal

pub with_changed-requires-clause-within : goal.with_changed-requires-clause-within
with_changed-requires-clause-within c = subst (λ (n : ℕ). All (λ f. f < n) c.args.changed.now) (pieces_length c.args.reads_others c.args.pieces.now) c.requires.within

pub with_changed-requires-clause-kept : goal.with_changed-requires-clause-kept
with_changed-requires-clause-kept c =
    let of : AreParts (workspace_in c.args.earlier) c.into_parts-table.result = c.into_parts-table.ensures.parts in
    let stay : StaysBut c.args.changed.now (workspace_in c.args.earlier) (workspace_of c.args.reads_others c.args.pieces.now) = c.requires.others in
    none_kept (workspace_in c.args.earlier) c.into_parts-table.result.files.items (workspace_of c.args.reads_others c.args.pieces.now) c.args.changed.now of.files stay.paths stay.others

pub bring_up-requires : goal.bring_up-requires
bring_up-requires c =
    let parts = c.into_parts-table.result in
    let of : AreParts (workspace_in c.args.earlier) parts = c.into_parts-table.ensures.parts in
    subst (λ (w : Workspace). WasKnown (record { table = parts.table; resolutions = parts.resolutions }) w c.args.changed.now) (sym (c.as_slice.ensures.value ∙ c.in_ok-files.ensures)) (record {
      old = workspace_in c.args.earlier;
      stays = c.requires.others;
      within = c.requires.within;
      table = of.table;
      links = of.links;
      diagnostics = of.diagnostics;
    })

pub link_waiting-requires-clause-texts : goal.link_waiting-requires-clause-texts
link_waiting-requires-clause-texts c =
    sym (ap (map (λ (f : SourceAt). f.1.text)) (c.as_slice-2.ensures.value ∙ c.in_ok-files.ensures) ∙ map-map (λ (f : SourceAt). f.1.text) (source_of c.args.reads_others) c.args.pieces.now)

pub of_parts-requires : goal.of_parts-requires
of_parts-requires c =
    let w = workspace_of c.args.reads_others c.args.pieces.now in
    let first = c.as_slice.ensures.value ∙ c.in_ok-files.ensures in
    let second = c.as_slice-2.ensures.value ∙ c.in_ok-files.ensures in (
      w,
      record {
        table = c.in_ok-table.ensures.table ∙ ap all_facts first;
        files = c.in_ok-files.ensures;
        links = c.in_ok-resolutions.ensures.links ∙ ap (λ (w : Workspace). made (resolution_of w) w) second;
        diagnostics = c.in_ok-resolutions.ensures.diagnostics ∙ ap (λ (w : Workspace). made (diagnostics_of w) w) second;
      },
    )

pub returns : goal.returns
returns c =
    let w = workspace_of c.args.reads_others c.args.pieces.now in
    let first = c.as_slice.ensures.value ∙ c.in_ok-files.ensures in
    let second = c.as_slice-2.ensures.value ∙ c.in_ok-files.ensures in
    c.of_parts.ensures w (record {
      table = c.in_ok-table.ensures.table ∙ ap all_facts first;
      files = c.in_ok-files.ensures;
      links = c.in_ok-resolutions.ensures.links ∙ ap (λ (w : Workspace). made (resolution_of w) w) second;
      diagnostics = c.in_ok-resolutions.ensures.diagnostics ∙ ap (λ (w : Workspace). made (diagnostics_of w) w) second;
    })
