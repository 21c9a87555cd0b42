use Rattle.std.proofs.Common.{◌<◌, ◌∙◌, ℕ, List, get_or, length, set, sym, ap, subst, arith}
use Rattle.std.proofs.lemmas.List.{drop_all}
use Rattle.work_index.proofs.Numbered.{piece_at, pieces_length}
use Rattle.work_index.specs.Pieces.{workspace_of}
use Rattle.work_index.specs.Workspace.{Workspace}
use Rattle.work_changes.specs.Changes.{AreKeptBut}
use Rattle.work_changes.proofs.KeptFiles.{all_kept, next_kept}
use Rattle.work_changes.proofs.relinking.with_changed.Goals as goal

pub loop-file-preserved : goal.loop-file-preserved
loop-file-preserved c =
    let k = c.loop-file.file-index in
    let changed : List ℕ = c.args.changed.now in
    let r = c.args.reads_others in
    let ts = c.args.pieces.now in
    let n = get_or changed k 0 in
    let there : n < length ts = c.requires.within k 0 c.loop-file-test.true in
    let kept : Workspace = c.loop-file.files.items in
    next_kept changed k kept (set kept n c.in_ok-files.field-0) (workspace_of r ts) c.loop-file-test.true (omega (arith, there, pieces_length r ts))
    (ap (set kept n) (c.in_ok-files.ensures ∙ sym (piece_at r ts n c.index-pieces-file.result there c.index-pieces-file.is))) c.loop-file.invariant

pub returns : goal.returns
returns c =
    all_kept c.loop-file.files.items (workspace_of c.args.reads_others c.args.pieces.now)
    (subst (λ (rest : List ℕ). AreKeptBut rest c.loop-file.files.items (workspace_of c.args.reads_others c.args.pieces.now)) (drop_all c.loop-file.file-index c.args.changed.now c.loop-file-test.false) c.loop-file.invariant)
