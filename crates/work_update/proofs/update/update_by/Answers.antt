use Rattle.std.proofs.Common.{◌≡◌, ◌∙◌, List, ℕ, ap, map, refl, string_bytes, subst, sym}
use Rattle.std.specs.Prelude.{All}
use Rattle.work_index.specs.Pieces.{workspace_of}
use Rattle.work_index.specs.Workspace.{AnalysisData, IsKnown, Workspace, workspace_in}
use Rattle.work_update.specs.Updates.{AreNumbersNow, HasStayed, numbers_of}
use Rattle.work_update.proofs.ByPath.{paths}
use Rattle.work_update.proofs.Updates.{all_within, file_paths, numbers_stay, ordered_pieces, others_stay, piece_paths}
use Rattle.work_update.proofs.update.update_by.Goals as goal

pub update_texts-requires-clause-within : goal.update_texts-requires-clause-within
update_texts-requires-clause-within c =
    let a : AnalysisData = c.args.earlier in
    let old : Workspace = workspace_in a in
    let r = c.args.reads_others in
    let ts = c.args.pieces.now in
    let new : Workspace = workspace_of r ts in
    let changes : List (List ℕ) = map string_bytes c.args.changes.now in
    let known : IsKnown a = c.known.ensures in
    let named : a.paths ≡ paths old = ap (λ (b : AnalysisData). b.paths) known.is in
    let are : c.as_slice.result.now ≡ numbers_of (paths old) changes = c.as_slice.ensures.value ∙ c.in_ok-changed.ensures ∙ ap (λ ps. numbers_of ps changes) named in
    let stay : All (HasStayed (paths old) (paths new)) changes =
    subst (λ (now : List (List ℕ)). All (HasStayed (paths old) now) changes) (sym (file_paths r ts)) (subst (λ (ps : List (List ℕ)). All (HasStayed ps (piece_paths ts)) changes) named (c.if-have_stayed.ensures refl)) in
    all_within old new c.requires.ordered (ordered_pieces r ts c.requires.ascends) changes c.requires.changes c.as_slice.result.now are stay

pub update_texts-requires-clause-others : goal.update_texts-requires-clause-others
update_texts-requires-clause-others c =
    let a : AnalysisData = c.args.earlier in
    let old : Workspace = workspace_in a in
    let r = c.args.reads_others in
    let ts = c.args.pieces.now in
    let new : Workspace = workspace_of r ts in
    let changes : List (List ℕ) = map string_bytes c.args.changes.now in
    let known : IsKnown a = c.known.ensures in
    let named : a.paths ≡ paths old = ap (λ (b : AnalysisData). b.paths) known.is in
    let are : c.as_slice.result.now ≡ numbers_of (paths old) changes = c.as_slice.ensures.value ∙ c.in_ok-changed.ensures ∙ ap (λ ps. numbers_of ps changes) named in
    let stay : All (HasStayed (paths old) (paths new)) changes =
    subst (λ (now : List (List ℕ)). All (HasStayed (paths old) now) changes) (sym (file_paths r ts)) (subst (λ (ps : List (List ℕ)). All (HasStayed ps (piece_paths ts)) changes) named (c.if-have_stayed.ensures refl)) in
    others_stay old new c.requires.ordered (ordered_pieces r ts c.requires.ascends) changes c.requires.changes c.as_slice.result.now are stay

pub update_files-requires-clause-stayed : goal.update_files-requires-clause-stayed
update_files-requires-clause-stayed c =
    let a : AnalysisData = c.args.earlier in
    let old : Workspace = workspace_in a in
    let r = c.args.reads_others in
    let ts = c.args.pieces.now in
    let new : Workspace = workspace_of r ts in
    let changes : List (List ℕ) = map string_bytes c.args.changes.now in
    let known : IsKnown a = c.known.ensures in
    let named : a.paths ≡ paths old = ap (λ (b : AnalysisData). b.paths) known.is in
    let are : c.as_slice-2.result.now ≡ numbers_of (paths old) changes = c.as_slice-2.ensures.value ∙ c.in_ok-changed.ensures ∙ ap (λ ps. numbers_of ps changes) named in
    let now : AreNumbersNow (paths old) c.as_slice-2.result.now (paths new) c.in_ok-to.to.items =
    subst (λ (now : List (List ℕ)). AreNumbersNow (paths old) c.as_slice-2.result.now now c.in_ok-to.to.items) (sym (file_paths r ts))
    (subst (λ (ps : List (List ℕ)). AreNumbersNow ps c.as_slice-2.result.now (piece_paths ts) c.in_ok-to.to.items) named c.in_ok-to.ensures) in
    rw c.as_slice-3.ensures.value (numbers_stay old new c.requires.ordered (ordered_pieces r ts c.requires.ascends) changes c.requires.changes c.as_slice-2.result.now are c.in_ok-to.to.items now)
