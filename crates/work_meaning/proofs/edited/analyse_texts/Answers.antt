use Rattle.std.proofs.Common.{◌≡◌, ◌∙◌, ◌++◌, List, ℕ, map, ap, subst, sym}
use Rattle.std.specs.Prelude.{IfOk, string_bytes}
use Rattle.std.specs.Cmp.Lexicographic.{slice_cmp}
use Rattle.std.specs.List.Sorted.{IsStrictlySortedBy}
use Rattle.std.specs.Ordering.{nat_cmp}
use Rattle.std.proofs.lemmas.List.{append-nil, drop_all}
use Rattle.std.proofs.lemmas.Simd.{map-map}
use Rattle.piece_collector.specs.Views.{TextAt}
use Rattle.work_index.specs.Pieces.{source_of, workspace_of}
use Rattle.work_index.specs.Workspace.{SourceAt, Workspace, analysis}
use Rattle.work_meaning.specs.declared.edited.NamedText.{NamedText}
use Rattle.work_meaning.specs.Edited.{named_text}
use Rattle.work_meaning.proofs.edited.analyse_texts.Goals as goal

pub analyse_here-requires : goal.analyse_here-requires
analyse_here-requires c =
    let r = c.args.reads_others in
    let files : List NamedText = c.args.files.now in
    let all : workspace_of r c.as_slice.result.now ≡ map (named_text r) files =
    ap (workspace_of r) c.as_slice.ensures.value ∙ sym (append-nil (workspace_of r c.loop-file.pieces.items)) ∙ ap (λ (rest : List NamedText). workspace_of r c.loop-file.pieces.items ++ map (named_text r) rest) (sym (drop_all c.loop-file.file-index files c.loop-file-test.false))
    ∙ c.loop-file.invariant in
    let paths : map (λ (t : TextAt). t.path) c.as_slice.result.now ≡ map (λ (f : NamedText). string_bytes f.path) files =
    sym (map-map (λ (f : SourceAt). f.0) (source_of r) c.as_slice.result.now) ∙ ap (map (λ (f : SourceAt). f.0)) all ∙ map-map (λ (f : SourceAt). f.0) (named_text r) files in
    subst (λ (ps : List (List ℕ)). IsStrictlySortedBy (slice_cmp nat_cmp) ps) (sym paths) c.requires

pub returns : goal.returns
returns c =
    let r = c.args.reads_others in
    let files : List NamedText = c.args.files.now in
    let all : workspace_of r c.as_slice.result.now ≡ map (named_text r) files =
    ap (workspace_of r) c.as_slice.ensures.value ∙ sym (append-nil (workspace_of r c.loop-file.pieces.items)) ∙ ap (λ (rest : List NamedText). workspace_of r c.loop-file.pieces.items ++ map (named_text r) rest) (sym (drop_all c.loop-file.file-index files c.loop-file-test.false))
    ∙ c.loop-file.invariant in
    subst (λ (w : Workspace). IfOk c.analyse_here.result (λ found. found ≡ analysis w)) all c.analyse_here.ensures
