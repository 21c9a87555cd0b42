use Rattle.std.proofs.Common.{◌∙◌, ap}
use Rattle.work_files.specs.Files.{set_file}
use Rattle.work_files.specs.Steps.{with_kept_at}
use Rattle.work_files.specs.View.{file_view, files_view}
use Rattle.work_files.proofs.FilesLemmas.{found_at, missing_at, written_at, kept_in_place, nothing_kept}
use Rattle.work_files.proofs.files.Files.keep.Goals as goal
use Rattle.work_files.proofs.files.Files.keep.Goals.{in-Some, in-None+in-One-1, in-None+in-Several-1}

pub returns : goal.returns
returns c =
    let path = c.args.path.now in
    let es = c.self.inside.by_path.entries in
    let kept = ap (with_kept_at path c.args.text) c.self.view_is in
    let as_before = ap (λ m. files_view m.entries) c.get_mut.follows.holds-at-none in
    elim c.match-get_mut.branch [
      | in-Some w ↦
          let new = w.keep.new.self in
          let found = found_at path es c.get_mut.result w.in-Some.file w.in-Some.is c.get_mut.ensures.value in
          let written = written_at path es (c.get_mut.follows.lender new).entries new (c.get_mut.follows.holds new).0 in
          ap (λ i. files_view i.by_path.entries) w.self-inside-is ∙ written ∙ ap (λ f. set_file path f (files_view es)) w.keep.ensures
          ∙ kept_in_place path (files_view es) (file_view w.in-Some.file.now) found c.args.text ∙ kept
      | in-None+in-One-1 w ↦
          ap (λ i. files_view i.by_path.entries) w.self-inside-is ∙ as_before ∙ nothing_kept path (files_view es) (missing_at path es c.get_mut.result w.in-None.is c.get_mut.ensures.value) c.args.text ∙ kept
      | in-None+in-Several-1 w ↦
          ap (λ i. files_view i.by_path.entries) w.self-inside-is ∙ as_before ∙ nothing_kept path (files_view es) (missing_at path es c.get_mut.result w.in-None.is c.get_mut.ensures.value) c.args.text ∙ kept
    ]
