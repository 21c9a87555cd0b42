use Rattle.std.proofs.Common.{◌≡◌, ◌∙◌, ap, string_bytes, Option, Some, None}
use Rattle.std.specs.Prelude.{IsSome}
use Rattle.work_files.specs.Files.{File, set_file, opened_files}
use Rattle.work_files.specs.View.{document_view, file_view, files_view}
use Rattle.work_files.proofs.FilesLemmas.{found_at, missing_at, written_at, opened_again}
use Rattle.work_files.proofs.files.Files.open.Goals as goal
use Rattle.work_files.proofs.files.Files.open.Goals.{in-Some, in-None}

nothing-there : (o : Option File) → o ≡ None → IsSome o → ⊥
nothing-there None none there = cc
nothing-there (Some f) none there = cc

pub returns : goal.returns
returns c =
    let path = c.args.path.now in
    let es = c.self.inside.by_path.entries in
    elim c.match-get_mut.branch [
      | in-Some w ↦
          let new = w.open.new.self in
          let found = found_at path es c.get_mut.result w.in-Some.file w.in-Some.is c.get_mut.ensures.value in
          let written = written_at path es (c.get_mut.follows.lender new).entries new (c.get_mut.follows.holds new).0 in
          ap (λ i. files_view i.by_path.entries) w.self-inside-is ∙ written ∙ ap (λ f. set_file path f (files_view es)) w.open.ensures
          ∙ opened_again path (files_view es) (file_view w.in-Some.file.now) (string_bytes c.args.uri) (document_view c.args.document) found
          ∙ ap (opened_files (string_bytes c.args.uri) (document_view c.args.document) path) c.self.view_is
      | in-None w ↦ absurd (nothing-there _ (missing_at path es c.get_mut.result w.in-None.is c.get_mut.ensures.value) (rw c.self.view_is c.requires))
    ]
