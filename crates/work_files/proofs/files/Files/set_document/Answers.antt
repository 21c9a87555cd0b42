use Rattle.std.proofs.Common.{◌∙◌, ap}
use Rattle.work_files.specs.Files.{set_file}
use Rattle.work_files.specs.Steps.{with_document_at}
use Rattle.work_files.specs.View.{document_view, file_view, files_view}
use Rattle.work_files.proofs.FilesLemmas.{found_at, missing_at, written_at, document_in_place, no_document}
use Rattle.work_files.proofs.files.Files.set_document.Goals as goal
use Rattle.work_files.proofs.files.Files.set_document.Goals.{in-Some, in-None+in-One-1, in-None+in-Several-1}

pub returns : goal.returns
returns c =
    let path = c.args.path.now in
    let es = c.self.inside.by_path.entries in
    let put = ap (with_document_at path (document_view c.args.document)) c.self.view_is in
    let as_before = ap (λ m. files_view m.entries) c.get_mut.follows.holds-at-none in
    elim c.match-get_mut.branch [
      | in-Some w ↦
          let new = w.set_document.new.self in
          let found = found_at path es c.get_mut.result w.in-Some.file w.in-Some.is c.get_mut.ensures.value in
          let written = written_at path es (c.get_mut.follows.lender new).entries new (c.get_mut.follows.holds new).0 in
          ap (λ i. files_view i.by_path.entries) w.self-inside-is ∙ written ∙ ap (λ f. set_file path f (files_view es)) w.set_document.ensures
          ∙ document_in_place path (files_view es) (file_view w.in-Some.file.now) found (document_view c.args.document) ∙ put
      | in-None+in-One-1 w ↦
          ap (λ i. files_view i.by_path.entries) w.self-inside-is ∙ as_before ∙ no_document path (files_view es) (missing_at path es c.get_mut.result w.in-None.is c.get_mut.ensures.value) (document_view c.args.document) ∙ put
      | in-None+in-Several-1 w ↦
          ap (λ i. files_view i.by_path.entries) w.self-inside-is ∙ as_before ∙ no_document path (files_view es) (missing_at path es c.get_mut.result w.in-None.is c.get_mut.ensures.value) (document_view c.args.document) ∙ put
    ]
