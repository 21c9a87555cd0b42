use Rattle.std.proofs.Common.{◌∙◌, ap, sym}
use Rattle.work_files.specs.Files.{file_at, set_file}
use Rattle.work_files.specs.Steps.{leaves, with_none_open}
use Rattle.work_files.specs.View.{files_view}
use Rattle.work_files.proofs.FilesLemmas.{found_at, missing_at, written_at}
use Rattle.work_files.proofs.files.Files.close_at.Goals as goal
use Rattle.work_files.proofs.files.Files.close_at.Goals.{in-Some, in-None}

pub returns-clause-leaves : goal.returns-clause-leaves
returns-clause-leaves c =
    let path = c.args.path.now in
    let es = c.self.inside.by_path.entries in
    let there = ap (λ files. leaves (file_at path files)) c.self.view_is in
    elim c.match-get_mut.branch [
      | in-Some w ↦ w.result-is ∙ w.close.ensures.leaves ∙ ap leaves (sym (found_at path es c.get_mut.result w.in-Some.file w.in-Some.is c.get_mut.ensures.value)) ∙ there
      | in-None w ↦ w.result-is ∙ ap leaves (sym (missing_at path es c.get_mut.result w.in-None.is c.get_mut.ensures.value)) ∙ there
    ]

pub returns-clause-files : goal.returns-clause-files
returns-clause-files c =
    let path = c.args.path.now in
    let es = c.self.inside.by_path.entries in
    let closed = ap (λ files. with_none_open path files (file_at path files)) c.self.view_is in
    elim c.match-get_mut.branch [
      | in-Some w ↦
          let new = w.close.new.self in
          let found = found_at path es c.get_mut.result w.in-Some.file w.in-Some.is c.get_mut.ensures.value in
          let written = written_at path es (c.get_mut.follows.lender new).entries new (c.get_mut.follows.holds new).0 in
          ap (λ i. files_view i.by_path.entries) w.self-inside-is ∙ written ∙ ap (λ f. set_file path f (files_view es)) w.close.ensures.closed
          ∙ ap (with_none_open path (files_view es)) (sym found) ∙ closed
      | in-None w ↦
          ap (λ i. files_view i.by_path.entries) w.self-inside-is ∙ ap (λ m. files_view m.entries) c.get_mut.follows.holds-at-none
          ∙ ap (with_none_open path (files_view es)) (sym (missing_at path es c.get_mut.result w.in-None.is c.get_mut.ensures.value)) ∙ closed
    ]
