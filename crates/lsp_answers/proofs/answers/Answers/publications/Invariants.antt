use Rattle.std.proofs.Common.{◌≡◌, ◌++◌, map}
use Rattle.serde_json.specs.Written.{compact_text}
use Rattle.work_files.specs.View.{files_view}
use Rattle.lsp_answers.specs.Reports.{publications_in, publications}
use Rattle.lsp_answers.proofs.answers.Answers.publications.Given as goal

-- with those of the files that are left they are all
abbrev pub invariant-loop-path : goal.invariant-loop-path
invariant-loop-path l = map (λ body. body.items) l.bodies.items ++ map compact_text (publications_in l.self (files_view l.path-iterator)) ≡ map compact_text (publications l.self)
