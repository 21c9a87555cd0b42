use Rattle.std.proofs.Common.{◌≡◌, ◌++◌, drop, map}
use Rattle.lsp_answers.specs.Answers as spec
use Rattle.lsp_answers.specs.Views.{found_view}
use Rattle.lsp_answers.proofs.declarations.declarations.Given as goal

-- what is found and what is left are all
abbrev pub invariant-loop-decl : goal.invariant-loop-decl
invariant-loop-decl l = map found_view l.found.items ++ spec.declarations l.analysis (drop l.decl-index l.decls) ≡ spec.declarations l.analysis l.decls
