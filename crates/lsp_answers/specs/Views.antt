-- Questions, and what is kept of declarations, as the definitions see them.
use Rattle.std.specs.Prelude.{string_bytes}
use Rattle.proto_decls.specs.declared.fact.Decl.{Decl}
use Rattle.lsp_queries.specs.declared.place.Place.{Place}
use Rattle.lsp_answers.specs.Answers.{DocumentPlaceData}
use Rattle.lsp_answers.specs.Questions.{QuestionData, Diagnostics, AllDiagnostics, Symbols, Definition, References, Rename}
use Rattle.lsp_answers.specs.declared.declarations.FoundDecl.{FoundDecl}
use Rattle.lsp_answers.specs.declared.question.DocumentPlace.{DocumentPlace}
use Rattle.lsp_answers.specs.declared.question.Question.{Question}
use Rattle.lsp_answers.specs.declared.question.Question.TheVariants as question

abbrev pub place_view : DocumentPlace → DocumentPlaceData
place_view p = record { path = string_bytes p.path; offset = p.offset }

abbrev pub question_view : Question → QuestionData
question_view (question.Diagnostics path) = Diagnostics (string_bytes path)
question_view question.AllDiagnostics = AllDiagnostics
question_view (question.Symbols query) = Symbols (string_bytes query)
question_view (question.Definition at) = Definition (place_view at)
question_view (question.References at include_declaration) = References (place_view at) include_declaration
question_view (question.Rename at new_name) = Rename (place_view at) (string_bytes new_name)

abbrev pub found_view : FoundDecl → Place × Decl
found_view f = (f.place, f.decl.now)
