use Rattle.std.proofs.Common.{◌≡◌, [], ◌∷◌, IfOk, map, sym, ap, subst, ◌∙◌}
use Rattle.serde_json.specs.Written.{compact_text}
use Rattle.lsp_rpc.specs.Message.{id_view}
use Rattle.lsp_answers.specs.Questions.{QuestionData, Diagnostics, answer}
use Rattle.lsp_answers.specs.Views.{question_view}
use Rattle.lsp_answers.proofs.answers.Answers.reply.Goals as goal

pub returns-in-Diagnostics : goal.returns-in-Diagnostics
returns-in-Diagnostics c =
    let P : QuestionData → Type 0 = λ q. IfOk c.diagnostics_reply.result (λ body. body.items ∷ [] ≡ map compact_text (answer c.args.self.now (id_view c.args.id.now) q)) in
    subst P (ap Diagnostics c.as_str.ensures.value ∙ ap question_view (sym c.in-Diagnostics.is)) c.diagnostics_reply.ensures
