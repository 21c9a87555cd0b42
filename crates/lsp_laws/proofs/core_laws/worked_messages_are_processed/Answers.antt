use Rattle.lsp_laws.proofs.WorkedMessages.{worked_all}
use Rattle.lsp_laws.proofs.core_laws.worked_messages_are_processed.Goals as goal

pub returns : goal.returns
returns c = λ config bodies replies verdicts count run. worked_all config c.jobs_and_pieces.ensures.out c.jobs_and_pieces.ensures.complete c.rounds_of_work.ensures.none_out bodies replies verdicts count run
