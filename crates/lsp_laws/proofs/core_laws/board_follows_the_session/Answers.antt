use Rattle.lsp_laws.proofs.BoardTexts.{follows}
use Rattle.lsp_laws.proofs.core_laws.board_follows_the_session.Goals as goal

pub returns : goal.returns
returns c = λ opening config h legal path. follows opening config c.texts_after_events.ensures.texts c.texts_of_events.ensures c.documents_change_one_text.ensures h legal path
