-- The events that a caller lists.
use Rattle.lsp_core.specs.Run.{Incoming, Message, Work, incoming_of_done}
use Rattle.lsp_runs.specs.declared.run.CoreEvent.{CoreEvent}
use Rattle.lsp_runs.specs.declared.run.CoreEvent.TheVariants as listed

abbrev pub incoming_of : CoreEvent → Incoming
incoming_of (listed.Message body) = Message body.items
incoming_of (listed.Offer sent) = incoming_of_done sent
incoming_of listed.Work = Work
