use Rattle.std.proofs.Common.{rules, tests, ◌∙◌}
use Rattle.std.proofs.lemmas.Iterator.{YieldsList-from_slice}
use Rattle.std.proofs.lemmas.Iterator.Consumers.{YieldsList-from_filter, count_from_yields_List}
use Rattle.lsp_core.specs.Run.{is_message}
use Rattle.lsp_runs.specs.Listed.{incoming_of}
use Rattle.lsp_runs.proofs.RunLemmas.{messages-listed}
use Rattle.lsp_runs.proofs.run.count_messages.Goals as goal

pub returns : goal.returns
returns c =
    count_from_yields_List c.filter.result c.count.result c.count.ensures.ran
    (YieldsList-from_filter _ (λ e. is_message (incoming_of e)) (YieldsList-from_slice c.args.events.now cc) c.filter.ensures.closure (λ x r q k. search (rules, tests)))
    ∙ messages-listed c.args.events.now
