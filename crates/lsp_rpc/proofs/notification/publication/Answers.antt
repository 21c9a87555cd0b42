use Rattle.std.proofs.Common.{◌∙◌}
use Rattle.lsp_rpc.specs.Notification.{publication_value}
use Rattle.lsp_rpc.specs.Workspace.{document_view}
use Rattle.lsp_rpc.proofs.ReplyLemmas.{whole}
use Rattle.lsp_rpc.proofs.WritingLemmas.{one, ◌▹◌}
use Rattle.lsp_rpc.proofs.notification.publication.Goals as goal

pub returns : goal.returns
returns c =
    c.into_inner.ensures.items
    ∙ whole (publication_value (document_view c.args.report.now))
    (c.new_text-out.ensures ▹ one c.in_ok-begin_object.ensures ▹ one c.in_ok-key.ensures ▹ one c.in_ok-string.ensures ▹ one c.in_ok-key-2.ensures ▹ one c.in_ok-string-2.ensures ▹ one c.in_ok-key-3.ensures ▹ c.in_ok-write_published.ensures ▹ one c.in_ok-end_object.ensures)
