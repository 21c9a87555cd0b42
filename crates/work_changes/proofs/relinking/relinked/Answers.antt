use Rattle.std.proofs.Common.{◌≡◌, ◌∙◌, ap}
use Rattle.proto_decls.specs.Facts.{facts_of}
use Rattle.proto_resolve.specs.Resolved.{resolved}
use Rattle.proto_tree.specs.Read.{value_tree}
use Rattle.work_index.specs.Workspace.{merged}
use Rattle.work_changes.proofs.relinking.relinked.Goals as goal

pub returns-clause-links : goal.returns-clause-links
returns-clause-links c = cc (c.in_ok-links.ensures, c.text.ensures, c.requires.tree)

pub returns-clause-diagnostics : goal.returns-clause-diagnostics
returns-clause-diagnostics c =
    let text = c.args.source.now.1.text in
    let found : c.in_ok-links.links ≡ resolved c.args.table.now c.args.file text (value_tree text) = cc (c.in_ok-links.ensures, c.text.ensures, c.requires.tree) in
    c.in_ok-diagnostics.ensures c.args.source.now.1 (c.get.ensures ∙ c.facts.ensures) ∙ ap (merged (facts_of text)) found
