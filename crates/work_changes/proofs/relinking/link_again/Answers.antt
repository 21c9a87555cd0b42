use Rattle.std.proofs.Common.{◌≡◌, ◌∙◌, List, set, ap}
use Rattle.proto_decls.specs.Facts.{facts_of}
use Rattle.proto_decls.specs.declared.diagnostic.Diag.{Diag}
use Rattle.proto_decls.specs.declared.named_facts.NamedFacts.{NamedFacts}
use Rattle.proto_resolve.specs.Resolved.{resolved}
use Rattle.proto_resolve.specs.declared.resolve.Links.{Links}
use Rattle.proto_tree.specs.Read.{value_tree}
use Rattle.work_index.specs.Workspace.{merged}
use Rattle.work_changes.proofs.relinking.link_again.Goals as goal

pub returns-clause-links : goal.returns-clause-links
returns-clause-links c = λ w is.
    let file = c.args.file in
    let text = c.args.source.now.1.text in
    let links : List Links = c.args.resolutions.now.links.items in
    let found : c.in_ok-links-2.links ≡ resolved c.args.table.now file text (value_tree text) = cc (c.in_ok-links-2.ensures, c.in_ok-links.links-is, c.in_ok-links.ensures.links) in
    ap (λ (l : Links). set links file l) (found ∙ ap (λ (fs : List NamedFacts). resolved fs file text (value_tree text)) is)

pub returns-clause-diagnostics : goal.returns-clause-diagnostics
returns-clause-diagnostics c = λ w is.
    let file = c.args.file in
    let text = c.args.source.now.1.text in
    let diagnostics : List (List Diag) = c.args.resolutions.now.diagnostics.items in
    ap (λ (ds : List Diag). set diagnostics file ds) (c.in_ok-links.ensures.diagnostics ∙ ap (λ (fs : List NamedFacts). merged (facts_of text) (resolved fs file text (value_tree text))) is)
