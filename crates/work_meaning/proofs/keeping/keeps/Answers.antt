use Rattle.std.proofs.Common.{◌≡◌, ◌↔◌, ◌∙◌, List, ap, subst, sym}
use Rattle.std.specs.Prelude.{IsTrue}
use Rattle.proto_decls.specs.Facts.{facts_of}
use Rattle.proto_decls.specs.declared.named_facts.NamedFacts.{NamedFacts}
use Rattle.proto_names.specs.Outlines.{with_facts}
use Rattle.proto_resolve.specs.Resolved.{resolved}
use Rattle.proto_tree.specs.Read.{value_tree}
use Rattle.work_index.specs.Workspace.{merged, source_facts}
use Rattle.work_meaning.specs.Bindings.{Means}
use Rattle.work_meaning.proofs.Quiet.{put-same}
use Rattle.work_meaning.proofs.keeping.keeps.Goals as goal

pub keeps_meaning-requires-clause-linked : goal.keeps_meaning-requires-clause-linked
keeps_meaning-requires-clause-linked c = c.requires.linked

pub returns-in-Some-clause-keeps : goal.returns-in-Some-clause-keeps
returns-in-Some-clause-keeps c = rw (c.in-Some.is) c.keeps_with.ensures.keeps

pub returns-in_ok-keeps-in-None-clause-keeps : goal.returns-in_ok-keeps-in-None-clause-keeps
returns-in_ok-keeps-in-None-clause-keeps c =
    let files : List NamedFacts = c.args.table.now in
    let file = c.args.file in
    let source = c.args.source.now.1 in
    let text = source.text in
    let same : files ≡ with_facts files file (source_facts source) = sym (ap (with_facts files file) c.requires.source ∙ put-same files file c.requires.file) in
    rw (c.in-None.is) (subst (λ (fs : List NamedFacts). IsTrue c.in_ok-keeps-in-None.keeps ↔ Means c.args.earlier.now file (resolved fs file text (value_tree text)) (merged (facts_of text) (resolved fs file text (value_tree text)))) same c.in_ok-keeps-in-None.ensures)

pub returns-in-Some-clause-other : goal.returns-in-Some-clause-other
returns-in-Some-clause-other c = rw (c.in-Some.is) c.keeps_with.ensures.other

pub returns-in-Some-clause-quiet : goal.returns-in-Some-clause-quiet
returns-in-Some-clause-quiet c = rw (c.in-Some.is) c.keeps_with.ensures.quiet
