use Rattle.std.proofs.Common.{◌∙◌, List, Err, ap, sym, subst}
use Rattle.proto_decls.specs.declared.named_facts.NamedFacts.{NamedFacts}
use Rattle.import_graph.specs.Paths.{IsInPathOrder}
use Rattle.work_index.specs.Pieces.{workspace_of}
use Rattle.work_shares.specs.Shares.{pieces_in}
use Rattle.work_shares.specs.Stretches.{PartData, Cover}
use Rattle.work_index.specs.Workspace.{all_facts}
use Rattle.work_index.proofs.Ascending.{in_path_order}
use Rattle.work_shares.proofs.Refused.{refused_by_table, some_share}
use Rattle.work_shares.proofs.Taken.{taken, shares_cover}
use Rattle.work_shares.proofs.in_shares.table_in_shares.Goals as goal

pub of_entries-requires : goal.of_entries-requires
of_entries-requires g c =
    let ss = c.args.shares.items in
    let r = c.requires.read.0 in
    let files = all_facts (workspace_of r (pieces_in ss)) in
    let both = taken ss c.in_ok-answers.answers.items c.in_ok-shares.field-0 c.in_ok-answers.ensures.answers c.in_ok-shares.ensures in
    let cover : Cover files c.in_ok-shares.field-0.parts.items = subst (λ (ps : List PartData). Cover files ps) (sym both.1) (shares_cover r ss c.requires.read.1 c.requires.places) in
    subst (λ (fs : List NamedFacts). IsInPathOrder fs) (sym (c.in_ok-entries.ensures files cover)) (in_path_order r (pieces_in ss) c.requires.ordered)

pub returns-clause-shares : goal.returns-clause-shares
returns-clause-shares g c = (taken c.args.shares.items c.in_ok-answers.answers.items c.in_ok-shares.field-0 c.in_ok-answers.ensures.answers c.in_ok-shares.ensures).0

pub returns-clause-table : goal.returns-clause-table
returns-clause-table g c = λ r read.
    let ss = c.args.shares.items in
    let files = all_facts (workspace_of r (pieces_in ss)) in
    let both = taken ss c.in_ok-answers.answers.items c.in_ok-shares.field-0 c.in_ok-answers.ensures.answers c.in_ok-shares.ensures in
    let cover : Cover files c.in_ok-shares.field-0.parts.items = subst (λ (ps : List PartData). Cover files ps) (sym both.1) (shares_cover r ss read c.requires.places) in
    c.in_ok-table.ensures.table ∙ c.in_ok-entries.ensures files cover

pub returns-in_err-table-clause-threads : goal.returns-in_err-table-clause-threads
returns-in_err-table-clause-threads g c = λ out.
    let ss = c.args.shares.items in
    let r = c.requires.read.0 in
    let files = all_facts (workspace_of r (pieces_in ss)) in
    let both = taken ss c.in_ok-answers.answers.items c.in_ok-shares.field-0 c.in_ok-answers.ensures.answers c.in_ok-shares.ensures in
    let cover : Cover files c.in_ok-shares.field-0.parts.items = subst (λ (ps : List PartData). Cover files ps) (sym both.1) (shares_cover r ss c.requires.read.1 c.requires.places) in
    let fault = c.in_err-table.field-0.0 in
    let is = refused_by_table fault c.from_residual-in_err-table.result c.from_residual-in_err-table.ensures.1 out in
    some_share r ss _ (c.in_ok-entries.ensures files cover) (c.in_err-table.ensures.threads (ap Err is))
