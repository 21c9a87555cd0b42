use Rattle.std.proofs.Common.{◌≡◌, ◌<◌, ℕ, List, Some, length, ap, arith, subst, sym}
use Rattle.std.specs.Prelude.{IfOk}
use Rattle.std.proofs.lemmas.List.{length-map}
use Rattle.std.proofs.lemmas.Result.{IfOk-weaker}
use Rattle.proto_decls.specs.declared.named_facts.NamedFacts.{NamedFacts}
use Rattle.import_graph.specs.Arrivals.{NobodyImports}
use Rattle.import_graph.specs.Imports.{graph_of}
use Rattle.import_graph.specs.Moves.{place}
use Rattle.import_graph.specs.Paths.{IsInPathOrder}
use Rattle.work_index.specs.Pieces.{workspace_of}
use Rattle.work_index.specs.Workspace.{all_facts, named_facts}
use Rattle.work_index.proofs.Ascending.{in_path_order}
use Rattle.work_update.specs.Stayed.{HasMoved, IsSameFile}
use Rattle.work_changes.proofs.Changed.{kept_as}
use Rattle.work_update.proofs.FilesMoves.{put_in, taken_out}
use Rattle.work_update.proofs.Unimported.{imports_moved}
use Rattle.work_update.proofs.update_table.table_after.Goals as goal

pub update-requires : goal.update-requires
update-requires c =
    let ts = c.args.pieces.now in
    let is = put_in c.args.reads_others c.args.table ts c.args.to.now c.requires.before c.len.result c.in-Came.at c.len.ensures c.index-pieces-at.result c.index-pieces-at.is c.in_ok-file-in-Came.file c.in_ok-file-in-Came.ensures c.in-Came.ensures in
    let come = c.in-Came.ensures in
    (omega (arith, come.within, c.len.ensures), subst (λ (files : List NamedFacts). IsInPathOrder files) (sym is) (in_path_order c.args.reads_others ts c.requires.ascends))

pub returns-in_ok-file-in-Came-clause-table : goal.returns-in_ok-file-in-Came-clause-table
returns-in_ok-file-in-Came-clause-table c =
    let ts = c.args.pieces.now in
    let is = put_in c.args.reads_others c.args.table ts c.args.to.now c.requires.before c.len.result c.in-Came.at c.len.ensures c.index-pieces-at.result c.index-pieces-at.is c.in_ok-file-in-Came.file c.in_ok-file-in-Came.ensures c.in-Came.ensures in
    subst (λ (files : List NamedFacts). IfOk c.update.result (λ after. after.0 ≡ files)) is c.update.ensures.table

pub returns-in_ok-file-in-Came-clause-graph : goal.returns-in_ok-file-in-Came-clause-graph
returns-in_ok-file-in-Came-clause-graph c =
    let ts = c.args.pieces.now in
    let w = workspace_of c.args.reads_others ts in
    let table : List NamedFacts = c.args.table in
    let to = c.args.to.now in
    let was = c.requires.before in
    let file = c.in_ok-file-in-Came.file in
    let is = put_in c.args.reads_others table ts to was c.len.result c.in-Came.at c.len.ensures c.index-pieces-at.result c.index-pieces-at.is file c.in_ok-file-in-Came.ensures c.in-Came.ensures in
    let there : (g n : ℕ) → place to g ≡ Some n → g < length table = λ g n moves.
    let stayed : IsSameFile was.old w g n = was.stayed g n moves in
    omega (arith, stayed.there, ap length was.is, length-map was.old named_facts) in
    IfOk-weaker c.update.result _ _ (λ after kept. kept_as (λ before. before ≡ graph_of table) (NobodyImports table file.path) ((g n : ℕ) → place to g ≡ Some n → HasMoved (graph_of table) (graph_of (all_facts w)) to g n)
    (λ nobody g n moves. imports_moved table (all_facts w) to c.len.result (length ts) c.in-Came.at file c.in-Came.ensures c.len.ensures is nobody c.arrival_law.ensures g n moves (there g n moves)) after.1 kept) c.update.ensures.graph

pub returns-in-Left-clause-table : goal.returns-in-Left-clause-table
returns-in-Left-clause-table c =
    let is = taken_out c.args.reads_others c.args.table c.args.pieces.now c.args.to.now c.requires.before c.len.result c.in-Left.at c.len.ensures c.in-Left.ensures in
    subst (λ (files : List NamedFacts). IfOk c.update-in-Left.result (λ after. after.0 ≡ files)) is c.update-in-Left.ensures.table

pub returns-in-Left-clause-graph : goal.returns-in-Left-clause-graph
returns-in-Left-clause-graph c =
    let table : List NamedFacts = c.args.table in
    let to = c.args.to.now in
    let w = workspace_of c.args.reads_others c.args.pieces.now in
    IfOk-weaker c.update-in-Left.result _ _ (λ after kept. kept_as (λ before. before ≡ graph_of table) ⊥ ((g n : ℕ) → place to g ≡ Some n → HasMoved (graph_of table) (graph_of (all_facts w)) to g n) (λ no. absurd no) after.1 kept) c.update-in-Left.ensures.graph
