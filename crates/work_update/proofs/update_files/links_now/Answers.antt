use Rattle.std.proofs.Common.{◌≡◌, ◌<◌, ℕ, Bool, List, length, Result, Ok, Err, get_or, arith, ap, sym, subst, refl, ◌∙◌}
use Rattle.std.specs.Prelude.{IfOk, OnOk}
use Rattle.std.proofs.lemmas.List.{length-map}
use Rattle.import_graph.specs.Imports.{graph_of}
use Rattle.piece_collector.specs.Views.{TextAt}
use Rattle.proto_decls.specs.declared.named_facts.NamedFacts.{NamedFacts}
use Rattle.work_links.specs.Laws.{decl_moved}
use Rattle.work_links.specs.Touched.{links_after}
use Rattle.proto_resolve.specs.declared.resolve.Links.{Links}
use Rattle.work_index.proofs.Numbered.{piece_at, pieces_length}
use Rattle.work_index.specs.Pieces.{source_of, workspace_of}
use Rattle.work_index.specs.Workspace.{all_facts, named_facts, no_file, resolution_of}
use Rattle.work_changes.specs.Changes.{no_links}
use Rattle.work_update.specs.Stayed.{HasMoved}
use Rattle.work_update.proofs.Stayed.{graph_length, links_moved, number_within, one_further, one_taken}
use Rattle.work_update.proofs.update_files.links_now.Goals as goal

same-links : {E : Type 0} (r : Result Links E) (a b : Links) → a ≡ b → IfOk r (λ l. l ≡ a) → IfOk r (λ l. l ≡ b)
same-links (Ok l) a b same is = is ∙ same
same-links (Err e) a b same is = tt

OnOk-then : {A E P Q : Type 0} (r : Result A E) → (P → Q) → OnOk r P → OnOk r Q
OnOk-then (Ok x) so holds = so holds
OnOk-then (Err e) so holds = tt

OnOk-always : {A E P : Type 0} (r : Result A E) → P → OnOk r P
OnOk-always (Ok x) holds = holds
OnOk-always (Err e) holds = tt

-- a file of the pieces is one of the table
file_within : (r : Bool) (ts : List TextAt) (table : List NamedFacts) (file : ℕ) → table ≡ all_facts (workspace_of r ts) → file < length ts → file < length table
file_within r ts table file all there = omega (arith, there, ap length all, length-map (workspace_of r ts) named_facts, pieces_length r ts)

pub number_if_moved-requires-clause-file : goal.number_if_moved-requires-clause-file
number_if_moved-requires-clause-file c =
    let known = c.requires.earlier.1 in
    file_within c.requires.earlier.0 c.args.pieces.now c.args.table.now c.args.file known.all c.requires.file

pub number_if_moved-requires-clause-within : goal.number_if_moved-requires-clause-within
number_if_moved-requires-clause-within c =
    let known = c.requires.earlier.1 in
    let was = known.known in
    number_within was.old (workspace_of c.requires.earlier.0 c.args.pieces.now) c.args.to.now was.stayed c.args.before c.args.file c.args.earlier.now.graph was.graph c.requires.before

pub take_links-requires : goal.take_links-requires
take_links-requires c =
    let r = c.requires.earlier.0 in
    let known = c.requires.earlier.1 in
    let was = known.known in
    let w = workspace_of r c.args.pieces.now in
    let moved : HasMoved (graph_of (all_facts was.old)) (graph_of (all_facts w)) c.args.to.now c.in-Some.old c.args.file = rw c.in-Some.is at (c.in_ok-old.ensures (all_facts was.old) (all_facts w) known.all was.graph) in
    omega (arith, moved.within, graph_length was.old, was.count)

pub resolution_of-requires : goal.resolution_of-requires
resolution_of-requires c =
    let known = c.requires.earlier.1 in
    file_within c.requires.earlier.0 c.args.pieces.now c.args.table.now c.args.file known.all c.requires.file

pub returns-in-Some-clause-links : goal.returns-in-Some-clause-links
returns-in-Some-clause-links c = λ r known.
    let was = known.known in
    let w = workspace_of r c.args.pieces.now in
    let g = c.in-Some.old in
    let n = c.args.file in
    let moved : HasMoved (graph_of (all_facts was.old)) (graph_of (all_facts w)) c.args.to.now g n = rw c.in-Some.is at (c.in_ok-old.ensures (all_facts was.old) (all_facts w) known.all was.graph) in
    let move = links_after (decl_moved c.args.to.now) in
    let old : Links = get_or c.args.earlier.now.links.items g no_links in
    let same : move old ≡ resolution_of w (n, get_or w n no_file) =
    ap move (was.links g n moved.moves (omega arith)) ∙ links_moved was.old w c.args.to.now was.stayed c.requires.moved_law g n moved in
    same-links c.take_links.result (move old) (resolution_of w (n, get_or w n no_file)) same c.take_links.ensures.taken

pub returns-in-Some-clause-earlier : goal.returns-in-Some-clause-earlier
returns-in-Some-clause-earlier c = λ r known.
    let g = c.in-Some.old in
    let was = known.known in
    let w = workspace_of r c.args.pieces.now in
    let moved : HasMoved (graph_of (all_facts was.old)) (graph_of (all_facts w)) c.args.to.now g c.args.file = rw c.in-Some.is at (c.in_ok-old.ensures (all_facts was.old) (all_facts w) known.all was.graph) in
    OnOk-then c.take_links.result (λ left. record {
      all = known.all;
      known = one_taken c.args.file c.args.to.now w c.args.earlier.now was g moved.moves c.take_links.new.links.items left (record { graph = c.args.earlier.now.graph; links = c.take_links.new.links }) refl refl;
    }) c.take_links.ensures.left

pub returns-in-None-clause-links : goal.returns-in-None-clause-links
returns-in-None-clause-links c = λ r known.
    let ts = c.args.pieces.now in
    let w = workspace_of r ts in
    let piece = c.index-pieces-file.result in
    let at : get_or w c.args.file no_file ≡ source_of r piece = piece_at r ts c.args.file piece c.requires.file c.index-pieces-file.is in
    subst (λ file. IfOk c.resolution_of.result (λ links. links ≡ resolution_of w (c.args.file, file))) (sym at) (c.resolution_of.ensures w r known.all)

pub returns-in-None-clause-earlier : goal.returns-in-None-clause-earlier
returns-in-None-clause-earlier c = λ r known.
    OnOk-always c.resolution_of.result (record { all = known.all; known = one_further c.args.file c.args.to.now (workspace_of r c.args.pieces.now) c.args.earlier.now known.known })
