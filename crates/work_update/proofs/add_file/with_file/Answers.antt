use Rattle.std.proofs.Common.{◌≡◌, ◌∙◌, ℕ, false, List, map, length, arith, sym, ap, ap₂, subst}
use Rattle.std.specs.List.{insert}
use Rattle.std.proofs.lemmas.List.{length-map}
use Rattle.proto_decls.specs.Facts.{facts_of}
use Rattle.import_graph.specs.Paths.{IsInPathOrder}
use Rattle.proto_decls.specs.declared.named_facts.NamedFacts.{NamedFacts}
use Rattle.work_links.specs.Laws.{decl_moved}
use Rattle.work_links.specs.Touched.{links_after}
use Rattle.proto_resolve.specs.declared.resolve.Links.{Links}
use Rattle.work_index.specs.Pieces.{source_of}
use Rattle.work_index.specs.Workspace.{Workspace, all_facts, merged, named_facts, resolution_of}
use Rattle.work_update.specs.Arrivals.{TakesIn, numbers_with}
use Rattle.work_update.proofs.add_file.with_file.Goals as goal

pub update-requires : goal.update-requires
update-requires c =
    let parts = c.args.parts in
    let k = c.args.at in
    let with : TakesIn c.requires.0 (numbers_with k (length parts.files.items)) k (source_of c.args.reads_others c.args.piece.now) parts = c.requires.1 in
    let ordered : IsInPathOrder (insert parts.table k c.in_ok-named_facts.field-0) = subst (λ (f : NamedFacts). IsInPathOrder (insert parts.table k f)) (sym c.in_ok-named_facts.ensures) with.ordered in
    (omega (arith, with.table_place, ap length c.table.view_is), subst (λ (table : List NamedFacts). IsInPathOrder (insert table k c.in_ok-named_facts.field-0)) (sym c.table.view_is) ordered)

pub insert-requires : goal.insert-requires
insert-requires c =
    let parts = c.args.parts in
    let k = c.args.at in
    let with : TakesIn c.requires.0 (numbers_with k (length parts.files.items)) k (source_of c.args.reads_others c.args.piece.now) parts = c.requires.1 in
    omega (arith, with.files_place, parts.files.ok)

pub resolution_of-requires : goal.resolution_of-requires
resolution_of-requires c =
    let parts = c.args.parts in
    let k = c.args.at in
    let w : Workspace = c.requires.0 in
    let with : TakesIn w (numbers_with k (length parts.files.items)) k (source_of c.args.reads_others c.args.piece.now) parts = c.requires.1 in
    let put : c.in_ok-table.table ≡ insert c.table.inside.names k c.in_ok-named_facts.field-0 = c.in_ok-table.ensures.table in
    let all : c.in_ok-table.table ≡ all_facts w = put ∙ ap₂ (λ (table : List NamedFacts) (f : NamedFacts). insert table k f) c.table.view_is c.in_ok-named_facts.ensures ∙ with.table_is in
    omega (arith, with.here, ap length all, length-map w named_facts)

pub insert-requires-2 : goal.insert-requires-2
insert-requires-2 c =
    let parts = c.args.parts in
    let k = c.args.at in
    let with : TakesIn c.requires.0 (numbers_with k (length parts.files.items)) k (source_of c.args.reads_others c.args.piece.now) parts = c.requires.1 in
    omega (arith, with.links_place, ap length c.in_ok-make_way.ensures, length-map parts.resolutions.links.items (links_after (decl_moved (numbers_with k c.len.result))))

pub insert-requires-3 : goal.insert-requires-3
insert-requires-3 c =
    let parts = c.args.parts in
    let k = c.args.at in
    let with : TakesIn c.requires.0 (numbers_with k (length parts.files.items)) k (source_of c.args.reads_others c.args.piece.now) parts = c.requires.1 in
    omega (arith, with.diagnostics_place, parts.resolutions.diagnostics.ok)

pub returns : goal.returns
returns c = λ w with.
    let parts = c.args.parts in
    let k = c.args.at in
    let put : c.in_ok-table.table ≡ insert c.table.inside.names k c.in_ok-named_facts.field-0 = c.in_ok-table.ensures.table in
    let all : c.in_ok-table.table ≡ all_facts w = put ∙ ap₂ (λ (table : List NamedFacts) (f : NamedFacts). insert table k f) c.table.view_is c.in_ok-named_facts.ensures ∙ with.table_is in
    let found : c.in_ok-found.found ≡ resolution_of w (k, source_of c.args.reads_others c.args.piece.now) = c.in_ok-found.ensures w c.args.reads_others all in
    let moved : c.make_way.new.links.items ≡ map (links_after (decl_moved (numbers_with k (length parts.files.items)))) parts.resolutions.links.items =
    c.in_ok-make_way.ensures ∙ ap (λ (n : ℕ). map (links_after (decl_moved (numbers_with k n))) parts.resolutions.links.items) (omega (arith, c.len.ensures, parts.files.ok)) in
    record {
      table = all;
      files = c.in_ok-insert.ensures.items ∙ ap (insert parts.files.items k) c.in_ok-of.ensures ∙ with.files_are;
      links = c.in_ok-insert-2.ensures.items ∙ ap₂ (λ (others : List Links) (own : Links). insert others k own) moved found ∙ with.links_are;
      diagnostics = c.in_ok-insert-3.ensures.items ∙ ap (insert parts.resolutions.diagnostics.items k) (c.in_ok-diagnostics.ensures (record { text = c.args.piece.now.text; reads_others = false }) c.facts_in.ensures ∙ ap (merged (facts_of c.args.piece.now.text)) (c.get.ensures ∙ found)) ∙ with.diagnostics_are;
    }
