use Rattle.std.proofs.Common.{◌≡◌, ◌∙◌, ◌<◌, List, length, get_or, subst, sym, ap}
use Rattle.std.proofs.lemmas.List.{get_or-map}
use Rattle.proto_decls.specs.declared.named_facts.NamedFacts.{NamedFacts}
use Rattle.import_graph.specs.Paths.{IsInPathOrder}
use Rattle.proto_names.specs.Files.{facts_at, no_facts}
use Rattle.proto_names.specs.Outlines.{package_name}
use Rattle.proto_resolve.specs.Outlines.{import_outline}
use Rattle.proto_resolve.proofs.Outlines.{stays_in_order}
use Rattle.proto_resolve.proofs.table.Table.with_facts.Goals as goal

pub of_names-requires : goal.of_names-requires
of_names-requires c =
    let files : List NamedFacts = c.self.inside.names in
    subst (λ (fs : List NamedFacts). IsInPathOrder fs) (sym c.in_ok-names.ensures) (stays_in_order files c.args.file c.args.facts c.self.invariant.0.ordered)

pub changed-requires : goal.changed-requires
changed-requires c =
    let files : List NamedFacts = c.self.inside.names in
    let seen : c.args.self ≡ files = cc in
    let there : c.args.file < length files = rw seen at c.requires in
    let old_are : c.get-old.result.now ≡ facts_at files c.args.file =
    c.get-old.ensures ∙ ap (λ (fs : List NamedFacts). let file = get_or fs c.args.file c.index-files-file.result in file.facts) c.files.ensures
    ∙ sym (get_or-map (λ (x : NamedFacts). x.facts) files c.args.file c.index-files-file.result no_facts there) in
    record {
      old = files;
      changed = record { facts = c.args.facts; within = there; files_are = c.files-2.ensures ∙ c.in_ok-names.ensures };
      was = c.self.invariant.0;
      imports = ap import_outline (sym c.get.ensures) ∙ c.same_imports-keeps_imports.ensures.0 c.if-not-keeps_imports.false ∙ ap import_outline old_are;
      «package» = λ e. ap package_name (sym c.get-2.ensures) ∙ c.have_one_name-keeps_package.ensures.0 e ∙ ap package_name old_are;
    }

pub replace_decls-requires : goal.replace_decls-requires
replace_decls-requires c =
    let files : List NamedFacts = c.self.inside.names in
    let seen : c.args.self ≡ files = cc in
    record {
      old = files;
      changed = record { facts = c.args.facts; within = rw seen at c.requires; files_are = c.files-3.ensures ∙ c.in_ok-names.ensures };
      were = c.self.invariant.1;
    }

pub returns-clause-graph : goal.returns-clause-graph
returns-clause-graph c =
    let files : List NamedFacts = c.self.inside.names in
    let seen : c.args.self ≡ files = cc in
    let there : c.args.file < length files = rw seen at c.requires in
    let old_are : c.get-old.result.now ≡ facts_at files c.args.file =
    c.get-old.ensures ∙ ap (λ (fs : List NamedFacts). let file = get_or fs c.args.file c.index-files-file.result in file.facts) c.files.ensures
    ∙ sym (get_or-map (λ (x : NamedFacts). x.facts) files c.args.file c.index-files-file.result no_facts there) in
    rw seen (ap import_outline (sym c.get.ensures) ∙ c.same_imports-keeps_imports.ensures.0 c.if-not-keeps_imports.false ∙ ap import_outline old_are)
