use Rattle.std.proofs.Common.{◌≡◌, ◌∙◌, List, subst, sym}
use Rattle.std.specs.List.{insert}
use Rattle.proto_decls.specs.declared.named_facts.NamedFacts.{NamedFacts}
use Rattle.import_graph.specs.Arrivals.{NobodyImports}
use Rattle.import_graph.specs.Paths.{IsInPathOrder}
use Rattle.proto_resolve.proofs.FilesInOrder.{new_path}
use Rattle.proto_resolve.proofs.table.Table.with_file.Goals as goal

pub is_imported-is_imported-requires : goal.is_imported-is_imported-requires
is_imported-is_imported-requires c = rw c.as_str.ensures (new_path c.args.self c.args.at c.args.file c.requires.within c.requires.ordered)

pub of_names-requires : goal.of_names-requires
of_names-requires c =
    let files : List NamedFacts = c.self.inside.names in
    let seen : c.args.self ≡ files = cc in
    subst (λ (fs : List NamedFacts). IsInPathOrder fs) (sym c.in_ok-names.ensures) (rw seen at c.requires.ordered)

pub with_file-requires-2-clause-ordered : goal.with_file-requires-2-clause-ordered
with_file-requires-2-clause-ordered c =
    let files : List NamedFacts = c.self.inside.names in
    let seen : c.args.self ≡ files = cc in
    let is : c.files.result.now ≡ insert files c.args.at c.args.file = c.files.ensures ∙ c.in_ok-names.ensures in
    subst (λ (fs : List NamedFacts). IsInPathOrder fs) (sym is) (rw seen at c.requires.ordered)

pub with_file-requires-2-clause-came : goal.with_file-requires-2-clause-came
with_file-requires-2-clause-came c =
    let files : List NamedFacts = c.self.inside.names in
    let seen : c.args.self ≡ files = cc in
    let is : c.files.result.now ≡ insert files c.args.at c.args.file = c.files.ensures ∙ c.in_ok-names.ensures in
    let nobody : NobodyImports c.args.self c.args.file.path = rw c.as_str.ensures at (c.is_imported-is_imported.ensures.0 c.if-is_imported.false) in
    record {
      others = files;
      came = record { file = c.args.file; within = rw seen at c.requires.within; files_are = is };
      was = c.self.invariant.0;
      nobody = rw seen at nobody;
    }

pub insert_decls-requires : goal.insert_decls-requires
insert_decls-requires c =
    let files : List NamedFacts = c.self.inside.names in
    let seen : c.args.self ≡ files = cc in
    record {
      others = files;
      came = record { file = c.args.file; within = rw seen at c.requires.within; files_are = c.files-2.ensures ∙ c.in_ok-names.ensures };
      were = c.self.invariant.1;
    }
