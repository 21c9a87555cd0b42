use Rattle.std.proofs.Common.{◌≡◌, ◌∙◌, List, Option, ap, subst}
use Rattle.proto_decls.specs.declared.fact.FileFacts.{FileFacts}
use Rattle.proto_decls.specs.declared.fact.PackageFact.{PackageFact}
use Rattle.proto_decls.specs.declared.named_facts.NamedFacts.{NamedFacts}
use Rattle.proto_names.specs.declared.packages.PackagedFile.{PackagedFile}
use Rattle.proto_names.specs.Changes.{HadOtherPackages}
use Rattle.proto_names.specs.Files.{facts_at}
use Rattle.proto_names.specs.Packages.{packaged, AreNoLonger}
use Rattle.proto_names.proofs.InsertedPackages.{no_longer, package_is}
use Rattle.proto_resolve.proofs.table_base.TableBase.with_file.Goals as goal

pub with_file-requires-clause-arrived : goal.with_file-requires-clause-arrived
with_file-requires-clause-arrived c =
    let w = c.requires.came in
    record {
      others = w.others;
      file = w.came.file;
      within = w.came.within;
      files_are = w.came.files_are;
      was = w.was.graph;
      nobody = w.nobody;
    }

pub add_packaged-requires : goal.add_packaged-requires
add_packaged-requires c =
    let w = c.requires.came in
    record { others = w.others; came = w.came; were = w.was.packaged }

pub returns : goal.returns
returns c =
    let w = c.requires.came in
    let files : List NamedFacts = c.args.files.now in
    let list : List PackagedFile = c.args.self.packaged.items in
    let had : HadOtherPackages files c.args.at list = record { others = w.others; came = w.came; were = w.was.packaged } in
    let is : (let facts = c.get.result.now in facts.«package») ≡ (let facts = facts_at files c.args.at in facts.«package») =
    ap (λ (facts : FileFacts). facts.«package») c.get.ensures ∙ package_is files c.args.at list had c.index-files-at.result in
    let own = subst (λ (o : Option PackageFact). AreNoLonger c.longest_with-longest.result (packaged c.args.at o)) is (c.longest_with-longest.ensures.own c.args.at) in
    record {
      ordered = c.requires.ordered;
      graph = c.in_ok-graph.ensures;
      packaged = c.in_ok-add_packaged.ensures;
      longest = no_longer files c.args.at list had c.args.self.longest c.longest_with-longest.result c.add_packaged.new.found.items w.was.longest c.longest_with-longest.ensures.others own c.in_ok-add_packaged.ensures;
    }
