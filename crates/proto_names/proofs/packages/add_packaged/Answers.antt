use Rattle.std.proofs.Common.{◌≡◌, ◌∙◌, ◌++◌, List, Option, ap, ap₂, map, subst}
use Rattle.std.specs.List.Sorted.{IsPermutation}
use Rattle.proto_decls.specs.declared.fact.FileFacts.{FileFacts}
use Rattle.proto_decls.specs.declared.fact.PackageFact.{PackageFact}
use Rattle.proto_decls.specs.declared.named_facts.NamedFacts.{NamedFacts}
use Rattle.proto_names.specs.declared.packages.PackagedFile.{PackagedFile}
use Rattle.proto_names.specs.Files.{facts_at}
use Rattle.proto_names.specs.Packages.{moved, packaged}
use Rattle.proto_names.proofs.InsertedPackages.{are_small, both_so, come, moved_by_package, package_is}
use Rattle.proto_names.proofs.packages.add_packaged.Goals as goal

pub make_way-requires : goal.make_way-requires
make_way-requires c = are_small c.args.files.now c.args.at c.args.found.now.items c.requires

pub put_packaged-requires : goal.put_packaged-requires
put_packaged-requires c = rw c.make_way.ensures (moved_by_package c.args.at c.args.found.now.items c.requires.were.ordered)

pub returns : goal.returns
returns c =
    let files : List NamedFacts = c.args.files.now in
    let list : List PackagedFile = c.args.found.now.items in
    let own : Option PackageFact = let facts = facts_at files c.args.at in facts.«package» in
    let is : (let facts = c.get.result.now in facts.«package») ≡ own = ap (λ (facts : FileFacts). facts.«package») c.get.ensures ∙ package_is files c.args.at list c.requires c.index-files-at.result in
    let before : c.make_way.new.found.items ++ packaged c.args.at (let facts = c.get.result.now in facts.«package») ≡ map (moved c.args.at) list ++ packaged c.args.at own =
    ap₂ (λ (ps : List PackagedFile) o. ps ++ packaged c.args.at o) c.make_way.ensures is in
    both_so c.put_packaged.result c.put_packaged.ensures.same c.put_packaged.ensures.sorted
    (λ same sorted. come files c.args.at list c.requires c.put_packaged.new.found.items (subst (λ ps. IsPermutation ps c.put_packaged.new.found.items) before same) sorted)
