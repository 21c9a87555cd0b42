use Rattle.std.proofs.Common.{◌≡◌, ◌<◌, List, sym, length, map, set, get_or}
use Rattle.proto_decls.specs.declared.named_facts.NamedFacts.{NamedFacts}
use Rattle.proto_names.proofs.Outlines.{telling, keeps_telling, still_by_name}
use Rattle.proto_names.proofs.name_table.NameTable.set_facts.Goals as goal

pub invariant_of-self : goal.invariant_of-self
invariant_of-self c =
    let files : List NamedFacts = c.self.inside.files.items in
    let seen : c.args.self.now ≡ files = cc in
    let f = c.args.file in
    let file = c.index_mut.result.now in
    let new : List NamedFacts = set files f (record { path = file.path; facts = c.args.facts }) in
    let there : f < length files = rw seen at c.requires.within in
    let is : file ≡ get_or files f file = c.index_mut.ensures.value in
    let tells : map telling files ≡ map telling new = sym (keeps_telling files f file c.args.facts there is (rw seen at c.requires.exports)) in
    still_by_name files new tells c.self.inside.names c.self.inside.holders c.self.invariant
