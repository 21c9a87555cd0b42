use Rattle.std.proofs.Common.{◌≡◌, ◌∙◌, true}
use Rattle.std.specs.List.{flat_map}
use Rattle.std.proofs.lemmas.List.Filters.{dedup_is}
use Rattle.proto_resolve.specs.Sites.{is_proto3, names_in, names_of_file, package_scopes}
use Rattle.work_links.specs.declared.asked.Asked.{Asked}
use Rattle.work_links.specs.Asked.{asked_by, has_all, names_asked}
use Rattle.work_links.proofs.AskedNames.{grows, has_all-grows, has_all-names_asked, has_keys-all, has_keys-dedup}
use Rattle.work_links.proofs.asked.Asked.of.Goals as goal

pub returns : goal.returns
returns c =
    let text = c.args.text.now in
    let facts = c.args.facts.now in
    let full = c.add_decls.new.self in
    let scopes = package_scopes text facts.«package» in
    let sites = names_in text c.as_slice-2.result.now scopes in
    let named : has_all full (flat_map asked_by sites) ≡ true = has_all-grows c.add_nodes.new.self full _ c.in_ok-add_decls.ensures.kept (c.in_ok-add_nodes.ensures.all scopes) in
    let same = c.in_ok-from_slice.ensures.items ∙ c.as_slice-4.ensures.value in
    let copy : Asked = record { uses = c.in_ok-from_slice.field-0; declares = full.declares; all = full.all } in
    has_all-grows full copy (names_asked (names_of_file text facts (let tree = c.args.tree.now in tree.nodes)) facts.decls) (grows full copy (λ e. e) (rw same (has_keys-dedup full.uses.items c.sort_unstable.new.self.items _ c.sort_unstable.ensures.permutation (dedup_is _ _ _ c.dedup.ensures.filtered))) (has_keys-all full.declares.items))
    (rw (← c.as_slice-2.ensures, ← c.as_slice-3.ensures) (has_all-names_asked full (is_proto3 facts.syntax) sites c.as_slice-3.result.now named c.in_ok-add_decls.ensures.all))
