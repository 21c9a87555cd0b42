use Rattle.std.proofs.Common.{rules, ◌≡◌, ◌∙◌, sym, ap, refl, List, ◌-◌, ◌++◌, length, take, drop, map}
use Rattle.proto_decls.specs.declared.fact.Decl.{Decl}
use Rattle.proto_names.specs.Outlines.{declared}
use Rattle.work_links.specs.declared.keys.NameKeys.{NameKeys}
use Rattle.work_links.specs.declared.renumbering.Renumbering.{Renumbering}
use Rattle.work_links.proofs.Declared.{behind_them, decl_keys, moved, of_name, same_but_for_numbers}
use Rattle.work_links.proofs.touched.Touched.of.Goals as goal

pub returns : goal.returns
returns c =
    let from = c.same_front-from.result in
    let behind = c.same_back-behind.result in
    let old = c.as_slice-old.result.now in
    let new = c.as_slice-new.result.now in
    let keys_of : List Decl → List NameKeys = λ ds. map decl_keys ds in
    let gone = length old - behind - from in
    let added = length new - behind - from in
    let back : map declared (drop gone (drop from old)) ≡ map declared (drop added (drop from new)) = ap (map declared) (sym (behind_them old from behind)) ∙ c.same_back-behind.ensures.alike ∙ ap (map declared) (behind_them new from behind) in
    let keys : c.push_keys-2.new.names.items ≡ keys_of (take gone (drop from old)) ++ keys_of (take added (drop from new)) = c.in_ok-push_keys-2.ensures ∙ ap (λ ks. ks ++ keys_of (take added (drop from new))) (c.in_ok-push_keys.ensures ∙ ap (λ ks. ks ++ keys_of (take gone (drop from old))) c.new-names.ensures.items) in
    record {
      file_is = refl;
      packages = search rules;
      declared = λ name none.
          let by : Renumbering = record { file = c.args.file; from = from; before = length old; after = length new } in
          ap (λ ds. of_name ds name) (sym c.as_slice-new.ensures)
          ∙ same_but_for_numbers by old new gone added name c.same_front-from.ensures.in_old c.same_front-from.ensures.in_new refl refl c.same_front-from.ensures.alike back (rw keys at none)
          ∙ ap (λ ds. map (moved by) (of_name ds name)) c.as_slice-old.ensures;
    }
