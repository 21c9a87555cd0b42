-- What is known of files beside their declarations, after other facts were put in the place of one's.
use Rattle.std.proofs.Common.{◌≡◌, ◌∙◌, sym, ap, subst, ◌<◌, ◌+◌, ℕ, zero, suc, List, [], ◌∷◌, ◌++◌, Bool, true, map, Option, get_or, set, length, arith}
use Rattle.std.specs.List.{enumerate_from, flat_map}
use Rattle.std.specs.List.Sorted.{IsPermutation}
use Rattle.std.proofs.lemmas.List.{get_or-map}
use Rattle.proto_decls.specs.declared.named_facts.NamedFacts.{NamedFacts}
use Rattle.import_graph.specs.Imports.{graph_of}
use Rattle.import_graph.specs.Paths.{IsInPathOrder}
use Rattle.proto_names.specs.declared.packages.PackagedFile.{PackagedFile}
use Rattle.proto_resolve.specs.declared.table_base.TableBase.{TableBase}
use Rattle.proto_resolve.specs.Bases.{WasBaseOf}
use Rattle.proto_names.specs.Files.{facts_at, no_facts}
use Rattle.proto_names.specs.Outlines.{package_name, with_facts}
use Rattle.proto_names.specs.Packages.{all_packaged, packaged, ArePackaged}
use Rattle.proto_resolve.proofs.Outlines.{asks_alike, same_graph, stays_in_order}
use Rattle.proto_names.proofs.Outlines.{package_alike}

-- ---- the packages

-- the full name of a file's package, if it has one
named_package : NamedFacts → Option (List ℕ)
named_package file = package_name file.facts

abbrev packages : ℕ × NamedFacts → List PackagedFile
packages e = packaged e.0 (let facts = e.1.facts in facts.«package»)

-- they are the same where that of the changed file has the same name
packages_from : (n f : ℕ) (files : List NamedFacts) (x d : NamedFacts) → f < length files → named_package x ≡ named_package (get_or files f d)
    → flat_map packages (enumerate_from n files) ≡ flat_map packages (enumerate_from n (set files f x))
unfolding named_package
packages_from n f [] x d lt same = absurd (omega (arith, lt))
packages_from n zero (y ∷ files) x d lt same =
    ap (λ ps. ps ++ flat_map packages (enumerate_from (n + 1) files)) (package_alike n (let facts = y.facts in facts.«package») (let facts = x.facts in facts.«package») (sym same))
packages_from n (suc f) (y ∷ files) x d lt same = ap (λ ps. packages (n, y) ++ ps) (packages_from (n + 1) f files x d (omega (arith, lt)) same)

-- ---- the base of the files

module _ (files : List NamedFacts) (f : ℕ) (same : Bool) (base : TableBase) (w : WasBaseOf files f same base) where
  pub ordered_now : IsInPathOrder files
  ordered_now = subst (λ (fs : List NamedFacts). IsInPathOrder fs) (sym w.changed.files_are) (stays_in_order w.old f w.changed.facts w.was.ordered)

  pub graph_now : base.graph ≡ graph_of files
  graph_now = w.was.graph ∙ same_graph w.old (with_facts w.old f w.changed.facts) (asks_alike w.old f w.changed.facts w.changed.within w.imports) ∙ ap graph_of (sym w.changed.files_are)

  empty_file : NamedFacts
  empty_file = record { path = []; facts = no_facts }

  pub packaged_now : same ≡ true → ArePackaged files base.packaged.items
  unfolding named_package
  packaged_now e =
      let there : facts_at w.old f ≡ (let file = get_or w.old f empty_file in file.facts) = get_or-map (λ (x : NamedFacts). x.facts) w.old f empty_file no_facts w.changed.within in
      let now : NamedFacts = record { path = get_or (map (λ (file : NamedFacts). file.path) w.old) f []; facts = w.changed.facts } in
      let names : named_package now ≡ named_package (get_or w.old f empty_file) = w.«package» e ∙ ap package_name there in
      let kept : all_packaged w.old ≡ all_packaged files = packages_from 0 f w.old now empty_file w.changed.within names ∙ ap all_packaged (sym w.changed.files_are) in
      record { all = subst (λ ps. IsPermutation ps base.packaged.items) kept w.was.packaged.all; ordered = w.was.packaged.ordered }
