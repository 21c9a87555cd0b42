-- A graph with one more file, which none of the others imports, is again a graph.
use Rattle.std.proofs.Common.{◌≡◌, ◌∙◌, ap, sym, subst, ℕ, ◌+◌, ◌≤◌, Bool, false, List, ◌∷◌, length, map, take, drop, arith}
use Rattle.std.specs.Prelude.{All}
use Rattle.std.specs.List.{insert}
use Rattle.std.proofs.lemmas.List.{length-map}
use Rattle.std.proofs.lemmas.List.Edits.{length-insert}
use Rattle.std.proofs.lemmas.List.Elements.{All-append, All-cons, All-drop, All-take}
use Rattle.import_graph.specs.declared.components.Components.{Components}
use Rattle.import_graph.specs.declared.imports.FileImports.{FileImports}
use Rattle.import_graph.specs.declared.shared.SharedLists.{SharedLists}
use Rattle.import_graph.specs.Coming.{HasNoList, HasNumber, file_after, number_after, rows_with}
use Rattle.import_graph.specs.Components.{Descends}
use Rattle.import_graph.specs.Condensed.{LeadAlike}
use Rattle.import_graph.specs.Shared.{AreShared}
use Rattle.import_graph.specs.Ties.{IsTied}
use Rattle.import_graph.specs.Imports.{graph_of, imports_of, is_complete_in, public_targets, targets}
use Rattle.import_graph.specs.Kept.{IsGraph}
use Rattle.import_graph.specs.Arrivals.{HasArrived}
use Rattle.proto_decls.specs.declared.named_facts.NamedFacts.{NamedFacts}
use Rattle.import_graph.proofs.ImportEdges.{graph_within}
use Rattle.import_graph.specs.Walks.{AllWithin}
use Rattle.import_graph.proofs.GraphInserted.{flags_moved, graph_inserted, one_more_file, own_there, public_moved, targets_moved, with_own}
use Rattle.import_graph.proofs.Renumbered.{all_within}
use Rattle.import_graph.proofs.RowsInserted.{descends_with, lead_alike_with, shared_with, tied_with}
use Rattle.import_graph.proofs.Views.{public_of, Within}

-- rows with one more are within the new count
pub rows_within : (at n : ℕ) (own : List ℕ) (rows : List (List ℕ)) → All (AllWithin n) rows → AllWithin (n + 1) own → All (AllWithin (n + 1)) (rows_with at own rows)
rows_within at n own rows within own_within =
    let moved : List (List ℕ) = map (map (number_after at)) rows in
    let stay = all_within at n rows within in
    All-append (AllWithin (n + 1)) (take at moved) (own ∷ drop at moved) (All-take (AllWithin (n + 1)) at moved stay)
    (All-cons (AllWithin (n + 1)) own (drop at moved) own_within (All-drop (AllWithin (n + 1)) at moved stay))

pub rows_counted : (at : ℕ) (own : List ℕ) (rows : List (List ℕ)) → at ≤ length rows → length (rows_with at own rows) ≡ length rows + 1
rows_counted at own rows le =
    let same = length-map rows (map (number_after at)) in
    omega (arith, same, length-insert (map (map (number_after at)) rows) at own (omega (arith, le, same)))

-- what the file imports is within the new graph
module _ (old : List FileImports) (at : ℕ) (own : FileImports) (le : at ≤ length old) (within : Within (with_own old at own le)) where
  longer : length (with_own old at own le) ≡ length old + 1
  longer = one_more_file old at own le

  own_stays : AllWithin (length (with_own old at own le)) (targets own)
  own_stays = subst (λ file. AllWithin (length (with_own old at own le)) (targets file)) (own_there old at own le own) (within at own (omega (arith, longer, le)))

  pub own_within : AllWithin (length old + 1) (targets own)
  own_within = subst (λ n. AllWithin n (targets own)) longer own_stays

  pub own_public : AllWithin (length old + 1) (public_targets own)
  own_public = subst (λ n. AllWithin n (public_targets own)) longer (public_of (with_own old at own le) within own own_stays)

module _ (old : List FileImports) (at : ℕ) (own : FileImports) (imports steps : List (List ℕ)) (flags : List Bool) (components components' : Components) (shared shared' : SharedLists)
    (le : at ≤ length old) (graph : IsGraph old imports steps flags components shared) (within : Within (with_own old at own le))
    (numbered : HasNumber at (targets own) components components') (listed : HasNoList at shared shared') where
  abbrev new : List FileImports
  new = with_own old at own le

  many : length new ≡ length old + 1
  many = one_more_file old at own le

  public_within_new : AllWithin (length old + 1) (public_targets own)
  public_within_new = own_public old at own le within

  imports_are : map targets new ≡ rows_with at (targets own) (map targets old)
  imports_are = targets_moved old at own le

  public_are : map public_targets new ≡ rows_with at (public_targets own) (map public_targets old)
  public_are = public_moved old at own le

  rows_long : length (map targets old) ≡ length old
  rows_long = length-map old targets

  public_long : length (map public_targets old) ≡ length old
  public_long = length-map old public_targets

  numbers_long : length components.numbers.items ≡ length old
  numbers_long = omega (arith, graph.numbered, components.numbers.ok.0)

  tied_long : length components.tied.items ≡ length old
  tied_long = omega (arith, graph.flagged, components.tied.ok.0)

  numbers_counted : length components'.numbers.items ≡ length new
  numbers_counted = omega (arith, many, numbers_long, ap length numbered.numbers, length-insert components.numbers.items at numbered.number (omega (arith, le, numbers_long)))

  tied_counted : length components'.tied.items ≡ length new
  tied_counted = omega (arith, many, tied_long, ap length numbered.tied, length-insert components.tied.items at false (omega (arith, le, tied_long)))

  leads : LeadAlike (rows_with at (public_targets own) steps) (map public_targets new)
  leads = subst (λ rows. LeadAlike (rows_with at (public_targets own) steps) rows) (sym public_are)
      (lead_alike_with at (public_targets own) steps (map public_targets old) (omega (arith, le, graph.counted)) (omega (arith, public_long, graph.counted)) graph.public)

  descends : Descends (map targets new) components'.numbers.items
  descends = subst (λ rows. Descends rows components'.numbers.items) (sym imports_are)
      (descends_with at (targets own) (map targets old) components components' (omega (arith, le, rows_long)) (omega (arith, numbers_long, rows_long)) numbered graph.descends)

  tied : IsTied (map targets new) components'.numbers.items components'.tied.items
  tied = subst (λ rows. IsTied rows components'.numbers.items components'.tied.items) (sym imports_are)
      (tied_with at (targets own) (map targets old) components components' (omega (arith, le, rows_long)) (omega (arith, numbers_long, rows_long)) (omega (arith, tied_long, rows_long)) numbered graph.tied)

  lists : AreShared (rows_with at (public_targets own) steps) (rows_with at (targets own) (map targets old)) shared'
  lists = shared_with at (targets own) (public_targets own) (map targets old) steps shared shared' (omega (arith, le, rows_long)) (omega (arith, graph.counted, rows_long)) listed
      (subst (λ rows. AreShared steps rows shared) graph.imports graph.lists)

  pub is_graph : IsGraph new (rows_with at (targets own) imports) (rows_with at (public_targets own) steps) (insert flags at (is_complete_in new own)) components' shared'
  is_graph = record {
    within = within;
    imports = ap (rows_with at (targets own)) graph.imports ∙ sym imports_are;
    counted = omega (arith, many, rows_counted at (public_targets own) steps (omega (arith, le, graph.counted)), graph.counted);
    stay = subst (λ n. All (AllWithin n) (rows_with at (public_targets own) steps)) (sym many) (rows_within at (length old) (public_targets own) steps graph.stay public_within_new);
    public = leads;
    complete = ap (λ (was : List Bool). insert was at (is_complete_in new own)) graph.complete ∙ sym (flags_moved old at own le);
    numbered = omega (arith, numbers_counted, components'.numbers.ok.0);
    descends = descends;
    flagged = omega (arith, tied_counted, components'.tied.ok.0);
    tied = tied;
    lists = subst (λ rows. AreShared (rows_with at (public_targets own) steps) (rows_with at (targets own) rows) shared') (sym graph.imports) lists;
  }

-- the graph of the files, once one of them came
module _ (files : List NamedFacts) (at : ℕ) (old : List FileImports) (arrived : HasArrived files at old) where
  abbrev pub own_of : FileImports
  own_of = imports_of (insert arrived.others at arrived.file) (let file = arrived.file in file.facts)

  pub room : at ≤ length old
  room = omega (arith, arrived.within, ap length arrived.was, length-map arrived.others (λ f. imports_of arrived.others f.facts))

  pub graph_is : graph_of files ≡ with_own old at own_of room
  graph_is =
      ap graph_of arrived.files_are
      ∙ graph_inserted arrived.others at arrived.file arrived.within arrived.nobody
      ∙ ap (λ (graph : List FileImports). insert (map (file_after at) graph) at own_of) (sym arrived.was)

  pub new_within : Within (with_own old at own_of room)
  new_within = subst Within graph_is (graph_within files)
