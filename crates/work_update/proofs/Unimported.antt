-- What is known of a workspace after one file came that none of the others imports.
use Rattle.std.proofs.Common.{◌≡◌, ◌<◌, ◌++◌, ℕ, List, [], Option, Some, length, get_or, map, arith, refl, sym, ap, ap₂, ◌∙◌, subst}
use Rattle.std.specs.List.{enumerate_from, insert}
use Rattle.std.proofs.lemmas.List.{length-map}
use Rattle.std.proofs.lemmas.Simd.{map-map}
use Rattle.proto_decls.specs.declared.diagnostic.Diag.{Diag}
use Rattle.proto_decls.specs.Facts.{facts_of}
use Rattle.proto_decls.specs.Order.{in_order}
use Rattle.proto_decls.specs.declared.named_facts.NamedFacts.{NamedFacts}
use Rattle.import_graph.specs.Arrivals.{ArrivalLaw, MakesRoom, NobodyImports}
use Rattle.import_graph.specs.Imports.{graph_of, imports_of}
use Rattle.import_graph.specs.Moves.{IsMovedOutlook, place}
use Rattle.import_graph.specs.Outlooks.{outlook}
use Rattle.import_graph.specs.Paths.{IsInPathOrder}
use Rattle.proto_resolve.specs.declared.resolve.Links.{Links}
use Rattle.work_links.specs.Laws.{MovedLaw, decl_moved}
use Rattle.work_links.specs.Touched.{links_after}
use Rattle.work_index.proofs.Numbered.{made, made_at, made_length}
use Rattle.work_index.specs.Workspace.{SourceAt, Workspace, all_facts, diagnostics_of, named_facts, no_file, resolution_of}
use Rattle.work_index.specs.declared.analysis.AnalysisParts.{AnalysisParts}
use Rattle.work_index.specs.AnalysisParts.{AreParts}
use Rattle.work_update.specs.Arrivals.{TakesIn}
use Rattle.work_update.specs.FilesMoves.{HasCome}
use Rattle.work_update.specs.Stayed.{HasMoved, IsSameFile, Stay}
use Rattle.work_changes.specs.Changes.{no_links}
use Rattle.work_update.proofs.FilesMoves.{come_to, with_one_more, with_one_that_came}
use Rattle.work_update.proofs.Stayed.{links_moved}

-- one file came to those of a table, which has the number k in the workspace, and none of the others imports it
pub record ComesUnimported (files : List NamedFacts) (w : Workspace) (to : List (Option ℕ)) (k : ℕ) : Type 0 where
  pub came : HasCome to (length files) (length w) k
  pub nobody : NobodyImports files (let file = get_or w k no_file in file.0)

-- a file that came makes room among the others
room_for : (to : List (Option ℕ)) (before now k : ℕ) → HasCome to before now k → MakesRoom to before k
room_for to before now k come = record {
  within = come.within;
  front = come.front;
  behind = come.behind;
}

-- the imports say the same of a file that stayed
pub imports_moved : (files new : List NamedFacts) (to : List (Option ℕ)) (before now k : ℕ) (file : NamedFacts) → HasCome to before now k → before ≡ length files → insert files k file ≡ new → NobodyImports files file.path
    → ArrivalLaw → (g n : ℕ) → place to g ≡ Some n → g < length files → HasMoved (graph_of files) (graph_of new) to g n
imports_moved files new to before now k file come as_many is nobody law g n moves there = record {
  within = omega (arith, there, length-map files (λ x. imports_of files x.facts));
  moves = moves;
  imports = subst (λ (fs : List NamedFacts). IsMovedOutlook to (outlook (graph_of files) g) (outlook (graph_of fs) n)) is
      (law files k file to g n nobody (subst (λ m. MakesRoom to m k) as_many (room_for to before now k come)) there moves);
}

module _ (old w : Workspace) (to : List (Option ℕ)) (stayed : Stay old w to) (k : ℕ) (comes : ComesUnimported (all_facts old) w to k) where
  -- so many files were there before
  as_many : length (all_facts old) ≡ length old
  as_many = length-map old named_facts

  place_within : k < length w
  place_within = let come = comes.came in omega (arith, come.within, come.count)

  -- of what is made of each file, that of the one that came is put among those of the others
  with_one_made : {X : Type 0} (before after : ℕ × SourceAt → X) (d : X) → ((g n : ℕ) → place to g ≡ Some n → before (g, get_or old g no_file) ≡ after (n, get_or w n no_file)) → insert (made before old) k (after (k, get_or w k no_file)) ≡ made after w
  with_one_made before after d same =
      let come = come_to to (length (all_facts old)) (length w) k (made before old) (made after w) comes.came (as_many ∙ sym (made_length before old)) (sym (made_length after w)) in
      with_one_more to (made before old) (made after w) k come d (λ g n moves.
      let file : IsSameFile old w g n = stayed g n moves in
      made_at before old g d file.there ∙ same g n moves ∙ sym (made_at after w n d file.here)) (after (k, get_or w k no_file)) (sym (made_at after w k d place_within))

  own_with_it : insert old k (get_or w k no_file) ≡ w
  own_with_it =
      let come = come_to to (length (all_facts old)) (length w) k old w comes.came as_many refl in
      with_one_more to old w k come no_file (λ g n moves.
      let file : IsSameFile old w g n = stayed g n moves in
      file.same) (get_or w k no_file) refl

  files_with_it : insert (all_facts old) k (named_facts (get_or w k no_file)) ≡ all_facts w
  files_with_it = with_one_that_came old w to stayed k (named_facts (get_or w k no_file)) comes.came refl

  module _ (moved_law : MovedLaw) (arrival_law : ArrivalLaw) where
    moved : (g n : ℕ) → place to g ≡ Some n → HasMoved (graph_of (all_facts old)) (graph_of (all_facts w)) to g n
    moved g n moves =
        let file : IsSameFile old w g n = stayed g n moves in
        imports_moved (all_facts old) (all_facts w) to (length (all_facts old)) (length w) k (named_facts (get_or w k no_file)) comes.came refl files_with_it comes.nobody arrival_law g n moves (omega (arith, file.there, as_many))

    -- so it is linked as before but for the numbers
    stays_linked : (g n : ℕ) → place to g ≡ Some n → links_after (decl_moved to) (resolution_of old (g, get_or old g no_file)) ≡ resolution_of w (n, get_or w n no_file)
    stays_linked g n moves = links_moved old w to stayed moved_law g n (moved g n moves)

    -- and the same is wrong in it
    stays_diagnosed : (g n : ℕ) → place to g ≡ Some n → diagnostics_of old (g, get_or old g no_file) ≡ diagnostics_of w (n, get_or w n no_file)
    stays_diagnosed g n moves =
        let file : IsSameFile old w g n = stayed g n moves in
        ap₂ (λ (text : List ℕ) (diags : List Diag). in_order ((let facts = facts_of text in facts.diags) ++ diags)) (ap (λ (f : SourceAt). f.1.text) file.same) (ap (λ (links : Links). links.diags) (stays_linked g n moves))

    links_with_it : insert (map (links_after (decl_moved to)) (made (resolution_of old) old)) k (resolution_of w (k, get_or w k no_file)) ≡ made (resolution_of w) w
    links_with_it =
        ap (λ (links : List Links). insert links k (resolution_of w (k, get_or w k no_file))) (map-map (links_after (decl_moved to)) (resolution_of old) (enumerate_from 0 old))
        ∙ with_one_made (λ file. links_after (decl_moved to) (resolution_of old file)) (resolution_of w) no_links stays_linked

    diagnostics_with_it : insert (made (diagnostics_of old) old) k (diagnostics_of w (k, get_or w k no_file)) ≡ made (diagnostics_of w) w
    diagnostics_with_it = with_one_made (diagnostics_of old) (diagnostics_of w) [] stays_diagnosed

pub with_it : (old w : Workspace) (to : List (Option ℕ)) (k : ℕ) (file : SourceAt) (parts : AnalysisParts)
    → AreParts old parts → IsInPathOrder (insert parts.table k (named_facts file)) → Stay old w to → ComesUnimported (all_facts old) w to k → get_or w k no_file ≡ file → MovedLaw → ArrivalLaw
    → TakesIn w to k file parts
with_it old w to k file parts of ordered stayed comes at moved_law arrival_law =
    let come = comes.came in
    let long : length (all_facts old) ≡ length old = length-map old named_facts in
    record {
      here = place_within old w to stayed k comes;
      table_place = omega (arith, come.within, ap length of.table);
      ordered = ordered;
      table_is = ap₂ (λ (files : List NamedFacts) (f : SourceAt). insert files k (named_facts f)) of.table (sym at) ∙ files_with_it old w to stayed k comes;
      files_place = omega (arith, come.within, long, ap length of.files);
      files_are = ap₂ (λ (fs : Workspace) (f : SourceAt). insert fs k f) of.files (sym at) ∙ own_with_it old w to stayed k comes;
      links_place = omega (arith, come.within, long, ap length of.links, made_length (resolution_of old) old);
      links_are = ap₂ (λ (ls : List Links) (f : SourceAt). insert (map (links_after (decl_moved to)) ls) k (resolution_of w (k, f))) of.links (sym at) ∙ links_with_it old w to stayed k comes moved_law arrival_law;
      diagnostics_place = omega (arith, come.within, long, ap length of.diagnostics, made_length (diagnostics_of old) old);
      diagnostics_are = ap₂ (λ (ds : List (List Diag)) (f : SourceAt). insert ds k (diagnostics_of w (k, f))) of.diagnostics (sym at) ∙ diagnostics_with_it old w to stayed k comes moved_law arrival_law;
    }
