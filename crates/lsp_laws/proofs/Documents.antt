-- The documents of a rename.
use Rattle.std.proofs.Common.{◌≡◌, ◌∙◌, inl, inr, ℕ, ◌≤◌, true, List, [], ◌∷◌, get_or, map, Option, Some, None, Ok, Err, refl, sym, ap, subst, arith, IsUtf8}
use Rattle.std.specs.Prelude.{All, Result}
use Rattle.std.specs.List.{AllPairs}
use Rattle.std.specs.Option.{option_map_or}
use Rattle.doc_text.specs.declared.encoding.Encoding.{Encoding}
use Rattle.doc_text.specs.declared.position.Range.{Range}
use Rattle.lsp_renames.specs.declared.fault.RenameFault.{RenameFault}
use Rattle.lsp_renames.specs.declared.fault.RenameFault.TheVariants as fault
use Rattle.lsp_queries.specs.declared.place.Place.{Place}
use Rattle.lsp_renames.specs.ByFile.{by_file}
use Rattle.lsp_renames.specs.Edited.{respelled}
use Rattle.lsp_queries.specs.Offsets.{symbol_at}
use Rattle.lsp_queries.specs.PlaceLaws.{IsBefore, PlacesAscend, places_of, text_in}
use Rattle.lsp_renames.specs.Renaming.{renamed}
use Rattle.lsp_answers.specs.Answers.{DocumentPlaceData, documents_of, edits_of, number_of}
use Rattle.lsp_answers.specs.Context.{Context}
use Rattle.work_laws.specs.EditLaws.{RenamesChangeTheNames, change_of, changed_from_the_last, range_of}
use Rattle.work_laws.proofs.Renames.{renamed-places}
use Rattle.lsp_laws.specs.DocumentLaws.{AreRespelled, GroupsAreTheFiles, RenamesRespellDocuments, changes_with}
use Rattle.work_index.specs.Workspace.{analysis}

not_after : (p q : Place) → IsBefore p q → p.file ≤ q.file
not_after p q (inl lt) = omega arith
not_after p q (inr h) = let same = h.0 in omega (arith, same)

changes-are : (e : Encoding) (name text : List ℕ) (places : List Place) → changes_with name (map (range_of e text) places) ≡ map (change_of e name text) places
changes-are e name text [] = refl
changes-are e name text (p ∷ more) = ap (λ l. change_of e name text p ∷ l) (changes-are e name text more)

module _ (group : GroupsAreTheFiles) (ascend : PlacesAscend) (change : RenamesChangeTheNames) (c : Context) (at : DocumentPlaceData) (new_name : List ℕ) (documents : List (List ℕ × List Range)) (utf8 : All (λ file. IsUtf8 file.1.text) c.workspace) where
  of_places : (asked : ℕ) (places : List Place) → number_of c.workspace at.path ≡ Some asked → renamed (analysis c.workspace) asked at.offset new_name ≡ Ok places → documents_of c places ≡ documents → AreRespelled c at new_name documents
  of_places asked places named is are =
      let w = c.workspace in
      let e = c.encoding in
      let rename = renamed-places w (symbol_at (analysis w) asked at.offset) new_name places is in
      let all = places_of w rename.1 true in
      let order : AllPairs (λ p q. p.file ≤ q.file) places =
      subst (AllPairs (λ p q. p.file ≤ q.file)) rename.2 (λ i j d lt inside. not_after (get_or all i d) (get_or all j d) (ascend w rename.1 true i j d lt inside)) in
      let groups = group places order in
      record {
        asked = asked;
        named = named;
        places = places;
        answered = is;
        groups = by_file places;
        are = sym are;
        by_files = groups;
        edited = λ k d lt. let g = get_or (by_file places) k d in
            let own = groups.each k d lt in
            let text = text_in w g.0 in record {
              all_places = own;
              edits = ap (λ changes. changed_from_the_last e changes text) (changes-are e new_name text g.1)
                  ∙ ap (λ here. changed_from_the_last e (map (change_of e new_name text) here) text) own
                  ∙ change e w asked at.offset new_name places g.0 utf8 is
                  ∙ ap (respelled new_name text) (sym own);
            };
      }

  of_result : (asked : ℕ) (r : Result (List Place) RenameFault) → number_of c.workspace at.path ≡ Some asked → renamed (analysis c.workspace) asked at.offset new_name ≡ r → edits_of c r ≡ Ok documents → AreRespelled c at new_name documents
  of_result asked (Ok places) named is given = of_places asked places named is (cc (given))
  of_result asked (Err why) named is given = absurd (cc (given))

pub documents-respelled : GroupsAreTheFiles → PlacesAscend → RenamesChangeTheNames → RenamesRespellDocuments
documents-respelled group ascend change c at new_name documents utf8 given = by (number_of c.workspace at.path) refl given
  where
    by : (o : Option ℕ) → number_of c.workspace at.path ≡ o → edits_of c (option_map_or (λ file. renamed (analysis c.workspace) file at.offset new_name) o (Err fault.NoSymbol)) ≡ Ok documents → AreRespelled c at new_name documents
    by None named given = absurd (cc (given))
    by (Some asked) named given =
        of_result group ascend change c at new_name documents utf8 asked (renamed (analysis c.workspace) asked at.offset new_name) named refl given
