-- Places, file by file.
use Rattle.std.proofs.Common.{◌≡◌, ◌==◌, ℕ, Bool, true, false, List, [], ◌∷◌, ◌++◌, map, flat_map, refl, ap, sym, ◌∙◌}
use Rattle.std.specs.Prelude.{if◌then◌else◌}
use Rattle.std.proofs.lemmas.Bool.{eqb-true}
use Rattle.std.proofs.lemmas.List.Folds.{flat_map-map}
use Rattle.doc_text.specs.declared.position.Range.{Range}
use Rattle.lsp_renames.specs.ByFile.{behind, later, by_file}
use Rattle.lsp_queries.specs.declared.place.Place.{Place}
use Rattle.lsp_rpc.specs.Location.{LocationData, locations_at, all_locations}
use Rattle.lsp_rpc.specs.WorkspaceEdit.{document_ranges}
use Rattle.lsp_rpc.specs.declared.location.DocumentRanges.{DocumentRanges}
use Rattle.lsp_answers.specs.Answers.{document_of, documents_of, location_of}
use Rattle.lsp_answers.specs.Context.{Context}

-- ---- each place at its own location

abbrev locations_in : List ℕ × List Range → List LocationData
locations_in d = locations_at d.0 d.1

module _ (c : Context) where
  abbrev of_group : ℕ × List Place → List LocationData
  of_group g = locations_in (document_of c g)

  -- what stands behind a place in its own file, and all after that
  behind_and_later : (file : ℕ) (gs : List (ℕ × List Place)) → of_group (file, behind file gs) ++ flat_map of_group (later file gs) ≡ flat_map of_group gs
  behind_and_later file [] = refl
  behind_and_later file (g ∷ gs) = by (g.0 == file) refl
    where
      by : (b : Bool) → (g.0 == file) ≡ b → of_group (file, if b then g.1 else []) ++ flat_map of_group (if b then gs else g ∷ gs) ≡ of_group g ++ flat_map of_group gs
      by true own = ap (λ f. of_group (f, g.1) ++ flat_map of_group gs) (sym (eqb-true g.0 file own))
      by false other = refl

  of_all : (ps : List Place) → flat_map of_group (by_file ps) ≡ map (location_of c) ps
  of_all [] = refl
  of_all (p ∷ ps) = ap (λ l. location_of c p ∷ l) (behind_and_later p.file (by_file ps) ∙ of_all ps)

  pub locations-are : (ds : List DocumentRanges) (ps : List Place) → map document_ranges ds ≡ documents_of c ps → all_locations ds ≡ map (location_of c) ps
  locations-are ds ps is = sym (flat_map-map locations_in document_ranges ds) ∙ ap (flat_map locations_in) is ∙ flat_map-map locations_in (document_of c) (by_file ps) ∙ of_all ps
