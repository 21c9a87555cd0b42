-- The workspace that the edits under the URIs of the files make.
use Rattle.std.proofs.Common.{◌≡◌, ◌∙◌, ℕ, ◌<◌, Bool, true, false, cond, List, [], ◌∷◌, ◌+◌, ◌++◌, length, get_or, map, filter, fold, Some, Ok, bytes_eq, refl, sym, ap, subst, arith}
use Rattle.std.specs.Prelude.{All, ◌==◌, ◌≢◌, find}
use Rattle.std.specs.List.{AllPairs}
use Rattle.std.specs.Option.{option_map_or, option_to_list}
use Rattle.std.proofs.lemmas.Bool.{eqb-false, eqb-true, false_from_ne_true}
use Rattle.std.proofs.lemmas.List.Elements.{All-head, All-tail}
use Rattle.std.proofs.lemmas.Slice.Eq.{bytes_eq-Decides}
use Rattle.doc_text.specs.declared.position.Range.{Range}
use Rattle.lsp_rpc.specs.Laws.{RangesAreKept}
use Rattle.lsp_rpc.specs.WorkspaceEdit.{Changes, further, merged, ranges_at}
use Rattle.lsp_queries.specs.declared.place.Place.{Place}
use Rattle.lsp_queries.proofs.Pairs.{pairs-head, pairs-tail}
use Rattle.lsp_answers.specs.Answers.{DocumentPlaceData, document_of, edits_at, ranges_in, rename_reply, uri_at}
use Rattle.lsp_answers.specs.Context.{Context}
use Rattle.work_index.specs.Workspace.{SourceAt}
use Rattle.work_meaning.specs.Edited.{with_text}
use Rattle.work_laws.specs.EditLaws.{changed_from_the_last}
use Rattle.lsp_laws.specs.DocumentLaws.{EditTheWorkspace, EditUnderUris, IsRenamed, RenamesEditTheWorkspace, RenamesEditUnderUris, UrisDiffer, changes_with, ranges_of, ranges_under, with_new_name}
use Rattle.lsp_laws.proofs.EditedFiles.{numbered}

abbrev Group : Type 0
Group = ℕ × List Place

further-all : (rs : List Range) → further [] rs ≡ rs
further-all [] = refl
further-all (r ∷ rs) = ap (λ l. r ∷ l) (further-all rs)

-- the ranges of documents in turn, but for those that an earlier one has
abbrev gathered : Changes → List Range
gathered documents = fold (λ before d. before ++ further before d.1) [] documents

module _ (c : Context) where
  -- those of the documents with a URI
  abbrev of_uri : List ℕ → List Group → Changes
  of_uri uri gs = filter (λ d. bytes_eq uri d.0) (map (document_of c) gs)

  none-of_uri : (uri : List ℕ) (gs : List Group) → All (λ g. uri_at c g.0 ≢ uri) gs → of_uri uri gs ≡ []
  none-of_uri uri [] all = refl
  none-of_uri uri (g ∷ gs) all =
      ap (λ b. cond b (document_of c g ∷ of_uri uri gs) (of_uri uri gs)) (false_from_ne_true (bytes_eq uri (uri_at c g.0)) (λ is. All-head (λ g. uri_at c g.0 ≢ uri) g gs all (sym ((bytes_eq-Decides uri (uri_at c g.0)).0 is))))
      ∙ none-of_uri uri gs (All-tail (λ g. uri_at c g.0 ≢ uri) g gs all)

  module _ (differ : UrisDiffer c) (n : ℕ) (lt : n < length c.workspace) where
    -- the document of a file is the only one with its URI
    ranges-own : (gs : List Group) → AllPairs (λ g h. g.0 < h.0) gs → All (λ g. g.0 < length c.workspace) gs → gathered (of_uri (uri_at c n) gs) ≡ ranges_of c gs n
    ranges-own [] once there = refl
    ranges-own (g ∷ gs) once there =
        by (g.0 == n) refl (ranges-own gs (pairs-tail (λ g h. g.0 < h.0) g gs once) (All-tail (λ g. g.0 < length c.workspace) g gs there))
      where
        inside : g.0 < length c.workspace
        inside = All-head (λ g. g.0 < length c.workspace) g gs there

        later : All (λ g. g.0 < length c.workspace) gs
        later = All-tail (λ g. g.0 < length c.workspace) g gs there

        kept : Bool → Changes
        kept b = cond b (document_of c g ∷ of_uri (uri_at c n) gs) (of_uri (uri_at c n) gs)

        by : (b : Bool) → (g.0 == n) ≡ b → gathered (of_uri (uri_at c n) gs) ≡ ranges_of c gs n
            → gathered (kept (bytes_eq (uri_at c n) (uri_at c g.0))) ≡ option_map_or (λ (g : Group). let d : List ℕ × List Range = document_of c g in d.1) (cond b (Some g) (find (λ g. g.0 == n) gs)) []
        by true here rest =
            let same = eqb-true g.0 n here in
            let others : All (λ h. uri_at c h.0 ≢ uri_at c n) gs = λ k d within uri.
            let past = pairs-head (λ g h. g.0 < h.0) g gs once k d within in
            let again = differ (get_or gs k d).0 n (later k d within) lt uri in absurd (omega (arith, past, again, same)) in
            ap (λ b. gathered (kept b)) ((bytes_eq-Decides (uri_at c n) (uri_at c g.0)).1 (ap (uri_at c) (sym same)))
            ∙ ap (λ ds. gathered (document_of c g ∷ ds)) (none-of_uri (uri_at c n) gs others)
            ∙ further-all (ranges_in c g.0 g.1)
        by false other rest =
            ap (λ b. gathered (kept b)) (false_from_ne_true (bytes_eq (uri_at c n) (uri_at c g.0)) (λ is. eqb-false g.0 n other (sym (differ n g.0 lt inside ((bytes_eq-Decides (uri_at c n) (uri_at c g.0)).0 is)))))
            ∙ rest

module _ (c : Context) (at : DocumentPlaceData) (new_name : List ℕ) (documents : List (List ℕ × List Range)) (keep : RangesAreKept) (h : EditTheWorkspace c at new_name documents) where
  -- the ranges under a URI are those of the documents that have it
  under-uri : (uri : List ℕ) → ranges_at uri (merged documents) ≡ gathered (of_uri c uri h.respelled.groups)
  under-uri uri = keep uri documents ∙ ap (λ ds. gathered (filter (λ d. bytes_eq uri d.0) ds)) h.respelled.are

  ranges-same : UrisDiffer c → (n : ℕ) → n < length c.workspace → ranges_under c documents n ≡ ranges_of c h.respelled.groups n
  ranges-same differ n lt = under-uri (uri_at c n) ∙ ranges-own c differ n lt h.respelled.groups h.respelled.by_files.once h.there

  abbrev made_by : (ℕ → List Range) → ℕ × SourceAt → SourceAt
  made_by ranges e = (e.1.0, with_text e.1.1 (changed_from_the_last c.encoding (changes_with new_name (ranges e.0)) e.1.1.text))

  same-made : UrisDiffer c → with_new_name c new_name (ranges_under c documents) ≡ with_new_name c new_name (ranges_of c h.respelled.groups)
  same-made differ =
      numbered (made_by (ranges_under c documents)) (made_by (ranges_of c h.respelled.groups)) 0 c.workspace
      (λ i d lt. let file : SourceAt = get_or c.workspace i d in ap (λ ranges. (file.0, with_text file.1 (changed_from_the_last c.encoding (changes_with new_name ranges) file.1.text))) (ranges-same differ (0 + i) (omega (arith, lt))))

  uris-edit : UrisDiffer c → edits_at c at new_name ≡ Ok documents → EditUnderUris c at new_name documents
  uris-edit differ given =
      record {
        replied = λ id. ap (λ edits. option_to_list (rename_reply id new_name edits)) given;
        respelled = h.respelled;
        after = subst (IsRenamed c.workspace new_name h.respelled.places) (sym (same-made differ)) h.after;
        only = λ uri others. under-uri uri ∙ ap gathered (none-of_uri c uri h.respelled.groups (λ k d lt. others (get_or h.respelled.groups k d).0 (h.there k d lt)));
      }

pub uris-edited : RenamesEditTheWorkspace → RangesAreKept → RenamesEditUnderUris
uris-edited edit keep c at new_name documents utf8 differ given = uris-edit c at new_name documents keep (edit c at new_name documents utf8 given) differ given
