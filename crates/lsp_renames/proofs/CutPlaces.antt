-- The places of a declaration can be cut out of the texts of their files.
use Rattle.std.proofs.Common.{◌≡◌, ◌∙◌, inl, inr, ℕ, ◌<◌, true, false, List, [], Option, length, get_or, map, sym, ap, subst, arith, IsUtf8}
use Rattle.std.specs.Prelude.{All}
use Rattle.std.proofs.lemmas.List.{get_or-map, length-map}
use Rattle.proto_tree.specs.Identifiers.{IsIdentifierAt, NamesAreIdentifiers}
use Rattle.proto_tree.specs.Read.{empty_tree, read}
use Rattle.proto_laws.proofs.IdentifierLaws.{OthersAreIdentifiers}
use Rattle.proto_laws.specs.OrderLaws.{UsesAscend}
use Rattle.proto_names.specs.declared.decl_ref.DeclRef.{DeclRef}
use Rattle.work_index.specs.Workspace.{AnalysisData, IsKnown, Source, Workspace, no_file, texts_of, workspace_in}
use Rattle.lsp_queries.specs.Answers.{sites_of}
use Rattle.lsp_renames.specs.Cutting.{AreCutOut, EndsBefore, IsCut, PlacesAreCutOut}
use Rattle.lsp_queries.specs.Files.{place_of}
use Rattle.lsp_queries.specs.PlaceLaws.{places_of, text_in}
use Rattle.lsp_queries.specs.declared.place.Place.{Place}
use Rattle.lsp_queries.proofs.NamedTree.{named_tree}
use Rattle.lsp_queries.proofs.Names.{StandApart}
use Rattle.lsp_queries.proofs.Places.{IsAhead, places-identifiers, sites-ahead, span_of}

-- the text of a file by its number
texts-are : (w : Workspace) (file : ℕ) → file < length w → text_in w file ≡ get_or (texts_of (map (λ f. f.1) w)) file []
texts-are w file lt =
    let none : Source = record { text = []; reads_others = false } in
    sym (get_or-map (λ s. s.text) (map (λ f. f.1) w) file none [] (omega (arith, lt, length-map w (λ f. f.1))) ∙ ap (λ s. s.text) (get_or-map (λ f. f.1) w file no_file none lt))

ends-before : (p q : Place) → IsAhead p q → EndsBefore p q
ends-before p q (inl lt) = record { files = omega arith; apart = λ same. absurd (omega arith) }
ends-before p q (inr h) = record { files = let same = h.0 in omega (arith, same); apart = λ same. let lt = h.1 in omega (arith, lt) }

cut-at : (text : List ℕ) (p : Place) → IsIdentifierAt text (span_of p) → IsUtf8 text → IsCut text p
cut-at text p is utf8 = record { ordered = is.ordered; first = (is.cut utf8).0; second = (is.cut utf8).1 }

pub places-cut_out : read [] ≡ empty_tree → NamesAreIdentifiers → OthersAreIdentifiers → UsesAscend → ((s : Source) → StandApart (named_tree s).nodes) → PlacesAreCutOut
places-cut_out empty identifiers others ascend apart w r include_declaration = record {
  there = λ k d lt. let is = at k d lt in omega (arith, is.0, length-map w (λ f. f.0));
  cut = λ k d lt.
      let p = get_or (places_of w r include_declaration) k d in
      let is = at k d lt in
      cut-at (get_or (texts_of (map (λ f. f.1) w)) p.file []) p (subst (λ text. IsIdentifierAt text (span_of p)) (texts-are w p.file is.0) is.1);
  ordered = λ i j d lt within. let all = places_of w r include_declaration in ends-before (get_or all i d) (get_or all j d) (sites-ahead w ascend apart r include_declaration i j d lt within);
}
  where
    at : All (λ p. (p.file < length w) × IsIdentifierAt (text_in w p.file) (span_of p)) (places_of w r include_declaration)
    at = places-identifiers empty identifiers others w r include_declaration

-- so it is in an analysis, of which it is known that it is that of its workspace
pub known-cut : (a : AnalysisData) → IsKnown a → PlacesAreCutOut → (r : DeclRef) (own : Option Place) (places : List Place) → own ≡ place_of a r → places ≡ sites_of a r own → AreCutOut a places
known-cut a known law r own places own_is are =
    let all : AreCutOut a (sites_of a r (place_of a r)) = subst (λ x. AreCutOut x (sites_of x r (place_of x r))) (sym known.is) (law (workspace_in a) r true) in
    subst (AreCutOut a) (sym (are ∙ ap (sites_of a r) own_is)) all
