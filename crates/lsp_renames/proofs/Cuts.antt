-- The places of one file at the front of some places are cut out of its text in turn.
use Rattle.std.proofs.Common.{◌≡◌, ℕ, zero, suc, ◌≤◌, List, [], ◌∷◌, take, subst, sym, ◌∙◌, arith, IsUtf8}
use Rattle.std.specs.Prelude.{All, IsCharBoundary, slice_index_or}
use Rattle.std.specs.List.{AllPairs}
use Rattle.std.proofs.lemmas.List.Elements.{All-head, All-tail}
use Rattle.std.proofs.lemmas.Str.{IsCharBoundary-start}
use Rattle.work_index.specs.Workspace.{AnalysisData, texts_of}
use Rattle.lsp_queries.specs.declared.place.Place.{Place}
use Rattle.lsp_renames.specs.Cutting.{AreCutOut, CanBeCut, EndsBefore, IsCut}
use Rattle.lsp_queries.proofs.Pairs.{pairs-head, pairs-tail}

module _ (a : AnalysisData) (file : ℕ) where
  abbrev text : List ℕ
  text = slice_index_or (texts_of a.sources) file []

  abbrev IsHere : Place → Type 0
  IsHere p = IsUtf8 (slice_index_or (texts_of a.sources) p.file []) → IsCut (slice_index_or (texts_of a.sources) p.file []) p

  can_cut : IsUtf8 text → (offset : ℕ) (ps : List Place) (n : ℕ) → IsCharBoundary text offset → All (λ p. p.file ≡ file → offset ≤ p.start) ps → All (λ p. p.file ≡ file) (take n ps) → All IsHere ps → AllPairs EndsBefore ps
      → CanBeCut text offset (take n ps)
  can_cut utf8 offset [] zero here from own cut pairs = here
  can_cut utf8 offset [] (suc n) here from own cut pairs = here
  can_cut utf8 offset (p ∷ ps) zero here from own cut pairs = here
  can_cut utf8 offset (p ∷ ps) (suc n) here from own cut pairs =
      let is : p.file ≡ file = own 0 p (omega arith) in
      let at = subst (λ f. IsUtf8 (slice_index_or (texts_of a.sources) f []) → IsCut (slice_index_or (texts_of a.sources) f []) p) is (All-head IsHere p ps cut) utf8 in
      let behind = pairs-head EndsBefore p ps pairs in (
        here,
        All-head (λ p. p.file ≡ file → offset ≤ p.start) p ps from is,
        at,
        can_cut utf8 p.«end» ps n at.second (λ k d lt same. (behind k d lt).apart (is ∙ sym same)) (λ k d lt. own (suc k) d (omega (arith, lt))) (All-tail IsHere p ps cut) (pairs-tail EndsBefore p ps pairs),
      )

  -- all of the first run can be cut out of the text in turn
  pub run_cut : (ps : List Place) (n : ℕ) → IsUtf8 text → All (λ p. p.file ≡ file) (take n ps) → AreCutOut a ps → CanBeCut text 0 (take n ps)
  run_cut ps n utf8 own are = can_cut utf8 0 ps n (IsCharBoundary-start text utf8) (λ k d lt same. omega arith) own are.cut are.ordered
