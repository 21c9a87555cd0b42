-- What is known after the edits.
use Rattle.std.proofs.Common.{◌≡◌, ◌∙◌, ℕ, List, map, ap}
use Rattle.work_index.specs.Workspace.{AnalysisData, analysis, texts_of, workspace_in}
use Rattle.work_meaning.specs.Edited.{edit_view, with_texts}
use Rattle.work_meaning.specs.declared.edited.EditedText.{EditedText}
use Rattle.lsp_renames.specs.Cutting.{AreCutOut, edits_of}
use Rattle.lsp_renames.specs.Renaming.{analysis_after}
use Rattle.lsp_queries.specs.declared.place.Place.{Place}
use Rattle.lsp_renames.proofs.WithTexts.{edits-law}

-- the analysis with the texts that were made is the one with the name at all places
pub analysed-after : (a : AnalysisData) (places : List Place) (name : List ℕ) (edits : List EditedText) → AreCutOut a places → map edit_view edits ≡ edits_of name (texts_of a.sources) places
    → analysis (with_texts (map edit_view edits) (workspace_in a)) ≡ analysis_after a places name
unfolding analysis_after
analysed-after a places name edits cut made = ap (λ es. analysis (with_texts es (workspace_in a))) made ∙ ap analysis (edits-law a name places cut)
