-- Other texts for some files of a workspace.
use Rattle.std.specs.Prelude.{◌==◌, ℕ, Bool, List, find, map, string_bytes}
use Rattle.std.specs.List.{enumerate_from}
use Rattle.std.specs.Option.{option_map_or}
use Rattle.work_index.specs.Workspace.{Source, SourceAt, Workspace}
use Rattle.work_changes.specs.Changes.{StaysBut}
use Rattle.work_meaning.specs.declared.edited.EditedText.{EditedText}
use Rattle.work_meaning.specs.declared.edited.NamedText.{NamedText}

-- a file's number with its other text
abbrev pub edit_view : EditedText → ℕ × List ℕ
edit_view e = (e.file, string_bytes e.text)

-- the text of a file, given its number and the text that it has where none is in the list: of two for one file the first counts
abbrev pub text_after : List (ℕ × List ℕ) → ℕ → List ℕ → List ℕ
text_after edits file text = option_map_or (λ e. e.1) (find (λ e. e.0 == file) edits) text

-- another text in the place of a file's, which is read as that one was
abbrev pub with_text : Source → List ℕ → Source
with_text s text = record { text = text; reads_others = s.reads_others }

-- the workspace with these texts
abbrev pub with_texts : List (ℕ × List ℕ) → Workspace → Workspace
with_texts edits w = map (λ e. (e.1.0, with_text e.1.1 (text_after edits e.0 e.1.1.text))) (enumerate_from 0 w)

-- with texts for some files the others stay
abbrev pub OthersStay : Type 0
OthersStay = (edits : List (ℕ × List ℕ)) (w : Workspace) → StaysBut (map (λ e. e.0) edits) w (with_texts edits w)

-- a file, by its path and its text, given whether texts that aren't proto3 are read
abbrev pub named_text : Bool → NamedText → SourceAt
named_text reads_others f = (string_bytes f.path, record { text = string_bytes f.text; reads_others = reads_others })
