-- Other texts of files, of which most say to other files what the texts before them said.
use Rattle.std.specs.Prelude.{◌≡◌, ◌==◌, ℕ, ◌<◌, List, [], ◌∷◌, Bool, true, Option, Some, None, if◌then◌else◌, length, map, slice_index_or, unwrap_or, IsSomeAnd}
use Rattle.std.specs.Option.{option_map_or}
use Rattle.proto_tree.specs.Read.{value_tree}
use Rattle.proto_decls.specs.declared.fact.FileFacts.{FileFacts}
use Rattle.proto_decls.specs.declared.named_facts.NamedFacts.{NamedFacts}
use Rattle.proto_decls.specs.Facts.{facts_of}
use Rattle.proto_names.specs.Outlines.{exports, with_facts}
use Rattle.proto_resolve.specs.Outlines.{import_outline}
use Rattle.proto_resolve.specs.Resolved.{resolved}
use Rattle.proto_resolve.specs.declared.resolve.Links.{Links}
use Rattle.work_index.specs.Workspace.{AnalysisData, Source, Workspace, merged, source_facts}
use Rattle.work_meaning.specs.Bindings.{Means}
use Rattle.work_changes.specs.Changes.{file_source}
use Rattle.work_meaning.specs.Edited.{text_after, with_text}

-- facts say to other files, and of imports, what those before them said
pub record IsQuiet (before after : FileFacts) : Type 0 where
  pub exports_are : exports after ≡ exports before
  pub imports_are : import_outline after ≡ import_outline before

-- ---- a file with another text, among files that stay

module _ (files : List NamedFacts) (n : ℕ) (s : Source) where
  abbrev pub links_with : Links
  links_with = resolved (with_facts files n (source_facts s)) n s.text (value_tree s.text)

  -- it means what it meant in the analysis
  abbrev pub KeepsWith : AnalysisData → Type 0
  KeepsWith a = Means a n links_with (merged (facts_of s.text) links_with)

-- ---- other texts by file

-- of so many files the other texts of a list, by their numbers
pub record AreTexts (count : ℕ) (edits : List (ℕ × List ℕ)) (texts : List (Option (List ℕ))) : Type 0 where
  pub long : length texts ≡ count
  pub each : (n : ℕ) (t : List ℕ) → n < count → unwrap_or (slice_index_or texts n None) t ≡ text_after edits n t

-- a workspace with these texts
pub record HasTexts (texts : List (Option (List ℕ))) (w after : Workspace) : Type 0 where
  pub paths : map (λ f. f.0) after ≡ map (λ f. f.0) w
  pub each : (n : ℕ) → n < length w → file_source after n ≡ (let s = file_source w n in with_text s (unwrap_or (slice_index_or texts n None) s.text))

-- whether the text of a file is taken first: of one file, if it is given, else of all
abbrev pub is_own : Option ℕ → ℕ → Bool
is_own None n = true
is_own (Some own) n = n == own

-- the text of a file, given the one that it has, once the texts that are taken first are in place
abbrev pub own_text : Option ℕ → List (Option (List ℕ)) → ℕ → List ℕ → List ℕ
own_text own texts n t = if is_own own n then unwrap_or (slice_index_or texts n None) t else t

-- its other text, with its number, if it has one that is taken first
abbrev pub own_edit : Option ℕ → ℕ → Option (List ℕ) → List (ℕ × List ℕ)
own_edit own n text = if is_own own n then option_map_or (λ t. (n, t) ∷ []) text [] else []

-- its other text, if it has one that isn't taken first
abbrev pub other_text : Option ℕ → List (Option (List ℕ)) → ℕ → Option (List ℕ)
other_text own texts n = if is_own own n then None else slice_index_or texts n None

-- from a workspace with the texts that are taken first, one with the others too
pub record HasOthers (own : Option ℕ) (texts : List (Option (List ℕ))) (w after : Workspace) : Type 0 where
  pub paths : map (λ f. f.0) after ≡ map (λ f. f.0) w
  pub each : (n : ℕ) → n < length w → file_source after n ≡ (let s = file_source w n in with_text s (unwrap_or (other_text own texts n) s.text))

-- of some file a text that isn't taken first says to other files, or of imports, something else than the text before it
pub record SaysSomethingElse (own : Option ℕ) (texts : List (Option (List ℕ))) (w : Workspace) : Type 0 where
  pub file : ℕ
  pub within : file < length w
  pub differs : IsSomeAnd (other_text own texts file) (λ text. ¬ IsQuiet (source_facts (file_source w file)) (source_facts (with_text (file_source w file) text)))
