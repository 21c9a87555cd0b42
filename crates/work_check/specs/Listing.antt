-- What is wrong in a workspace, as a command line shows it.
use Rattle.std.specs.Prelude.{ℕ, ◌-◌, ◌^◌, List, [], ◌∷◌, Bool, true, if◌then◌else◌, Option, Some, None, slice_index_or, length, map, min, string_bytes, sum_by, count_by, filter, slice_get, option_and_then}
use Rattle.std.specs.List.{enumerate_from, flat_map, list_any}
use Rattle.std.specs.BTreeSet.{BTreeSet, contains_text}
use Rattle.std.specs.declared.alloc.Global.{Global}
use Rattle.std.specs.declared.string.String.{String}
use Rattle.proto_decls.specs.declared.diagnostic.Diag.{Diag}
use Rattle.check_lines.specs.Lines.{lines_of, ListedFileData, written, is_error_message, document}
use Rattle.work_shares.specs.Unchecked.{unchecked, first_lost}
use Rattle.work_config.specs.Configuration.{Configuration, files_of}
use Rattle.work_index.specs.Workspace.{SourceAt, Workspace, AnalysisData, all_facts, analysis, no_file, sources_of}
use Rattle.work_files.specs.Files.{Files, text_of, workspace}
use Rattle.work_check.specs.declared.wanted.Checked.{Checked}
use Rattle.work_check.specs.declared.wanted.Listing.{Listing}

-- the files that a check looks at: the text of each, and whether it is read for what it declares if it isn't proto3
abbrev pub sources_in : Configuration → Workspace
sources_in config = sources_of config.reads_others (workspace (files_of config))

-- ---- the plain lines of all files

-- the lines of a file of the workspace, given its number
abbrev pub numbered_lines : AnalysisData → ℕ × SourceAt → List ℕ
numbered_lines a file = lines_of file.1.0 file.1.1.text (slice_index_or a.diagnostics file.0 [])

-- the lines of all files, by path
abbrev pub listing : Workspace → List ℕ
listing w = flat_map (numbered_lines (analysis w)) (enumerate_from 0 w)

-- whether a diagnostic is an error, and not an information
abbrev pub is_error : Diag → Bool
is_error d = is_error_message d.message

-- whether there is an error
abbrev pub has_errors : Workspace → Bool
has_errors w = list_any (list_any is_error) (let a = analysis w in a.diagnostics)

-- ---- the lines of the files that are asked for, as they are asked for

abbrev pub root_of_text : Option ℕ → Option (List ℕ) → List (Option ℕ)
root_of_text root None = []
root_of_text root (Some text) = root ∷ []

-- the number of the root under which each file that has a text was found
abbrev pub file_roots : Files → List (Option ℕ)
file_roots files = flat_map (λ e. root_of_text e.1.root (text_of e.1)) files

-- how the folder of a root is shown; nothing if it isn't
abbrev pub folder_of : Listing → Option ℕ → List ℕ
folder_of how None = []
folder_of how (Some root) = slice_index_or (map string_bytes how.folders.items) root []

abbrev is_among : Option (BTreeSet (String Global)) → List ℕ → Bool
is_among None path = true
is_among (Some paths) path = contains_text paths path

-- whether the lines of the file with a path are asked for
abbrev pub is_wanted : Listing → List ℕ → Bool
is_wanted how path = is_among how.only path

-- a file of the workspace as it is listed, given the roots of all files and its number
abbrev pub listed_file : Listing → List (Option ℕ) → ℕ × SourceAt → ListedFileData
listed_file how roots file = record { format = how.format; folder = folder_of how (slice_index_or roots file.0 None); path = file.1.0; text = file.1.1.text }

-- its diagnostics, if its lines are asked for
abbrev pub wanted_diags : Listing → AnalysisData → ℕ × SourceAt → List Diag
wanted_diags how a file = if is_wanted how file.1.0 then slice_index_or a.diagnostics file.0 [] else []

abbrev pub file_lines : Listing → List (Option ℕ) → AnalysisData → ℕ × SourceAt → List ℕ
file_lines how roots a file = written (listed_file how roots file) (wanted_diags how a file)

-- the lines of the files of a workspace with these roots
abbrev pub lines_with : Listing → List (Option ℕ) → Workspace → List ℕ
lines_with how roots w = flat_map (file_lines how roots (analysis w)) (enumerate_from 0 w)

-- all that is written, with the lines by path
abbrev pub listed : Listing → Configuration → List ℕ
listed how config = document how.format (lines_with how (file_roots (files_of config)) (sources_in config))

-- ---- how many there are

-- how many of the files are asked for
abbrev pub wanted_count : Listing → Workspace → ℕ
wanted_count how w = count_by (λ f. is_wanted how f.0) w

-- how many lines a file has, if they are asked for
abbrev pub wanted_lines : Listing → AnalysisData → ℕ × SourceAt → ℕ
wanted_lines how a file = length (wanted_diags how a file)

-- how many lines are asked for
abbrev pub line_count : Listing → Workspace → ℕ
line_count how w = sum_by (wanted_lines how (analysis w)) (enumerate_from 0 w)

abbrev pub file_errors : Listing → AnalysisData → ℕ × SourceAt → ℕ
file_errors how a file = count_by is_error (wanted_diags how a file)

-- how many of their diagnostics are errors
abbrev pub error_count : Listing → Workspace → ℕ
error_count how w = sum_by (file_errors how (analysis w)) (enumerate_from 0 w)

-- those of the files that aren't checked for unknown names, by number
abbrev pub wanted_unchecked : Listing → Workspace → List ℕ
wanted_unchecked how w = filter (λ n. is_wanted how (slice_index_or w n no_file).0) (unchecked (all_facts w))

-- the path in the first import because of which the first of some files isn't
abbrev pub lost_of_first : Workspace → List ℕ → Option (List ℕ)
lost_of_first w numbers = option_and_then (first_lost (all_facts w)) (slice_get numbers 0)

-- what a check found; the highest number if there are more errors
abbrev pub checked_of : Listing → Workspace → Checked
checked_of how w = record {
  files = wanted_count how w;
  errors = min (error_count how w) (2 ^ 64 - 1);
  unchecked = length (wanted_unchecked how w);
  first_lost = lost_of_first w (wanted_unchecked how w);
}
