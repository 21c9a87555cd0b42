-- What the private steps of a check promise each other.
use Rattle.std.specs.Prelude.{◌≡◌, ◌&&◌, ℕ, Bool, true, false, List, [], ◌∷◌, ◌++◌, Option, Result, Ok, slice_index_or, drop, flat_map, map}
use Rattle.std.specs.List.{enumerate_from}
use Rattle.std.specs.declared.alloc.AllocError.{AllocError}
use Rattle.std.specs.Io.KnownBytes.{Appends}
use Rattle.check_lines.specs.Lines.{is_array, cut, document}
use Rattle.work_index.specs.Workspace.{analysis, no_file}
use Rattle.work_check.specs.Listing.{file_lines, lines_with}
use Rattle.work_check.specs.declared.listed.Listed.{Listed}
use Rattle.work_check.specs.declared.shares.ShareLines.{ShareLines}

-- of these bytes a front went out, and `left` is left
pub record Sent (old new : Option (List ℕ)) (all left : List ℕ) : Type 0 where
  pub front : List ℕ
  pub joined : all ≡ front ++ left
  pub appended : Appends old new front

abbrev pub are_none : List ℕ → Bool
are_none [] = true
are_none (b ∷ rest) = false

-- whether the first of all lines is still to come, after these lines
abbrev pub still_first : Bool → List ℕ → Bool
still_first first lines = first && are_none lines

-- ---- the lines of the files, one file after the other

-- the lines of the file with a number
abbrev pub lines_at : Listed → ℕ → List ℕ
lines_at l n = file_lines l.how l.roots.items (analysis l.files) (n, slice_index_or l.files n no_file)

-- the lines of the files from a number on
abbrev pub left_from : ℕ → Listed → List ℕ
left_from n l = flat_map (file_lines l.how l.roots.items (analysis l.files)) (enumerate_from n (drop n l.files))

abbrev pub all_lines : Listed → List ℕ
all_lines l = lines_with l.how l.roots.items l.files

-- what goes out of them
abbrev pub sent_lines : Listed → List ℕ
sent_lines l = cut (is_array l.how.format) (all_lines l)

-- all that goes out
abbrev pub all_written : Listed → List ℕ
all_written l = document l.how.format (all_lines l)

-- ---- lines that threads make

-- these are the lines of the files from one number on, up to the one before another
pub record AreLinesBetween (first end : ℕ) (l : Listed) (lines : List ℕ) : Type 0 where
  pub joined : left_from first l ≡ lines ++ left_from end l

-- where no answer is a refusal, they are the lines of all files
abbrev pub AreAnswered : Listed → List (Result ShareLines AllocError) → Type 0
AreAnswered l answers = (shares : List ShareLines) → answers ≡ map Ok shares → flat_map (λ share. share.lines.items) shares ≡ all_lines l
