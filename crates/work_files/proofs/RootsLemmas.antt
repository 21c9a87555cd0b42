-- What is done to a document leaves the root of each file, and a kept text to each file that was found under a root.
use Rattle.std.proofs.Common.{◌≡◌, ℕ, List, [], ◌∷◌, Bool, true, false, cond, Option, Some, None, refl, sym, ap, subst, ◌∙◌}
use Rattle.std.specs.Prelude.{option_and_then, option_map, bytes_eq, is_some, IsSome}
use Rattle.std.specs.List.{find}
use Rattle.std.specs.Cmp.Lexicographic.{bytes_decides}
use Rattle.std.specs.Map.{lookup, remove_entry}
use Rattle.work_files.specs.Disk.{FileData}
use Rattle.work_files.specs.Files.{OpenDocument, File, Files, empty_file, file_at, root_at, with_file, set_file, without_file, AreInPathOrder, disk_file, from_disk, opened_file, opened_at, with_document, with_open_file, changed_file, saved_file, closed_at}
use Rattle.work_files.specs.Roots.{kept_at, FoundFilesAreKept, RootsAreAsBefore, RootsStay, FoundFilesStayKept}
use Rattle.work_files.proofs.TextChanges.{same_test, file_by_bytes, file-set, file-with, file-without}

abbrev root_of : Option File → Option ℕ
root_of o = option_and_then (λ f. f.root) o

abbrev kept_of : Option File → Option (List ℕ)
kept_of o = option_and_then (λ f. f.kept) o

-- the path has this file in the new files, if it has one, and each other path has the file that it had
abbrev FileChangesAt : List ℕ → Option File → Files → Files → Type 0
FileChangesAt path o old new = (q : List ℕ) → file_at q new ≡ cond (bytes_eq path q) o (file_at q old)

with-changes : (path : List ℕ) (f : File) (files : Files) → FileChangesAt path (Some f) files (with_file path f files)
with-changes path f files q = file_by_bytes q (with_file path f files) ∙ file-with path q f files ∙ ap (cond (bytes_eq path q) (Some f)) (sym (file_by_bytes q files))

without-changes : (path : List ℕ) (files : Files) → AreInPathOrder files → FileChangesAt path None files (without_file path files)
without-changes path files order q =
    file_by_bytes q (without_file path files) ∙ ap (λ t. lookup (bytes_eq q) (remove_entry t files)) (same_test path) ∙ file-without path q files order ∙ ap (cond (bytes_eq path q) None) (sym (file_by_bytes q files))

-- ---- where the file of one path changes

module _ (path : List ℕ) (o : Option File) (old new : Files) (changes : FileChangesAt path o old new) where
  roots_as_before : root_of o ≡ root_at old path → RootsAreAsBefore old new
  roots_as_before same q = ap root_of (changes q) ∙ by (bytes_eq path q) refl
    where
      by : (b : Bool) → bytes_eq path q ≡ b → root_of (cond b o (file_at q old)) ≡ root_at old q
      by true b = same ∙ ap (root_at old) ((bytes_decides path q).0 b)
      by false b = refl

  found_are_kept : (IsSome (root_of o) → IsSome (kept_of o)) → FoundFilesAreKept old → FoundFilesAreKept new
  found_are_kept this others q = by (bytes_eq path q) (changes q)
    where
      by : (b : Bool) → file_at q new ≡ cond b o (file_at q old) → IsSome (root_at new q) → IsSome (kept_at new q)
      by true is found = subst (λ f. IsSome (kept_of f)) (sym is) (this (subst (λ f. IsSome (root_of f)) is found))
      by false is found = subst (λ f. IsSome (kept_of f)) (sym is) (others q (subst (λ f. IsSome (root_of f)) is found))

-- ---- files on disk

begun : (fs : List FileData) (path : List ℕ) → root_at (from_disk fs) path ≡ option_map (λ f. f.root) (find (λ f. bytes_eq f.path path) fs)
begun [] path = refl
begun (f ∷ fs) path = ap root_of (with-changes f.path (disk_file f.root f.text) (from_disk fs) path) ∙ by (bytes_eq f.path path) (begun fs path)
  where
    by : (b : Bool) → root_at (from_disk fs) path ≡ option_map (λ f. f.root) (find (λ f. bytes_eq f.path path) fs)
        → root_of (cond b (Some (disk_file f.root f.text)) (file_at path (from_disk fs))) ≡ option_map (λ f. f.root) (cond b (Some f) (find (λ f. bytes_eq f.path path) fs))
    by true rest = refl
    by false rest = rest

begun-kept : (fs : List FileData) → FoundFilesAreKept (from_disk fs)
begun-kept [] path found = found
begun-kept (f ∷ fs) path found = found_are_kept f.path (Some (disk_file f.root f.text)) (from_disk fs) (from_disk (f ∷ fs)) (with-changes f.path (disk_file f.root f.text) (from_disk fs)) (λ has. refl) (begun-kept fs) path found

-- ---- documents

-- a file that was found under a root has a kept text
own-kept : (path : List ℕ) (f : File) (files : Files) → file_at path files ≡ Some f → FoundFilesAreKept files → IsSome f.root → IsSome f.kept
own-kept path f files found kept has = subst (λ o. IsSome (kept_of o)) found (kept path (subst (λ o. IsSome (root_of o)) (sym found) has))

set-roots : (path : List ℕ) (f g : File) (files : Files) → file_at path files ≡ Some g → f.root ≡ g.root → RootsAreAsBefore files (set_file path f files)
set-roots path f g files found same = roots_as_before path (Some f) files (set_file path f files) (λ q. file-set path q f g files found) (same ∙ sym (ap root_of found))

set-kept : (path : List ℕ) (f g : File) (files : Files) → file_at path files ≡ Some g → (IsSome f.root → IsSome f.kept) → FoundFilesAreKept files → FoundFilesAreKept (set_file path f files)
set-kept path f g files found this = found_are_kept path (Some f) files (set_file path f files) (λ q. file-set path q f g files found) this

opened-roots : (uri : List ℕ) (d : OpenDocument) (path : List ℕ) (files : Files) (o : Option File) → file_at path files ≡ o → RootsAreAsBefore files (opened_at uri d path files o)
opened-roots uri d path files None found = roots_as_before path (Some (opened_file uri d empty_file)) files (opened_at uri d path files None) (with-changes path (opened_file uri d empty_file) files) (sym (ap root_of found))
opened-roots uri d path files (Some f) found = set-roots path (opened_file uri d f) f files found refl

opened-kept : (uri : List ℕ) (d : OpenDocument) (path : List ℕ) (files : Files) (o : Option File) → file_at path files ≡ o → FoundFilesAreKept files → FoundFilesAreKept (opened_at uri d path files o)
opened-kept uri d path files None found kept = found_are_kept path (Some (opened_file uri d empty_file)) files (opened_at uri d path files None) (with-changes path (opened_file uri d empty_file) files) (λ none. none) kept
opened-kept uri d path files (Some f) found kept = set-kept path (opened_file uri d f) f files found (own-kept path f files found kept) kept

-- what holds of the files, and of those after a step from an open document, holds after the step
module _ (path : List ℕ) (files : Files) (P : Files → Type 0) (become : File → OpenDocument → Files) where
  after-step : P files → ((f : File) (d : OpenDocument) → file_at path files ≡ Some f → P (become f d)) → (o : Option File) → file_at path files ≡ o → P (with_open_file become files o)
  after-step now each None found = now
  after-step now each (Some f) found = by f.document
    where
      by : (d : Option OpenDocument) → P (with_document become files f d)
      by None = now
      by (Some d) = each f d found

module _ (path : List ℕ) (f : File) (files : Files) (found : file_at path files ≡ Some f) (order : AreInPathOrder files) (kept : FoundFilesAreKept files) where
  no_root : (r : Option ℕ) → f.root ≡ r → f.kept ≡ None → None ≡ root_at files path
  no_root None is none = sym (ap root_of found ∙ is)
  no_root (Some root) is none =
      let kept_none : IsSome {T = List ℕ} None = subst IsSome none (own-kept path f files found kept (ap is_some is)) in
      cc

  closed-roots : (k : Option (List ℕ)) → f.kept ≡ k → RootsAreAsBefore files (closed_at path files f k)
  closed-roots None is = roots_as_before path None files (without_file path files) (without-changes path files order) (no_root f.root refl is)
  closed-roots (Some k) is = set-roots path (record f { document = None }) f files found refl

  closed-kept : (k : Option (List ℕ)) → f.kept ≡ k → FoundFilesAreKept (closed_at path files f k)
  closed-kept None is = found_are_kept path None files (without_file path files) (without-changes path files order) (λ none. none) kept
  closed-kept (Some k) is = set-kept path (record f { document = None }) f files found (own-kept path f files found kept) kept

pub roots_stay : RootsStay
roots_stay = record {
  begun = begun;
  opened = λ uri d path files. opened-roots uri d path files (file_at path files) refl;
  changed = λ version encoding changes path files. after-step path files (RootsAreAsBefore files) (λ f d. set_file path (changed_file version encoding changes f d) files) (λ q. refl)
      (λ f d found. set-roots path (changed_file version encoding changes f d) f files found refl) (file_at path files) refl;
  saved = λ path files. after-step path files (RootsAreAsBefore files) (λ f d. set_file path (saved_file f d) files) (λ q. refl)
      (λ f d found. set-roots path (saved_file f d) f files found refl) (file_at path files) refl;
  closed = λ path files order kept. after-step path files (RootsAreAsBefore files) (λ f d. closed_at path files f f.kept) (λ q. refl)
      (λ f d found. closed-roots path f files found order kept f.kept refl) (file_at path files) refl;
}

pub found_files_stay_kept : FoundFilesStayKept
found_files_stay_kept = record {
  begun = begun-kept;
  opened = λ uri d path files order. opened-kept uri d path files (file_at path files) refl;
  changed = λ version encoding changes path files order kept. after-step path files FoundFilesAreKept (λ f d. set_file path (changed_file version encoding changes f d) files) kept
      (λ f d found. set-kept path (changed_file version encoding changes f d) f files found (own-kept path f files found kept) kept) (file_at path files) refl;
  saved = λ path files order kept. after-step path files FoundFilesAreKept (λ f d. set_file path (saved_file f d) files) kept
      (λ f d found. set-kept path (saved_file f d) f files found (λ has. refl) kept) (file_at path files) refl;
  closed = λ path files order kept. after-step path files FoundFilesAreKept (λ f d. closed_at path files f f.kept) kept
      (λ f d found. closed-kept path f files found order kept f.kept refl) (file_at path files) refl;
}
