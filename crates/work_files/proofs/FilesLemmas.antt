-- The map of the files beside the list that it stands for.
use Rattle.std.proofs.Common.{◌≡◌, ℕ, List, [], ◌∷◌, ◌++◌, Bool, true, false, ◌&&◌, cond, Option, Some, None, is_some, is_none, option_map, Result, Ok, Err, String, Global, MutBor, string_bytes, string_cmp, nat_cmp, Ordering, Less, Equal, Greater, refl, sym, ap, ◌∙◌, Bor}
use Rattle.std.specs.Prelude.{OnOk, OnErr}
use Rattle.std.specs.Option.{option_copied, option_copied_mut}
use Rattle.std.specs.Ordering.{match_ordering}
use Rattle.std.specs.Cmp.Lexicographic.{slice_cmp}
use Rattle.std.specs.Map.{lookup, set_value, remove_entry}
use Rattle.std.specs.BTreeMap.{insert_entry, is_at}
use Rattle.std.proofs.lemmas.Map.Steps.{set_value_same}
use Rattle.work_files.specs.Disk.{FileData}
use Rattle.work_files.specs.Files.{OpenDocument, File, Files, file_at, disk_file, with_disk_files, with_file, set_file, without_file, opened_file, opened_at, opened_files, with_document, with_open_file, closed_at, closed_files}
use Rattle.work_files.specs.Steps.{with_new_document, with_document_at, with_new_kept, with_kept_at, leaves, with_none_open}
use Rattle.work_files.specs.View.{file_view, entry_view, files_view}
use Rattle.work_files.specs.declared.entry.FileEntry.{FileEntry}

abbrev Entries : Type 0
Entries = List (String Global × FileEntry)

-- ---- the map's calls

view-match : (o : Ordering) (a b c : Entries) → files_view (match_ordering o a b c) ≡ match_ordering o (files_view a) (files_view b) (files_view c)
view-match Less a b c = refl
view-match Equal a b c = refl
view-match Greater a b c = refl

pub view-insert : (es : Entries) (k : String Global) (f : FileEntry) → files_view (insert_entry string_cmp es k f) ≡ with_file (string_bytes k) (file_view f) (files_view es)
view-insert [] k f = refl
view-insert (e ∷ es) k f = view-match (string_cmp k e.0) _ _ _ ∙ rw (view-insert es k f)

remove-cond : (b : Bool) (e : String Global × FileEntry) (es rest : Entries) (l : Files) → files_view rest ≡ l → files_view (cond b es (e ∷ rest)) ≡ cond b (files_view es) (entry_view e ∷ l)
remove-cond true e es rest l is = refl
remove-cond false e es rest l is = ap (λ r. entry_view e ∷ r) is

pub view-remove : (path : List ℕ) (es : Entries) → files_view (remove_entry (is_at (λ k. slice_cmp nat_cmp path (string_bytes k))) es) ≡ without_file path (files_view es)
view-remove path [] = refl
view-remove path (e ∷ es) = remove-cond _ e es _ _ (view-remove path es)

pub view-set : (path : List ℕ) (es : Entries) (f : FileEntry) → files_view (set_value (is_at (λ k. slice_cmp nat_cmp path (string_bytes k))) es f) ≡ set_file path (file_view f) (files_view es)
view-set path [] f = refl
view-set path (e ∷ es) f = set-cond _ e es _ _ f (view-set path es f)
  where
    set-cond : (b : Bool) (e : String Global × FileEntry) (es rest : Entries) (l : Files) (f : FileEntry) → files_view rest ≡ l → files_view (cond b ((e.0, f) ∷ es) (e ∷ rest)) ≡ cond b ((string_bytes e.0, file_view f) ∷ files_view es) (entry_view e ∷ l)
    set-cond true e es rest l f is = refl
    set-cond false e es rest l f is = ap (λ r. entry_view e ∷ r) is

found-cond : (b : Bool) (d : FileEntry) (o : Option FileEntry) (f : Option File) → option_map file_view o ≡ f → option_map file_view (cond b (Some d) o) ≡ cond b (Some (file_view d)) f
found-cond true d o f e = refl
found-cond false d o f e = e

pub view-lookup : (path : List ℕ) (es : Entries) → option_map file_view (lookup (is_at (λ k. slice_cmp nat_cmp path (string_bytes k))) es) ≡ file_at path (files_view es)
view-lookup path [] = refl
view-lookup path (e ∷ es) = found-cond _ e.1 _ _ (view-lookup path es)

pub view_of_ref : (r : Option (Bor FileEntry)) → option_map (λ f. file_view f.now) r ≡ option_map file_view (option_copied r)
view_of_ref None = refl
view_of_ref (Some f) = refl

-- ---- one file changed in its place

module _ (path : List ℕ) (files : Files) (f : File) (found : file_at path files ≡ Some f) where
  kept_as_it_is : set_file path f files ≡ files
  kept_as_it_is = set_value_same (is_at (slice_cmp nat_cmp path)) files f found

  document-set : (document : OpenDocument) (o : Option OpenDocument) → set_file path (with_new_document document f o) files ≡ with_document (λ f d. set_file path (record f { document = Some document }) files) files f o
  document-set document None = kept_as_it_is
  document-set document (Some d) = refl

  pub document_in_place : (document : OpenDocument) → set_file path (with_new_document document f f.document) files ≡ with_document_at path document files
  document_in_place document = document-set document f.document ∙ sym (ap (with_open_file (λ f d. set_file path (record f { document = Some document }) files) files) found)

  kept-set : (text : List ℕ) (o : Option OpenDocument) → set_file path (with_new_kept text f o) files ≡ with_document (λ f d. set_file path (record f { kept = Some text }) files) files f o
  kept-set text None = kept_as_it_is
  kept-set text (Some d) = refl

  pub kept_in_place : (text : List ℕ) → set_file path (with_new_kept text f f.document) files ≡ with_kept_at path text files
  kept_in_place text = kept-set text f.document ∙ sym (ap (with_open_file (λ f d. set_file path (record f { kept = Some text }) files) files) found)

-- ---- what `get_mut` found, and what was written there

pub found_at : (path : List ℕ) (es : Entries) (r : Option (MutBor FileEntry)) (b : MutBor FileEntry) → r ≡ Some b
    → option_copied_mut r ≡ lookup (is_at (λ k. slice_cmp nat_cmp path (string_bytes k))) es → file_at path (files_view es) ≡ Some (file_view b.now)
found_at path es r b is value = sym (view-lookup path es) ∙ ap (option_map file_view) (sym value ∙ ap option_copied_mut is)

pub missing_at : (path : List ℕ) (es : Entries) (r : Option (MutBor FileEntry)) → r ≡ None
    → option_copied_mut r ≡ lookup (is_at (λ k. slice_cmp nat_cmp path (string_bytes k))) es → file_at path (files_view es) ≡ None
missing_at path es r is value = sym (view-lookup path es) ∙ ap (option_map file_view) (sym value ∙ ap option_copied_mut is)

pub written_at : (path : List ℕ) (es ns : Entries) (f : FileEntry) → ns ≡ set_value (is_at (λ k. slice_cmp nat_cmp path (string_bytes k))) es f → files_view ns ≡ set_file path (file_view f) (files_view es)
written_at path es ns f is = ap files_view is ∙ view-set path es f

-- ---- where no file is at a path

module _ (path : List ℕ) (files : Files) (none : file_at path files ≡ None) where
  pub no_document : (document : OpenDocument) → files ≡ with_document_at path document files
  no_document document = sym (ap (with_open_file (λ f d. set_file path (record f { document = Some document }) files) files) none)

  pub nothing_kept : (text : List ℕ) → files ≡ with_kept_at path text files
  nothing_kept text = sym (ap (with_open_file (λ f d. set_file path (record f { kept = Some text }) files) files) none)

pub opened_again : (path : List ℕ) (files : Files) (f : File) (uri : List ℕ) (d : OpenDocument) → file_at path files ≡ Some f → set_file path (opened_file uri d f) files ≡ opened_files uri d path files
opened_again path files f uri d found = sym (ap (opened_at uri d path files) found)

-- ---- a close

remove-set-step : (path : List ℕ) (e : List ℕ × File) (es : Files) (g : File) (b : Bool) → is_at (slice_cmp nat_cmp path) e.0 ≡ b → without_file path (set_file path g es) ≡ without_file path es
    → without_file path (cond b ((e.0, g) ∷ es) (e ∷ set_file path g es)) ≡ cond b es (e ∷ without_file path es)
remove-set-step path e es g true is same = rw is refl
remove-set-step path e es g false is same = rw is (ap (λ l. e ∷ l) same)

remove-set : (path : List ℕ) (es : Files) (g : File) → without_file path (set_file path g es) ≡ without_file path es
remove-set path [] g = refl
remove-set path (e ∷ es) g = remove-set-step path e es g (is_at (slice_cmp nat_cmp path) e.0) refl (remove-set path es g)

closed-at : (path : List ℕ) (files : Files) (o : Option File) → file_at path files ≡ o → closed_files path files ≡ with_open_file (λ f d. closed_at path files f f.kept) files o
closed-at path files o found = ap (with_open_file (λ f d. closed_at path files f f.kept) files) found

left-file : (path : List ℕ) (files : Files) (f : File) (d : Option OpenDocument) (k : Option (List ℕ)) → is_some d && is_none k ≡ true
    → without_file path (set_file path (record f { document = None }) files) ≡ with_document (λ f d. closed_at path files f k) files f d
left-file path files f None k e = cc
left-file path files f (Some d) None e = remove-set path files (record f { document = None })
left-file path files f (Some d) (Some k) e = cc

pub left : (path : List ℕ) (files middle : Files) (o : Option File) → file_at path files ≡ o → leaves o ≡ true → middle ≡ with_none_open path files o → without_file path middle ≡ closed_files path files
left path files middle None found e is = cc
left path files middle (Some f) found e is = ap (without_file path) is ∙ left-file path files f f.document f.kept e ∙ sym (closed-at path files (Some f) found)

same-file : (f : File) → f.document ≡ None → record f { document = None } ≡ f
same-file f e = ap (λ d. record f { document = d }) (sym e)

stayed-file : (path : List ℕ) (files : Files) (f : File) (d : Option OpenDocument) (k : Option (List ℕ)) → file_at path files ≡ Some f → f.document ≡ d → is_some d && is_none k ≡ false
    → set_file path (record f { document = None }) files ≡ with_document (λ f d. closed_at path files f k) files f d
stayed-file path files f None k found is e = ap (λ g. set_file path g files) (same-file f is) ∙ set_value_same (is_at (slice_cmp nat_cmp path)) files f found
stayed-file path files f (Some d) (Some k) found is e = refl
stayed-file path files f (Some d) None found is e = cc

pub stayed : (path : List ℕ) (files middle : Files) (o : Option File) → file_at path files ≡ o → leaves o ≡ false → middle ≡ with_none_open path files o → middle ≡ closed_files path files
stayed path files middle None found e is = is ∙ sym (closed-at path files None found)
stayed path files middle (Some f) found e is = is ∙ stayed-file path files f f.document f.kept found refl e ∙ sym (closed-at path files (Some f) found)

-- ---- files on disk

pub with_one_more : (fs : List FileData) (f : FileData) (files : Files) → with_disk_files (fs ++ f ∷ []) files ≡ with_disk_files fs (with_file f.path (disk_file f.root f.text) files)
with_one_more [] f files = refl
with_one_more (g ∷ fs) f files = ap (with_file g.path (disk_file g.root g.text)) (with_one_more fs f files)

-- ---- what an answer says

pub none_of : {A B : Type 0} (f : A → B) (r : Option A) (o : Option B) → option_map f r ≡ o → is_some r ≡ false → o ≡ None
none_of f None o is none = sym is
none_of f (Some x) o is none = cc

pub either : {A E X Y P : Type 0} (r : Result A E) → OnOk r X → OnErr r Y → (X → P) → (Y → P) → P
either (Ok x) ok err one two = one ok
either (Err e) ok err one two = two err
