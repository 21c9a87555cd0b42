-- What is done to a document in steps, beside what is done to it at once.
use Rattle.std.proofs.Common.{◌≡◌, ℕ, ℤ, List, [], ◌∷◌, Bool, true, false, cond, Option, Some, None, is_some, nat_cmp, Ordering, Less, Equal, Greater, refl, sym, ap, ◌∙◌}
use Rattle.std.specs.Prelude.{option_and_then, option_map, bytes_eq}
use Rattle.std.specs.Cmp.Lexicographic.{slice_cmp, bytes_decides}
use Rattle.std.specs.Map.{lookup}
use Rattle.std.specs.Ordering.{match_ordering, is_eq}
use Rattle.std.specs.BTreeMap.{is_at}
use Rattle.doc_text.specs.Edits.{ChangeData}
use Rattle.doc_text.specs.declared.encoding.Encoding.{Encoding}
use Rattle.work_files.specs.Files.{OpenDocument, File, Files, empty_file, file_at, with_file, set_file, text_of, text_at, edited_all, opened_file, opened_at, opened_files, with_document, with_open_file, where_open, changed_file, changed_files, saved_file, saved_files}
use Rattle.work_files.specs.Steps.{room_for, with_room, with_document_at, with_kept_at}
use Rattle.work_files.specs.Texts.{open_document, is_open}
use Rattle.work_files.proofs.TextChanges.{same_test, file_by_bytes, file-with, with-texts, stays}

at_itself : (path : List ℕ) → is_at (slice_cmp nat_cmp path) path ≡ true
at_itself path = ap (λ t. t path) (same_test path) ∙ (bytes_decides path path).1 refl

-- ---- room for a file

module _ (path : List ℕ) (f g : File) where
  set-match : (e : List ℕ × File) (es : Files) (o : Ordering) → slice_cmp nat_cmp path e.0 ≡ o → file_at path (e ∷ es) ≡ None → set_file path g (with_file path f es) ≡ with_file path g es
      → set_file path g (match_ordering o ((path, f) ∷ e ∷ es) ((e.0, f) ∷ es) (e ∷ with_file path f es)) ≡ match_ordering o ((path, g) ∷ e ∷ es) ((e.0, g) ∷ es) (e ∷ with_file path g es)
  set-match e es Less is none rest = ap (λ b. cond b ((path, g) ∷ e ∷ es) ((path, f) ∷ set_file path g (e ∷ es))) (at_itself path)
  set-match e es Equal is none rest =
      let there : Some e.1 ≡ None = sym (ap (λ o. cond (is_eq o) (Some e.1) (file_at path es)) is) ∙ none in
      cc
  set-match e es Greater is none rest = ap (λ o. cond (is_eq o) ((e.0, g) ∷ with_file path f es) (e ∷ set_file path g (with_file path f es))) is ∙ ap (λ l. e ∷ l) rest

  behind-none : (e : List ℕ × File) (es : Files) (b : Bool) → cond b (Some e.1) (file_at path es) ≡ None → file_at path es ≡ None
  behind-none e es true none = cc
  behind-none e es false none = none

  set-with : (files : Files) → file_at path files ≡ None → set_file path g (with_file path f files) ≡ with_file path g files
  set-with [] none = ap (λ b. cond b ((path, g) ∷ []) ((path, f) ∷ [])) (at_itself path)
  set-with (e ∷ es) none = set-match e es (slice_cmp nat_cmp path e.0) refl none (set-with es (behind-none e es (is_at (slice_cmp nat_cmp path) e.0) none))

pub new_file : (path : List ℕ) (f : File) (files : Files) → file_at path (with_file path f files) ≡ Some f
new_file path f files = file_by_bytes path (with_file path f files) ∙ file-with path path f files ∙ ap (λ b. cond b (Some f) (lookup (bytes_eq path) files)) ((bytes_decides path path).1 refl)

room-opened : (uri : List ℕ) (d : OpenDocument) (path : List ℕ) (files : Files) (o : Option File) → file_at path files ≡ o → opened_files uri d path (room_for path files o) ≡ opened_at uri d path files o
room-opened uri d path files None found = ap (opened_at uri d path (with_file path empty_file files)) (new_file path empty_file files) ∙ set-with path empty_file (opened_file uri d empty_file) files found
room-opened uri d path files (Some f) found = ap (opened_at uri d path files) found

-- an open where room was made is the open
pub opened_in_room : (uri : List ℕ) (d : OpenDocument) (path : List ℕ) (files : Files) → opened_files uri d path (with_room path files) ≡ opened_files uri d path files
opened_in_room uri d path files = room-opened uri d path files (file_at path files) refl

pub there_is_room : (path : List ℕ) (files : Files) (o : Option File) → file_at path files ≡ o → is_some (file_at path (room_for path files o)) ≡ true
there_is_room path files None found = ap is_some (new_file path empty_file files)
there_is_room path files (Some f) found = ap is_some found

-- no text changes where room is made
pub room_texts : (path : List ℕ) (files : Files) → file_at path files ≡ None → (q : List ℕ) → text_at q (with_file path empty_file files) ≡ text_at q files
room_texts path files none q =
    let nothing : text_at path files ≡ None = ap (option_and_then text_of) none in
    with-texts path empty_file files q ∙ ap (λ t. cond (bytes_eq path q) t (text_at q files)) (sym nothing) ∙ sym (stays path files q)

-- ---- changes and saves

module _ (path : List ℕ) (files : Files) where
  -- what two ways do alike to each open document they do alike to the files
  same-where : (one two : File → OpenDocument → Files) (o : Option File) → file_at path files ≡ o → ((f : File) (d : OpenDocument) → option_and_then (λ g. g.document) o ≡ Some d → one f d ≡ two f d)
      → with_open_file one files o ≡ with_open_file two files o
  same-where one two None found each = refl
  same-where one two (Some f) found each = by f.document refl
    where
      by : (d : Option OpenDocument) → f.document ≡ d → with_document one files f d ≡ with_document two files f d
      by None is = refl
      by (Some d) is = each f d is

  some-same : (d e : OpenDocument) → Some d ≡ Some e → e ≡ d
  some-same d e is = ap (λ o. option_or_else o d) (sym is)
    where
      option_or_else : Option OpenDocument → OpenDocument → OpenDocument
      option_or_else None x = x
      option_or_else (Some x) y = x

  pub changed_document : (version : ℤ) (encoding : Encoding) (changes : List ChangeData) (d : OpenDocument) → open_document path files ≡ Some d
      → with_document_at path (record { version = version; text = edited_all encoding changes d.text }) files ≡ changed_files version encoding changes path files
  changed_document version encoding changes d is_there =
      same-where (λ f e. set_file path (record f { document = Some (record { version = version; text = edited_all encoding changes d.text }) }) files) (λ f e. set_file path (changed_file version encoding changes f e) files) (file_at path files) refl
      (λ f e is. ap (λ x. set_file path (record f { document = Some (record { version = version; text = edited_all encoding changes x.text }) }) files) (some-same e d (sym is ∙ is_there)))

  pub kept_document : (d : OpenDocument) → open_document path files ≡ Some d → with_kept_at path d.text files ≡ saved_files path files
  kept_document d is_there =
      same-where (λ f e. set_file path (record f { kept = Some d.text }) files) (λ f e. set_file path (saved_file f e) files) (file_at path files) refl
      (λ f e is. ap (λ x. set_file path (record f { kept = Some x.text }) files) (some-same e d (sym is ∙ is_there)))

  closed-where : (become : File → OpenDocument → Files) (o : Option File) → option_and_then (λ g. g.document) o ≡ None → files ≡ with_open_file become files o
  closed-where become None none = refl
  closed-where become (Some f) none = sym (ap (with_document become files f) none)

  -- nothing is done where none is open
  pub none_open : (become : File → OpenDocument → Files) → open_document path files ≡ None → files ≡ where_open become path files
  none_open become none = closed-where become (file_at path files) none

-- a copy of the text of the open document is kept
pub kept_text : (path : List ℕ) (files : Files) (text : List ℕ) → Some text ≡ option_map (λ d. d.text) (open_document path files) → with_kept_at path text files ≡ saved_files path files
kept_text path files text is = by (open_document path files) refl is
  where
    by : (o : Option OpenDocument) → open_document path files ≡ o → Some text ≡ option_map (λ d. d.text) o → with_kept_at path text files ≡ saved_files path files
    by None open_is is = cc
    by (Some d) open_is is = let same : text ≡ d.text = cc in ap (λ t. with_kept_at path t files) same ∙ kept_document path files d open_is

abbrev pub edited_document : ℤ → Encoding → List ChangeData → OpenDocument → OpenDocument
edited_document version encoding changes d = record { version = version; text = edited_all encoding changes d.text }

-- the open document with these changes takes its place
pub changed_text : (path : List ℕ) (files : Files) (version : ℤ) (encoding : Encoding) (changes : List ChangeData) (document : OpenDocument) → Some document ≡ option_map (edited_document version encoding changes) (open_document path files)
    → (is_open path files ≡ true) × (with_document_at path document files ≡ changed_files version encoding changes path files)
changed_text path files version encoding changes document is = by (open_document path files) refl is
  where
    by : (o : Option OpenDocument) → open_document path files ≡ o → Some document ≡ option_map (edited_document version encoding changes) o → (is_open path files ≡ true) × (with_document_at path document files ≡ changed_files version encoding changes path files)
    by None open_is is = cc
    by (Some d) open_is is =
        let same : document ≡ edited_document version encoding changes d = cc in
        (ap is_some open_is, ap (λ x. with_document_at path x files) same ∙ changed_document path files version encoding changes d open_is)
