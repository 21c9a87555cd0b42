-- What is done to a document changes the text of its path alone.
use Rattle.std.proofs.Common.{◌≡◌, ℕ, List, [], ◌∷◌, Bool, true, false, cond, Option, Some, None, nat_cmp, Ordering, Less, Equal, Greater, refl, sym, ap, subst, ◌∙◌}
use Rattle.std.specs.Prelude.{option_and_then, bytes_eq, IsSome}
use Rattle.std.specs.Cmp.Lexicographic.{slice_cmp, bytes_decides}
use Rattle.std.specs.Map.{keys_of, lookup, set_value, remove_entry}
use Rattle.std.specs.Ordering.{match_ordering, is_eq}
use Rattle.std.specs.BTreeMap.{is_at}
use Rattle.std.specs.List.Sorted.{IsStrictlySortedBy}
use Rattle.std.proofs.lemmas.Cmp.{nat_list_eq_equiv}
use Rattle.std.proofs.lemmas.Map.{lookup-set_value}
use Rattle.std.proofs.lemmas.Map.Text.{is_eq-slice_cmp}
use Rattle.work_files.specs.Files.{OpenDocument, File, Files, empty_file, file_at, with_file, set_file, without_file, text_of, text_at, AreInPathOrder, opened_file, opened_at, with_document, with_open_file, changed_file, saved_file, closed_at}
use Rattle.work_files.specs.Texts.{TextsChangeAt, TextsChangeAtOnePath}
use Rattle.work_files.proofs.PathOrder.{AreBehind}

-- the two tests of a path
pub same_test : (p : List ℕ) → is_at (slice_cmp nat_cmp p) ≡ bytes_eq p
same_test p = λ i q. is_eq-slice_cmp p q i

pub file_by_bytes : (q : List ℕ) (files : Files) → file_at q files ≡ lookup (bytes_eq q) files
file_by_bytes q files = ap (λ t. lookup t files) (same_test q)

same_path : (p q : List ℕ) → bytes_eq p q ≡ true → p ≡ q
same_path p q e = (bytes_decides p q).0 e

symm : (p q : List ℕ) → bytes_eq p q ≡ bytes_eq q p
symm p q = nat_list_eq_equiv.symm p q

-- ---- a file in the place of another

pub file-set : (path q : List ℕ) (f g : File) (files : Files) → file_at path files ≡ Some g → file_at q (set_file path f files) ≡ cond (bytes_eq path q) (Some f) (file_at q files)
file-set path q f g files found =
    let there : IsSome (lookup (bytes_eq path) files) = subst IsSome (sym found ∙ file_by_bytes path files) refl in
    file_by_bytes q (set_file path f files)
    ∙ ap (λ t. lookup (bytes_eq q) (set_value t files f)) (same_test path)
    ∙ lookup-set_value {eq = bytes_eq} nat_list_eq_equiv (bytes_eq path) (nat_list_eq_equiv.congr path) q f files there
    ∙ ap (cond (bytes_eq path q) (Some f)) (sym (file_by_bytes q files))

-- ---- a new file in its place

insert-match : (path q : List ℕ) (f : File) (e : List ℕ × File) (es : Files) (o : Ordering) → slice_cmp nat_cmp path e.0 ≡ o
    → lookup (bytes_eq q) (with_file path f es) ≡ cond (bytes_eq path q) (Some f) (lookup (bytes_eq q) es)
    → lookup (bytes_eq q) (match_ordering o ((path, f) ∷ e ∷ es) ((e.0, f) ∷ es) (e ∷ with_file path f es)) ≡ cond (bytes_eq path q) (Some f) (lookup (bytes_eq q) (e ∷ es))
insert-match path q f e es Less is rest = ap (λ b. cond b (Some f) (lookup (bytes_eq q) (e ∷ es))) (symm q path)
insert-match path q f e es Equal is rest = by (bytes_eq path q) refl
  where
    same : path ≡ e.0
    same = same_path path e.0 (sym (is_eq-slice_cmp path e.0) ∙ ap is_eq is)

    by : (b : Bool) → bytes_eq path q ≡ b → cond (bytes_eq q e.0) (Some f) (lookup (bytes_eq q) es) ≡ cond b (Some f) (cond (bytes_eq q e.0) (Some e.1) (lookup (bytes_eq q) es))
    by true b = ap (λ c. cond c (Some f) (lookup (bytes_eq q) es)) (ap (bytes_eq q) (sym same) ∙ symm q path ∙ b)
    by false b =
        let other : bytes_eq q e.0 ≡ false = ap (bytes_eq q) (sym same) ∙ symm q path ∙ b in
        ap (λ c. cond c (Some f) (lookup (bytes_eq q) es)) other ∙ sym (ap (λ c. cond c (Some e.1) (lookup (bytes_eq q) es)) other)
insert-match path q f e es Greater is rest = by (bytes_eq q e.0) refl
  where
    by : (b : Bool) → bytes_eq q e.0 ≡ b → cond b (Some e.1) (lookup (bytes_eq q) (with_file path f es)) ≡ cond (bytes_eq path q) (Some f) (cond b (Some e.1) (lookup (bytes_eq q) es))
    by true b =
        let apart : bytes_eq path e.0 ≡ false = sym (is_eq-slice_cmp path e.0) ∙ ap is_eq is in
        let other : bytes_eq path q ≡ false = ap (bytes_eq path) (same_path q e.0 b) ∙ apart in
        sym (ap (λ c. cond c (Some f) (Some e.1)) other)
    by false b = rest

pub file-with : (path q : List ℕ) (f : File) (files : Files) → lookup (bytes_eq q) (with_file path f files) ≡ cond (bytes_eq path q) (Some f) (lookup (bytes_eq q) files)
file-with path q f [] = ap (λ b. cond b (Some f) None) (symm q path)
file-with path q f (e ∷ es) = insert-match path q f e es (slice_cmp nat_cmp path e.0) refl (file-with path q f es)

-- ---- a file less

none-behind : (p : List ℕ) (files : Files) → AreBehind p (keys_of files) → lookup (bytes_eq p) files ≡ None
none-behind p [] all = refl
none-behind p (e ∷ es) all = ap (λ b. cond b (Some e.1) (lookup (bytes_eq p) es)) (sym (is_eq-slice_cmp p e.0) ∙ ap is_eq all.0) ∙ none-behind p es all.1

remove-cond : (path q : List ℕ) (e : List ℕ × File) (es : Files) (b : Bool) → bytes_eq path e.0 ≡ b → AreBehind e.0 (keys_of es)
    → lookup (bytes_eq q) (remove_entry (bytes_eq path) es) ≡ cond (bytes_eq path q) None (lookup (bytes_eq q) es)
    → lookup (bytes_eq q) (cond b es (e ∷ remove_entry (bytes_eq path) es)) ≡ cond (bytes_eq path q) None (lookup (bytes_eq q) (e ∷ es))
remove-cond path q e es true here all rest = by (bytes_eq path q) refl
  where
    same : path ≡ e.0
    same = same_path path e.0 here

    by : (c : Bool) → bytes_eq path q ≡ c → lookup (bytes_eq q) es ≡ cond c None (cond (bytes_eq q e.0) (Some e.1) (lookup (bytes_eq q) es))
    by true c =
        let is : q ≡ e.0 = sym (same_path path q c) ∙ same in
        ap (λ p. lookup (bytes_eq p) es) is ∙ none-behind e.0 es all
    by false c = sym (ap (λ d. cond d (Some e.1) (lookup (bytes_eq q) es)) (ap (bytes_eq q) (sym same) ∙ symm q path ∙ c))
remove-cond path q e es false here all rest = by (bytes_eq q e.0) refl
  where
    by : (c : Bool) → bytes_eq q e.0 ≡ c → cond c (Some e.1) (lookup (bytes_eq q) (remove_entry (bytes_eq path) es)) ≡ cond (bytes_eq path q) None (cond c (Some e.1) (lookup (bytes_eq q) es))
    by true c =
        let other : bytes_eq path q ≡ false = ap (bytes_eq path) (same_path q e.0 c) ∙ here in
        sym (ap (λ d. cond d None (Some e.1)) other)
    by false c = rest

pub file-without : (path q : List ℕ) (files : Files) → AreInPathOrder files → lookup (bytes_eq q) (remove_entry (bytes_eq path) files) ≡ cond (bytes_eq path q) None (lookup (bytes_eq q) files)
unfolding IsStrictlySortedBy
file-without path q [] order = by (bytes_eq path q)
  where
    by : (b : Bool) → None ≡ cond {A = Option File} b None None
    by true = refl
    by false = refl
file-without path q (e ∷ es) order = remove-cond path q e es (bytes_eq path e.0) refl order.0 (file-without path q es order.1)

-- ---- texts

text-cond : (b : Bool) (f o : Option File) → option_and_then text_of (cond b f o) ≡ cond b (option_and_then text_of f) (option_and_then text_of o)
text-cond true f o = refl
text-cond false f o = refl

pub set-texts : (path : List ℕ) (f g : File) (files : Files) → file_at path files ≡ Some g → TextsChangeAt path (text_of f) files (set_file path f files)
set-texts path f g files found q = ap (option_and_then text_of) (file-set path q f g files found) ∙ text-cond (bytes_eq path q) (Some f) (file_at q files)

pub with-texts : (path : List ℕ) (f : File) (files : Files) → TextsChangeAt path (text_of f) files (with_file path f files)
with-texts path f files q =
    ap (option_and_then text_of) (file_by_bytes q (with_file path f files) ∙ file-with path q f files ∙ ap (cond (bytes_eq path q) (Some f)) (sym (file_by_bytes q files))) ∙ text-cond (bytes_eq path q) (Some f) (file_at q files)

pub without-texts : (path : List ℕ) (files : Files) → AreInPathOrder files → TextsChangeAt path None files (without_file path files)
without-texts path files order q =
    ap (option_and_then text_of) (file_by_bytes q (without_file path files) ∙ ap (λ t. lookup (bytes_eq q) (remove_entry t files)) (same_test path) ∙ file-without path q files order ∙ ap (cond (bytes_eq path q) None) (sym (file_by_bytes q files)))
    ∙ text-cond (bytes_eq path q) None (file_at q files)

-- the text that is set is that of the path
pub own : (path : List ℕ) (text : Option (List ℕ)) (old new : Files) → TextsChangeAt path text old new → text_at path new ≡ text
own path text old new changes = changes path ∙ ap (λ b. cond b text (text_at path old)) ((bytes_decides path path).1 refl)

pub by_own : (path : List ℕ) (text : Option (List ℕ)) (old new : Files) → TextsChangeAt path text old new → TextsChangeAt path (text_at path new) old new
by_own path text old new changes = subst (λ t. TextsChangeAt path t old new) (sym (own path text old new changes)) changes

-- files that stay have the texts that they had
pub stays : (path : List ℕ) (files : Files) → TextsChangeAt path (text_at path files) files files
stays path files q = by (bytes_eq path q) refl
  where
    by : (b : Bool) → bytes_eq path q ≡ b → text_at q files ≡ cond b (text_at path files) (text_at q files)
    by true b = ap (λ p. text_at p files) (sym (same_path path q b))
    by false b = refl

-- ---- documents

opened-texts : (uri : List ℕ) (d : OpenDocument) (path : List ℕ) (files : Files) (o : Option File) → file_at path files ≡ o → TextsChangeAt path (Some d.text) files (opened_at uri d path files o)
opened-texts uri d path files None found = with-texts path (opened_file uri d empty_file) files
opened-texts uri d path files (Some f) found = set-texts path (opened_file uri d f) f files found

abbrev OwnTextsChange : List ℕ → Files → Files → Type 0
OwnTextsChange path old new = TextsChangeAt path (text_at path new) old new

module _ (path : List ℕ) (files : Files) where
  where_open-texts : (become : File → OpenDocument → Files) (o : Option File) → file_at path files ≡ o → ((f : File) (d : OpenDocument) → file_at path files ≡ Some f → f.document ≡ Some d → OwnTextsChange path files (become f d))
      → OwnTextsChange path files (with_open_file become files o)
  where_open-texts become None found each = stays path files
  where_open-texts become (Some f) found each = by f.document refl
    where
      by : (d : Option OpenDocument) → f.document ≡ d → OwnTextsChange path files (with_document become files f d)
      by None is = stays path files
      by (Some d) is = each f d found is

  closed-texts : (f : File) (k : Option (List ℕ)) → AreInPathOrder files → file_at path files ≡ Some f → OwnTextsChange path files (closed_at path files f k)
  closed-texts f None order found = by_own path None files (without_file path files) (without-texts path files order)
  closed-texts f (Some k) order found = by_own path _ files (set_file path (record f { document = None }) files) (set-texts path (record f { document = None }) f files found)

  saved-texts : (o : Option File) → file_at path files ≡ o → (q : List ℕ) → text_at q (with_open_file (λ f d. set_file path (saved_file f d) files) files o) ≡ text_at q files
  saved-texts None found q = refl
  saved-texts (Some f) found q = by f.document refl
    where
      by : (d : Option OpenDocument) → f.document ≡ d → text_at q (with_document (λ f d. set_file path (saved_file f d) files) files f d) ≡ text_at q files
      by None is = refl
      by (Some d) is =
          let new : text_of (saved_file f d) ≡ Some d.text = ap (λ o. text_of (record f { document = o; kept = Some d.text })) is in
          let old : text_at path files ≡ Some d.text = ap (option_and_then text_of) found ∙ ap (λ o. text_of (record f { document = o })) is in
          set-texts path (saved_file f d) f files found q ∙ ap (λ t. cond (bytes_eq path q) t (text_at q files)) (new ∙ sym old) ∙ sym (stays path files q)

pub texts_change : TextsChangeAtOnePath
texts_change = record {
  opened = λ uri d path files. opened-texts uri d path files (file_at path files) refl;
  changed = λ version encoding changes path files. where_open-texts path files (λ f d. set_file path (changed_file version encoding changes f d) files) (file_at path files) refl
      (λ f d found is. by_own path _ files (set_file path (changed_file version encoding changes f d) files) (set-texts path (changed_file version encoding changes f d) f files found));
  saved = λ path files q. saved-texts path files (file_at path files) refl q;
  closed = λ path files order. where_open-texts path files (λ f d. closed_at path files f f.kept) (file_at path files) refl
      (λ f d found is. closed-texts path files f f.kept order found);
}
