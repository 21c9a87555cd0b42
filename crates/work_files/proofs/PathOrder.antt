-- Files whose paths ascend: what is done to them keeps the order, and no path comes twice.
use Rattle.std.proofs.Common.{◌≡◌, ℕ, ℤ, List, [], ◌∷◌, Bool, true, false, cond, Option, Some, None, nat_cmp, Ordering, Less, Equal, Greater, refl, sym, ap, subst, ◌∙◌}
use Rattle.std.specs.List.{AllByRecursion}
use Rattle.std.specs.List.Sorted.{IsStrictlySortedBy}
use Rattle.std.specs.Ordering.{match_ordering, ordering_reverse}
use Rattle.std.specs.Cmp.Lexicographic.{slice_cmp}
use Rattle.std.specs.Map.{keys_of}
use Rattle.std.specs.BTreeMap.{is_at}
use Rattle.std.proofs.lemmas.Cmp.{nat_list_cmp_total}
use Rattle.std.proofs.lemmas.Map.{keys-set_value}
use Rattle.doc_text.specs.Edits.{ChangeData}
use Rattle.doc_text.specs.declared.encoding.Encoding.{Encoding}
use Rattle.work_files.specs.Disk.{FileData}
use Rattle.work_files.specs.Files.{OpenDocument, File, Files, empty_file, file_at, with_file, set_file, without_file, are_apart, AreInPathOrder, disk_file, with_disk_files, from_disk, opened_file, opened_at, opened_files, with_document, with_open_file, changed_file, changed_files, saved_file, saved_files, closed_at, closed_files}

-- each of some paths comes after this one
abbrev pub AreBehind : List ℕ → List (List ℕ) → Type 0
AreBehind p paths = AllByRecursion (λ q. slice_cmp nat_cmp p q ≡ Less) paths

-- what comes after a path comes after each one before it
behind-later : (p q : List ℕ) (paths : List (List ℕ)) → slice_cmp nat_cmp p q ≡ Less → AreBehind q paths → AreBehind p paths
behind-later p q [] less all = tt
behind-later p q (r ∷ paths) less all = (nat_list_cmp_total.trans p q r less all.0, behind-later p q paths less all.1)

-- ---- a file put in its place

behind-match : (p path : List ℕ) (f : File) (e : List ℕ × File) (es rest : Files) (o : Ordering) → slice_cmp nat_cmp p path ≡ Less → AreBehind p (keys_of (e ∷ es)) → AreBehind p (keys_of rest)
    → AreBehind p (keys_of (match_ordering o ((path, f) ∷ e ∷ es) ((e.0, f) ∷ es) (e ∷ rest)))
behind-match p path f e es rest Less new all later = (new, all)
behind-match p path f e es rest Equal new all later = all
behind-match p path f e es rest Greater new all later = (all.0, later)

behind-with_file : (p path : List ℕ) (f : File) (es : Files) → slice_cmp nat_cmp p path ≡ Less → AreBehind p (keys_of es) → AreBehind p (keys_of (with_file path f es))
behind-with_file p path f [] new all = (new, tt)
behind-with_file p path f (e ∷ es) new all = behind-match p path f e es (with_file path f es) (slice_cmp nat_cmp path e.0) new all (behind-with_file p path f es new all.1)

order-match : (path : List ℕ) (f : File) (e : List ℕ × File) (es : Files) (o : Ordering) → slice_cmp nat_cmp path e.0 ≡ o → AreInPathOrder (e ∷ es) → AreInPathOrder (with_file path f es)
    → AreInPathOrder (match_ordering o ((path, f) ∷ e ∷ es) ((e.0, f) ∷ es) (e ∷ with_file path f es))
unfolding IsStrictlySortedBy
order-match path f e es Less is order later = ((is, behind-later path e.0 (keys_of es) is order.0), order)
order-match path f e es Equal is order later = order
order-match path f e es Greater is order later = (behind-with_file e.0 path f es (nat_list_cmp_total.antisymm e.0 path ∙ ap ordering_reverse is) order.0, later)

pub with_file-order : (path : List ℕ) (f : File) (files : Files) → AreInPathOrder files → AreInPathOrder (with_file path f files)
unfolding IsStrictlySortedBy
with_file-order path f [] order = (tt, tt)
with_file-order path f (e ∷ es) order = order-match path f e es (slice_cmp nat_cmp path e.0) refl order (with_file-order path f es order.1)

-- ---- another file in a place, and a file taken out

set_file-order : (path : List ℕ) (f : File) (files : Files) → AreInPathOrder files → AreInPathOrder (set_file path f files)
set_file-order path f files order = let P : List (List ℕ) → Type 0 = λ paths. IsStrictlySortedBy (slice_cmp nat_cmp) paths in subst P (sym (keys-set_value (is_at (slice_cmp nat_cmp path)) files f)) order

behind-cond : (p : List ℕ) (here : Bool) (e : List ℕ × File) (es rest : Files) → AreBehind p (keys_of (e ∷ es)) → AreBehind p (keys_of rest) → AreBehind p (keys_of (cond here es (e ∷ rest)))
behind-cond p true e es rest all later = all.1
behind-cond p false e es rest all later = (all.0, later)

behind-without_file : (p path : List ℕ) (es : Files) → AreBehind p (keys_of es) → AreBehind p (keys_of (without_file path es))
behind-without_file p path [] all = tt
behind-without_file p path (e ∷ es) all = behind-cond p (is_at (slice_cmp nat_cmp path) e.0) e es (without_file path es) all (behind-without_file p path es all.1)

order-cond : (path : List ℕ) (here : Bool) (e : List ℕ × File) (es : Files) → AreInPathOrder (e ∷ es) → AreInPathOrder (without_file path es) → AreInPathOrder (cond here es (e ∷ without_file path es))
unfolding IsStrictlySortedBy
order-cond path true e es order later = order.1
order-cond path false e es order later = (behind-without_file e.0 path es order.0, later)

without_file-order : (path : List ℕ) (files : Files) → AreInPathOrder files → AreInPathOrder (without_file path files)
unfolding IsStrictlySortedBy
without_file-order path [] order = tt
without_file-order path (e ∷ es) order = order-cond path (is_at (slice_cmp nat_cmp path) e.0) e es order (without_file-order path es order.1)

-- ---- no path twice

none-behind : (p : List ℕ) (files : Files) → AreBehind p (keys_of files) → file_at p files ≡ None
none-behind p [] all = refl
none-behind p (e ∷ es) all = rw all.0 (none-behind p es all.1)

pub order-apart : (files : Files) → AreInPathOrder files → are_apart files ≡ true
unfolding IsStrictlySortedBy
order-apart [] order = refl
order-apart (e ∷ es) order = rw (none-behind e.0 es order.0) (order-apart es order.1)

-- ---- files on disk

with_disk_files-order : (fs : List FileData) (files : Files) → AreInPathOrder files → AreInPathOrder (with_disk_files fs files)
with_disk_files-order [] files order = order
with_disk_files-order (f ∷ fs) files order = with_file-order f.path (disk_file f.root f.text) (with_disk_files fs files) (with_disk_files-order fs files order)

pub from_disk-order : (fs : List FileData) → AreInPathOrder (from_disk fs)
unfolding IsStrictlySortedBy
from_disk-order fs = with_disk_files-order fs [] tt

-- ---- documents

opened_at-order : (uri : List ℕ) (o : OpenDocument) (path : List ℕ) (files : Files) (found : Option File) → AreInPathOrder files → AreInPathOrder (opened_at uri o path files found)
opened_at-order uri o path files None order = with_file-order path (opened_file uri o empty_file) files order
opened_at-order uri o path files (Some f) order = set_file-order path (opened_file uri o f) files order

pub opened_files-order : (uri : List ℕ) (o : OpenDocument) (path : List ℕ) (files : Files) → AreInPathOrder files → AreInPathOrder (opened_files uri o path files)
opened_files-order uri o path files order = opened_at-order uri o path files (file_at path files) order

module _ (become : File → OpenDocument → Files) (files : Files) (order : AreInPathOrder files) (later : (f : File) (d : OpenDocument) → AreInPathOrder (become f d)) where
  with_document-order : (f : File) (d : Option OpenDocument) → AreInPathOrder (with_document become files f d)
  with_document-order f None = order
  with_document-order f (Some d) = later f d

  with_open_file-order : (found : Option File) → AreInPathOrder (with_open_file become files found)
  with_open_file-order None = order
  with_open_file-order (Some f) = with_document-order f f.document

pub changed_files-order : (version : ℤ) (encoding : Encoding) (changes : List ChangeData) (path : List ℕ) (files : Files) → AreInPathOrder files → AreInPathOrder (changed_files version encoding changes path files)
changed_files-order version encoding changes path files order =
    with_open_file-order (λ f d. set_file path (changed_file version encoding changes f d) files) files order (λ f d. set_file-order path (changed_file version encoding changes f d) files order) (file_at path files)

pub saved_files-order : (path : List ℕ) (files : Files) → AreInPathOrder files → AreInPathOrder (saved_files path files)
saved_files-order path files order = with_open_file-order (λ f d. set_file path (saved_file f d) files) files order (λ f d. set_file-order path (saved_file f d) files order) (file_at path files)

closed_at-order : (path : List ℕ) (files : Files) (f : File) (kept : Option (List ℕ)) → AreInPathOrder files → AreInPathOrder (closed_at path files f kept)
closed_at-order path files f None order = without_file-order path files order
closed_at-order path files f (Some kept) order = set_file-order path (record f { document = None }) files order

pub closed_files-order : (path : List ℕ) (files : Files) → AreInPathOrder files → AreInPathOrder (closed_files path files)
closed_files-order path files order = with_open_file-order (λ f d. closed_at path files f f.kept) files order (λ f d. closed_at-order path files f f.kept order) (file_at path files)
