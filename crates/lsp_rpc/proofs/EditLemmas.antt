-- A map from URIs to ranges beside the changes that it stands for, and their tokens.
use Rattle.std.proofs.Common.{◌≡◌, ℕ, List, [], ◌∷◌, ◌++◌, Bool, true, false, cond, Option, Some, option_map, unwrap_or, Ordering, Less, Equal, Greater, String, Vec, Global, string_bytes, string_cmp, nat_cmp, bytes_eq, flat_map, refl, sym, ap, ◌∙◌, append_assoc, append-nil}
use Rattle.std.proofs.lemmas.Map.Text.{is_eq-slice_cmp}
use Rattle.std.specs.BTreeMap.{insert_entry, is_at}
use Rattle.std.specs.Cmp.Lexicographic.{slice_cmp}
use Rattle.std.specs.Map.{lookup, remove_entry}
use Rattle.std.specs.Ordering.{match_ordering}
use Rattle.json.specs.Token.{Token}
use Rattle.json.specs.Tree.{members_tokens}
use Rattle.json.specs.Written.{Written}
use Rattle.serde_json.specs.Written.{members_outline}
use Rattle.doc_text.specs.declared.position.Range.{Range}
use Rattle.lsp_rpc.specs.Writing.{Appends}
use Rattle.lsp_rpc.specs.WorkspaceEdit.{Changes, further, ranges_at, with_ranges, changes_members, change_tokens, changes_view, document_ranges}
use Rattle.lsp_rpc.specs.declared.location.DocumentRanges.{DocumentRanges}

abbrev pub Entry : Type 0
Entry = String Global × Vec Range Global

-- ---- the map

view-match_ordering : (o : Ordering) (a b c : List Entry) → changes_view (match_ordering o a b c) ≡ match_ordering o (changes_view a) (changes_view b) (changes_view c)
view-match_ordering Less a b c = refl
view-match_ordering Equal a b c = refl
view-match_ordering Greater a b c = refl

view-insert_entry : (es : List Entry) (k : String Global) (v : Vec Range Global) → changes_view (insert_entry string_cmp es k v) ≡ insert_entry (slice_cmp nat_cmp) (changes_view es) (string_bytes k) v.items
view-insert_entry [] k v = refl
view-insert_entry (e ∷ es) k v = view-match_ordering (string_cmp k e.0) _ _ _ ∙ rw (view-insert_entry es k v)

removed : (b : Bool) (e : Entry) (es rest : List Entry) (left : Changes) → changes_view rest ≡ left → changes_view (cond b es (e ∷ rest)) ≡ cond b (changes_view es) ((string_bytes e.0, e.1.items) ∷ left)
removed true e es rest left h = refl
removed false e es rest left h = ap (λ cs. (string_bytes e.0, e.1.items) ∷ cs) h

abbrev pub is_at_text : List ℕ → String Global → Bool
is_at_text uri = is_at (λ k. slice_cmp nat_cmp uri (string_bytes k))

view-remove_entry : (uri : List ℕ) (es : List Entry) → changes_view (remove_entry (is_at_text uri) es) ≡ remove_entry (bytes_eq uri) (changes_view es)
view-remove_entry uri [] = refl
view-remove_entry uri (e ∷ es) = rw (is_eq-slice_cmp uri (string_bytes e.0)) (removed (bytes_eq uri (string_bytes e.0)) e es _ _ (view-remove_entry uri es))

abbrev pub items_in : Option (Vec Range Global) → List Range
items_in o = unwrap_or (option_map (λ v. v.items) o) []

found : (b : Bool) (e : Entry) (o : Option (Vec Range Global)) (p : Option (List Range)) → items_in o ≡ unwrap_or p [] → items_in (cond b (Some e.1) o) ≡ unwrap_or (cond b (Some e.1.items) p) []
found true e o p h = refl
found false e o p h = h

pub view-ranges_at : (uri : List ℕ) (es : List Entry) → items_in (lookup (is_at_text uri) es) ≡ ranges_at uri (changes_view es)
view-ranges_at uri [] = refl
view-ranges_at uri (e ∷ es) = rw (is_eq-slice_cmp uri (string_bytes e.0)) (found (bytes_eq uri (string_bytes e.0)) e _ _ (view-ranges_at uri es))

-- what the URI had was taken out, and goes in again with what it hadn't behind it
pub added : (es left new : List Entry) (d : DocumentRanges) (ranges : Vec Range Global) → left ≡ remove_entry (is_at_text (string_bytes d.uri)) es
    → (let before = items_in (lookup (is_at_text (string_bytes d.uri)) es) in ranges.items ≡ before ++ further before d.ranges.items) → new ≡ insert_entry string_cmp left d.uri ranges
    → changes_view new ≡ with_ranges (changes_view es) (document_ranges d)
added es left new d ranges taken whole put =
    ap changes_view put ∙ view-insert_entry left d.uri ranges
    ∙ rw (taken, view-remove_entry (string_bytes d.uri) es, whole, view-ranges_at (string_bytes d.uri) es) refl

-- ---- tokens

abbrev pub changes_tokens : List ℕ → Changes → List Token
changes_tokens text cs = flat_map (change_tokens text) cs

-- with the closing brace
pub changes-closed : (text : List ℕ) (cs : Changes) → changes_tokens text cs ++ Token.end_object ∷ [] ≡ members_tokens (members_outline (changes_members text cs))
changes-closed text [] = refl
changes-closed text (c ∷ cs) = append_assoc (change_tokens text c) (changes_tokens text cs) (Token.end_object ∷ []) ∙ ap (λ ts. change_tokens text c ++ ts) (changes-closed text cs)

-- what is written and what is left are all changes
pub record Writing (text : List ℕ) (start now : Written) (left all : Changes) : Type 0 where
  pub before : now.before ≡ start.before
  pub tokens : now.tokens ++ changes_tokens text left ≡ start.tokens ++ changes_tokens text all

pub started : {start : Written} (text : List ℕ) (all : Changes) → Writing text start start all all
started text all = record { before = refl; tokens = refl }

pub one_more : {start now next : Written} (text : List ℕ) (c : List ℕ × List Range) (left all : Changes) → Writing text start now (c ∷ left) all → Appends now (change_tokens text c) next → Writing text start next left all
one_more {start} {now} {next} text c left all w a = record {
  before = a.before ∙ w.before;
  tokens = ap (λ ts. ts ++ changes_tokens text left) a.tokens ∙ append_assoc now.tokens (change_tokens text c) (changes_tokens text left) ∙ w.tokens;
}

pub finished : {start now : Written} (text : List ℕ) (all : Changes) → Writing text start now [] all → Appends start (changes_tokens text all) now
finished {start} {now} text all w = record { before = w.before; tokens = sym (append-nil now.tokens) ∙ w.tokens }
