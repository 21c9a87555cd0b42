-- A board on which the text of each file was set.
use Rattle.std.proofs.Common.{◌≡◌, ℕ, ◌+◌, length, arith, List, [], ◌∷◌, ◌++◌, Bool, true, false, cond, Option, Some, None, Result, Ok, Err, option_map, fold, refl, sym, ap, subst, ◌∙◌, append_assoc, append-nil}
use Rattle.std.specs.Prelude.{bytes_eq, IsErrAnd}
use Rattle.std.specs.Cmp.Lexicographic.{bytes_decides}
use Rattle.std.specs.List.{cons_option}
use Rattle.std.specs.List.Sorted.{IsStrictlySortedBy}
use Rattle.std.specs.Map.{lookup}
use Rattle.std.specs.Option.{option_or}
use Rattle.std.specs.Ordering.{is_eq}
use Rattle.std.proofs.lemmas.Cmp.{nat_list_eq_equiv}
use Rattle.std.proofs.lemmas.Map.Text.{is_eq-slice_cmp}
use Rattle.collector_laws.specs.TextLaws.{text_after, all_texts, EventsGiveTheTexts}
use Rattle.piece_collector.specs.Board.{IsAfter, slot_at}
use Rattle.piece_collector.specs.Events.{Event, SetText}
use Rattle.piece_collector.specs.History.{Standing, sets, history, stands_at}
use Rattle.piece_collector.specs.Views.{BoardView}
use Rattle.work_files.specs.Files.{File, Files, text_of, text_at, workspace, AreInPathOrder}
use Rattle.work_space.specs.BoardTexts.{HoldsTexts, StampsRunOut, first_events}
use Rattle.work_space.proofs.Held.{text_in_workspace}
use Rattle.work_files.proofs.WorkspaceOrder.{Texts, TextsAscend, ascend-texts, paths_in}
use Rattle.work_update.proofs.ByPath.{AreBehind}

abbrev set_text : List Event → List ℕ × List ℕ → List Event
set_text events file = SetText file.0 file.1 ∷ events

none-behind : (p : List ℕ) (texts : Texts) → AreBehind p (paths_in texts) → lookup (bytes_eq p) texts ≡ None
none-behind p [] all = refl
none-behind p (e ∷ es) all = ap (λ b. cond b (Some e.1) (lookup (bytes_eq p) es)) (sym (is_eq-slice_cmp p e.0) ∙ ap is_eq all.0) ∙ none-behind p es all.1

set-texts : (texts : Texts) (events : List Event) (q : List ℕ) → TextsAscend texts → all_texts (fold set_text events texts) q ≡ option_or (lookup (bytes_eq q) texts) (all_texts events q)
unfolding IsStrictlySortedBy
set-texts [] events q order = refl
set-texts (e ∷ es) events q order = set-texts es (set_text events e) q order.1 ∙ by (bytes_eq q e.0) refl
  where
    by : (b : Bool) → bytes_eq q e.0 ≡ b
        → option_or (lookup (bytes_eq q) es) (cond (bytes_eq e.0 q) (Some e.1) (all_texts events q)) ≡ option_or (cond b (Some e.1) (lookup (bytes_eq q) es)) (all_texts events q)
    by true b =
        let none : lookup (bytes_eq q) es ≡ None = ap (λ p. lookup (bytes_eq p) es) ((bytes_decides q e.0).0 b) ∙ none-behind e.0 es order.0 in
        let here : bytes_eq e.0 q ≡ true = nat_list_eq_equiv.symm e.0 q ∙ b in
        ap (λ o. option_or o (cond (bytes_eq e.0 q) (Some e.1) (all_texts events q))) none ∙ ap (λ c. cond c (Some e.1) (all_texts events q)) here
    by false b = ap (λ c. option_or (lookup (bytes_eq q) es) (cond c (Some e.1) (all_texts events q))) (nat_list_eq_equiv.symm e.0 q ∙ b)

or-none : (o : Option (List ℕ)) → option_or o None ≡ o
or-none None = refl
or-none (Some t) = refl

slot-text : (p : List ℕ) (s : Option Standing) → option_map (λ u. u.text) (option_map (slot_at p) s) ≡ option_map (λ x. x.text) s
slot-text p None = refl
slot-text p (Some x) = refl

-- the texts after these events
pub texts_of_first : EventsGiveTheTexts → (o : ℕ) (files : Files) → AreInPathOrder files → (path : List ℕ) → text_after o (first_events (workspace files)) path ≡ text_at path files
texts_of_first law o files order path =
    law o (first_events (workspace files)) path ∙ set-texts (workspace files) [] path (ascend-texts files order) ∙ or-none (lookup (bytes_eq path) (workspace files)) ∙ text_in_workspace files order path

-- a board after them has the texts of the files
pub first_texts : EventsGiveTheTexts → (o : ℕ) (board : BoardView) (files : Files) → AreInPathOrder files → IsAfter o board (first_events (workspace files)) → HoldsTexts files board
first_texts law o board files order after path =
    ap (option_map (λ s. s.text)) (after.each path) ∙ slot-text path (stands_at o (first_events (workspace files)) path) ∙ texts_of_first law o files order path

-- ---- one file more

more-first : (x : List ℕ × File) (t : Option (List ℕ)) (rest more : Texts) (events first : List Event)
    → ((es : List Event) → fold set_text es more ≡ first ++ fold set_text es rest)
    → fold set_text events (cons_option (option_map (λ u. (x.0, u)) t) more) ≡ first ++ fold set_text events (cons_option (option_map (λ u. (x.0, u)) t) rest)
more-first x None rest more events first each = each events
more-first x (Some u) rest more events first each = each (set_text events (x.0, u))

one-first : (e : List ℕ × File) (t : Option (List ℕ)) (events : List Event) → fold set_text events (cons_option (option_map (λ u. (e.0, u)) t) []) ≡ fold set_text [] (cons_option (option_map (λ u. (e.0, u)) t) []) ++ events
one-first e None events = refl
one-first e (Some u) events = refl

more-events : (es : Files) (e : List ℕ × File) (events : List Event) → fold set_text events (workspace (es ++ e ∷ [])) ≡ first_events (workspace (e ∷ [])) ++ fold set_text events (workspace es)
more-events [] e events = one-first e (text_of e.1) events
more-events (x ∷ es) e events = more-first x (text_of x.1) (workspace es) (workspace (es ++ e ∷ [])) events (first_events (workspace (e ∷ []))) (more-events es e)

pub first_more : (es : Files) (e : List ℕ × File) → first_events (workspace (es ++ e ∷ [])) ≡ first_events (workspace (e ∷ [])) ++ first_events (workspace es)
first_more es e = more-events es e []

-- the board is as after the texts of the first files were set, and these are left
pub record HasSet (o : ℕ) (board : BoardView) (left all : Files) : Type 0 where
  pub front : Files
  pub parts : front ++ left ≡ all
  pub is_after : IsAfter o board (first_events (workspace front))

pub set_none : (o : ℕ) (board : BoardView) (all : Files) → IsAfter o board [] → HasSet o board all all
set_none o board all after = record { front = []; parts = refl; is_after = after }

pub set_more : (o : ℕ) (before after : BoardView) (e : List ℕ × File) (left all : Files) → HasSet o before (e ∷ left) all
    → ((events : List Event) → IsAfter o before events → IsAfter o after (first_events (workspace (e ∷ [])) ++ events)) → HasSet o after left all
set_more o before after e left all h set = record {
  front = h.front ++ e ∷ [];
  parts = append_assoc h.front (e ∷ []) left ∙ h.parts;
  is_after = subst (λ events. IsAfter o after events) (sym (first_more h.front e)) (set (first_events (workspace h.front)) h.is_after);
}

pub set_all : (o : ℕ) (board : BoardView) (left all : Files) → HasSet o board left all → left ≡ [] → IsAfter o board (first_events (workspace all))
set_all o board left all h none = subst (λ files. IsAfter o board (first_events (workspace files))) (sym (append-nil h.front) ∙ ap (λ l. h.front ++ l) (sym none) ∙ h.parts) h.is_after

-- ---- where a text was refused

-- what the exit of a `?` returns
pub refused_with : {T E : Type 0} (fault e : E) (r : Result T E) → IsErrAnd r (λ y. y ≡ fault) → r ≡ Err e → fault ≡ e
refused_with fault e (Ok x) h is = absurd h
refused_with fault e (Err y) h is = let same : y ≡ e = cc in sym h ∙ same

-- ---- how many texts were set

sets-on : (o : ℕ) (texts : Texts) (events : List Event) → sets (history o (fold set_text events texts)) ≡ length texts + sets (history o events)
sets-on o [] events = omega arith
sets-on o (e ∷ es) events =
    let one : sets (history o (set_text events e)) ≡ sets (history o events) + 1 = refl in
    omega (arith, sets-on o es (set_text events e), one)

-- one for each file that has a text
pub sets-first : (o : ℕ) (texts : Texts) → sets (history o (first_events texts)) ≡ length texts
sets-first o texts = omega (arith, sets-on o texts [])

-- a file that has a text
pub one_text : (path : List ℕ) (f : File) (text : List ℕ) → Some text ≡ text_of f → length (workspace ((path, f) ∷ [])) ≡ 1
one_text path f text is = ap (λ t. length {A = List ℕ × List ℕ} (cons_option (option_map (λ u. (path, u)) t) [])) (sym is)

texts-option : (t : Option (List ℕ × List ℕ)) (texts : Texts) → length (cons_option t texts) ≡ length (cons_option t []) + length texts
texts-option None texts = omega arith
texts-option (Some u) texts = omega arith

texts-cons : (e : List ℕ × File) (files : Files) → length (workspace (e ∷ files)) ≡ length (workspace (e ∷ [])) + length (workspace files)
texts-cons e files = texts-option (option_map (λ u. (e.0, u)) (text_of e.1)) (workspace files)

texts-append : (front files : Files) → length (workspace (front ++ files)) ≡ length (workspace front) + length (workspace files)
texts-append [] files = omega arith
texts-append (e ∷ front) files = omega (arith, texts-cons e (front ++ files), texts-cons e front, texts-append front files)

-- the text of the next file finds no stamp
pub set_refused : (o : ℕ) (board : BoardView) (e : List ℕ × File) (left all : Files) → HasSet o board (e ∷ left) all → StampsRunOut board.last (length (workspace (e ∷ []))) → StampsRunOut o (length (workspace all))
set_refused o board e left all h refused =
    let before = h.is_after.last in
    omega (arith, refused, before, sets-first o (workspace h.front), texts-append h.front (e ∷ left), texts-cons e left, ap (λ files. length (workspace files)) h.parts)
