-- Laws of the texts that a list of events makes known. A list of events has the latest first.
use Rattle.std.specs.Prelude.{◌≡◌, ◌↔◌, ℕ, ◌+◌, List, [], ◌∷◌, Option, Some, None, option_map, map, bytes_eq}
use Rattle.std.specs.Ordering.{nat_cmp}
use Rattle.std.specs.Cmp.Lexicographic.{slice_cmp}
use Rattle.std.specs.List.Sorted.{IsStrictlySortedBy}
use Rattle.std.specs.Map.{keys_of, lookup, update}
use Rattle.piece_collector.specs.Events.{Event, SetText, Remove, NextJob, Offer, Fail}
use Rattle.piece_collector.specs.History.{sets, history, stands_at}
use Rattle.piece_collector.specs.Views.{TextAt}
use Rattle.piece_collector.specs.Board.{current_text, IsTextsOf}

-- the text of p, if the events make p known
abbrev pub text_after : ℕ → List Event → List ℕ → Option (List ℕ)
text_after o es p = option_map (λ x. x.text) (stands_at o es p)

-- the same with its path and stamp
abbrev pub stamped_after : ℕ → List Event → List ℕ → Option TextAt
stamped_after o es p = option_map (current_text p) (stands_at o es p)

-- The texts of all paths after an event, from those before it: a set text is that of its path, a removed path has none, and no
-- other event changes a text.
abbrev pub next_texts : Event → (List ℕ → Option (List ℕ)) → List ℕ → Option (List ℕ)
next_texts (SetText p t) texts = update bytes_eq texts p (Some t)
next_texts (Remove p) texts = update bytes_eq texts p None
next_texts NextJob texts = texts
next_texts (Offer p s t) texts = texts
next_texts (Fail p s) texts = texts

-- the same with stamps, where a text that the event sets gets the stamp n
abbrev pub next_stamped : ℕ → Event → (List ℕ → Option TextAt) → List ℕ → Option TextAt
next_stamped n (SetText p t) texts = update bytes_eq texts p (Some (record { path = p; stamp = n; text = t }))
next_stamped n (Remove p) texts = update bytes_eq texts p None
next_stamped n NextJob texts = texts
next_stamped n (Offer p s t) texts = texts
next_stamped n (Fail p s) texts = texts

-- the texts after all these events, where none was known before
abbrev pub all_texts : List Event → List ℕ → Option (List ℕ)
all_texts [] = λ p. None
all_texts (e ∷ es) = next_texts e (all_texts es)

abbrev pub EachEventGivesTheTexts : Type 0
EachEventGivesTheTexts = (o : ℕ) (e : Event) (es : List Event) (p : List ℕ) → text_after o (e ∷ es) p ≡ next_texts e (text_after o es) p

-- the stamp of a text is the opening stamp and one for each text set up to it and with it
abbrev pub EachEventGivesTheStamps : Type 0
EachEventGivesTheStamps = (o : ℕ) (e : Event) (es : List Event) (p : List ℕ) → stamped_after o (e ∷ es) p ≡ next_stamped (o + sets (history o (e ∷ es))) e (stamped_after o es) p

-- whatever the opening stamp is
abbrev pub EventsGiveTheTexts : Type 0
EventsGiveTheTexts = (o : ℕ) (es : List Event) (p : List ℕ) → text_after o es p ≡ all_texts es p

abbrev pub OneListOfTexts : Type 0
OneListOfTexts = (o : ℕ) (es : List Event) (ts us : List TextAt) → IsTextsOf o es ts → IsTextsOf o es us → ts ≡ us

-- a path and its text, without the stamp
abbrev pub path_and_text : TextAt → List ℕ × List ℕ
path_and_text t = (t.path, t.text)

-- the texts of two lists of events that give each path the same text, whatever the stamps are
abbrev pub EqualTextsAreListedAlike : Type 0
EqualTextsAreListedAlike = (o n : ℕ) (es fs : List Event) (ts us : List TextAt) → IsTextsOf o es ts → IsTextsOf n fs us → ((p : List ℕ) → text_after o es p ≡ text_after n fs p)
    → map path_and_text ts ≡ map path_and_text us

-- a list of paths and texts, in path order, that has each path with the text which the events make known, if any
pub record ListsTexts (o : ℕ) (es : List Event) (files : List (List ℕ × List ℕ)) : Type 0 where
  pub ascends : IsStrictlySortedBy (slice_cmp nat_cmp) (keys_of files)
  pub each : (p : List ℕ) → lookup (λ q. bytes_eq p q) files ≡ text_after o es p

-- there is one, that of the current texts
abbrev pub TextsAreListedOnce : Type 0
TextsAreListedOnce = (o : ℕ) (es : List Event) (ts : List TextAt) → IsTextsOf o es ts → (files : List (List ℕ × List ℕ)) → ListsTexts o es files ↔ (map path_and_text ts ≡ files)
