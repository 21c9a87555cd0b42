-- The texts after some events
use Rattle.std.proofs.Common.{◌≡◌, ℕ, List, [], ◌∷◌, Option, Some, refl, ap, ◌∙◌, cond}
use Rattle.std.specs.Str.{bytes_eq}
use Rattle.piece_collector.specs.Events.{Event, SetText, Remove, NextJob, Offer, Fail}
use Rattle.collector_laws.specs.TextLaws.{text_after, next_texts, all_texts, EachEventGivesTheTexts, EventsGiveTheTexts}

-- texts that are the same before an event are so after it
next_same : (e : Event) (before same : List ℕ → Option (List ℕ)) → ((p : List ℕ) → before p ≡ same p) → (p : List ℕ) → next_texts e before p ≡ next_texts e same p
next_same (SetText q t) before same h p = ap (cond (bytes_eq q p) (Some t)) (h p)
next_same (Remove q) before same h p = ap (cond (bytes_eq q p) _) (h p)
next_same NextJob before same h p = h p
next_same (Offer q s t) before same h p = h p
next_same (Fail q s) before same h p = h p

pub all_given : EachEventGivesTheTexts → EventsGiveTheTexts
all_given each o [] p = refl
all_given each o (e ∷ es) p = each o e es p ∙ next_same e (text_after o es) (all_texts es) (all_given each o es) p
