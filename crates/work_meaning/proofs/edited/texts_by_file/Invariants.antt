use Rattle.std.proofs.Common.{◌≡◌, ◌<◌, ℕ, List, None, length, get_or, map}
use Rattle.std.specs.Prelude.{All, option_map, string_bytes, unwrap_or}
use Rattle.work_meaning.specs.Edited.{edit_view, text_after}
use Rattle.work_meaning.proofs.edited.texts_by_file.Given as goal

-- all places so far are empty
abbrev pub invariant-places : goal.invariant-places
invariant-places l = record {
  long : length l.texts.items ≡ l.counter;
  none : (n : ℕ) → get_or l.texts.items n None ≡ None;
}

-- the texts that are left, put over those that were put
abbrev pub invariant-edits : goal.invariant-edits
invariant-edits l = record {
  within : All (λ e. e.file < l.count) l.edits.items;
  long : length l.texts.items ≡ l.count;
  left : (n : ℕ) (t : List ℕ) → n < l.count → text_after (map edit_view l.edits.items) n (unwrap_or (get_or (map (option_map string_bytes) l.texts.items) n None) t) ≡ text_after (map edit_view l.fn.edits.items) n t;
}

abbrev pub decreases-edits : goal.decreases-edits
decreases-edits l = length l.edits.items
