-- What each call does to the texts of the known paths
use Rattle.std.proofs.Common.{◌≡◌, ℕ, Bool, true, false, cond, List, Option, Some, None, refl, sym, ap, ◌∙◌, option_map, String, BTreeMap}
use Rattle.std.specs.Str.{bytes_eq}
use Rattle.std.specs.declared.alloc.Global.{Global}
use Rattle.std.specs.Map.{update}
use Rattle.std.specs.BTreeMap.{get_by_text}
use Rattle.piece_collector.specs.Views.{SlotView, BoardView, seen, known_text, done_at}
use Rattle.piece_collector.proofs.Index.{opened, slot_seen}

abbrev text_of_slot : Option SlotView → Option (List ℕ)
text_of_slot o = option_map (λ s. s.text) o

-- a path got another slot, or none
pub texts_put : (m n : BTreeMap (String Global) SlotView) (last next : ℕ) (l : Bool) (v : BoardView) (p : List ℕ) (x : Option SlotView) → seen last m l ≡ v → v.is_lent ≡ false
    → ((q : List ℕ) → get_by_text n q ≡ update bytes_eq (get_by_text m) p x q)
    → (q : List ℕ) → known_text q (seen next n l) ≡ update bytes_eq (λ r. known_text r v) p (text_of_slot x) q
texts_put m n last next l v p x is here put q =
    let k = opened last m l v is here in
    ap text_of_slot (slot_seen next n l q k.0 ∙ put q) ∙ at (bytes_eq p q) (ap text_of_slot (sym (k.1 q)))
  where
    at : (b : Bool) → text_of_slot (get_by_text m q) ≡ known_text q v → text_of_slot (cond b x (get_by_text m q)) ≡ cond b (text_of_slot x) (known_text q v)
    at true h = refl
    at false h = h

-- a slot was changed, and kept its text
pub texts_same : (m n : BTreeMap (String Global) SlotView) (last : ℕ) (l : Bool) (v : BoardView) (p : List ℕ) (f : SlotView → SlotView) → seen last m l ≡ v → v.is_lent ≡ false
    → ((s : SlotView) → (f s).text ≡ s.text) → ((q : List ℕ) → get_by_text n q ≡ done_at p f q (get_by_text m q))
    → (q : List ℕ) → known_text q (seen last n l) ≡ known_text q v
texts_same m n last l v p f is here keeps put q =
    let k = opened last m l v is here in
    ap text_of_slot (slot_seen last n l q k.0 ∙ put q) ∙ (at (get_by_text m q) ∙ ap text_of_slot (sym (k.1 q)))
  where
    at : (o : Option SlotView) → text_of_slot (done_at p f q o) ≡ text_of_slot o
    at None = refl
    at (Some s) = elim (bytes_eq p q) as (λ b. Some (cond b (f s) s).text ≡ Some s.text) [ true ↦ ap Some (keeps s) | false ↦ refl ]
