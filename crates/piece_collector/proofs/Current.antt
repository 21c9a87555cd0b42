-- That each held piece is of the current text of its path
use Rattle.std.proofs.Common.{◌≡◌, ℕ, Bool, true, false, cond, List, Option, Some, None, refl, sym, ap, ◌∙◌, subst, IfSome, option_map, String, string_bytes, BTreeMap}
use Rattle.std.specs.Str.{bytes_eq}
use Rattle.std.specs.declared.alloc.Global.{Global}
use Rattle.std.specs.Map.{update, lookup}
use Rattle.std.specs.BTreeMap.{get_by_text, is_at}
use Rattle.std.specs.Cmp.Lexicographic.{slice_cmp, bytes_decides}
use Rattle.std.specs.Ordering.{nat_cmp}
use Rattle.piece_collector.specs.declared.verdict.Verdict.TheVariants.{Taken}
use Rattle.piece_collector.specs.Views.{SlotView, TextAt, text_in, done_at, verdict_at, AreCurrent}
use Rattle.piece_collector.specs.Lending.{piece_in}
use Rattle.piece_collector.proofs.IsAfter.{taken_fits, same_of, same_text}

abbrev IsCurrent : List ℕ → Option SlotView → Type 0
IsCurrent p w = IfSome w (λ s. IfSome s.piece (λ piece. piece ≡ text_in p s))

-- the slots stay
pub current_same : (m n : BTreeMap (String Global) SlotView) (l : Bool) → AreCurrent m l → n.entries ≡ m.entries → AreCurrent n l
current_same m n l c same here p =
    let P : List (String Global × SlotView) → Type 0 = λ es. IsCurrent p (lookup (is_at (λ k. slice_cmp nat_cmp p (string_bytes k))) es) in
    subst P (sym same) (c here p)

-- a path got another slot, or none
pub current_put : (m n : BTreeMap (String Global) SlotView) (l : Bool) (p : List ℕ) (w : Option SlotView) → AreCurrent m l → IsCurrent p w
    → ((q : List ℕ) → get_by_text n q ≡ update bytes_eq (get_by_text m) p w q) → AreCurrent n l
current_put m n l p w c new put here q =
    let P : Option SlotView → Type 0 = λ o. IsCurrent q o in
    subst P (sym (put q)) (at (bytes_eq p q) refl)
  where
    at : (b : Bool) → bytes_eq p q ≡ b → IsCurrent q (cond b w (get_by_text m q))
    at true e = let Q : List ℕ → Type 0 = λ r. IsCurrent r w in subst Q ((bytes_decides p q).0 e) new
    at false e = c here q

-- a path has a job out, or hasn't
pub current_out : (m n : BTreeMap (String Global) SlotView) (l : Bool) (p : List ℕ) (b : Bool) → AreCurrent m l
    → ((q : List ℕ) → get_by_text n q ≡ done_at p (λ s. record s { is_out = b }) q (get_by_text m q)) → AreCurrent n l
current_out m n l p b c put here q =
    let P : Option SlotView → Type 0 = λ o. IsCurrent q o in
    subst P (sym (put q)) (at (get_by_text m q) (c here q))
  where
    at : (o : Option SlotView) → IsCurrent q o → IsCurrent q (done_at p (λ s. record s { is_out = b }) q o)
    at None h = h
    at (Some s) h = elim (bytes_eq p q) as (λ d. IsCurrent q (Some (cond d (record s { is_out = b }) s))) [ true ↦ h | false ↦ h ]

-- a path has a piece that was taken
pub current_kept : (m n : BTreeMap (String Global) SlotView) (l : Bool) (T : TextAt) → AreCurrent m l → Taken ≡ verdict_at T.stamp T.text (get_by_text m T.path)
    → ((q : List ℕ) → get_by_text n q ≡ done_at T.path (λ s. record s { is_out = false; piece = Some T }) q (get_by_text m q)) → AreCurrent n l
current_kept m n l T c taken put here q =
    let P : Option SlotView → Type 0 = λ o. IsCurrent q o in
    subst P (sym (put q)) (at (get_by_text m q) (c here q) (bytes_eq T.path q) refl (λ e. ap (λ r. verdict_at T.stamp T.text (get_by_text m r)) (sym ((bytes_decides T.path q).0 e)) ∙ sym taken))
  where
    at : (o : Option SlotView) → IsCurrent q o → (b : Bool) → bytes_eq T.path q ≡ b → (bytes_eq T.path q ≡ true → verdict_at T.stamp T.text o ≡ Taken) → IsCurrent q (done_at T.path (λ s. record s { is_out = false; piece = Some T }) q o)
    at None h b e f = h
    at (Some s) h false e f = rw e h
    at (Some s) h true e f =
        let k = taken_fits T.stamp T.text s (f e) in
        rw e (same_text T (text_in q s) ((bytes_decides T.path q).0 e) (same_of _ _ k.0) ((bytes_decides T.text s.text).0 k.1))

-- what shows the piece of a path shows one of its current text
pub piece_shown : {B : Type 0} (shown : B → TextAt) (o : Option B) (p : List ℕ) (w : Option SlotView) → option_map shown o ≡ piece_in w → IsCurrent p w → IfSome o (λ b. IfSome w (λ s. shown b ≡ text_in p s))
piece_shown shown None p w e c = tt
piece_shown shown (Some b) p None e c = tt
piece_shown shown (Some b) p (Some s) e c =
    let P : Option TextAt → Type 0 = λ o. IfSome o (λ piece. piece ≡ text_in p s) in
    subst P (sym e) c
