-- What each call does to what a board stands for
use Rattle.std.proofs.Common.{◌≡◌, ℕ, ◌+◌, Bool, true, false, cond, not, ◌&&◌, ◌==◌, nat_lt, List, ◌∷◌, Option, Some, None, refl, sym, ap, ◌∙◌, arith, option_map, is_some, String, BTreeMap}
use Rattle.std.specs.Str.{bytes_eq}
use Rattle.std.specs.declared.alloc.Global.{Global}
use Rattle.std.specs.Map.{update}
use Rattle.std.specs.BTreeMap.{get_by_text}
use Rattle.std.specs.Cmp.Lexicographic.{nat_list_eq_equiv, bytes_decides}
use Rattle.std.proofs.lemmas.Bool.Decides.{nat_tests}
use Rattle.piece_collector.specs.declared.verdict.Verdict.{Verdict}
use Rattle.piece_collector.specs.declared.verdict.Verdict.TheVariants.{Taken, Stale, Foreign, Doubled}
use Rattle.piece_collector.specs.Events.{Event, SetText, Remove, Offer, Fail}
use Rattle.piece_collector.specs.History.{State, Wanted, Out, Held, Standing, sets, is_held, is_wanted, wants, history, stands_at, verdict_on, failure_on}
use Rattle.piece_collector.specs.Views.{SlotView, BoardView, TextAt, seen, slot_of, done_at, verdict_at, failure_at, is_wanting}
use Rattle.piece_collector.specs.Board.{IsAfter, slot_at, current_text, is_out_in}
use Rattle.piece_collector.proofs.Index.{opened, slot_seen}
use Rattle.piece_collector.proofs.Standing.{standing-set, standing-remove, standing-offer, standing-fail, after_offer, after_fail, failed}

-- what a slot says of its path

has_piece : (p : List ℕ) (x : Standing) → is_some (slot_at p x).piece ≡ is_held x.state
has_piece p x = elim x.state as (λ a. is_some (cond (is_held a) (Some (current_text p x)) None) ≡ is_held a) [ Wanted ↦ refl | Out ↦ refl | Held ↦ refl ]

pub verdict_seen : (s : ℕ) (t p : List ℕ) (w : Option Standing) → verdict_at s t (option_map (slot_at p) w) ≡ verdict_on s t w
verdict_seen s t p None = refl
verdict_seen s t p (Some x) = ap (λ b. cond (nat_lt s x.stamp) Stale (cond (nat_lt x.stamp s) Foreign (cond b Doubled (cond (bytes_eq t x.text) Taken Foreign)))) (has_piece p x)

pub failure_seen : (s : ℕ) (p : List ℕ) (w : Option Standing) → failure_at s (option_map (slot_at p) w) ≡ failure_on s w
failure_seen s p None = refl
failure_seen s p (Some x) = ap (λ b. cond (nat_lt s x.stamp) Stale (cond (nat_lt x.stamp s) Foreign (cond b Doubled Taken))) (has_piece p x)

pub wanting_seen : (p : List ℕ) (w : Option Standing) → is_wanting (option_map (slot_at p) w) ≡ wants w
wanting_seen p None = refl
wanting_seen p (Some x) = elim x.state as (λ a. (not (is_some (cond (is_held a) (Some (current_text p x)) None)) && not (is_out_in a)) ≡ is_wanted a) [ Wanted ↦ refl | Out ↦ refl | Held ↦ refl ]

-- a text was set
pub stands_set : (m n : BTreeMap (String Global) SlotView) (last : ℕ) (l : Bool) (v : BoardView) (o : ℕ) (es : List Event) (p t : List ℕ) → seen last m l ≡ v → v.is_lent ≡ false
    → ((q : List ℕ) → get_by_text n q ≡ update bytes_eq (get_by_text m) p (Some (record { text = t; stamp = last + 1; is_out = false; piece = None })) q)
    → IsAfter o v es → IsAfter o (seen (last + 1) n l) (SetText p t ∷ es)
stands_set m n last l v o es p t is here put s =
    let k = opened last m l v is here in
    let e : last + 1 ≡ o + (sets (history o es) + 1) = omega (arith, ap (λ b. b.last) is ∙ s.last) in
    record {
      last = e;
      each = λ q. slot_seen (last + 1) n l q k.0 ∙ (put q ∙ (at q (bytes_eq p q) refl (nat_list_eq_equiv.symm q p) e (k.1 q) ∙ sym (ap (option_map (slot_at q)) (standing-set o p q t (history o es)))));
    }
  where
    at : (q : List ℕ) (b : Bool) → bytes_eq p q ≡ b → bytes_eq q p ≡ bytes_eq p q → last + 1 ≡ o + (sets (history o es) + 1) → slot_of q v ≡ get_by_text m q
        → cond (bytes_eq p q) (Some (record { text = t; stamp = last + 1; is_out = false; piece = None })) (get_by_text m q)
        ≡ option_map (slot_at q) (cond (bytes_eq q p) (Some (record { text = t; stamp = o + (sets (history o es) + 1); state = Wanted })) (stands_at o es q))
    at q true h d e k = rw (d, h) (ap (λ n. Some (record { text = t; stamp = n; is_out = false; piece = None })) e)
    at q false h d e k = rw (d, h) (sym k ∙ s.each q)

-- a path was forgotten
pub stands_removed : (m n : BTreeMap (String Global) SlotView) (last : ℕ) (l : Bool) (v : BoardView) (o : ℕ) (es : List Event) (p : List ℕ) → seen last m l ≡ v → v.is_lent ≡ false
    → ((q : List ℕ) → get_by_text n q ≡ update bytes_eq (get_by_text m) p None q)
    → IsAfter o v es → IsAfter o (seen last n l) (Remove p ∷ es)
stands_removed m n last l v o es p is here put s =
    let k = opened last m l v is here in
    record {
      last = ap (λ b. b.last) is ∙ s.last;
      each = λ q. slot_seen last n l q k.0 ∙ (put q ∙ (at q (bytes_eq p q) refl (nat_list_eq_equiv.symm q p) (k.1 q) ∙ sym (ap (option_map (slot_at q)) (standing-remove o p q (history o es)))));
    }
  where
    at : (q : List ℕ) (b : Bool) → bytes_eq p q ≡ b → bytes_eq q p ≡ bytes_eq p q → slot_of q v ≡ get_by_text m q
        → cond (bytes_eq p q) None (get_by_text m q) ≡ option_map (slot_at q) (cond (bytes_eq q p) None (stands_at o es q))
    at q true h d k = rw (d, h) refl
    at q false h d k = rw (d, h) (sym k ∙ s.each q)

-- the event e makes of each standing what a says
pub record Makes (o : ℕ) (es : List Event) (e : Event) (a : List ℕ → Standing → Standing) : Type 0 where
  pub stamps : sets (history o (e ∷ es)) ≡ sets (history o es)
  pub each : (q : List ℕ) → stands_at o (e ∷ es) q ≡ option_map (a q) (stands_at o es q)

-- the slot of p was changed by f
pub stands_done : (m n : BTreeMap (String Global) SlotView) (last : ℕ) (l : Bool) (v : BoardView) (o : ℕ) (es : List Event) (p : List ℕ) (f : SlotView → SlotView) (e : Event) (a : List ℕ → Standing → Standing)
    → seen last m l ≡ v → v.is_lent ≡ false → ((q : List ℕ) → get_by_text n q ≡ done_at p f q (get_by_text m q)) → Makes o es e a
    → ((q : List ℕ) (x : Standing) → stands_at o es q ≡ Some x → slot_at q (a q x) ≡ cond (bytes_eq p q) (f (slot_at q x)) (slot_at q x))
    → IsAfter o v es → IsAfter o (seen last n l) (e ∷ es)
stands_done m n last l v o es p f e a is here put makes fits s =
    let k = opened last m l v is here in
    record {
      last = ap (λ b. b.last) is ∙ (s.last ∙ ap (λ n. o + n) (sym makes.stamps));
      each = λ q. slot_seen last n l q k.0 ∙ (put q ∙ (ap (done_at p f q) (sym (k.1 q) ∙ s.each q) ∙ (at q (stands_at o es q) refl ∙ sym (ap (option_map (slot_at q)) (makes.each q)))));
    }
  where
    at : (q : List ℕ) (w : Option Standing) → stands_at o es q ≡ w → done_at p f q (option_map (slot_at q) w) ≡ option_map (slot_at q) (option_map (a q) w)
    at q None h = refl
    at q (Some x) h = ap Some (sym (fits q x h))

-- no slot was changed
pub stands_same : (v : BoardView) (o : ℕ) (es : List Event) (e : Event) (a : List ℕ → Standing → Standing) → Makes o es e a
    → ((q : List ℕ) (x : Standing) → stands_at o es q ≡ Some x → slot_at q (a q x) ≡ slot_at q x) → IsAfter o v es → IsAfter o v (e ∷ es)
stands_same v o es e a makes fits s = record {
  last = s.last ∙ ap (λ n. o + n) (sym makes.stamps);
  each = λ q. s.each q ∙ (at q (stands_at o es q) refl ∙ sym (ap (option_map (slot_at q)) (makes.each q)));
}
  where
    at : (q : List ℕ) (w : Option Standing) → stands_at o es q ≡ w → option_map (slot_at q) w ≡ option_map (slot_at q) (option_map (a q) w)
    at q None h = refl
    at q (Some x) h = ap Some (sym (fits q x h))

-- offers

offer_makes : (o : ℕ) (es : List Event) (p : List ℕ) (s : ℕ) (t : List ℕ) → Makes o es (Offer p s t) (λ q. after_offer q p s t)
offer_makes o es p s t = record { stamps = refl; each = λ q. standing-offer o p s t q (history o es) }

stamp_fits : (s n : ℕ) (r : Verdict) → cond (nat_lt s n) Stale (cond (nat_lt n s) Foreign r) ≡ Taken → (s == n) ≡ true
stamp_fits s n r e = grind (arith, nat_tests)

pub same_of : (a b : ℕ) → (a == b) ≡ true → a ≡ b
same_of a b e = grind (arith, nat_tests)

text_fits : (a b c d : Bool) → cond a Stale (cond b Foreign (cond c Doubled (cond d Taken Foreign))) ≡ Taken → d ≡ true
text_fits true b c d e = absurd (cc)
text_fits false true c d e = absurd (cc)
text_fits false false true d e = absurd (cc)
text_fits false false false true e = refl
text_fits false false false false e = absurd (cc)

pub taken_fits : (s : ℕ) (t : List ℕ) (x : SlotView) → verdict_at s t (Some x) ≡ Taken → ((s == x.stamp) ≡ true) × (bytes_eq t x.text ≡ true)
taken_fits s t x e = (stamp_fits s x.stamp _ e, text_fits (nat_lt s x.stamp) (nat_lt x.stamp s) (is_some x.piece) (bytes_eq t x.text) e)

pub same_text : (T U : TextAt) → T.path ≡ U.path → T.stamp ≡ U.stamp → T.text ≡ U.text → T ≡ U
same_text T U a b c = λ i. record { path = a i; stamp = b i; text = c i }

kept : (T : TextAt) (q : List ℕ) (x : Standing) → (bytes_eq T.path q ≡ true → verdict_at T.stamp T.text (Some (slot_at q x)) ≡ Taken) → (b : Bool) → bytes_eq T.path q ≡ b → bytes_eq q T.path ≡ bytes_eq T.path q
    → slot_at q (after_offer q T.path T.stamp T.text x) ≡ cond (bytes_eq T.path q) (record (slot_at q x) { is_out = false; piece = Some T }) (slot_at q x)
kept T q x h false e d = rw (d, e) refl
kept T q x h true e d =
    let k = taken_fits T.stamp T.text (slot_at q x) (h e) in
    let same : current_text q x ≡ T = same_text _ _ (sym ((bytes_decides T.path q).0 e)) (sym (same_of _ _ k.0)) (sym ((bytes_decides T.text x.text).0 k.1)) in
    rw (d, e, k.0, k.1) (ap (λ u. record (slot_at q x) { is_out = false; piece = Some u }) same)

at_path : (p q : List ℕ) (o : ℕ) (es : List Event) (x : Standing) (v : BoardView) → bytes_eq p q ≡ true → stands_at o es q ≡ Some x → IsAfter o v es → slot_of p v ≡ Some (slot_at q x)
at_path p q o es x v e h s = ap (λ r. slot_of r v) ((bytes_decides p q).0 e) ∙ (s.each q ∙ ap (option_map (slot_at q)) h)

-- a piece was kept
pub stands_kept : (m n : BTreeMap (String Global) SlotView) (last : ℕ) (l : Bool) (v : BoardView) (o : ℕ) (es : List Event) (T : TextAt) → seen last m l ≡ v → v.is_lent ≡ false
    → Taken ≡ verdict_at T.stamp T.text (get_by_text m T.path) → ((q : List ℕ) → get_by_text n q ≡ done_at T.path (λ s. record s { is_out = false; piece = Some T }) q (get_by_text m q))
    → IsAfter o v es → IsAfter o (seen last n l) (Offer T.path T.stamp T.text ∷ es)
stands_kept m n last l v o es T is here taken put s =
    let k = opened last m l v is here in
    stands_done m n last l v o es T.path (λ s. record s { is_out = false; piece = Some T }) (Offer T.path T.stamp T.text) (λ q. after_offer q T.path T.stamp T.text) is here put (offer_makes o es T.path T.stamp T.text)
    (λ q x h. kept T q x (λ e. ap (verdict_at T.stamp T.text) (sym (at_path T.path q o es x v e h s) ∙ k.1 T.path) ∙ sym taken) (bytes_eq T.path q) refl (nat_list_eq_equiv.symm q T.path)) s

same_stamp : (s n : ℕ) → (s == n) ≡ true → (nat_lt s n ≡ false) × (nat_lt n s ≡ false)
same_stamp s n e = (grind (arith, nat_tests), grind (arith, nat_tests))

held_stays : (a : State) → is_held a ≡ true → Held ≡ a
held_stays Wanted e = absurd (cc)
held_stays Out e = absurd (cc)
held_stays Held e = refl

refused : (p : List ℕ) (s : ℕ) (t q : List ℕ) (x : Standing) → (bytes_eq q p ≡ true → verdict_on s t (Some x) ≡ Taken → ⊥) → (a b c d : Bool) → bytes_eq q p ≡ a → (s == x.stamp) ≡ b → bytes_eq t x.text ≡ c → is_held x.state ≡ d
    → after_offer q p s t x ≡ x
refused p s t q x unless false b c d ea eb ec ed = rw ea refl
refused p s t q x unless true false c d ea eb ec ed = rw (ea, eb) refl
refused p s t q x unless true true false d ea eb ec ed = rw (ea, eb, ec) refl
refused p s t q x unless true true true true ea eb ec ed = rw (ea, eb, ec) (ap (λ (a : State). record x { state = a }) (held_stays x.state ed))
refused p s t q x unless true true true false ea eb ec ed = absurd (unless ea (let k = same_stamp s x.stamp eb in rw (k.0, k.1, ed, ec) refl))

-- a piece was refused
pub stands_refused : (m : BTreeMap (String Global) SlotView) (last : ℕ) (l : Bool) (v : BoardView) (o : ℕ) (es : List Event) (T : TextAt) → seen last m l ≡ v → v.is_lent ≡ false
    → (verdict_at T.stamp T.text (get_by_text m T.path) ≡ Taken → ⊥) → IsAfter o v es → IsAfter o v (Offer T.path T.stamp T.text ∷ es)
stands_refused m last l v o es T is here unless s =
    let k = opened last m l v is here in
    stands_same v o es (Offer T.path T.stamp T.text) (λ q. after_offer q T.path T.stamp T.text) (offer_makes o es T.path T.stamp T.text)
    (λ q x h. ap (slot_at q) (refused T.path T.stamp T.text q x
    (λ d e. unless (ap (verdict_at T.stamp T.text) (sym (k.1 T.path) ∙ at_path T.path q o es x v (sym (nat_list_eq_equiv.symm q T.path) ∙ d) h s) ∙ (verdict_seen T.stamp T.text q (Some x) ∙ e)))
    (bytes_eq q T.path) (T.stamp == x.stamp) (bytes_eq T.text x.text) (is_held x.state) refl refl refl refl)) s

pub offer_verdict : (m : BTreeMap (String Global) SlotView) (last : ℕ) (l : Bool) (v : BoardView) (o : ℕ) (es : List Event) (p : List ℕ) (s : ℕ) (t : List ℕ) (r : Verdict) → seen last m l ≡ v → v.is_lent ≡ false
    → r ≡ verdict_at s t (get_by_text m p) → IsAfter o v es → r ≡ verdict_on s t (stands_at o es p)
offer_verdict m last l v o es p s t r is here e k =
    e ∙ (ap (verdict_at s t) (sym ((opened last m l v is here).1 p) ∙ k.each p) ∙ verdict_seen s t p (stands_at o es p))

-- failures

fail_makes : (o : ℕ) (es : List Event) (p : List ℕ) (s : ℕ) → Makes o es (Fail p s) (λ q. after_fail q p s)
fail_makes o es p s = record { stamps = refl; each = λ q. standing-fail o p s q (history o es) }

failure_fits : (s : ℕ) (x : SlotView) → failure_at s (Some x) ≡ Taken → (s == x.stamp) ≡ true
failure_fits s x e = stamp_fits s x.stamp _ e

wanted_again : (q : List ℕ) (x : Standing) → slot_at q (record x { state = failed x.state }) ≡ record (slot_at q x) { is_out = false }
wanted_again q x = elim x.state as (λ a. slot_at q (record x { state = failed a }) ≡ record (slot_at q (record x { state = a })) { is_out = false }) [ Wanted ↦ refl | Out ↦ refl | Held ↦ refl ]

again : (p : List ℕ) (s : ℕ) (q : List ℕ) (x : Standing) → (bytes_eq p q ≡ true → failure_at s (Some (slot_at q x)) ≡ Taken) → (b : Bool) → bytes_eq p q ≡ b → bytes_eq q p ≡ bytes_eq p q
    → slot_at q (after_fail q p s x) ≡ cond (bytes_eq p q) (record (slot_at q x) { is_out = false }) (slot_at q x)
again p s q x h false e d = rw (d, e) refl
again p s q x h true e d = let k = failure_fits s (slot_at q x) (h e) in rw (d, e, k) (wanted_again q x)

-- a path is wanted again
pub stands_failed : (m n : BTreeMap (String Global) SlotView) (last : ℕ) (l : Bool) (v : BoardView) (o : ℕ) (es : List Event) (p : List ℕ) (s : ℕ) → seen last m l ≡ v → v.is_lent ≡ false
    → Taken ≡ failure_at s (get_by_text m p) → ((q : List ℕ) → get_by_text n q ≡ done_at p (λ s. record s { is_out = false }) q (get_by_text m q))
    → IsAfter o v es → IsAfter o (seen last n l) (Fail p s ∷ es)
stands_failed m n last l v o es p s is here taken put k =
    let e = opened last m l v is here in
    stands_done m n last l v o es p (λ s. record s { is_out = false }) (Fail p s) (λ q. after_fail q p s) is here put (fail_makes o es p s)
    (λ q x h. again p s q x (λ d. ap (failure_at s) (sym (at_path p q o es x v d h k) ∙ e.1 p) ∙ sym taken) (bytes_eq p q) refl (nat_list_eq_equiv.symm q p)) k

failed_held : (a : State) → is_held a ≡ true → failed a ≡ a
failed_held Wanted e = refl
failed_held Out e = absurd (cc)
failed_held Held e = refl

unmoved : (p : List ℕ) (s : ℕ) (q : List ℕ) (x : Standing) → (bytes_eq q p ≡ true → failure_on s (Some x) ≡ Taken → ⊥) → (a b d : Bool) → bytes_eq q p ≡ a → (s == x.stamp) ≡ b → is_held x.state ≡ d
    → after_fail q p s x ≡ x
unmoved p s q x unless false b d ea eb ed = rw ea refl
unmoved p s q x unless true false d ea eb ed = rw (ea, eb) refl
unmoved p s q x unless true true true ea eb ed = rw (ea, eb) (ap (λ (a : State). record x { state = a }) (failed_held x.state ed))
unmoved p s q x unless true true false ea eb ed = absurd (unless ea (let k = same_stamp s x.stamp eb in rw (k.0, k.1, ed) refl))

-- a failure was refused
pub stands_unmoved : (m : BTreeMap (String Global) SlotView) (last : ℕ) (l : Bool) (v : BoardView) (o : ℕ) (es : List Event) (p : List ℕ) (s : ℕ) → seen last m l ≡ v → v.is_lent ≡ false
    → (failure_at s (get_by_text m p) ≡ Taken → ⊥) → IsAfter o v es → IsAfter o v (Fail p s ∷ es)
stands_unmoved m last l v o es p s is here unless k =
    let e = opened last m l v is here in
    stands_same v o es (Fail p s) (λ q. after_fail q p s) (fail_makes o es p s)
    (λ q x h. ap (slot_at q) (unmoved p s q x
    (λ d f. unless (ap (failure_at s) (sym (e.1 p) ∙ at_path p q o es x v (sym (nat_list_eq_equiv.symm q p) ∙ d) h k) ∙ (failure_seen s q (Some x) ∙ f)))
    (bytes_eq q p) (s == x.stamp) (is_held x.state) refl refl refl)) k

pub fail_verdict : (m : BTreeMap (String Global) SlotView) (last : ℕ) (l : Bool) (v : BoardView) (o : ℕ) (es : List Event) (p : List ℕ) (s : ℕ) (r : Verdict) → seen last m l ≡ v → v.is_lent ≡ false
    → r ≡ failure_at s (get_by_text m p) → IsAfter o v es → r ≡ failure_on s (stands_at o es p)
fail_verdict m last l v o es p s r is here e k =
    e ∙ (ap (failure_at s) (sym ((opened last m l v is here).1 p) ∙ k.each p) ∙ failure_seen s p (stands_at o es p))
