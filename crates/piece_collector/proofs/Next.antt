-- What next_job gives is the first wanted path of the events
use Rattle.std.proofs.Common.{◌≡◌, ℕ, Bool, true, false, cond, ◌||◌, List, [], ◌∷◌, Option, Some, None, refl, sym, ap, ◌∙◌, option_map, IsTrue, unwrap_or, String, BTreeMap}
use Rattle.std.specs.Str.{bytes_eq}
use Rattle.std.specs.declared.alloc.Global.{Global}
use Rattle.std.specs.declared.cmp.Ordering.{Ordering}
use Rattle.std.specs.declared.cmp.Ordering.TheVariants.{Less, Equal, Greater}
use Rattle.std.specs.BTreeMap.{get_by_text}
use Rattle.std.specs.List.{list_any, filter}
use Rattle.std.specs.Cmp.Lexicographic.{slice_cmp, nat_list_cmp_total, nat_list_eq_equiv, bytes_decides}
use Rattle.std.specs.Ordering.{nat_cmp, is_lt, is_eq, ordering_reverse}
use Rattle.std.proofs.lemmas.Map.Text.{is_eq-slice_cmp}
use Rattle.piece_collector.specs.Views.{SlotView, BoardView, seen, done_at}
use Rattle.piece_collector.specs.History.{Entry, Gave, State, Wanted, Out, Held, Standing, is_before, wants, standing, history, stands_at, is_wanted, paths, earlier, first, first_wanted, text_of, stamp_of, state_of, since}
use Rattle.piece_collector.specs.Events.{Event, NextJob}
use Rattle.piece_collector.specs.Board.{IsAfter, slot_at, IsFirstWanted}
use Rattle.piece_collector.proofs.Standing.{standing-job, after_job, given}
use Rattle.piece_collector.proofs.IsAfter.{stands_done, stands_same}
use Rattle.piece_collector.proofs.Search.{wanted_known, filter_has, filter_only, not_before_self}

less_of : (r : Ordering) → is_lt r ≡ true → r ≡ Less
less_of Less h = refl
less_of Equal h = absurd (cc)
less_of Greater h = absurd (cc)

-- before is transitive
before_before : (p q r : List ℕ) → is_before p q ≡ true → is_before q r ≡ true → is_before p r ≡ true
before_before p q r a b = ap is_lt (nat_list_cmp_total.trans p q r (less_of _ a) (less_of _ b))

-- of two paths neither of which is before the other both are one
same_path : (p q : List ℕ) → is_before p q ≡ false → is_before q p ≡ false → p ≡ q
same_path p q a b = at (slice_cmp nat_cmp p q) refl a
  where
    at : (r : Ordering) → slice_cmp nat_cmp p q ≡ r → is_lt r ≡ false → p ≡ q
    at Less e h = absurd (cc)
    at Equal e h = (bytes_decides p q).0 (sym (is_eq-slice_cmp p q) ∙ ap is_eq e)
    at Greater e h = absurd (let x : is_before q p ≡ true = ap is_lt (nat_list_cmp_total.antisymm q p ∙ ap ordering_reverse e) in let y : true ≡ false = sym x ∙ b in cc)

pub first_none : (ps : List (List ℕ)) → first ps ≡ None → (q : List ℕ) → list_any (bytes_eq q) ps ≡ false
first_none [] h q = refl
first_none (p ∷ ps) h q = absurd (cc)

-- the first of some paths is one of them, and none of them is before it
pub first_is : (ps : List (List ℕ)) (p : List ℕ) → first ps ≡ Some p → IsTrue (list_any (bytes_eq p) ps) × ((q : List ℕ) → IsTrue (list_any (bytes_eq q) ps) → is_before q p ≡ false)
first_is [] p h = absurd (cc)
first_is (x ∷ ps) p h = at (first ps) refl h (first_is ps)
  where
    at : (g : Option (List ℕ)) → first ps ≡ g → Some (earlier x g) ≡ Some p → ((p : List ℕ) → first ps ≡ Some p → IsTrue (list_any (bytes_eq p) ps) × ((q : List ℕ) → IsTrue (list_any (bytes_eq q) ps) → is_before q p ≡ false))
        → IsTrue (bytes_eq p x || list_any (bytes_eq p) ps) × ((q : List ℕ) → IsTrue (bytes_eq q x || list_any (bytes_eq q) ps) → is_before q p ≡ false)
    at None e h f =
        let same : x ≡ p = ap (λ o. unwrap_or o []) h in
        (is_in same, λ q i. ap (is_before q) (sym same) ∙ alone q (bytes_eq q x) refl i)
      where
        is_in : x ≡ p → IsTrue (bytes_eq p x || list_any (bytes_eq p) ps)
        is_in same = rw ((bytes_decides p x).1 (sym same)) refl

        alone : (q : List ℕ) (b : Bool) → bytes_eq q x ≡ b → IsTrue (b || list_any (bytes_eq q) ps) → is_before q x ≡ false
        alone q true d i = not_before_self x q (is_eq-slice_cmp q x ∙ d)
        alone q false d i = absurd (let y : true ≡ false = sym i ∙ first_none ps e q in cc)
    at (Some y) e h f = which (is_before x y) refl (ap (λ o. unwrap_or o []) h) (f y e)
      where
        which : (b : Bool) → is_before x y ≡ b → cond b x y ≡ p → IsTrue (list_any (bytes_eq y) ps) × ((q : List ℕ) → IsTrue (list_any (bytes_eq q) ps) → is_before q y ≡ false)
            → IsTrue (bytes_eq p x || list_any (bytes_eq p) ps) × ((q : List ℕ) → IsTrue (bytes_eq q x || list_any (bytes_eq q) ps) → is_before q p ≡ false)
        which true b same r = (is_in, λ q i. ap (is_before q) (sym same) ∙ before q (bytes_eq q x) refl i)
          where
            is_in : IsTrue (bytes_eq p x || list_any (bytes_eq p) ps)
            is_in = rw ((bytes_decides p x).1 (sym same)) refl

            before : (q : List ℕ) (c : Bool) → bytes_eq q x ≡ c → IsTrue (c || list_any (bytes_eq q) ps) → is_before q x ≡ false
            before q true d i = not_before_self x q (is_eq-slice_cmp q x ∙ d)
            before q false d i = if_before (is_before q x) refl (r.1 q i)
              where
                if_before : (c : Bool) → is_before q x ≡ c → is_before q y ≡ false → c ≡ false
                if_before false c h = refl
                if_before true c h = absurd (let z : true ≡ false = sym (before_before q x y c b) ∙ h in cc)
        which false b same r = (is_in (bytes_eq p x), λ q i. ap (is_before q) (sym same) ∙ before q (bytes_eq q x) refl i)
          where
            is_in : (c : Bool) → IsTrue (c || list_any (bytes_eq p) ps)
            is_in true = refl
            is_in false = ap (λ w. list_any (bytes_eq w) ps) (sym same) ∙ r.0

            before : (q : List ℕ) (c : Bool) → bytes_eq q x ≡ c → IsTrue (c || list_any (bytes_eq q) ps) → is_before q y ≡ false
            before q true d i = ap (λ w. is_before w y) ((bytes_decides q x).0 d) ∙ b
            before q false d i = r.1 q i

-- there is one first wanted path at most
pub first_is_given : (o : ℕ) (es : List Event) (g : Option (List ℕ)) → IsFirstWanted o es g → first_wanted o (history o es) ≡ g
first_is_given o es None w = at (first_wanted o (history o es)) refl
  where
    at : (g : Option (List ℕ)) → first_wanted o (history o es) ≡ g → g ≡ None
    at None e = refl
    at (Some p) e =
        let i : IsTrue (wants (stands_at o es p)) = filter_only (λ p. wants (standing o p (history o es))) (paths (history o es)) p (first_is (filter (λ p. wants (standing o p (history o es))) (paths (history o es))) p e).0 in
        absurd (let x : true ≡ false = sym i ∙ w p in cc)
first_is_given o es (Some p) w = at (first_wanted o (history o es)) refl
  where
    ps : List (List ℕ)
    ps = filter (λ p. wants (standing o p (history o es))) (paths (history o es))

    here : (q : List ℕ) → IsTrue (wants (stands_at o es q)) → IsTrue (list_any (bytes_eq q) ps)
    here q h = filter_has (λ p. wants (standing o p (history o es))) (paths (history o es)) q h (wanted_known o (history o es) q h)

    at : (g : Option (List ℕ)) → first_wanted o (history o es) ≡ g → g ≡ Some p
    at None e = absurd (let x : true ≡ false = sym (here p w.0) ∙ first_none ps e p in cc)
    at (Some r) e =
        let f = first_is ps r e in
        ap Some (same_path r p (w.1 r (filter_only (λ p. wants (standing o p (history o es))) (paths (history o es)) r f.0)) (f.1 p (here p w.0)))

none_given : (o : ℕ) (h : List Entry) (q : List ℕ) → standing o q (Gave None ∷ h) ≡ option_map (λ x. x) (standing o q h)
none_given o h q = elim (text_of q h) as (λ w. option_map (λ t. record { text = t; stamp = stamp_of o q h; state = state_of q (stamp_of o q h) t (Gave None ∷ since q h) }) w ≡ option_map {U = Standing} (λ x. x) (option_map (λ t. record { text = t; stamp = stamp_of o q h; state = state_of q (stamp_of o q h) t (since q h) }) w)) [ None ↦ refl | Some t ↦ refl ]

-- no job was given
pub stands_none : (v : BoardView) (o : ℕ) (es : List Event) → IsFirstWanted o es None → IsAfter o v es → IsAfter o v (NextJob ∷ es)
stands_none v o es w s =
    let g = first_is_given o es None w in
    stands_same v o es NextJob (λ q x. x) (record { stamps = refl; each = λ q. ap (λ g. standing o q (Gave g ∷ history o es)) g ∙ none_given o (history o es) q }) (λ q x h. refl) s

gone_out : (p q : List ℕ) (x : Standing) → (bytes_eq p q ≡ true → is_wanted x.state ≡ true) → (b : Bool) → bytes_eq p q ≡ b → bytes_eq q p ≡ bytes_eq p q
    → slot_at q (after_job q p x) ≡ cond (bytes_eq p q) (record (slot_at q x) { is_out = true }) (slot_at q x)
gone_out p q x h false e d = rw (d, e) refl
gone_out p q x h true e d = rw (d, e) (at x.state (h e))
  where
    at : (a : State) → is_wanted a ≡ true → slot_at q (record x { state = given a }) ≡ record (slot_at q (record x { state = a })) { is_out = true }
    at Wanted h = refl
    at Out h = absurd (cc)
    at Held h = absurd (cc)

-- a job was given
pub stands_given : (m n : BTreeMap (String Global) SlotView) (last : ℕ) (l : Bool) (v : BoardView) (o : ℕ) (es : List Event) (p : List ℕ) → seen last m l ≡ v → v.is_lent ≡ false
    → IsFirstWanted o es (Some p) → ((q : List ℕ) → get_by_text n q ≡ done_at p (λ s. record s { is_out = true }) q (get_by_text m q)) → IsAfter o v es → IsAfter o (seen last n l) (NextJob ∷ es)
stands_given m n last l v o es p is here w put s =
    let g = first_is_given o es (Some p) w in
    stands_done m n last l v o es p (λ s. record s { is_out = true }) NextJob (λ q. after_job q p) is here put
    (record { stamps = refl; each = λ q. ap (λ g. standing o q (Gave g ∷ history o es)) g ∙ standing-job o p q (history o es) })
    (λ q x h. gone_out p q x (λ e. ap wants (sym h) ∙ (ap (λ r. wants (stands_at o es r)) (sym ((bytes_decides p q).0 e)) ∙ w.0)) (bytes_eq p q) refl (nat_list_eq_equiv.symm q p)) s
