-- That no path before the one at which the search for the next job begins is wanted
use Rattle.std.proofs.Common.{◌≡◌, ℕ, Bool, true, false, cond, not, ◌&&◌, List, [], ◌∷◌, Option, Some, None, refl, sym, ap, ◌∙◌, option_map, is_some, IsTrue, String, string_bytes, BTreeMap}
use Rattle.std.specs.Str.{bytes_eq}
use Rattle.std.specs.String.{string_cmp}
use Rattle.std.specs.declared.alloc.Global.{Global}
use Rattle.std.specs.declared.cmp.Ordering.{Ordering}
use Rattle.std.specs.declared.cmp.Ordering.TheVariants.{Less, Equal, Greater}
use Rattle.std.specs.declared.ops.Bound.TheVariants.{Included, Unbounded}
use Rattle.std.specs.Map.{update, lookup}
use Rattle.std.specs.BTreeMap.{is_at, get_by_text}
use Rattle.std.specs.BTreeMap.Range.{range_contains}
use Rattle.std.specs.BTreeSet.{BTreeSet, IsOrdered}
use Rattle.std.specs.List.{find, filter}
use Rattle.std.specs.Cmp.Lexicographic.{slice_cmp, nat_list_cmp_total, bytes_decides}
use Rattle.std.specs.Ordering.{nat_cmp, is_lt, is_le, ordering_reverse}
use Rattle.piece_collector.specs.History.{is_before}
use Rattle.piece_collector.specs.Views.{SlotView, is_wanting, is_unheld, done_at, IsNoneWantedBefore, IsPassed, IsIndexed}
use Rattle.piece_collector.proofs.Search.{first_found, none_found, none_is, unheld_of, unless_true}

abbrev Slots : Type 0
Slots = BTreeMap (String Global) SlotView

-- no path is before the empty one
pub not_before_start : (q from : List ℕ) → from ≡ [] → is_before q from ≡ false
not_before_start q from e = ap (is_before q) e ∙ at q
  where
    at : (q : List ℕ) → is_before q [] ≡ false
    at [] = refl
    at (x ∷ xs) = refl

pub not_both : (b : Bool) → b ≡ false → IsTrue b → {A : Type 0} → A
not_both b e h = absurd (let x : true ≡ false = sym h ∙ e in cc)

-- nothing is passed
pub passed_none : (m : Slots) (from : String Global) (l : Bool) → string_bytes from ≡ [] → IsPassed m from l
passed_none m from l e here q b = not_both _ (not_before_start q (string_bytes from) e) b

-- no path is wanted that wasn't
pub passed_by : (m n : Slots) (from : String Global) (l : Bool) → IsPassed m from l → ((q : List ℕ) → is_wanting (get_by_text m q) ≡ false → is_wanting (get_by_text n q) ≡ false) → IsPassed n from l
passed_by m n from l i keeps here q b = keeps q (i here q b)

-- the slots stay, and the search begins no later
pub passed_same : (m n : Slots) (from begin : String Global) (l : Bool) → IsPassed m from l → ((q : List ℕ) → IsTrue (is_before q (string_bytes begin)) → IsTrue (is_before q (string_bytes from))) → n.entries ≡ m.entries → IsPassed n begin l
passed_same m n from begin l i earlier same here q b = ap (λ es. is_wanting (lookup (is_at (λ k. slice_cmp nat_cmp q (string_bytes k))) es)) same ∙ i here q (earlier q b)

-- a path that isn't passed got another slot, and the search begins no later
pub passed_set : (m n : Slots) (from begin : String Global) (l : Bool) (p : List ℕ) (x : Option SlotView) → IsPassed m from l → ((q : List ℕ) → IsTrue (is_before q (string_bytes begin)) → IsTrue (is_before q (string_bytes from)))
    → is_before p (string_bytes begin) ≡ false → ((q : List ℕ) → get_by_text n q ≡ update bytes_eq (get_by_text m) p x q) → IsPassed n begin l
passed_set m n from begin l p x i earlier not_passed put here q b = ap is_wanting (put q) ∙ at (bytes_eq p q) refl
  where
    at : (c : Bool) → bytes_eq p q ≡ c → is_wanting (cond c x (get_by_text m q)) ≡ false
    at true e = not_both _ (ap (λ r. is_before r (string_bytes begin)) (sym ((bytes_decides p q).0 e)) ∙ not_passed) b
    at false e = i here q (earlier q b)

-- a path has no slot any more
pub unwanted_removed : (m n : Slots) (p : List ℕ) → ((q : List ℕ) → get_by_text n q ≡ update bytes_eq (get_by_text m) p None q) → (q : List ℕ) → is_wanting (get_by_text m q) ≡ false → is_wanting (get_by_text n q) ≡ false
unwanted_removed m n p put q h = ap is_wanting (put q) ∙ at (bytes_eq p q)
  where
    at : (c : Bool) → is_wanting (cond c None (get_by_text m q)) ≡ false
    at true = refl
    at false = h

-- a slot was changed to one that isn't wanted
pub unwanted_done : (m n : Slots) (p : List ℕ) (f : SlotView → SlotView) → ((s : SlotView) → is_wanting (Some (f s)) ≡ false) → ((q : List ℕ) → get_by_text n q ≡ done_at p f q (get_by_text m q))
    → (q : List ℕ) → is_wanting (get_by_text m q) ≡ false → is_wanting (get_by_text n q) ≡ false
unwanted_done m n p f none put q h = ap is_wanting (put q) ∙ at (get_by_text m q) h
  where
    at : (o : Option SlotView) → is_wanting o ≡ false → is_wanting (done_at p f q o) ≡ false
    at None h = refl
    at (Some s) h = elim (bytes_eq p q) as (λ c. is_wanting (Some (cond c (f s) s)) ≡ false) [ true ↦ none s | false ↦ h ]

pub unwanted_out : (s : SlotView) → is_wanting (Some (record s { is_out = true })) ≡ false
unwanted_out s = elim (is_some s.piece) as (λ b. (not b && false) ≡ false) [ true ↦ refl | false ↦ refl ]

pub unwanted_held : (o : Option SlotView) → is_unheld o ≡ false → is_wanting o ≡ false
unwanted_held o h = unless_true _ (λ w. not_both _ h (unheld_of o w))

-- no path before the first wanted one of the index is wanted
pub none_before_first : (m : Slots) (u : BTreeSet (String Global)) (l : Bool) (p : List ℕ) → l ≡ false → IsIndexed m u l → IsOrdered string_cmp u → Some p ≡ option_map string_bytes (find (λ k. is_wanting (get_by_text m (string_bytes k))) u.keys)
    → IsNoneWantedBefore p m
none_before_first m u l p here i sorted e q b =
    let f = first_found (λ q. is_wanting (get_by_text m q)) u.keys sorted p (sym e) in
    unless_true _ (λ w. not_both _ (f.1 q w (i here q (unheld_of (get_by_text m q) w))) b)

before_of : (r : Ordering) → (is_le r && not false) ≡ false → is_lt (ordering_reverse r) ≡ true
before_of Less e = absurd (cc)
before_of Equal e = absurd (cc)
before_of Greater e = refl

-- no path of the index is wanted, so that the search may begin anywhere
pub passed_any : (m : Slots) (u : BTreeSet (String Global)) (from : String Global) (l : Bool) → IsIndexed m u l → None ≡ option_map string_bytes (find (λ k. is_wanting (get_by_text m (string_bytes k))) u.keys) → IsPassed m from l
passed_any m u from l i none here q b =
    unless_true _ (λ w. none_found (λ q. is_wanting (get_by_text m q)) u.keys (none_is (find (λ k. is_wanting (get_by_text m (string_bytes k))) u.keys) none) q (i here q (unheld_of (get_by_text m q) w)))

-- the search begins at the path whose job was given
pub passed_given : (m n : Slots) (u : BTreeSet (String Global)) (from : String Global) (l : Bool) (p : List ℕ) → string_bytes from ≡ p → IsIndexed m u l → IsOrdered string_cmp u
    → Some p ≡ option_map string_bytes (find (λ k. is_wanting (get_by_text m (string_bytes k))) u.keys) → ((q : List ℕ) → get_by_text n q ≡ done_at p (λ s. record s { is_out = true }) q (get_by_text m q)) → IsPassed n from l
passed_given m n u from l p is i sorted first put here q b =
    unwanted_done m n p (λ s. record s { is_out = true }) unwanted_out put q (none_before_first m u l p here i sorted first q (ap (is_before q) (sym is) ∙ b))

-- what lies before `from` needs no look
pub find_from : (P : List ℕ → Bool) (from : String Global) (ks : List (String Global)) → ((q : List ℕ) → IsTrue (is_before q (string_bytes from)) → P q ≡ false)
    → find (λ k. P (string_bytes k)) ks ≡ find (λ k. P (string_bytes k)) (filter (range_contains string_cmp (Included from) Unbounded) ks)
find_from P from [] h = refl
find_from P from (k ∷ ks) h = at (range_contains string_cmp (Included from) Unbounded k) refl (find_from P from ks h)
  where
    at : (b : Bool) → range_contains string_cmp (Included from) Unbounded k ≡ b → find (λ k. P (string_bytes k)) ks ≡ find (λ k. P (string_bytes k)) (filter (range_contains string_cmp (Included from) Unbounded) ks)
        → cond (P (string_bytes k)) (Some k) (find (λ k. P (string_bytes k)) ks) ≡ find (λ k. P (string_bytes k)) (cond b (k ∷ filter (range_contains string_cmp (Included from) Unbounded) ks) (filter (range_contains string_cmp (Included from) Unbounded) ks))
    at true e r = ap (λ o. cond (P (string_bytes k)) (Some k) o) r
    at false e r = rw (h (string_bytes k) (ap is_lt (nat_list_cmp_total.antisymm (string_bytes k) (string_bytes from)) ∙ before_of _ e)) r
