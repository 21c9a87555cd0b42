-- What is taken from slots, and put back
use Rattle.std.proofs.Common.{◌≡◌, ℕ, Bool, true, false, cond, ◌||◌, List, [], ◌∷◌, Option, Some, None, refl, sym, ap, ◌∙◌, option_map, map, subst, is_some, IsTrue, IsSome, IfSome, unwrap_or, String, string_bytes, BTreeMap}
use Rattle.std.specs.Str.{bytes_eq}
use Rattle.std.specs.String.{string_cmp}
use Rattle.std.specs.declared.alloc.Global.{Global}
use Rattle.std.specs.declared.cmp.Ordering.TheVariants.{Less}
use Rattle.std.specs.Map.{lookup, keys_of}
use Rattle.std.specs.BTreeMap.{is_at, get_by_text, IsOrdered}
use Rattle.std.specs.List.{list_any, AllByRecursion}
use Rattle.std.specs.List.Sorted.{IsStrictlySortedBy}
use Rattle.std.specs.Cmp.Lexicographic.{slice_cmp, bytes_decides}
use Rattle.std.specs.Ordering.{nat_cmp, is_eq}
use Rattle.std.proofs.lemmas.Map.Text.{is_eq-slice_cmp}
use Rattle.piece_collector.specs.Views.{SlotView, BoardView, TextAt, text_in, as_lent, seen, slot_of, AreCurrent}
use Rattle.piece_collector.specs.Lending.{emptied, piece_in, TakesAll}
use Rattle.piece_collector.specs.History.{Standing, stands_at}
use Rattle.piece_collector.specs.Events.{Event}
use Rattle.piece_collector.specs.Board.{IsAfter, slot_at, current_text, text_for, IsFull, IsTextsOf, IsTextsIn}
use Rattle.piece_collector.proofs.Index.{opened, slot_lent}

-- a path among those that come after k is not k
pub apart : (k p : List ℕ) (ps : List (List ℕ)) → AllByRecursion (λ y. slice_cmp nat_cmp k y ≡ Less) ps → IsTrue (list_any (bytes_eq p) ps) → bytes_eq k p ≡ false
apart k p [] a i = absurd (cc)
apart k p (x ∷ ps) a i = at (bytes_eq p x) refl i (apart k p ps a.1)
  where
    less : (b : Bool) → bytes_eq k x ≡ b → b ≡ false
    less false e = refl
    less true e = absurd (let y : true ≡ false = sym e ∙ (sym (is_eq-slice_cmp k x) ∙ ap is_eq a.0) in cc)

    at : (b : Bool) → bytes_eq p x ≡ b → IsTrue (b || list_any (bytes_eq p) ps) → (IsTrue (list_any (bytes_eq p) ps) → bytes_eq k p ≡ false) → bytes_eq k p ≡ false
    at true e i f = ap (bytes_eq k) ((bytes_decides p x).0 e) ∙ less (bytes_eq k x) refl
    at false e i f = f i

pub same_pieces : (A B : List ℕ → Option SlotView) (ps : List (List ℕ)) → ((p : List ℕ) → IsTrue (list_any (bytes_eq p) ps) → piece_in (B p) ≡ piece_in (A p)) → map (λ p. piece_in (B p)) ps ≡ map (λ p. piece_in (A p)) ps
same_pieces A B [] h = refl
same_pieces A B (x ∷ ps) h = λ i. h x (rw ((bytes_decides x x).1 refl) refl) i ∷ same_pieces A B ps (λ p j. h p (right (bytes_eq p x) j)) i
  where
    right : {c : Bool} (b : Bool) → IsTrue c → IsTrue (b || c)
    right true j = refl
    right false j = j

pub in_tail : (b : Bool) {c : Bool} → IsTrue c → IsTrue (b || c)
in_tail true j = refl
in_tail false j = j

ordered_bytes : (k : String Global) (es : List (String Global × SlotView)) → AllByRecursion (λ y. string_cmp k y ≡ Less) (keys_of es) → AllByRecursion (λ y. slice_cmp nat_cmp (string_bytes k) y ≡ Less) (map (λ e. string_bytes e.0) es)
ordered_bytes k [] a = tt
ordered_bytes k (e ∷ es) a = (a.0, ordered_bytes k es a.1)

pub sorted_bytes : (es : List (String Global × SlotView)) → IsStrictlySortedBy string_cmp (keys_of es) → IsStrictlySortedBy (slice_cmp nat_cmp) (map (λ e. string_bytes e.0) es)
unfolding IsStrictlySortedBy
sorted_bytes [] s = tt
sorted_bytes (e ∷ es) s = (ordered_bytes e.0 es s.0, sorted_bytes es s.1)

known_keys : (es : List (String Global × SlotView)) (p : List ℕ) → list_any (bytes_eq p) (map (λ e. string_bytes e.0) es) ≡ is_some (lookup (is_at (λ k. slice_cmp nat_cmp p (string_bytes k))) es)
known_keys [] p = refl
known_keys (e ∷ es) p = rw is_eq-slice_cmp (elim (bytes_eq p (string_bytes e.0)) as (λ b. (b || list_any (bytes_eq p) (map (λ e. string_bytes e.0) es)) ≡ is_some (cond b (Some e.1) (lookup (is_at (λ k. slice_cmp nat_cmp p (string_bytes k))) es))) [ true ↦ refl | false ↦ known_keys es p ])

abbrev head_or : List (Option TextAt) → Option TextAt → Option TextAt
head_or [] d = d
head_or (x ∷ xs) d = x

abbrev tail_of : List (Option TextAt) → List (Option TextAt)
tail_of [] = []
tail_of (x ∷ xs) = xs

-- the texts that f gives for the paths ps
texts_are : (f : List ℕ → Option TextAt) → ((p : List ℕ) (t : TextAt) → f p ≡ Some t → t.path ≡ p) → (ps : List (List ℕ)) (ts : List TextAt) → map {B = Option TextAt} Some ts ≡ map f ps
    → (map (λ t. t.path) ts ≡ ps) × ((q : List ℕ) → text_for q ts ≡ cond (list_any (bytes_eq q) ps) (f q) None)
texts_are f path [] [] e = (refl, λ q. refl)
texts_are f path [] (t ∷ ts) e = absurd (cc)
texts_are f path (p ∷ ps) [] e = absurd (cc)
texts_are f path (p ∷ ps) (t ∷ ts) e =
    let h : Some t ≡ f p = ap (λ l. head_or l None) e in
    let same : t.path ≡ p = path p t (sym h) in
    let r = texts_are f path ps ts (ap tail_of e) in
    (λ i. same i ∷ r.0 i, λ q. ap (λ w. cond (bytes_eq q w) (Some t) (text_for q ts)) same ∙ at q (bytes_eq q p) refl h (r.1 q))
  where
    at : (q : List ℕ) (b : Bool) → bytes_eq q p ≡ b → Some t ≡ f p → text_for q ts ≡ cond (list_any (bytes_eq q) ps) (f q) None
        → cond b (Some t) (text_for q ts) ≡ cond (b || list_any (bytes_eq q) ps) (f q) None
    at q true e h r = h ∙ ap f (sym ((bytes_decides q p).0 e))
    at q false e h r = r

-- the slots of a full board, each with a piece of its current text
abbrev HasCurrent : List ℕ → Option SlotView → Type 0
HasCurrent p w = IfSome w (λ s. s.piece ≡ Some (text_in p s))

has_current : (p : List ℕ) (w : Option SlotView) → IfSome w (λ s. IsSome s.piece) → IfSome w (λ s. IfSome s.piece (λ piece. piece ≡ text_in p s)) → HasCurrent p w
has_current p None f c = tt
has_current p (Some s) f c = at s.piece f c
  where
    at : (piece : Option TextAt) → IsSome piece → IfSome piece (λ piece. piece ≡ text_in p s) → piece ≡ Some (text_in p s)
    at None f c = absurd (cc)
    at (Some t) f c = ap Some c

-- what is lent of a full board are the texts of its slots
pub lent_texts : (m : BTreeMap (String Global) SlotView) (ps : List (List ℕ)) (ts : List TextAt) (last : ℕ) (l : Bool) (v : BoardView) → seen last m l ≡ v → v.is_lent ≡ false → IsOrdered string_cmp m
    → ps ≡ map (λ e. string_bytes e.0) m.entries → TakesAll (get_by_text m) ps [] ts → IsFull v → AreCurrent m l → IsTextsIn v ts
lent_texts m ps ts last l v is here sorted all takes full current =
    let k = opened last m l v is here in
    let P : List (List ℕ) → Type 0 = λ l. IsStrictlySortedBy (slice_cmp nat_cmp) l in
    let ascends : IsStrictlySortedBy (slice_cmp nat_cmp) ps = subst P (sym all) (sorted_bytes m.entries sorted) in
    let known : (p : List ℕ) → list_any (bytes_eq p) ps ≡ is_some (get_by_text m p) = λ p. ap (list_any (bytes_eq p)) all ∙ known_keys m.entries p in
    let Q : Option SlotView → Type 0 = λ w. IfSome w (λ s. IsSome s.piece) in
    let at_is : (p : List ℕ) → HasCurrent p (get_by_text m p) = λ p. has_current p (get_by_text m p) (subst Q (k.1 p) (full p)) (current k.0 p) in
    let r = texts_are (λ p. piece_in (get_by_text m p)) (λ p t e. path_of p (get_by_text m p) t (at_is p) e) ps ts (takes ascends (λ p i. has_piece p (get_by_text m p) (at_is p) (sym (known p) ∙ i))) in
    record {
      ascends = subst P (sym r.0) ascends;
      each = λ p. r.1 p ∙ (ap (λ b. cond b (piece_in (get_by_text m p)) None) (known p) ∙ (text_of p (get_by_text m p) (at_is p) ∙ ap (option_map (text_in p)) (sym (k.1 p))));
    }
  where
    has_piece : (p : List ℕ) (w : Option SlotView) → HasCurrent p w → IsSome w → IsSome (piece_in w)
    has_piece p None c h = h
    has_piece p (Some s) c h = ap is_some c

    path_of : (p : List ℕ) (w : Option SlotView) (t : TextAt) → HasCurrent p w → piece_in w ≡ Some t → t.path ≡ p
    path_of p None t c e = absurd (cc)
    path_of p (Some s) t c e = ap (λ o. (unwrap_or o t).path) (sym e ∙ c)

    text_of : (p : List ℕ) (w : Option SlotView) → HasCurrent p w → cond (is_some w) (piece_in w) None ≡ option_map (text_in p) w
    text_of p None c = refl
    text_of p (Some s) c = c

of_emptied : (p : List ℕ) (s : Option SlotView) → option_map (as_lent p) s ≡ option_map (as_lent p) (option_map emptied s)
of_emptied p None = refl
of_emptied p (Some s) = refl

-- a full board whose pieces are lent has the slots that it had
pub lent_same : (m n : BTreeMap (String Global) SlotView) (last : ℕ) (l : Bool) (v : BoardView) → seen last m l ≡ v → v.is_lent ≡ false
    → ((q : List ℕ) → option_map emptied (get_by_text n q) ≡ option_map emptied (get_by_text m q)) → IsFull v → AreCurrent m l → (p : List ℕ) → slot_of p (seen last n true) ≡ slot_of p v
lent_same m n last l v is here rest full current p =
    let k = opened last m l v is here in
    let Q : Option SlotView → Type 0 = λ w. IfSome w (λ s. IsSome s.piece) in
    slot_lent last n true p refl ∙ (of_emptied p (get_by_text n p) ∙ (ap (option_map (as_lent p)) (rest p) ∙ (at (get_by_text m p) (has_current p (get_by_text m p) (subst Q (k.1 p) (full p)) (current k.0 p)) ∙ sym (k.1 p))))
  where
    at : (w : Option SlotView) → HasCurrent p w → option_map (as_lent p) (option_map emptied w) ≡ w
    at None c = refl
    at (Some s) c = ap (λ o. Some (record s { piece = o })) (sym c)

-- the texts of the slots are those that the events make current
pub texts_of : (v : BoardView) (o : ℕ) (es : List Event) (ts : List TextAt) → IsAfter o v es → IsTextsIn v ts → IsTextsOf o es ts
texts_of v o es ts s t = record { ascends = t.ascends; each = λ p. t.each p ∙ (ap (option_map (text_in p)) (s.each p) ∙ at p (stands_at o es p)) }
  where
    at : (p : List ℕ) (x : Option Standing) → option_map (text_in p) (option_map (slot_at p) x) ≡ option_map (current_text p) x
    at p None = refl
    at p (Some x) = refl

-- whether it is lent is nothing that a board stands for
pub stands_lent : (v w : BoardView) (b : Bool) (o : ℕ) (es : List Event) → w ≡ record v { is_lent = b } → IsAfter o v es → IsAfter o w es
stands_lent v w b o es is s = record { last = ap (λ x. x.last) is ∙ s.last; each = λ p. ap (slot_of p) is ∙ s.each p }

-- nor is it anything of its texts
pub texts_lent : (v w : BoardView) (b : Bool) (ts : List TextAt) → w ≡ record v { is_lent = b } → IsTextsIn v ts → IsTextsIn w ts
texts_lent v w b ts is t = record { ascends = t.ascends; each = λ p. t.each p ∙ ap (λ x. option_map (text_in p) (slot_of p x)) (sym is) }
