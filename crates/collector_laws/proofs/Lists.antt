-- Lists of what the paths have, in path order
use Rattle.std.proofs.Common.{◌≡◌, ℕ, Bool, true, false, cond, List, [], ◌∷◌, Option, Some, None, refl, sym, ap, ◌∙◌, subst, map, option_map, unwrap_or}
use Rattle.std.specs.Str.{bytes_eq}
use Rattle.std.specs.declared.cmp.Ordering.{Ordering}
use Rattle.std.specs.declared.cmp.Ordering.TheVariants.{Less, Equal, Greater}
use Rattle.std.specs.Map.{lookup}
use Rattle.std.specs.List.{AllByRecursion}
use Rattle.std.specs.List.Sorted.{IsStrictlySortedBy}
use Rattle.std.specs.Cmp.Lexicographic.{slice_cmp, nat_list_cmp_total, bytes_decides}
use Rattle.std.specs.Ordering.{nat_cmp, is_eq, ordering_reverse}
use Rattle.std.proofs.lemmas.Map.Text.{is_eq-slice_cmp}
use Rattle.piece_collector.specs.Views.{TextAt}
use Rattle.piece_collector.specs.Board.{text_for, Ascends, IsTextsOf, current_text}
use Rattle.piece_collector.specs.History.{Standing, stands_at}
use Rattle.piece_collector.specs.Events.{Event}
use Rattle.collector_laws.specs.TextLaws.{text_after, OneListOfTexts, EqualTextsAreListedAlike, ListsTexts, TextsAreListedOnce}

abbrev cmp : List ℕ → List ℕ → Ordering
cmp = slice_cmp nat_cmp

-- a path comes before each of these
abbrev IsBeforeAll : List ℕ → List (List ℕ) → Type 0
IsBeforeAll p ps = AllByRecursion (λ q. cmp p q ≡ Less) ps

before_all : (p q : List ℕ) (ps : List (List ℕ)) → cmp p q ≡ Less → IsBeforeAll q ps → IsBeforeAll p ps
before_all p q [] l a = tt
before_all p q (r ∷ ps) l a = (nat_list_cmp_total.trans p q r l a.0, before_all p q ps l a.1)

module _ {X : Type 0} where
  abbrev paths_of : List (List ℕ × X) → List (List ℕ)
  paths_of es = map (λ e. e.0) es

  abbrev at_path : List ℕ → List (List ℕ × X) → Option X
  at_path p es = lookup (λ q. bytes_eq p q) es

  -- the first path has its entry
  at_first : (e : List ℕ × X) (es : List (List ℕ × X)) → at_path e.0 (e ∷ es) ≡ Some e.1
  at_first e es = ap (λ b. cond b (Some e.1) (at_path e.0 es)) ((bytes_decides e.0 e.0).1 refl)

  -- a path before all of them has none
  at_none : (p : List ℕ) (es : List (List ℕ × X)) → IsBeforeAll p (paths_of es) → at_path p es ≡ None
  at_none p [] a = refl
  at_none p (e ∷ es) a = ap (λ b. cond b (Some e.1) (at_path p es)) (sym (is_eq-slice_cmp p e.0) ∙ ap is_eq a.0) ∙ at_none p es a.1

  -- a path before the first of others that ascend is none of them
  not_among : (x y : List ℕ × X) (xs ys : List (List ℕ × X)) → cmp x.0 y.0 ≡ Less → IsBeforeAll y.0 (paths_of ys) → at_path x.0 (x ∷ xs) ≡ at_path x.0 (y ∷ ys) → ⊥
  not_among x y xs ys l a h =
      let e : Some x.1 ≡ None = sym (at_first x xs) ∙ (h ∙ at_none x.0 (y ∷ ys) (l, before_all x.0 y.0 (paths_of ys) l a)) in
      cc

  -- lists in path order that have the same at each path are one
  pub one_list : (xs ys : List (List ℕ × X)) → IsStrictlySortedBy cmp (paths_of xs) → IsStrictlySortedBy cmp (paths_of ys) → ((p : List ℕ) → at_path p xs ≡ at_path p ys) → xs ≡ ys
  unfolding IsStrictlySortedBy
  one_list [] [] s r h = refl
  one_list [] (y ∷ ys) s r h = absurd (let e : None ≡ Some y.1 = h y.0 ∙ at_first y ys in cc)
  one_list (x ∷ xs) [] s r h = absurd (let e : None ≡ Some x.1 = sym (h x.0) ∙ at_first x xs in cc)
  one_list (x ∷ xs) (y ∷ ys) s r h = by (cmp x.0 y.0) refl (one_list xs ys s.1 r.1)
    where
      -- behind the first path both have the same
      behind : x.0 ≡ y.0 → (p : List ℕ) → at_path p xs ≡ at_path p ys
      behind same p = there (bytes_eq p x.0) refl (ap (bytes_eq p) same) (h p)
        where
          there : (b : Bool) → bytes_eq p x.0 ≡ b → bytes_eq p x.0 ≡ bytes_eq p y.0 → at_path p (x ∷ xs) ≡ at_path p (y ∷ ys) → at_path p xs ≡ at_path p ys
          there true e d h =
              let is : p ≡ x.0 = (bytes_decides p x.0).0 e in
              (ap (λ q. at_path q xs) is ∙ at_none x.0 xs s.0) ∙ sym (ap (λ q. at_path q ys) (is ∙ same) ∙ at_none y.0 ys r.0)
          there false e d h = rw (e, sym d ∙ e) at h

      by : (c : Ordering) → cmp x.0 y.0 ≡ c → (((p : List ℕ) → at_path p xs ≡ at_path p ys) → xs ≡ ys) → x ∷ xs ≡ y ∷ ys
      by Less e more = absurd (not_among x y xs ys e r.0 (h x.0))
      by Greater e more = absurd (not_among y x ys xs (nat_list_cmp_total.antisymm y.0 x.0 ∙ ap ordering_reverse e) s.0 (sym (h y.0)))
      by Equal e more =
          let same : x.0 ≡ y.0 = (bytes_decides x.0 y.0).0 (sym (is_eq-slice_cmp x.0 y.0) ∙ ap is_eq e) in
          let here : Some x.1 ≡ Some y.1 = sym (at_first x xs) ∙ (h x.0 ∙ (ap (λ p. at_path p (y ∷ ys)) same ∙ at_first y ys)) in
          let value : x.1 ≡ y.1 = ap (λ o. unwrap_or o x.1) here in
          let rest = more (behind same) in
          λ i. (same i, value i) ∷ rest i

-- the texts of a list with what f makes of them
abbrev with_paths : {Y : Type 0} → (TextAt → Y) → List TextAt → List (List ℕ × Y)
with_paths f ts = map (λ t. (t.path, f t)) ts

same_paths : {Y : Type 0} (f : TextAt → Y) (ts : List TextAt) → map (λ e. e.0) (with_paths f ts) ≡ map (λ t. t.path) ts
same_paths f [] = refl
same_paths f (t ∷ ts) = ap (λ ps. t.path ∷ ps) (same_paths f ts)

found_with : {Y : Type 0} (f : TextAt → Y) (p : List ℕ) (ts : List TextAt) → lookup (λ q. bytes_eq p q) (with_paths f ts) ≡ option_map f (text_for p ts)
found_with f p [] = refl
found_with f p (t ∷ ts) = elim (bytes_eq p t.path) as (λ b. cond b (Some (f t)) (lookup (λ q. bytes_eq p q) (with_paths f ts)) ≡ option_map f (cond b (Some t) (text_for p ts))) [ true ↦ refl | false ↦ found_with f p ts ]

-- lists of texts in path order of which f makes the same at each path
listed_alike : {Y : Type 0} (f : TextAt → Y) (ts us : List TextAt) → Ascends ts → Ascends us → ((p : List ℕ) → option_map f (text_for p ts) ≡ option_map f (text_for p us)) → with_paths f ts ≡ with_paths f us
listed_alike f ts us s r h =
    let P : List (List ℕ) → Type 0 = λ ps. IsStrictlySortedBy cmp ps in
    one_list (with_paths f ts) (with_paths f us) (subst P (sym (same_paths f ts)) s) (subst P (sym (same_paths f us)) r) (λ p. found_with f p ts ∙ (h p ∙ sym (found_with f p us)))

texts_of_pairs : (ts : List TextAt) → map (λ e. e.1) (with_paths (λ t. t) ts) ≡ ts
texts_of_pairs [] = refl
texts_of_pairs (t ∷ ts) = ap (λ us. t ∷ us) (texts_of_pairs ts)

pub one_list_of_texts : OneListOfTexts
one_list_of_texts o es ts us t u =
    let pairs = listed_alike (λ t. t) ts us t.ascends u.ascends (λ p. ap (option_map (λ t. t)) (t.each p ∙ sym (u.each p))) in
    sym (texts_of_pairs ts) ∙ (ap (map (λ e. e.1)) pairs ∙ texts_of_pairs us)

text_found : (o : ℕ) (es : List Event) (ts : List TextAt) → IsTextsOf o es ts → (p : List ℕ) → option_map (λ t. t.text) (text_for p ts) ≡ text_after o es p
text_found o es ts t p = ap (option_map (λ t. t.text)) (t.each p) ∙ by (stands_at o es p)
  where
    by : (x : Option Standing) → option_map (λ t. t.text) (option_map (current_text p) x) ≡ option_map (λ x. x.text) x
    by None = refl
    by (Some x) = refl

pub equal_texts_alike : EqualTextsAreListedAlike
equal_texts_alike o n es fs ts us t u same = listed_alike (λ t. t.text) ts us t.ascends u.ascends (λ p. text_found o es ts t p ∙ (same p ∙ sym (text_found n fs us u p)))

as_listed : (o : ℕ) (es : List Event) (ts : List TextAt) → IsTextsOf o es ts → ListsTexts o es (with_paths (λ t. t.text) ts)
as_listed o es ts t =
    let P : List (List ℕ) → Type 0 = λ ps. IsStrictlySortedBy cmp ps in
    record { ascends = subst P (sym (same_paths (λ t. t.text) ts)) t.ascends; each = λ p. found_with (λ t. t.text) p ts ∙ text_found o es ts t p }

pub listed_once : TextsAreListedOnce
listed_once o es ts t files =
    let own = as_listed o es ts t in (
      λ listed. one_list (with_paths (λ t. t.text) ts) files own.ascends listed.ascends (λ p. own.each p ∙ sym (listed.each p)),
      λ is. subst (λ w. ListsTexts o es w) is own,
    )
