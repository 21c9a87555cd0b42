-- The numbers of files once another file came to a place among them.
use Rattle.std.proofs.Common.{◌≡◌, inl, inr, ℕ, zero, suc, ◌+◌, ◌<◌, ◌≤◌, List, get_or, Option, Some, None, map, refl, ap, sym, subst, ◌∙◌, arith}
use Rattle.std.specs.Prelude.{option_map}
use Rattle.std.specs.List.Sorted.{IsStrictlyIncreasing}
use Rattle.std.proofs.lemmas.Bool.{cases_lt}
use Rattle.std.proofs.lemmas.List.{get_or-map, length-map}
use Rattle.import_graph.specs.Arrivals.{MakesRoom}
use Rattle.import_graph.specs.Moves.{place}
use Rattle.import_graph.specs.Walks.{Walk, stay, go}

-- the new number of the file g, once another came to the place k
abbrev pub new_number : ℕ → ℕ → ℕ
new_number zero g = suc g
new_number (suc k) zero = zero
new_number (suc k) (suc g) = suc (new_number k g)

-- files before the place keep their numbers, and those from there on get one more
pub number_before : (k g : ℕ) → g < k → new_number k g ≡ g
number_before zero g lt = absurd (omega arith)
number_before (suc k) zero lt = refl
number_before (suc k) (suc g) lt = ap suc (number_before k g (omega arith))

pub number_from : (k g : ℕ) → k ≤ g → new_number k g ≡ g + 1
number_from zero g le = omega arith
number_from (suc k) zero le = absurd (omega arith)
number_from (suc k) (suc g) le = let e = number_from k g (omega arith) in omega (arith, e)

-- a later file has a later number
pub number_rises : (k g h : ℕ) → g < h → new_number k g < new_number k h
number_rises zero g h lt = omega arith
number_rises (suc k) zero zero lt = absurd (omega arith)
number_rises (suc k) zero (suc h) lt = omega arith
number_rises (suc k) (suc g) zero lt = absurd (omega arith)
number_rises (suc k) (suc g) (suc h) lt = let less = number_rises k g h (omega arith) in omega (arith, less)

-- two files have two numbers
pub number_once : (k g h : ℕ) → new_number k g ≡ new_number k h → g ≡ h
number_once k g h e = elim (cases_lt g h) [
  | inl lt ↦ let less = number_rises k g h lt in absurd (omega (arith, less, e))
  | inr ge ↦ elim (cases_lt h g) [
    | inl gt ↦ let more = number_rises k h g gt in absurd (omega (arith, more, e))
    | inr le ↦ omega arith
  ]
]

-- the new numbers are below the new count
pub number_within : (k g n : ℕ) → g < n → new_number k g < n + 1
number_within k g n lt = elim (cases_lt g k) [
  | inl before ↦ let e = number_before k g before in omega (arith, e)
  | inr from ↦ let e = number_from k g from in omega (arith, e)
]

-- the places say what the new numbers are
pub place_is : (to : List (Option ℕ)) (n k g : ℕ) → MakesRoom to n k → g < n → place to g ≡ Some (new_number k g)
place_is to n k g room lt = elim (cases_lt g k) [
  | inl before ↦ room.front g before ∙ ap Some (sym (number_before k g before))
  | inr from ↦ room.behind g from lt ∙ ap Some (sym (number_from k g from))
]

-- a file that is named by its new number had an old one
pub named_before : (k : ℕ) (o : Option ℕ) (x : ℕ) → option_map (new_number k) o ≡ Some x → (g : ℕ) × (x ≡ new_number k g) × (o ≡ Some g)
named_before k None x e = absurd (cc (e))
named_before k (Some g) x e = let is : x ≡ new_number k g = cc in (g, is, refl)

-- numbers that rise do so under the new numbers too
pub renumbered_rise : (k : ℕ) (v : List ℕ) → IsStrictlyIncreasing v → IsStrictlyIncreasing (map (new_number k) v)
renumbered_rise k v rises i lt =
    let long = length-map v (new_number k) in
    let first : get_or (map (new_number k) v) i 0 ≡ new_number k (get_or v i 0) = get_or-map (new_number k) v i 0 0 (omega (arith, lt, long)) in
    let second : get_or (map (new_number k) v) (i + 1) 0 ≡ new_number k (get_or v (i + 1) 0) = get_or-map (new_number k) v (i + 1) 0 0 (omega (arith, lt, long)) in
    let less = number_rises k (get_or v i 0) (get_or v (i + 1) 0) (rises i (omega (arith, lt, long))) in
    omega (arith, first, second, less)

-- steps that lead from file to file under the new numbers as they did under the old ones: so do walks
module _ (Old New : ℕ → ℕ → Type 0) (k : ℕ) where
  pub walk_there : ((a b : ℕ) → Old a b → New (new_number k a) (new_number k b)) → {a b : ℕ} → Walk Old a b → Walk New (new_number k a) (new_number k b)
  walk_there there stay = stay
  walk_there there (go {a = a} {b = b} first rest) = go (there a b first) (walk_there there rest)

  pub walk_back : ((a x : ℕ) → New (new_number k a) x → (b : ℕ) × (x ≡ new_number k b) × Old a b) → {s x : ℕ} → Walk New s x → (a : ℕ) → s ≡ new_number k a
      → (b : ℕ) × (x ≡ new_number k b) × Walk Old a b
  walk_back back stay a e = (a, e, stay)
  walk_back back (go {a = s} {b = t} first rest) a e =
      let step : New (new_number k a) t = subst (λ z. New z t) e first in
      let r = back a t step in
      let w = walk_back back rest r.0 r.1 in (w.0, w.1, go r.2 w.2)
