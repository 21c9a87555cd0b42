-- Changes of places that don't touch, the last one first.
use Rattle.std.proofs.Common.{◌≡◌, ◌⊎◌, ◌∙◌, inl, inr, ℕ, ◌+◌, ◌-◌, ◌<◌, ◌≤◌, List, [], ◌∷◌, ◌++◌, length, get_or, take, drop, map, sym, ap, arith, add-zero, IsUtf8, append_assoc, length-append, length-drop, length-take-le, get_or-take, take-append-drop}
use Rattle.std.specs.Prelude.{All, Some, max, min, slice_range}
use Rattle.std.specs.List.{AllPairs}
use Rattle.std.specs.Str.{IsCharBoundary}
use Rattle.std.proofs.lemmas.Bool.{cases_lt}
use Rattle.std.proofs.lemmas.List.{drop-take, drop_at, get_or-append-add, get_or-drop, get_or_append_left, get_or_past, take-append-le, take-take}
use Rattle.std.proofs.lemmas.List.Elements.{All-head, All-tail}
use Rattle.doc_text.specs.declared.encoding.Encoding.{Encoding}
use Rattle.doc_text.specs.declared.position.Range.{Range}
use Rattle.doc_text.specs.Edits.{replaced}
use Rattle.doc_text.specs.Laws.{ChangesKeepUtf8, PositionsComeBack}
use Rattle.doc_text.specs.Positions.{offset_of}
use Rattle.lsp_queries.specs.declared.place.Place.{Place}
use Rattle.lsp_renames.specs.Edited.{respelled_from}
use Rattle.lsp_queries.proofs.Pairs.{pairs-head, pairs-tail}
use Rattle.work_laws.specs.EditLaws.{EditsChangeThePlaces, IsCutOut, change_of, changed_from_the_last, range_of}
use Rattle.work_laws.proofs.Alike.{IsSameUpTo, comes-back}

-- ---- one change

-- what lies between the two offsets of a range is replaced
pub replaced-between : (e : Encoding) (r : Range) (text new : List ℕ) (a b : ℕ) → offset_of e r.start text ≡ a → offset_of e r.end text ≡ b → a ≤ b
    → replaced e (Some r) text new ≡ (take a text ++ new) ++ drop b text
unfolding replaced
replaced-between e r text new a b first second le =
    let least : min a b ≡ a = omega arith in
    let most : max a b ≡ b = omega arith in
    ap (λ n. take (min n (offset_of e r.end text)) text ++ new ++ drop (max n (offset_of e r.end text)) text) first
    ∙ ap (λ n. take (min a n) text ++ new ++ drop (max a n) text) second
    ∙ ap (λ n. take n text ++ new ++ drop (max a b) text) least
    ∙ ap (λ n. take a text ++ new ++ drop n text) most

-- a list up to an offset, in two parts
take-parts : (text : List ℕ) (a b : ℕ) → a ≤ b → take b text ≡ take a text ++ slice_range text a b
take-parts text a b le =
    let whole : a + (b - a) ≡ b = omega arith in
    sym (take-append-drop a (take b text))
    ∙ ap (λ l. l ++ drop a (take b text)) (take-take a b text le)
    ∙ ap (λ l. take a text ++ l) (ap (λ n. drop a (take n text)) (sym whole) ∙ drop-take a (b - a) text)

-- ---- the texts after the changes behind an offset

module _ (text : List ℕ) (other rest : List ℕ) (end : ℕ) (within : end ≤ length text) (is : other ≡ take end text ++ rest) (first : get_or rest 0 0 ≡ get_or text end 0) where
  as_long : length (take end text) ≡ end
  as_long = length-take-le end text within

  same-next : (n : ℕ) → n ≤ end → get_or other n 0 ≡ get_or text n 0
  same-next n le = ap (λ bs. get_or bs n 0) is ∙ by (cases_lt n end)
    where
      by : (n < end) ⊎ (end ≤ n) → get_or (take end text ++ rest) n 0 ≡ get_or text n 0
      by (inl lt) = get_or_append_left (take end text) rest 0 n (omega (arith, as_long)) ∙ get_or-take end text n 0 lt
      by (inr at) =
          let there : n ≡ length (take end text) + 0 = omega (arith, as_long) in
          let here : end ≡ n = omega arith in
          ap (λ i. get_or (take end text ++ rest) i 0) there ∙ get_or-append-add (take end text) rest 0 0 ∙ first ∙ ap (λ i. get_or text i 0) here

  same-up_to : (n : ℕ) → n ≤ end → IsSameUpTo text other n
  same-up_to n le = record {
    within = omega arith;
    also = omega (arith, ap length is, length-append (take end text) rest, as_long);
    taken = ap (take n) is ∙ take-append-le n (take end text) rest (omega (arith, as_long)) ∙ take-take n end text le;
    next = same-next n le;
  }

  -- between two characters of the one, between two characters of the other
  cut-same : (n : ℕ) → n ≤ end → IsCharBoundary text n → IsCharBoundary other n
  cut-same n le cut = ((same-up_to n le).also, λ lt lead. lead_here lead (cases_lt n (length text)))
    where
      lead_here : 128 ≤ get_or other n 0 → (n < length text) ⊎ (length text ≤ n) → 192 ≤ get_or other n 0
      lead_here lead (inl there) = let h = cut.1 there (omega (arith, lead, same-next n le)) in omega (arith, h, same-next n le)
      lead_here lead (inr past) = absurd (omega (arith, lead, same-next n le, get_or_past text n 0 past))

-- ---- all changes

-- no place starts before the offset
abbrev StartFrom : ℕ → List Place → Type 0
StartFrom at [] = Unit {0}
StartFrom at (p ∷ more) = at ≤ p.start

module _ (e : Encoding) (back : PositionsComeBack) (keep_utf8 : ChangesKeepUtf8) (text name : List ℕ) (utf8 : IsUtf8 text) (name_utf8 : IsUtf8 name) where
  abbrev changed_at : List Place → List ℕ
  changed_at places = changed_from_the_last e (map (change_of e name text) places) text

  changed-utf8 : (places : List Place) → IsUtf8 (changed_at places)
  changed-utf8 [] = utf8
  changed-utf8 (p ∷ more) = keep_utf8 e (Some (range_of e text p)) (changed_at more) name (changed-utf8 more) name_utf8

  -- what stands behind an offset begins as the text does there
  first-same : (at : ℕ) (places : List Place) → at ≤ length text → All (IsCutOut text) places → All (λ q. at < q.start) places → get_or (respelled_from name text at places) 0 0 ≡ get_or text at 0
  first-same at [] le cut apart = get_or-drop at text 0 0 ∙ ap (λ i. get_or text i 0) (add-zero at)
  first-same at (q ∷ more) le cut apart =
      let inside = All-head (IsCutOut text) q more cut in
      let lt = All-head (λ q. at < q.start) q more apart in
      let rest = drop at text in
      let long : q.start - at ≤ length rest = omega (arith, length-drop at text, inside.first.0) in
      let some : 0 < length (take (q.start - at) rest) = omega (arith, length-take-le (q.start - at) rest long) in
      get_or_append_left (take (q.start - at) rest) (name ++ respelled_from name text q.«end» more) 0 0 some
      ∙ get_or-take (q.start - at) rest 0 0 (omega arith)
      ∙ get_or-drop at text 0 0 ∙ ap (λ i. get_or text i 0) (add-zero at)

  all-edits : (at : ℕ) (places : List Place) → at ≤ length text → StartFrom at places → All (IsCutOut text) places → AllPairs (λ p q. p.«end» < q.start) places
      → changed_at places ≡ take at text ++ respelled_from name text at places
  all-edits at [] le start cut apart = sym (take-append-drop at text)
  all-edits at (p ∷ more) le start cut apart =
      let own = All-head (IsCutOut text) p more cut in
      let later = pairs-head (λ p q. p.«end» < q.start) p more apart in
      let other = changed_at more in
      let rest = respelled_from name text p.«end» more in
      let behind : other ≡ take p.«end» text ++ rest =
      all-edits p.«end» more own.second.0 (starts more later) (All-tail (IsCutOut text) p more cut) (pairs-tail (λ p q. p.«end» < q.start) p more apart) in
      let first = first-same p.«end» more own.second.0 (All-tail (IsCutOut text) p more cut) later in
      let same : (n : ℕ) → n ≤ p.«end» → IsSameUpTo text other n = same-up_to text other rest p.«end» own.second.0 behind first in
      let cuts : (n : ℕ) → n ≤ p.«end» → IsCharBoundary text n → IsCharBoundary other n = cut-same text other rest p.«end» own.second.0 behind first in
      let also = changed-utf8 more in
      let a = comes-back back e text other p.start utf8 also own.first (cuts p.start own.ordered own.first) (same p.start own.ordered) own.starts_outside in
      let b = comes-back back e text other p.«end» utf8 also own.second (cuts p.«end» (omega arith) own.second) (same p.«end» (omega arith)) own.ends_outside in
      replaced-between e (range_of e text p) other name p.start p.«end» a b own.ordered
      ∙ ap (λ l. (l ++ name) ++ drop p.«end» other) ((same p.start own.ordered).taken ∙ take-parts text at p.start start)
      ∙ ap (λ l. ((take at text ++ slice_range text at p.start) ++ name) ++ l) (ap (drop p.«end») behind ∙ drop_at (take p.«end» text) rest p.«end» (length-take-le p.«end» text own.second.0))
      ∙ append_assoc (take at text ++ slice_range text at p.start) name rest
      ∙ append_assoc (take at text) (slice_range text at p.start) (name ++ rest)
    where
      starts : (more : List Place) → All (λ q. p.«end» < q.start) more → StartFrom p.«end» more
      starts [] all = tt
      starts (q ∷ more) all = let lt = All-head (λ q. p.«end» < q.start) q more all in omega (arith, lt)

pub edits-change : PositionsComeBack → ChangesKeepUtf8 → EditsChangeThePlaces
edits-change back keep_utf8 e text name places utf8 name_utf8 cut apart = all-edits e back keep_utf8 text name utf8 name_utf8 0 places (omega arith) (start places) cut apart
  where
    start : (places : List Place) → StartFrom 0 places
    start [] = tt
    start (p ∷ more) = omega arith
