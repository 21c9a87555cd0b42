-- The parts at the front of a full name stay where a component is put behind it.
use Rattle.std.proofs.Common.{◌≡◌, ℕ, zero, suc, ◌<◌, ◌≤◌, ◌-◌, List, [], ◌∷◌, ◌++◌, length, map, take, get_or, inl, inr, refl, ◌∙◌, arith}
use Rattle.std.specs.Prelude.{All, reverse, slice_index_or, slice_range}
use Rattle.std.specs.Str.{IsCharBoundary, IsUtf8}
use Rattle.std.specs.String.Boundary.{IsSplitPoint}
use Rattle.std.proofs.lemmas.Bool.{cases_lt}
use Rattle.std.proofs.lemmas.List.{get_or-map, get_or-reverse, get_or_append_left, length-append, length-map, length-reverse, reverse-append, take-append-le, take_all}
use Rattle.std.proofs.lemmas.List.Elements.{All-append, All-cons, All-from_get_or, All-get_or, All-head, All-nil, All-tail, All-weaker}
use Rattle.std.proofs.lemmas.Str.{IsCharBoundary-start}
use Rattle.std.proofs.Math.Seq.{get_or-append_seam}
use Rattle.proto_decls.specs.Text.{joined}
use Rattle.proto_resolve.specs.ScopeChains.{front_parts}

point_kept : (bs name : List ℕ) (n : ℕ) → IsSplitPoint bs n → IsSplitPoint (joined bs name) n
point_kept [] name n p = let first : n ≡ 0 = omega (arith, p.0) in rw first (omega arith, λ lt. absurd (omega (arith, lt)))
point_kept (c ∷ bs) name n p = (
  omega (arith, p.0, length-append (c ∷ bs) (46 ∷ name)),
  λ above below high. elim (cases_lt n (length (c ∷ bs))) [
    | inl lt ↦
        let same : get_or ((c ∷ bs) ++ 46 ∷ name) n 0 ≡ get_or (c ∷ bs) n 0 = get_or_append_left (c ∷ bs) (46 ∷ name) 0 n lt in
        rw same (p.1 above lt (rw same at high))
    | inr ge ↦
        let last : n ≡ length (c ∷ bs) = omega (arith, p.0, ge) in
        let dot : get_or ((c ∷ bs) ++ 46 ∷ name) n 0 ≡ 46 = rw last (get_or-append_seam (c ∷ bs) 46 name 0) in
        absurd (omega (arith, high, dot))
  ],
)

part_kept : (bs name : List ℕ) (n : ℕ) → n ≤ length bs → take n (joined bs name) ≡ take n bs
part_kept [] name n le = let first : n ≡ 0 = omega (arith, le) in rw first refl
part_kept (c ∷ bs) name n le = take-append-le n (c ∷ bs) (46 ∷ name) le

parts_kept : (bs name ns : List ℕ) → All (IsSplitPoint bs) ns → map (λ n. take n (joined bs name)) ns ≡ map (λ n. take n bs) ns
parts_kept bs name [] all = refl
parts_kept bs name (n ∷ ns) all =
    let point : IsSplitPoint bs n = All-head (IsSplitPoint bs) n ns all in
    rw (part_kept bs name n point.0, parts_kept bs name ns (All-tail (IsSplitPoint bs) n ns all)) refl

turned : (P : ℕ → Type 0) (ns : List ℕ) → All P ns → All P (reverse ns)
turned P ns all = All-from_get_or P (reverse ns) 0 (λ i lt.
    let below : i < length ns = rw (length-reverse ns) at lt in
    rw (get_or-reverse ns i 0 below) (All-get_or P ns (length ns - 1 - i) 0 (omega (arith, below)) all))

-- the scopes inside
pub pushed : (bs name ns : List ℕ) → All (IsSplitPoint bs) ns → front_parts (joined bs name) (ns ++ length (joined bs name) ∷ []) ≡ joined bs name ∷ front_parts bs ns
pushed bs name ns all =
    let back : reverse (ns ++ length (joined bs name) ∷ []) ≡ length (joined bs name) ∷ reverse ns = reverse-append ns (length (joined bs name) ∷ []) in
    rw (back, parts_kept bs name (reverse ns) (turned (IsSplitPoint bs) ns all), take_all (length (joined bs name)) (joined bs name) (omega arith)) refl

pub points : (bs name ns : List ℕ) → All (IsSplitPoint bs) ns → All (IsSplitPoint (joined bs name)) (ns ++ length (joined bs name) ∷ [])
points bs name ns all =
    All-append (IsSplitPoint (joined bs name)) ns (length (joined bs name) ∷ [])
    (All-weaker (IsSplitPoint bs) (IsSplitPoint (joined bs name)) (point_kept bs name) ns all)
    (All-cons (IsSplitPoint (joined bs name)) (length (joined bs name)) [] (omega arith, λ above below. absurd (omega (arith, below))) (All-nil (IsSplitPoint (joined bs name))))

-- a text can be cut at such a point
pub boundary : (bs : List ℕ) (n : ℕ) → IsUtf8 bs → IsSplitPoint bs n → IsCharBoundary bs n
boundary bs zero utf8 p = IsCharBoundary-start bs utf8
boundary bs (suc n) utf8 p = (p.0, p.1 (omega arith))

-- the part at a place, counted from the last
pub part_at : (bs ns : List ℕ) (i : ℕ) → i < length ns → slice_index_or (front_parts bs ns) i [] ≡ slice_range bs 0 (get_or ns (length ns - 1 - i) 0)
part_at bs ns i lt =
    let below : i < length (reverse ns) = rw (length-reverse ns) lt in
    let all : (n : ℕ) → n - 0 ≡ n = λ n. omega arith in
    get_or-map (λ n. take n bs) (reverse ns) i 0 [] below ∙ rw (get_or-reverse ns i 0 lt, all (get_or ns (length ns - 1 - i) 0)) refl

pub as_many : (bs ns : List ℕ) → length (front_parts bs ns) ≡ length ns
as_many bs ns = length-map (reverse ns) (λ n. take n bs) ∙ length-reverse ns

-- the text is the innermost scope
pub inner_points : (bs name ns : List ℕ) → All (IsSplitPoint bs) ns → slice_index_or (front_parts (joined bs name) (ns ++ length (joined bs name) ∷ [])) 0 [] ≡ joined bs name
inner_points bs name ns all = rw (pushed bs name ns all) refl
