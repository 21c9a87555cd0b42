-- Numbers of files, once another file comes between them.
use Rattle.std.proofs.Common.{◌≡◌, ◌∙◌, ap, refl, ◌<◌, ◌≤◌, ◌+◌, ℕ, List, ◌++◌, Option, Some, None, Bool, true, false, map, take, drop, get_or, length, nat_lt, arith}
use Rattle.std.specs.Prelude.{if◌then◌else◌, All, Contains, IfSome}
use Rattle.std.specs.List.{filter_map}
use Rattle.std.proofs.lemmas.Bool.Decides.{nat_tests}
use Rattle.std.proofs.lemmas.List.{length-append, length-map, length-take, length-drop, drop_more, get_or_at}
use Rattle.std.proofs.lemmas.List.Elements.{All-contains, All-map, All-weaker}
use Rattle.import_graph.specs.declared.imports.ImportEdge.{ImportEdge}
use Rattle.import_graph.specs.Coming.{number_after}
use Rattle.import_graph.specs.Walks.{AllWithin}
use Rattle.import_graph.proofs.ImportEdges.{filter_map_to}

is_lower : (a b : ℕ) → a < b → nat_lt a b ≡ true
is_lower a b lt = grind (arith, nat_tests)

is_no_lower : (a b : ℕ) → b ≤ a → nat_lt a b ≡ false
is_no_lower a b le = grind (arith, nat_tests)

-- a file before the place keeps its number, and one from there on gets one more
pub before_it : (at file : ℕ) → file < at → number_after at file ≡ file
before_it at file lt = ap (λ (b : Bool). if b then file else file + 1) (is_lower file at lt)

pub behind_it : (at file : ℕ) → at ≤ file → number_after at file ≡ file + 1
behind_it at file le = ap (λ (b : Bool). if b then file else file + 1) (is_no_lower file at le)

-- a list of which the first elements were changed has a place that the old list has
pub still_has : {X : Type 0} (f : X → X) (was now : List X) (i : ℕ) → i < length was → now ≡ map f (take i was) ++ drop i was → i < length now
still_has f was now i lt is =
    let as_many : length now ≡ length (take i was) + length (drop i was) = ap length is ∙ length-append (map f (take i was)) (drop i was) ∙ ap (λ n. n + length (drop i was)) (length-map (take i was) f) in
    omega (arith, lt, as_many, length-take i was, length-drop i was)

-- the new numbers are in the order of the old ones
pub keeps_order : (at a b : ℕ) → a < b → number_after at a < number_after at b
keeps_order at a b lt = grind (arith, nat_tests)

-- no other file gets the place
pub never_there : (at file : ℕ) → number_after at file ≡ at → ⊥
never_there at file is = grind (arith, nat_tests)

-- the first element that was not changed is the old list's
pub still_same : {X : Type 0} (f : X → X) (was now : List X) (i : ℕ) (d : X) → i < length was → now ≡ map f (take i was) ++ drop i was → get_or now i d ≡ get_or was i d
still_same f was now i d lt is =
    let long : length (map f (take i was)) ≡ i = length-map (take i was) f ∙ omega (arith, lt, length-take i was) in
    ap (λ l. get_or l i d) (is ∙ ap (λ l. map f (take i was) ++ l) (drop_more was i d lt)) ∙ get_or_at (map f (take i was)) _ _ d i long

-- what an import names is below a limit, if all are
pub named_small : (limit : ℕ) (ls : List ImportEdge) (l : ImportEdge) → Contains ls l → AllWithin limit (filter_map (λ l. l.target) ls) → IfSome l.target (λ file. file < limit)
named_small limit ls l has small = named l.target refl
  where
    named : (t : Option ℕ) → l.target ≡ t → IfSome t (λ file. file < limit)
    named None e = tt
    named (Some file) e = All-contains (λ f. f < limit) (filter_map (λ l. l.target) ls) file small (filter_map_to (λ l. l.target) ls l file has e)

-- the new numbers are within the new count
number_below : (at n g : ℕ) → g < n → number_after at g < n + 1
number_below at n g lt = grind (arith, nat_tests)

row_within : (at n : ℕ) (row : List ℕ) → AllWithin n row → AllWithin (n + 1) (map (number_after at) row)
row_within at n row within = All-map (λ g. g < n + 1) (number_after at) row (All-weaker (λ g. g < n) (λ g. number_after at g < n + 1) (number_below at n) row within)

pub all_within : (at n : ℕ) (rows : List (List ℕ)) → All (AllWithin n) rows → All (AllWithin (n + 1)) (map (map (number_after at)) rows)
all_within at n rows within = All-map (AllWithin (n + 1)) (map (number_after at)) rows (All-weaker (AllWithin n) (λ row. AllWithin (n + 1) (map (number_after at) row)) (row_within at n) rows within)
