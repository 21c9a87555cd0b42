-- Rows of files, and what is known of them, once there is a row more of a file that no other row lists.
use Rattle.std.proofs.Common.{◌≡◌, ◌∙◌, sym, ap, subst, refl, inl, inr, ◌⊎◌, ◌≤◌, ◌+◌, ℕ, zero, suc, List, [], ◌∷◌, true, false, Some, None, map, length, get_or, arith}
use Rattle.std.specs.Prelude.{All, Contains}
use Rattle.std.specs.List.{insert}
use Rattle.std.proofs.Math.Path.{fun_ext}
use Rattle.std.proofs.lemmas.Bool.{cases_lt}
use Rattle.std.proofs.lemmas.List.{length-map}
use Rattle.std.proofs.lemmas.List.Edits.{get_or-insert_above, get_or-insert_at, get_or-insert_below, length-insert}
use Rattle.import_graph.specs.declared.components.Components.{Components}
use Rattle.import_graph.specs.declared.shared.SharedLists.{SharedLists}
use Rattle.import_graph.specs.Coming.{number_after, rows_with, HasNoList, HasNumber}
use Rattle.import_graph.specs.Components.{Descends}
use Rattle.import_graph.specs.Condensed.{LeadAlike, Leads}
use Rattle.import_graph.specs.Shared.{list_at, number_at, AreShared, IsOwnList}
use Rattle.import_graph.specs.Ties.{IsTied}
use Rattle.import_graph.specs.Walks.{go, stay, AllWithin, Lists, ReachedFrom}
use Rattle.import_graph.proofs.ImportEdges.{in_map}
use Rattle.import_graph.proofs.NewNumbers.{new_number, number_before, number_from, renumbered_rise, walk_back, walk_there}
use Rattle.import_graph.proofs.Renumbered.{all_within, before_it, behind_it}
use Rattle.import_graph.proofs.Sharing.{mapped}

-- both ways of giving a file its new number agree
numbers_agree : (at : ℕ) → number_after at ≡ new_number at
numbers_agree at = fun_ext (λ g. elim (cases_lt g at) [
  | inl lt ↦ before_it at g lt ∙ sym (number_before at g lt)
  | inr le ↦ behind_it at g le ∙ sym (number_from at g le)
])

-- each number is the new one's or another file's
abbrev Numbered : ℕ → ℕ → Type 0
Numbered at x = (x ≡ at) ⊎ ((g : ℕ) × (x ≡ new_number at g))

one_higher : (at x : ℕ) → Numbered at x → Numbered (suc at) (suc x)
one_higher at x (inl e) = inl (ap suc e)
one_higher at x (inr (g, e)) = inr (suc g, ap suc e)

numbered : (at x : ℕ) → Numbered at x
numbered zero zero = inl refl
numbered zero (suc x) = inr (x, refl)
numbered (suc k) zero = inr (zero, refl)
numbered (suc k) (suc x) = one_higher k x (numbered k x)

-- the others' elements are what they were
kept_at : {X : Type 0} (xs : List X) (k : ℕ) (y d : X) (g : ℕ) → k ≤ length xs → get_or (insert xs k y) (new_number k g) d ≡ get_or xs g d
kept_at xs k y d g room = elim (cases_lt g k) [
  | inl lt ↦ ap (λ n. get_or (insert xs k y) n d) (number_before k g lt) ∙ get_or-insert_below xs k y d g lt room
  | inr le ↦ ap (λ n. get_or (insert xs k y) n d) (number_from k g le) ∙ get_or-insert_above xs k y d g le room
]

row_mapped : (f : ℕ → ℕ) (rows : List (List ℕ)) (g : ℕ) → get_or (map (map f) rows) g [] ≡ map f (get_or rows g [])
row_mapped f [] g = refl
row_mapped f (row ∷ rows) zero = refl
row_mapped f (row ∷ rows) (suc g) = row_mapped f rows g

-- ---- what the rows list, and where they lead

module _ (at : ℕ) (own : List ℕ) (rows : List (List ℕ)) (room : at ≤ length rows) where
  abbrev now : List (List ℕ)
  now = insert (map (map (new_number at)) rows) at own

  still_room : at ≤ length (map (map (new_number at)) rows)
  still_room = omega (arith, room, length-map rows (map (new_number at)))

  old_row : (a : ℕ) → get_or now (new_number at a) [] ≡ map (new_number at) (get_or rows a [])
  old_row a = kept_at (map (map (new_number at)) rows) at own [] a still_room ∙ row_mapped (new_number at) rows a

  own_row : get_or now at [] ≡ own
  own_row = get_or-insert_at (map (map (new_number at)) rows) at own [] still_room

  there : (a b : ℕ) → Lists rows a b → Lists now (new_number at a) (new_number at b)
  there a b has = subst (λ row. Contains row (new_number at b)) (sym (old_row a)) (mapped (new_number at) (get_or rows a []) b has)

  back : (a x : ℕ) → Lists now (new_number at a) x → (b : ℕ) × (x ≡ new_number at b) × Lists rows a b
  back a x has =
      let was = in_map (new_number at) (get_or rows a []) x (subst (λ row. Contains row x) (old_row a) has) in
      (was.0, sym was.2, was.1)

  lead_there : (a b : ℕ) → Leads rows a b → Leads now (new_number at a) (new_number at b)
  lead_there a b walk = walk_there (λ x y. Lists rows x y) (λ x y. Lists now x y) at there walk

  lead_back : (a x : ℕ) → Leads now (new_number at a) x → (b : ℕ) × (x ≡ new_number at b) × Leads rows a b
  lead_back a x walk = walk_back (λ x y. Lists rows x y) (λ x y. Lists now x y) at back walk a refl

  now_is : rows_with at own rows ≡ now
  now_is = ap (λ (f : ℕ → ℕ). insert (map (map f) rows) at own) (numbers_agree at)

-- rows of which the others lead to no more
module _ (at : ℕ) (own : List ℕ) (some others : List (List ℕ)) (room : at ≤ length some) (room' : at ≤ length others) (alike : (a b : ℕ) → Leads some a b → Leads others a b) where
  carried : {x y : ℕ} → Leads (now at own some room) x y → Leads (now at own others room') x y
  carried stay = stay
  carried (go {a = x} {b = t} {c = y} first rest) =
      let from : Numbered at x = numbered at x in
      elim from [
        | inl here ↦
            let listed : Contains own t = subst (λ row. Contains row t) (ap (λ n. get_or (now at own some room) n []) here ∙ own_row at own some room) first in
            go (subst (λ row. Contains row t) (sym (ap (λ n. get_or (now at own others room') n []) here ∙ own_row at own others room')) listed) (carried rest)
        | inr (a, e) ↦
            let was = lead_back at own some room a y (subst (λ z. Leads (now at own some room) z y) e (go first rest)) in
            let led : Leads (now at own others room') (new_number at a) (new_number at was.0) = lead_there at own others room' a was.0 (alike a was.0 was.2) in
            subst (λ z. Leads (now at own others room') z y) (sym e) (subst (λ z. Leads (now at own others room') (new_number at a) z) (sym was.1) led)
      ]

pub lead_alike_with : (at : ℕ) (own : List ℕ) (some others : List (List ℕ)) → at ≤ length some → length others ≡ length some → LeadAlike some others → LeadAlike (rows_with at own some) (rows_with at own others)
lead_alike_with at own some others room as_many alike a b =
    let room' : at ≤ length others = omega (arith, room, as_many) in
    let some_is : rows_with at own some ≡ now at own some room = now_is at own some room in
    let others_is : rows_with at own others ≡ now at own others room' = now_is at own others room' in (
      λ walk. subst (λ rows. Leads rows a b) (sym others_is) (carried at own some others room room' (λ x y. (alike x y).0) (subst (λ rows. Leads rows a b) some_is walk)),
      λ walk. subst (λ rows. Leads rows a b) (sym some_is) (carried at own others some room' room (λ x y. (alike x y).1) (subst (λ rows. Leads rows a b) others_is walk)),
    )

-- ---- numbers of components

module _ (at : ℕ) (own : List ℕ) (rows : List (List ℕ)) (old new : Components) (room : at ≤ length rows) (as_many : length old.numbers.items ≡ length rows) (has : HasNumber at own old new) where
  numbers_room : at ≤ length old.numbers.items
  numbers_room = omega (arith, room, as_many)

  number_stays : (g : ℕ) → get_or new.numbers.items (new_number at g) 0 ≡ get_or old.numbers.items g 0
  number_stays g = ap (λ ns. get_or ns (new_number at g) 0) has.numbers ∙ kept_at old.numbers.items at has.number 0 g numbers_room

  number_here : get_or new.numbers.items at 0 ≡ has.number
  number_here = ap (λ ns. get_or ns at 0) has.numbers ∙ get_or-insert_at old.numbers.items at has.number 0 numbers_room

  descends_now : Descends rows old.numbers.items → Descends (now at own rows room) new.numbers.items
  descends_now falls a b listed = elim (numbered at a) [
    | inl here ↦
        let in_own : Contains own b = subst (λ row. Contains row b) (ap (λ n. get_or (now at own rows room) n []) here ∙ own_row at own rows room) listed in
        let mine : get_or new.numbers.items a 0 ≡ has.number = ap (λ n. get_or new.numbers.items n 0) here ∙ number_here in
        elim (has.highest b in_own) [
          | inl same ↦ let e : get_or new.numbers.items b 0 ≡ get_or new.numbers.items a 0 = ap (λ n. get_or new.numbers.items n 0) (same ∙ sym here) in omega (arith, e)
          | inr below ↦ omega (arith, below, mine)
        ]
    | inr (f, e) ↦
        let was = back at own rows room f b (subst (λ z. Lists (now at own rows room) z b) e listed) in
        let there = falls f was.0 was.2 in
        let from : get_or new.numbers.items a 0 ≡ get_or old.numbers.items f 0 = ap (λ n. get_or new.numbers.items n 0) e ∙ number_stays f in
        let to : get_or new.numbers.items b 0 ≡ get_or old.numbers.items was.0 0 = ap (λ n. get_or new.numbers.items n 0) was.1 ∙ number_stays was.0 in
        omega (arith, there, from, to)
  ]

  module _ (flagged : length old.tied.items ≡ length rows) where
    flags_room : at ≤ length old.tied.items
    flags_room = omega (arith, room, flagged)

    flag_stays : (g : ℕ) → get_or new.tied.items (new_number at g) false ≡ get_or old.tied.items g false
    flag_stays g = ap (λ fs. get_or fs (new_number at g) false) has.tied ∙ kept_at old.tied.items at false false g flags_room

    no_flag : get_or new.tied.items at false ≡ false
    no_flag = ap (λ fs. get_or fs at false) has.tied ∙ get_or-insert_at old.tied.items at false false flags_room

    -- a flagged file is one of the others
    other_flagged : (a : ℕ) → get_or new.tied.items a false ≡ true → (g : ℕ) × (a ≡ new_number at g) × (get_or old.tied.items g false ≡ true)
    other_flagged a flag = elim (numbered at a) [
      | inl here ↦ let none : get_or new.tied.items a false ≡ false = ap (λ n. get_or new.tied.items n false) here ∙ no_flag in absurd (cc (flag, none))
      | inr (g, e) ↦ (g, e, sym (flag_stays g) ∙ ap (λ n. get_or new.tied.items n false) (sym e) ∙ flag)
    ]

    tied_now : IsTied rows old.numbers.items old.tied.items → IsTied (now at own rows room) new.numbers.items new.tied.items
    tied_now tied a b flag_a flag_b same =
        let f = other_flagged a flag_a in
        let g = other_flagged b flag_b in
        let numbers : get_or old.numbers.items f.0 0 ≡ get_or old.numbers.items g.0 0 =
        sym (number_stays f.0) ∙ ap (λ n. get_or new.numbers.items n 0) (sym f.1) ∙ same ∙ ap (λ n. get_or new.numbers.items n 0) g.1 ∙ number_stays g.0 in
        subst (λ z. Leads (now at own rows room) z b) (sym f.1)
        (subst (λ z. Leads (now at own rows room) (new_number at f.0) z) (sym g.1) (lead_there at own rows room f.0 g.0 (tied f.0 g.0 f.2 g.2 numbers)))

pub descends_with : (at : ℕ) (own : List ℕ) (rows : List (List ℕ)) (old new : Components) → at ≤ length rows → length old.numbers.items ≡ length rows → HasNumber at own old new
    → Descends rows old.numbers.items → Descends (rows_with at own rows) new.numbers.items
descends_with at own rows old new room as_many has falls = subst (λ those. Descends those new.numbers.items) (sym (now_is at own rows room)) (descends_now at own rows old new room as_many has falls)

pub tied_with : (at : ℕ) (own : List ℕ) (rows : List (List ℕ)) (old new : Components) → at ≤ length rows → length old.numbers.items ≡ length rows → length old.tied.items ≡ length rows → HasNumber at own old new
    → IsTied rows old.numbers.items old.tied.items → IsTied (rows_with at own rows) new.numbers.items new.tied.items
tied_with at own rows old new room as_many flagged has tied =
    subst (λ those. IsTied those new.numbers.items new.tied.items) (sym (now_is at own rows room)) (tied_now at own rows old new room as_many has flagged tied)

-- ---- shared lists

module _ (at : ℕ) (own published : List ℕ) (imports steps : List (List ℕ)) (old new : SharedLists) (room : at ≤ length imports) (as_many : length steps ≡ length imports) (has : HasNoList at old new) (are : AreShared steps imports old) where
  steps_room : at ≤ length steps
  steps_room = omega (arith, room, as_many)

  abbrev steps_now : List (List ℕ)
  steps_now = now at published steps steps_room

  abbrev imports_now : List (List ℕ)
  imports_now = now at own imports room

  abbrev turn : List ℕ → List ℕ
  turn row = map (new_number at) row

  share_room : at ≤ length old.numbers.items
  share_room = omega (arith, room, are.as_many)

  share_stays : (g : ℕ) → number_at new (new_number at g) ≡ number_at old g
  share_stays g = ap (λ ns. get_or ns (new_number at g) None) has.numbers ∙ kept_at old.numbers.items at None None g share_room

  no_share : number_at new at ≡ None
  no_share = ap (λ ns. get_or ns at None) has.numbers ∙ get_or-insert_at old.numbers.items at None None share_room

  list_is : (k : ℕ) → list_at new k ≡ turn (list_at old k)
  list_is k = ap (λ ls. get_or ls k []) has.lists ∙ row_mapped (number_after at) old.lists.items k ∙ ap (λ (f : ℕ → ℕ). map f (list_at old k)) (numbers_agree at)

  -- a file that shares a list is one of the others
  other_shares : (f k : ℕ) → number_at new f ≡ Some k → (g : ℕ) × (f ≡ new_number at g) × (number_at old g ≡ Some k)
  other_shares f k e = elim (numbered at f) [
    | inl here ↦ let none : number_at new f ≡ None = ap (number_at new) here ∙ no_share in absurd (cc (e, none))
    | inr (g, is) ↦ (g, is, sym (share_stays g) ∙ ap (number_at new) (sym is) ∙ e)
  ]

  reached_there : (g x : ℕ) → ReachedFrom steps (get_or imports g []) x → ReachedFrom steps_now (turn (get_or imports g [])) (new_number at x)
  reached_there g x (h, from, walk) = (new_number at h, mapped (new_number at) (get_or imports g []) h from, lead_there at published steps steps_room h x walk)

  reached_back : (g y : ℕ) → ReachedFrom steps_now (turn (get_or imports g [])) y → (x : ℕ) × (y ≡ new_number at x) × ReachedFrom steps (get_or imports g []) x
  reached_back g y (h, from, walk) =
      let start = in_map (new_number at) (get_or imports g []) h from in
      let was = lead_back at published steps steps_room start.0 y (subst (λ z. Leads steps_now z y) (sym start.2) walk) in
      (was.0, was.1, (start.0, start.1, was.2))

  own_list : (g k : ℕ) → number_at old g ≡ Some k → IsOwnList steps_now imports_now (new_number at g) (turn (list_at old k))
  own_list g k e =
      let list = are.own g k e in
      let row : get_or imports_now (new_number at g) [] ≡ turn (get_or imports g []) = old_row at own imports room g in
      record {
        ascending = renumbered_rise at (list_at old k) list.ascending;
        exact = λ y. (
          λ listed.
              let was = in_map (new_number at) (list_at old k) y listed in
              subst (λ r. ReachedFrom steps_now r y) (sym row)
              (subst (λ z. ReachedFrom steps_now (turn (get_or imports g [])) z) was.2 (reached_there g was.0 ((list.exact was.0).0 was.1))),
          λ reached.
              let was = reached_back g y (subst (λ r. ReachedFrom steps_now r y) row reached) in
              subst (λ z. Contains (turn (list_at old k)) z) (sym was.1) (mapped (new_number at) (list_at old k) was.0 ((list.exact was.0).1 was.2)),
        );
        own = mapped (new_number at) (list_at old k) g list.own;
      }

  shared_now : AreShared steps_now imports_now new
  shared_now = record {
    as_many =
        let shares = length-insert old.numbers.items at None share_room in
        let rows = length-insert (map turn imports) at own (omega (arith, room, length-map imports turn)) in
        omega (arith, ap length has.numbers, shares, rows, are.as_many, length-map imports turn);
    below = λ f k e.
        let g = other_shares f k e in
        let lt = are.below g.0 k g.2 in
        omega (arith, lt, ap length has.lists, length-map old.lists.items (map (number_after at)));
    own = λ f k e.
        let g = other_shares f k e in
        subst (λ z. IsOwnList steps_now imports_now z (list_at new k)) (sym g.1)
        (subst (λ l. IsOwnList steps_now imports_now (new_number at g.0) l) (sym (list_is k)) (own_list g.0 k g.2));
    listed =
        let many : length steps_now ≡ length steps + 1 = omega (arith, length-insert (map turn steps) at published (omega (arith, steps_room, length-map steps turn)), length-map steps turn) in
        subst (λ n. All (AllWithin n) new.lists.items) (sym many)
        (subst (λ ls. All (AllWithin (length steps + 1)) ls) (sym has.lists) (all_within at (length steps) old.lists.items are.listed));
  }

pub shared_with : (at : ℕ) (own published : List ℕ) (imports steps : List (List ℕ)) (old new : SharedLists) → at ≤ length imports → length steps ≡ length imports → HasNoList at old new
    → AreShared steps imports old → AreShared (rows_with at published steps) (rows_with at own imports) new
shared_with at own published imports steps old new room as_many has are =
    let steps_room' : at ≤ length steps = omega (arith, room, as_many) in
    subst (λ those. AreShared those (rows_with at own imports) new) (sym (now_is at published steps steps_room'))
    (subst (λ those. AreShared (now at published steps steps_room') those new) (sym (now_is at own imports room)) (shared_now at own published imports steps old new room as_many has are))
