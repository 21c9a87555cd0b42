-- What a file declares at a full name, before and after a change.
use Rattle.std.proofs.Common.{◌≡◌, ◌∙◌, sym, ap, ap₂, refl, inl, inr, ℕ, suc, ◌+◌, ◌-◌, ◌<◌, ◌≤◌, ◌||◌, List, [], ◌∷◌, ◌++◌, Bool, false, if◌then◌else◌, length, take, drop, map, filter, bytes_eq, length-append, arith}
use Rattle.std.specs.List.{enumerate_from, list_any}
use Rattle.std.proofs.lemmas.Bool.{cases_Bool}
use Rattle.std.proofs.lemmas.Bool.Decides.{nat_tests}
use Rattle.std.proofs.lemmas.List.{length-drop, length-map, length-take, map-append, take-append-drop}
use Rattle.std.proofs.lemmas.List.Folds.{list_any-append}
use Rattle.std.proofs.lemmas.Slice.Eq.{bytes_eq-Decides}
use Rattle.proto_decls.specs.declared.fact.Decl.{Decl}
use Rattle.proto_decls.specs.declared.fact.DeclKind.{DeclKind}
use Rattle.proto_names.specs.Outlines.{declared}
use Rattle.proto_names.proofs.PackageFronts.{to_end}
use Rattle.work_links.specs.declared.keys.NameKeys.{NameKeys}
use Rattle.work_links.specs.declared.renumbering.Renumbering.{Renumbering}
use Rattle.work_links.specs.Keys.{key, last_key}
use Rattle.work_links.specs.Touched.{are_keys_of, renumbered}

-- of declarations, those of a full name: their numbers and kinds
abbrev pub of_name : List Decl → List ℕ → List (ℕ × DeclKind)
of_name ds name = map (λ e. (e.0, let d = e.1 in d.kind)) (filter (λ e. bytes_eq (let d = e.1 in d.full_name) name) (enumerate_from 0 ds))

-- the same of what they say, where the first one has the number
abbrev named_at : ℕ → List (DeclKind × List ℕ) → List ℕ → List (ℕ × DeclKind)
named_at n [] name = []
named_at n (d ∷ ds) name = if bytes_eq d.1 name then (n, d.0) ∷ named_at (n + 1) ds name else named_at (n + 1) ds name

named_is : (n : ℕ) (ds : List Decl) (name : List ℕ)
    → map (λ e. (e.0, let d = e.1 in d.kind)) (filter (λ e. bytes_eq (let d = e.1 in d.full_name) name) (enumerate_from n ds)) ≡ named_at n (map declared ds) name
named_is n [] name = refl
named_is n (d ∷ ds) name = elim (cases_Bool (bytes_eq d.full_name name)) [
  | inl holds ↦ rw (holds, named_is (n + 1) ds name) refl
  | inr fails ↦ rw (fails, named_is (n + 1) ds name) refl
]

named_at-append : (n : ℕ) (xs ys : List (DeclKind × List ℕ)) (name : List ℕ) → named_at n (xs ++ ys) name ≡ named_at n xs name ++ named_at (n + length xs) ys name
named_at-append n [] ys name = ap (λ m. named_at m ys name) (let e : n ≡ n + 0 = omega arith in e)
named_at-append n (x ∷ xs) ys name =
    let count : n + 1 + length xs ≡ n + length (x ∷ xs) = omega arith in
    let rest = named_at-append (n + 1) xs ys name ∙ ap (λ m. named_at (n + 1) xs name ++ named_at m ys name) count in
    elim (cases_Bool (bytes_eq x.1 name)) [
      | inl holds ↦ rw (holds, rest) refl
      | inr fails ↦ rw (fails, rest) refl
    ]

abbrev pub decl_keys : Decl → NameKeys
decl_keys d = record { last = last_key d.full_name; whole = key d.full_name }

-- a name without the keys of any of them is the name of none
none_named : (n : ℕ) (ds : List Decl) (name : List ℕ) → list_any (are_keys_of name) (map decl_keys ds) ≡ false → named_at n (map declared ds) name ≡ []
none_named n [] name none = refl
none_named n (d ∷ ds) name none = elim (cases_Bool (are_keys_of name (decl_keys d))) [
  | inl holds ↦ absurd (cc (rw holds at none))
  | inr fails ↦ elim (cases_Bool (bytes_eq d.full_name name)) [
    | inl equal ↦
        let same : d.full_name ≡ name = (bytes_eq-Decides d.full_name name).0 equal in
        let last : last_key d.full_name ≡ last_key name = ap last_key same in
        let whole : key d.full_name ≡ key name = ap key same in
        absurd (grind (arith, nat_tests))
    | inr other ↦ rw other (none_named (n + 1) ds name (rw fails at none))
  ]
]

-- ---- other numbers

before_change : (by : Renumbering) (n : ℕ) → n < by.from → renumbered by n ≡ n
before_change by n lt = grind (arith, nat_tests)

behind_change : (by : Renumbering) (n m left : ℕ) → by.from ≤ n → n + suc left ≡ by.before → m + suc left ≡ by.after → renumbered by n ≡ m
behind_change by n m left le before after = grind (arith, nat_tests)

abbrev pub moved : Renumbering → ℕ × DeclKind → ℕ × DeclKind
moved by e = (renumbered by e.0, e.1)

front_stays : (by : Renumbering) (n : ℕ) (ds : List (DeclKind × List ℕ)) (name : List ℕ) → n + length ds ≤ by.from → map (moved by) (named_at n ds name) ≡ named_at n ds name
front_stays by n [] name le = refl
front_stays by n (d ∷ ds) name le =
    let rest = front_stays by (n + 1) ds name (omega arith) in
    elim (cases_Bool (bytes_eq d.1 name)) [
      | inl holds ↦ rw (holds, rest, before_change by n (omega arith)) refl
      | inr fails ↦ rw (fails, rest) refl
    ]

back_moves : (by : Renumbering) (n m : ℕ) (ds : List (DeclKind × List ℕ)) (name : List ℕ) → by.from ≤ n → n + length ds ≡ by.before → m + length ds ≡ by.after
    → map (moved by) (named_at n ds name) ≡ named_at m ds name
back_moves by n m [] name le before after = refl
back_moves by n m (d ∷ ds) name le before after =
    let rest = back_moves by (n + 1) (m + 1) ds name (omega arith) (omega arith) (omega arith) in
    elim (cases_Bool (bytes_eq d.1 name)) [
      | inl holds ↦ rw (holds, rest, behind_change by n m (length ds) le before after) refl
      | inr fails ↦ rw (fails, rest) refl
    ]

-- ---- the change

-- a list in three parts, of which the one between has none of the name
around : (front between back : List (DeclKind × List ℕ)) (name : List ℕ) → ((n : ℕ) → named_at n between name ≡ [])
    → named_at 0 (front ++ (between ++ back)) name ≡ named_at 0 front name ++ named_at (length front + length between) back name
around front between back name none =
    let start : 0 + length front ≡ length front = omega arith in
    named_at-append 0 front (between ++ back) name
    ∙ ap (λ ds. named_at 0 front name ++ ds) (ap (λ n. named_at n (between ++ back) name) start ∙ named_at-append (length front) between back name ∙ ap (λ ds. ds ++ named_at (length front + length between) back name) (none (length front)))

changed : (by : Renumbering) (front gone added back : List (DeclKind × List ℕ)) (name : List ℕ)
    → length front ≡ by.from → length front + length gone + length back ≡ by.before → length front + length added + length back ≡ by.after
    → ((n : ℕ) → named_at n gone name ≡ []) → ((n : ℕ) → named_at n added name ≡ [])
    → named_at 0 (front ++ (added ++ back)) name ≡ map (moved by) (named_at 0 (front ++ (gone ++ back)) name)
changed by front gone added back name from before after none none' =
    let stays = front_stays by 0 front name (omega arith) in
    let moves = back_moves by (length front + length gone) (length front + length added) back name (omega arith) before after in
    around front added back name none'
    ∙ sym (ap (map (moved by)) (around front gone back name none) ∙ map-append (moved by) (named_at 0 front name) (named_at (length front + length gone) back name) ∙ ap₂ (λ a b. a ++ b) stays moves)

in_parts : (ds : List Decl) (n i : ℕ) → map declared ds ≡ map declared (take n ds) ++ (map declared (take i (drop n ds)) ++ map declared (drop i (drop n ds)))
in_parts ds n i =
    ap (map declared) (sym (take-append-drop n ds))
    ∙ map-append declared (take n ds) (drop n ds)
    ∙ ap (λ rest. map declared (take n ds) ++ rest) (ap (map declared) (sym (take-append-drop i (drop n ds))) ∙ map-append declared (take i (drop n ds)) (drop i (drop n ds)))

lengths : (ds : List Decl) (n i : ℕ) → length (map declared (take n ds)) + length (map declared (take i (drop n ds))) + length (map declared (drop i (drop n ds))) ≡ length ds
lengths ds n i =
    let front = map declared (take n ds) in
    let between = map declared (take i (drop n ds)) in
    let back = map declared (drop i (drop n ds)) in
    let whole = length-map ds declared in
    let parts = ap length (in_parts ds n i) in
    omega (arith, whole, parts, length-append front (between ++ back), length-append between back)

-- what is between ends where those behind begin
pub behind_them : (ds : List Decl) (from behind : ℕ) → (let rest = take (length ds - from) (drop from ds) in drop (length rest - behind) rest) ≡ drop (length ds - behind - from) (drop from ds)
behind_them ds from behind =
    let long = length-drop from ds in
    let start : length (drop from ds) - behind ≡ length ds - behind - from = omega (arith, long) in
    rw to_end (ap (λ i. drop i (drop from ds)) start)

-- Two lists of declarations agree before a number, and again behind those that are gone and those that are added. Of a name that has the
-- keys of none of these, both have the same, but for the numbers.
pub same_but_for_numbers : (by : Renumbering) (old new : List Decl) (gone added : ℕ) (name : List ℕ)
    → by.from ≤ length old → by.from ≤ length new → by.before ≡ length old → by.after ≡ length new
    → map declared (take by.from old) ≡ map declared (take by.from new)
    → map declared (drop gone (drop by.from old)) ≡ map declared (drop added (drop by.from new))
    → list_any (are_keys_of name) (map decl_keys (take gone (drop by.from old)) ++ map decl_keys (take added (drop by.from new))) ≡ false
    → of_name new name ≡ map (moved by) (of_name old name)
same_but_for_numbers by old new gone added name within within' before after same_front same_back none =
    let from = by.from in
    let is_key : NameKeys → Bool = are_keys_of name in
    let between = take gone (drop from old) in
    let between' = take added (drop from new) in
    let front = map declared (take from old) in
    let back = map declared (drop gone (drop from old)) in
    let either : (list_any is_key (map decl_keys between) || list_any is_key (map decl_keys between')) ≡ false = sym (list_any-append is_key (map decl_keys between) (map decl_keys between')) ∙ none in
    let whole : map declared old ≡ front ++ (map declared between ++ back) = in_parts old from gone in
    let whole' : map declared new ≡ front ++ (map declared between' ++ back) = in_parts new from added ∙ ap₂ (λ a b. a ++ (map declared between' ++ b)) (sym same_front) (sym same_back) in
    let count : length front ≡ from = omega (arith, length-map (take from old) declared, length-take from old) in
    let counts = lengths old from gone in
    let counts' : length front + length (map declared between') + length back ≡ length new = ap₂ (λ a b. length a + length (map declared between') + length b) same_front same_back ∙ lengths new from added in
    let none_gone : (n : ℕ) → named_at n (map declared between) name ≡ [] = λ n. none_named n between name (grind (arith, either)) in
    let none_added : (n : ℕ) → named_at n (map declared between') name ≡ [] = λ n. none_named n between' name (grind (arith, either)) in
    named_is 0 new name
    ∙ ap (λ ds. named_at 0 ds name) whole'
    ∙ changed by front (map declared between) (map declared between') back name count (counts ∙ sym before) (counts' ∙ sym after) none_gone none_added
    ∙ ap (map (moved by)) (sym (named_is 0 old name ∙ ap (λ ds. named_at 0 ds name) whole))
