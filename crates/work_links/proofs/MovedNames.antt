-- What a file sees where files have other numbers.
use Rattle.std.proofs.Common.{◌≡◌, ◌∙◌, sym, ap, ap₂, inl, inr, ℕ, zero, suc, ◌+◌, ◌<◌, ◌==◌, List, [], ◌∷◌, ◌++◌, Bool, true, false, ◌||◌, Option, Some, None, filter, length, get_or, map, refl, arith}
use Rattle.std.specs.Prelude.{All, is_some, option_map}
use Rattle.std.specs.List.{AllPairs, enumerate_from, flat_map, range_with_len}
use Rattle.std.specs.Option.{unwrap_or}
use Rattle.std.proofs.lemmas.Bool.{cases_Bool, cases_eq, or_cases, or_right}
use Rattle.std.proofs.lemmas.Bool.Decides.{nat_tests}
use Rattle.std.proofs.lemmas.List.{length-map, map-append}
use Rattle.std.proofs.lemmas.List.Elements.{All-head, All-tail}
use Rattle.std.proofs.lemmas.List.Kept.{AllPairs-filter, AllPairs-from_increasing}
use Rattle.proto_decls.specs.declared.fact.DeclKind.{DeclKind}
use Rattle.proto_decls.specs.declared.fact.FileFacts.{FileFacts}
use Rattle.proto_decls.specs.declared.named_facts.NamedFacts.{NamedFacts}
use Rattle.import_graph.specs.declared.imports.FileImports.{FileImports}
use Rattle.import_graph.specs.Closures.{closure, imports, imports_publicly, sees, view_of}
use Rattle.import_graph.specs.Imports.{graph_of, imports_of}
use Rattle.import_graph.specs.Moves.{moved_import, new_import, place}
use Rattle.import_graph.specs.Outlooks.{imports_outlook}
use Rattle.import_graph.proofs.OneView.{rising}
use Rattle.proto_names.specs.declared.decl_ref.DeclRef.{DeclRef}
use Rattle.proto_names.specs.Files.{decls_at, facts_at, is_seen}
use Rattle.proto_resolve.specs.Resolved.{sites_at}
use Rattle.proto_resolve.proofs.Firsts.{agrees, differs}
use Rattle.work_links.specs.Asked.{names_asked}
use Rattle.work_links.specs.Laws.{MovedLaw, MovesAlike, decl_moved, seen_named}
use Rattle.proto_names.specs.Outlines.{package_name}
use Rattle.work_links.specs.Touched.{declared_as}
use Rattle.work_links.proofs.AskedAlone.{IsToldTheSame, KeepsPlace, near, package_at, resolved_same, said_of_import}
use Rattle.work_links.proofs.NamedByFile.{Kinded, named_by, of_file, seen_kept}

-- ---- what a file sees, by its view

-- of numbers from a on, those that pass
module _ (p : ℕ → Bool) where
  not_below : (a n g : ℕ) → g < a → is_seen (filter p (range_with_len a n)) g ≡ false
  not_below a zero g lt = refl
  not_below a (suc n) g lt =
      let rest : is_seen (filter p (range_with_len (a + 1) n)) g ≡ false = not_below (a + 1) n g (omega arith) in
      elim (cases_Bool (p a)) [
        | inl passes ↦ rw (passes, differs a g (λ same. omega arith)) rest
        | inr fails ↦ rw fails rest
      ]

  seen_is : (a n k : ℕ) → k < n → is_seen (filter p (range_with_len a n)) (a + k) ≡ p (a + k)
  seen_is a zero k lt = absurd (omega arith)
  seen_is a (suc n) zero lt =
      let here : a + 0 ≡ a = omega arith in
      elim (cases_Bool (p a)) [
        | inl passes ↦ rw (here, passes, agrees a a refl) refl
        | inr fails ↦ rw (here, fails) (not_below (a + 1) n a (omega arith))
      ]
  seen_is a (suc n) (suc k) lt =
      let there : (a + 1) + k ≡ a + suc k = omega arith in
      let rest : is_seen (filter p (range_with_len (a + 1) n)) (a + suc k) ≡ p (a + suc k) = rw there at (seen_is (a + 1) n k (omega arith)) in
      elim (cases_Bool (p a)) [
        | inl passes ↦ rw (passes, differs a (a + suc k) (λ same. omega arith)) rest
        | inr fails ↦ rw fails rest
      ]

  filter_ascends : (n : ℕ) → AllPairs (λ x y. x < y) (filter p (range_with_len 0 n))
  filter_ascends n = AllPairs-filter (λ x y. x < y) p (range_with_len 0 n) (AllPairs-from_increasing (range_with_len 0 n) (rising n))

module _ (files : List NamedFacts) (f : ℕ) where
  abbrev graph : List FileImports
  graph = graph_of files

  abbrev seen_by_f : List ℕ
  seen_by_f = view_of graph f

  as_long : length graph ≡ length files
  as_long = length-map files (λ file. imports_of files file.facts)

  sees_itself : sees graph f f ≡ true
  sees_itself = rw (agrees f f refl) refl

  view_has : (g : ℕ) → g < length files → is_seen seen_by_f g ≡ sees graph f g
  view_has g lt = let start : 0 + g ≡ g = omega arith in rw start at (seen_is (sees graph f) 0 (length graph) g (omega (arith, as_long, lt)))

  pub in_own_view : f < length files → is_seen seen_by_f f ≡ true
  in_own_view there = view_has f there ∙ sees_itself

  near_is : (g : ℕ) → g < length files → ((g == f) || is_seen seen_by_f g) ≡ sees graph f g
  near_is g lt = either (g == f) (is_seen seen_by_f g) (closure (length graph) (imports_publicly graph) (imports graph f) g) (view_has g lt)
    where
      either : (own seen led : Bool) → seen ≡ (own || led) → (own || seen) ≡ (own || led)
      either true seen led e = refl
      either false seen led e = e

  pub view_ascends : AllPairs (λ x y. x < y) seen_by_f
  view_ascends = filter_ascends (sees graph f) (length graph)

-- the declarations of a name in a file, each with its kind
abbrev pub named_there : List NamedFacts → List ℕ → ℕ → List Kinded
named_there files name g = map (of_file g) (declared_as (facts_at files g) name)

module _ (near_file : ℕ → Bool) (name : List ℕ) (p : ℕ → Bool) (make : ℕ → List Kinded) where
  by_number : (a : ℕ) (files : List NamedFacts)
      → ((k : ℕ) → k < length files → near_file (a + k) ≡ p (a + k)) → ((k : ℕ) → k < length files → map (of_file (a + k)) (declared_as (facts_at files k) name) ≡ make (a + k))
      → flat_map (named_by near_file name files) (enumerate_from a files) ≡ flat_map make (filter p (range_with_len a (length files)))
  by_number a [] same made = refl
  by_number a (file ∷ files) same made =
      let start : a + 0 ≡ a = omega arith in
      let next : (k : ℕ) → (a + 1) + k ≡ a + suc k = λ k. omega arith in
      let rest : flat_map (named_by near_file name files) (enumerate_from (a + 1) files) ≡ flat_map make (filter p (range_with_len (a + 1) (length files))) =
      by_number (a + 1) files (λ k lt. rw (next k) (same (suc k) (omega (arith, lt)))) (λ k lt. rw (next k) (made (suc k) (omega (arith, lt)))) in
      let this : near_file a ≡ p a = rw start at (same 0 (omega arith)) in
      let one : map (of_file a) (declared_as file.facts name) ≡ make a = rw start at (made 0 (omega arith)) in
      elim (cases_Bool (p a)) [
        | inl passes ↦ rw (this, passes) (ap₂ (λ (us vs : List Kinded). us ++ vs) one rest)
        | inr fails ↦ rw (this, fails) rest
      ]

-- what f sees of a name is what the files of its view declare
pub seen_by_view : (files : List NamedFacts) (f : ℕ) (name : List ℕ) → seen_named files f (view_of (graph_of files) f) name ≡ flat_map (named_there files name) (view_of (graph_of files) f)
seen_by_view files f name =
    let near_file : ℕ → Bool = λ g. (g == f) || is_seen (view_of (graph_of files) f) g in
    let start : (k : ℕ) → 0 + k ≡ k = λ k. omega arith in
    seen_kept near_file name files
    ∙ by_number near_file name (sees (graph_of files) f) (named_there files name) 0 files
    (λ k lt. rw (start k) (near_is files f k lt)) (λ k lt. rw (start k) refl)
    ∙ ap (λ (n : ℕ). flat_map (named_there files name) (filter (sees (graph_of files) f) (range_with_len 0 n))) (sym (as_long files f))

-- ---- two views, pairwise

module _ (to : List (Option ℕ)) where
  -- the files of the second list are those of the first one under their new numbers
  abbrev pub Moves : List ℕ → List ℕ → Type 0
  Moves gs gs' = map Some gs' ≡ map (place to) gs

  first_moves : (g g' : ℕ) (gs gs' : List ℕ) → Moves (g ∷ gs) (g' ∷ gs') → place to g ≡ Some g'
  first_moves g g' gs gs' moves = cc

  others_move : (g g' : ℕ) (gs gs' : List ℕ) → Moves (g ∷ gs) (g' ∷ gs') → Moves gs gs'
  others_move g g' gs gs' moves = cc

  -- one that is there is there under its new number
  placed : (gs gs' : List ℕ) → Moves gs gs' → (g : ℕ) → is_seen gs g ≡ true → (g' : ℕ) × (place to g ≡ Some g') × (is_seen gs' g' ≡ true)
  placed [] gs' moves g there = absurd (cc (there))
  placed (h ∷ hs) [] moves g there = absurd (cc (moves))
  placed (h ∷ hs) (h' ∷ hs') moves g there = elim (cases_eq h g) [
    | inl same ↦ (h', rw (same) at (first_moves h h' hs hs' moves), rw (agrees h' h' refl) refl)
    | inr other ↦
        let rest = placed hs hs' (others_move h h' hs hs' moves) g (rw (differs h g other) at there) in
        (rest.0, rest.1, or_right (h' == rest.0) (is_seen hs' rest.0) rest.2)
  ]

  not_later : (g : ℕ) (gs : List ℕ) → AllPairs (λ x y. x < y) (g ∷ gs) → is_seen gs g ≡ false
  not_later g gs ascends = none gs (λ k d lt. ascends 0 (suc k) d (omega arith) (omega (arith, lt)))
    where
      none : (hs : List ℕ) → All (λ h. g < h) hs → is_seen hs g ≡ false
      none [] all = refl
      none (h ∷ hs) all = rw (differs h g (λ same. absurd (omega (arith, same, All-head (λ h. g < h) h hs all)))) (none hs (All-tail (λ h. g < h) h hs all))

  later_ascend : (g : ℕ) (gs : List ℕ) → AllPairs (λ x y. x < y) (g ∷ gs) → AllPairs (λ x y. x < y) gs
  later_ascend g gs ascends i j d lt within = ascends (suc i) (suc j) d (omega (arith, lt)) (omega (arith, within))

  -- a later one has another number
  another_number : (g g' h x : ℕ) (gs gs' : List ℕ) → Moves (g ∷ gs) (g' ∷ gs') → AllPairs (λ x y. x < y) (g' ∷ gs') → is_seen gs h ≡ true → place to g ≡ Some x → place to h ≡ Some x → ⊥
  another_number g g' h x gs gs' moves ascends there first second =
      let found = placed gs gs' (others_move g g' gs gs' moves) h there in
      let same : Some found.0 ≡ Some g' = sym found.1 ∙ second ∙ sym first ∙ first_moves g g' gs gs' moves in
      let one : found.0 ≡ g' = cc (same) in
      let later : is_seen gs' g' ≡ true = rw one at found.2 in
      absurd (cc (later, not_later g' gs' ascends))

  -- no two of them get one number
  one_number : (gs gs' : List ℕ) → Moves gs gs' → AllPairs (λ x y. x < y) gs' → (g h x : ℕ) → is_seen gs g ≡ true → is_seen gs h ≡ true
      → place to g ≡ Some x → place to h ≡ Some x → g ≡ h
  one_number [] gs' moves ascends g h x has has' first second = absurd (cc (has))
  one_number (k ∷ ks) [] moves ascends g h x has has' first second = absurd (cc (moves))
  one_number (k ∷ ks) (k' ∷ ks') moves ascends g h x has has' first second = elim (cases_eq k g) [
    | inl same ↦ elim (cases_eq k h) [
      | inl same' ↦ sym same ∙ same'
      | inr other' ↦ absurd (another_number k k' h x ks ks' moves ascends (rw (differs k h other') at has') (rw (← same) at first) second)
    ]
    | inr other ↦ elim (cases_eq k h) [
      | inl same' ↦ absurd (another_number k k' g x ks ks' moves ascends (rw (differs k g other) at has) (rw (← same') at second) first)
      | inr other' ↦
          one_number ks ks' (others_move k k' ks ks' moves) (later_ascend k' ks' ascends) g h x (rw (differs k g other) at has) (rw (differs k h other') at has') first second
    ]
  ]

-- ---- what is seen under the new numbers

module _ (old new : List NamedFacts) (to : List (Option ℕ)) where
  abbrev moved : Kinded → Kinded
  moved e = (decl_moved to e.0, e.1)

  abbrev KeepsFacts : ℕ → Type 0
  KeepsFacts g = (g' : ℕ) → place to g ≡ Some g' → facts_at new g' ≡ facts_at old g

  of_file_moved : (g g' : ℕ) → place to g ≡ Some g' → (es : List (ℕ × DeclKind)) → map (of_file g') es ≡ map moved (map (of_file g) es)
  of_file_moved g g' moves [] = refl
  of_file_moved g g' moves (e ∷ es) =
      let number : g' ≡ unwrap_or (place to g) g = rw moves refl in
      ap₂ (λ (h : ℕ) (us : List Kinded). of_file h e ∷ us) number (of_file_moved g g' moves es)

  files_moved : (name : List ℕ) (gs gs' : List ℕ) → Moves to gs gs' → All KeepsFacts gs → flat_map (named_there new name) gs' ≡ map moved (flat_map (named_there old name) gs)
  files_moved name [] [] moves keep = refl
  files_moved name [] (g' ∷ gs') moves keep = absurd (cc (moves))
  files_moved name (g ∷ gs) [] moves keep = absurd (cc (moves))
  files_moved name (g ∷ gs) (g' ∷ gs') moves keep =
      let first : place to g ≡ Some g' = first_moves to g g' gs gs' moves in
      ap₂ (λ (us vs : List Kinded). us ++ vs)
      (ap (λ (facts : FileFacts). map (of_file g') (declared_as facts name)) (All-head KeepsFacts g gs keep g' first) ∙ of_file_moved g g' first (declared_as (facts_at old g) name))
      (files_moved name gs gs' (others_move to g g' gs gs' moves) (All-tail KeepsFacts g gs keep))
      ∙ sym (map-append moved (named_there old name g) (flat_map (named_there old name) gs))

  packages_moved : (gs gs' : List ℕ) → Moves to gs gs' → All KeepsFacts gs → map (package_at old) gs ≡ map (package_at new) gs'
  packages_moved [] [] moves keep = refl
  packages_moved [] (g' ∷ gs') moves keep = absurd (cc (moves))
  packages_moved (g ∷ gs) [] moves keep = absurd (cc (moves))
  packages_moved (g ∷ gs) (g' ∷ gs') moves keep =
      ap₂ (λ (p : Option (List ℕ)) (ps : List (Option (List ℕ))). p ∷ ps)
      (ap (λ (facts : FileFacts). package_name facts) (sym (All-head KeepsFacts g gs keep g' (first_moves to g g' gs gs' moves))))
      (packages_moved gs gs' (others_move to g g' gs gs' moves) (All-tail KeepsFacts g gs keep))

-- whether an import names a file, whatever is said of it, and whether it closes a cycle
abbrev said_of_any : Option (Option ℕ) × Bool → Bool × Bool
said_of_any i = (is_some i.0, i.1)

said_of_made : (make : ℕ → Option ℕ) (o : Option ℕ) (closes : Bool) → said_of_any (option_map make o, closes) ≡ said_of_import (o, closes)
said_of_made make None closes = refl
said_of_made make (Some g) closes = refl

-- what the imports say, but for the files that they name
imports_told : (to : List (Option ℕ)) (xs ys : List (Option ℕ × Bool)) → map new_import ys ≡ map (moved_import to) xs → map said_of_import xs ≡ map said_of_import ys
imports_told to [] [] same = refl
imports_told to [] (y ∷ ys) same = absurd (cc (same))
imports_told to (x ∷ xs) [] same = absurd (cc (same))
imports_told to (x ∷ xs) (y ∷ ys) same =
    let first : new_import y ≡ moved_import to x = cc (same) in
    let others : map new_import ys ≡ map (moved_import to) xs = cc (same) in
    ap₂ (λ (b : Bool × Bool) (bs : List (Bool × Bool)). b ∷ bs)
    (sym (said_of_made (place to) x.0 x.1) ∙ ap said_of_any (sym first) ∙ said_of_made Some y.0 y.1) (imports_told to xs ys others)

module _ (old new : List NamedFacts) (f f' : ℕ) (to : List (Option ℕ)) (alike : MovesAlike old new f f' to) where
  abbrev view : List ℕ
  view = view_of (graph_of old) f

  abbrev view' : List ℕ
  view' = view_of (graph_of new) f'

  views : Moves to view view'
  views = let said = alike.imports in said.views

  own_view : is_seen view f ≡ true
  own_view = in_own_view old f alike.there

  near_seen : (r : DeclRef) → near f view r ≡ true → is_seen view r.file ≡ true
  near_seen r here = elim (or_cases (r.file == f) (is_seen view r.file) here) [
    | inl own ↦ let same : r.file ≡ f = grind (arith, nat_tests) in rw same own_view
    | inr seen ↦ seen
  ]

  -- of a file of the view
  own_kept : (g g' : ℕ) → is_seen view g ≡ true → place to g ≡ Some g' → (g' == f') ≡ (g == f)
  own_kept g g' seen moves = elim (cases_eq g f) [
    | inl same ↦
        let number : Some g' ≡ Some f' = sym moves ∙ ap (place to) same ∙ alike.moves in
        let one : g' ≡ f' = cc (number) in
        agrees g' f' one ∙ sym (agrees g f same)
    | inr other ↦
        differs g' f' (λ same. other (one_number to view view' views (view_ascends new f') g f f' seen own_view (moves ∙ ap (λ (n : ℕ). Some n) same) alike.moves))
        ∙ sym (differs g f other)
  ]

  keeps_place : (r : DeclRef) → near f view r ≡ true → KeepsPlace f view f' view' (decl_moved to) r
  keeps_place r here =
      let seen = near_seen r here in
      let there = placed to view view' views r.file seen in
      let number : unwrap_or (place to r.file) r.file ≡ there.0 = rw there.1 refl in record {
        own = ap (λ (g : ℕ). g == f') number ∙ own_kept r.file there.0 seen there.1;
        seen = ap (λ (g : ℕ). is_seen view' g) number ∙ there.2 ∙ sym seen;
      }

  named_moved : (name : List ℕ) → seen_named new f' view' name ≡ map (moved old new to) (seen_named old f view name)
  named_moved name =
      seen_by_view new f' name
      ∙ files_moved old new to name view view' views alike.facts
      ∙ ap (λ (us : List Kinded). map (moved old new to) us) (sym (seen_by_view old f name))

  own_facts : facts_at old f ≡ facts_at new f'
  own_facts = sym (everyone view alike.facts own_view f' alike.moves)
    where
      everyone : (gs : List ℕ) → All (KeepsFacts old new to) gs → is_seen gs f ≡ true → KeepsFacts old new to f
      everyone [] keep has = absurd (cc (has))
      everyone (g ∷ gs) keep has = elim (cases_eq g f) [
        | inl same ↦ rw same at (All-head (KeepsFacts old new to) g gs keep)
        | inr other ↦ everyone gs (All-tail (KeepsFacts old new to) g gs keep) (rw (differs g f other) at has)
      ]

  moved_told : (names : List (List ℕ)) → IsToldTheSame old new f f' (decl_moved to) names
  moved_told names = record {
    own = own_facts;
    closed = let said = alike.imports in sym said.closed;
    imports = let said = alike.imports in imports_told to (imports_outlook (graph_of old) f) (imports_outlook (graph_of new) f') said.imports;
    packages = packages_moved old new to view view' views alike.facts;
    keeps = keeps_place;
    named = λ k d lt. named_moved (get_or names k d);
  }

pub moved_law : MovedLaw
moved_law old new f f' to text tree alike =
    resolved_same old new f f' (decl_moved to) text tree (moved_told old new f f' to alike (names_asked (sites_at new f' text tree) (decls_at new f')))
