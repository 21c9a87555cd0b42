-- What is known of a workspace where the paths of all changes are.
use Rattle.std.proofs.Common.{◌≡◌, ◌<◌, ◌≤◌, ◌+◌, ◌++◌, ℕ, zero, suc, List, [], ◌∷◌, Bool, true, false, cond, Option, Some, None, Result, Ok, Err, inl, inr, length, get_or, take, drop, map, option_map, nat_cmp, Ordering, Less, Equal, Greater, String, refl, sym, ap, ap₂, subst, ◌∙◌, add-one, append_assoc, arith, drop-cons}
use Rattle.std.specs.Prelude.{◌⊎◌, All, Contains, IfOk, IfSome, bytes_eq, string_bytes}
use Rattle.std.specs.Cmp.Lexicographic.{slice_cmp, bytes_decides}
use Rattle.std.specs.List.{cons_option, insert, list_any, position}
use Rattle.std.specs.List.Sorted.{IsStrictlySortedBy}
use Rattle.std.specs.Map.{lookup}
use Rattle.std.specs.declared.alloc.Global.{Global}
use Rattle.std.specs.Ordering.{is_eq, ordering_reverse}
use Rattle.std.proofs.lemmas.Bool.{cases_lt, false≢true}
use Rattle.std.proofs.lemmas.Cmp.{nat_list_cmp_total, nat_list_eq_equiv}
use Rattle.std.proofs.lemmas.List.{length-map, get_or-map, get_or_past, map_more}
use Rattle.std.proofs.lemmas.List.Elements.{All-contains, All-push}
use Rattle.std.proofs.lemmas.List.Quantifiers.{position-Some}
use Rattle.std.proofs.lemmas.Map.Text.{is_eq-slice_cmp}
use Rattle.std.proofs.lemmas.Map.Views.{Contains-from_any, list_any-from_Contains}
use Rattle.std.proofs.lemmas.Option.{same_Some}
use Rattle.std.proofs.lemmas.Simd.{map-map}
use Rattle.collector_laws.proofs.Lists.{one_list}
use Rattle.import_graph.specs.Moves.{place}
use Rattle.piece_collector.specs.Board.{Ascends, IsTextsIn, text_for}
use Rattle.piece_collector.specs.Lending.{piece_in}
use Rattle.piece_collector.specs.Views.{BoardView, SlotView, TextAt, slot_of, text_in}
use Rattle.work_index.specs.Pieces.{source_of, workspace_of}
use Rattle.work_index.specs.Workspace.{AnalysisData, IsKnown, NoneImports, Source, SourceAt, Workspace, analysis, no_file, workspace_in}
use Rattle.work_update.specs.Arrivals.{Arrives}
use Rattle.work_changes.specs.Changes.{StaysBut}
use Rattle.work_update.specs.Stayed.{Stay}
use Rattle.work_update.specs.Updates.{AreNumbersNow, HasStayed, IsArrival, IsInOrder, IsUnchangedAt, IsWorkspaceOf, NameAllChanges, known_source, numbers_of, sources_by_path}
use Rattle.work_update.proofs.ByPath.{AreBehind, at_position, behind-later, no_text, none-at, own_position, path-at, paths, same_paths, symm, text-at}

-- ---- paths that are listed

exact : (p q : List ℕ) → bytes_eq p q ≡ true → p ≡ q
exact p q is = (bytes_decides p q).0 is

-- a path is among some, or isn't
listed_or_not : (changes : List (List ℕ)) (path : List ℕ) → Contains changes path ⊎ (Contains changes path → ⊥)
listed_or_not changes path = by (list_any (bytes_eq path) changes) refl
  where
    by : (b : Bool) → list_any (bytes_eq path) changes ≡ b → Contains changes path ⊎ (Contains changes path → ⊥)
    by true is = inl (Contains-from_any exact path changes is)
    by false is = inr (λ has. false≢true (sym is ∙ list_any-from_Contains nat_list_eq_equiv path changes has))

-- the number of a path that is listed is listed
number_listed : (ps changes : List (List ℕ)) (path : List ℕ) (n k : ℕ) → k < length changes → get_or changes k path ≡ path → position (λ q. bytes_eq q path) ps ≡ Some n → Contains (numbers_of ps changes) n
number_listed ps [] path n k there is at = absurd (omega (arith, there))
number_listed ps (p ∷ changes) path n zero there is at =
    let here : position (λ q. bytes_eq q p) ps ≡ Some n = ap (λ r. position (λ q. bytes_eq q r) ps) is ∙ at in
    subst (λ o. Contains (cons_option o (numbers_of ps changes)) n) (sym here) (0, omega arith, refl)
number_listed ps (p ∷ changes) path n (suc k) there is at = behind (position (λ q. bytes_eq q p) ps) (number_listed ps changes path n k (omega (arith, there)) is at)
  where
    behind : (o : Option ℕ) → Contains (numbers_of ps changes) n → Contains (cons_option o (numbers_of ps changes)) n
    behind None has = has
    behind (Some m) has = (suc has.0, omega (arith, has.1), has.2)

pub numbers_within : (ps changes : List (List ℕ)) → All (λ n. n < length ps) (numbers_of ps changes)
numbers_within ps [] k d there = absurd (omega (arith, there))
numbers_within ps (p ∷ changes) k d there = by (position (λ q. bytes_eq q p) ps) refl (numbers_within ps changes) k there
  where
    by : (o : Option ℕ) → position (λ q. bytes_eq q p) ps ≡ o → All (λ n. n < length ps) (numbers_of ps changes) → (k : ℕ) → k < length (cons_option o (numbers_of ps changes)) → get_or (cons_option o (numbers_of ps changes)) k d < length ps
    by None is rest k there = rest k d there
    by (Some n) is rest zero there = (position-Some (λ q. bytes_eq q p) ps n [] is).0
    by (Some n) is rest (suc k) there = rest k d (omega (arith, there))

-- ---- the numbers of files

abbrev pub piece_paths : List TextAt → List (List ℕ)
piece_paths ts = map (λ t. t.path) ts

pub piece_path : (ts : List TextAt) (n : ℕ) (t : TextAt) → n < length ts → t ≡ get_or ts n t → get_or (piece_paths ts) n [] ≡ t.path
piece_path ts n t there is = get_or-map (λ t. t.path) ts n t [] there ∙ sym (ap (λ (t : TextAt). t.path) is)

-- they are those of the files
pub file_paths : (r : Bool) (ts : List TextAt) → paths (workspace_of r ts) ≡ piece_paths ts
file_paths r ts = map-map (λ f. f.0) (source_of r) ts

-- what is listed with one more number at the end
listed_before : (to : List (Option ℕ)) (x : Option ℕ) (g n : ℕ) → place (to ++ x ∷ []) g ≡ Some n → (place to g ≡ Some n) ⊎ ((g ≡ length to) × (x ≡ Some n))
listed_before [] x zero n is = inr (refl, is)
listed_before [] x (suc g) n is = let no : None ≡ Some n = is in cc
listed_before (y ∷ to) x zero n is = inl is
listed_before (y ∷ to) x (suc g) n is = by (listed_before to x g n is)
  where
    by : (place to g ≡ Some n) ⊎ ((g ≡ length to) × (x ≡ Some n)) → (place (y ∷ to) (suc g) ≡ Some n) ⊎ ((suc g ≡ length (y ∷ to)) × (x ≡ Some n))
    by (inl before) = inl before
    by (inr last) = inr (ap suc last.0, last.1)

-- a number is listed at that of the next file
pub one_numbered : (names : List (List ℕ)) (changed : List ℕ) (ts : List TextAt) (to later : List (Option ℕ)) (x : Option ℕ) (file : ℕ) (path : List ℕ) → length to ≡ file → AreNumbersNow names changed (piece_paths ts) to → later ≡ to ++ x ∷ []
    → file < length names → get_or names file [] ≡ path → IfSome x (λ n. Contains changed file → ⊥) → IfSome x (λ n. n < length ts) → IfSome x (λ n. get_or (piece_paths ts) n [] ≡ path) → AreNumbersNow names changed (piece_paths ts) later
one_numbered names changed ts to later x file path count each added there is unchanged here same = λ g n at. by g n (listed_before to x g n (subst (λ l. place l g ≡ Some n) added at))
  where
    by : (g n : ℕ) → (place to g ≡ Some n) ⊎ ((g ≡ length to) × (x ≡ Some n)) → IsUnchangedAt names changed (piece_paths ts) g n
    by g n (inl before) = each g n before
    by g n (inr last) =
        let equal : g ≡ file = last.0 ∙ count in
        let out : Contains changed file → ⊥ = subst (λ o. IfSome o (λ n. Contains changed file → ⊥)) last.1 unchanged in
        let inside : n < length ts = subst (λ o. IfSome o (λ n. n < length ts)) last.1 here in
        let named : get_or (piece_paths ts) n [] ≡ path = subst (λ o. IfSome o (λ n. get_or (piece_paths ts) n [] ≡ path)) last.1 same in record {
          there = omega (arith, equal, there);
          unchanged = λ has. out (subst (Contains changed) equal has);
          here = omega (arith, inside, length-map ts (λ t. t.path));
          path = ap (λ k. get_or names k []) equal ∙ is ∙ sym named;
        }

-- one more path is that of a file that stayed
pub one_more_stays : (ps now : List (List ℕ)) (changes : List (String Global)) (k : ℕ) (d : String Global) → k < length changes → All (HasStayed ps now) (map string_bytes (take k changes)) → HasStayed ps now (string_bytes (get_or changes k d))
    → All (HasStayed ps now) (map string_bytes (take (k + 1) changes))
one_more_stays ps now changes k d there so_far here = subst (All (HasStayed ps now)) (sym (map_more string_bytes changes k d there)) (All-push (HasStayed ps now) (map string_bytes (take k changes)) (string_bytes (get_or changes k d)) so_far here)

-- the numbers of the paths so far and of those that are left are all, once more
pub one_more_number : (ps : List (List ℕ)) (changes : List (String Global)) (k : ℕ) (d : String Global) (numbers later all : List ℕ) (o : Option ℕ) → k < length changes
    → o ≡ position (λ q. bytes_eq q (string_bytes (get_or changes k d))) ps → later ≡ numbers ++ cons_option o [] → numbers ++ numbers_of ps (map string_bytes (drop k changes)) ≡ all → later ++ numbers_of ps (map string_bytes (drop (k + 1) changes)) ≡ all
one_more_number ps changes k d numbers later all o there is added so_far =
    let rest = numbers_of ps (map string_bytes (drop (k + 1) changes)) in
    let split : drop k changes ≡ get_or changes k d ∷ drop (k + 1) changes = rw (add-one k) (drop-cons changes k d there) in
    let both : numbers ++ cons_option o rest ≡ all = ap (λ o. numbers ++ cons_option o rest) is ∙ ap (λ cs. numbers ++ numbers_of ps (map string_bytes cs)) (sym split) ∙ so_far in
    ap (λ ns. ns ++ rest) added ∙ append_assoc numbers (cons_option o []) rest ∙ ap (λ ns. numbers ++ ns) (by o rest) ∙ both
  where
    by : (o : Option ℕ) (rest : List ℕ) → cons_option o [] ++ rest ≡ cons_option o rest
    by None rest = refl
    by (Some n) rest = refl

-- a list with one element
pub one_only : (changes : List (String Global)) (d : String Global) → length changes ≡ 1 → map string_bytes changes ≡ string_bytes (get_or changes 0 d) ∷ []
one_only [] d one = absurd (omega (arith, one))
one_only (x ∷ []) d one = refl
one_only (x ∷ y ∷ xs) d one = absurd (omega (arith, one))

-- ---- files that stayed

module _ (old new : Workspace) (before : IsInOrder old) (after : IsInOrder new) (changes : List (List ℕ)) (named : NameAllChanges changes (sources_by_path old) (sources_by_path new)) where
  -- a file whose path isn't named has its text, which is read as before
  same_file : (g n : ℕ) → g < length old → n < length new → (get_or old g no_file).0 ≡ (get_or new n no_file).0 → (Contains changes (get_or old g no_file).0 → ⊥) → get_or old g no_file ≡ get_or new n no_file
  same_file g n there here path unnamed =
      let source : Some (get_or old g no_file).1 ≡ Some (get_or new n no_file).1 =
      sym (text-at old g no_file before there) ∙ sym (named (get_or old g no_file).0 unnamed) ∙ ap (sources_by_path new) path ∙ text-at new n no_file after here in
      ap₂ (λ (p : List ℕ) (s : Source). (p, s)) path (same_Some _ _ source)

  module _ (numbers : List ℕ) (are : numbers ≡ numbers_of (paths old) changes) where
    unnamed : (g : ℕ) → g < length old → (Contains numbers g → ⊥) → Contains changes (get_or old g no_file).0 → ⊥
    unnamed g there out has =
        out (subst (λ ns. Contains ns g) (sym are) (number_listed (paths old) changes (get_or old g no_file).0 g has.0 has.1 has.2 (own_position old g before there)))

    -- those that have a number stayed as they were
    pub numbers_stay : (to : List (Option ℕ)) → AreNumbersNow (paths old) numbers (paths new) to → Stay old new to
    numbers_stay to now g n moves =
        let at : IsUnchangedAt (paths old) numbers (paths new) g n = now g n moves in
        let there : g < length old = omega (arith, at.there, length-map old (λ f. f.0)) in
        let here : n < length new = omega (arith, at.here, length-map new (λ f. f.0)) in
        let path : (get_or old g no_file).0 ≡ (get_or new n no_file).0 = sym (path-at old g no_file there) ∙ at.path ∙ path-at new n no_file here in
        record { there = there; here = here; same = same_file g n there here path (unnamed g there at.unchanged) }

    -- where each path that is named is that of a file before and now, so is each other one
    module _ (stay : All (HasStayed (paths old) (paths new)) changes) where
      texts_alike : (path : List ℕ) → option_map (λ source. true) (sources_by_path old path) ≡ option_map (λ source. true) (sources_by_path new path)
      texts_alike path = by (listed_or_not changes path)
        where
          by : Contains changes path ⊎ (Contains changes path → ⊥) → option_map (λ source. true) (sources_by_path old path) ≡ option_map (λ source. true) (sources_by_path new path)
          by (inr out) = sym (ap (option_map (λ source. true)) (named path out))
          by (inl has) =
              let stayed : HasStayed (paths old) (paths new) path = All-contains (HasStayed (paths old) (paths new)) changes path stay has in
              let found = at_position path old stayed.number stayed.before in
              let within : stayed.number < length new = omega (arith, stayed.within, length-map new (λ f. f.0)) in
              let here : (get_or new stayed.number no_file).0 ≡ path = sym (path-at new stayed.number no_file within) ∙ stayed.is in
              ap (option_map (λ source. true)) (ap (sources_by_path old) (sym found.1) ∙ text-at old stayed.number no_file before found.0)
              ∙ sym (ap (option_map (λ source. true)) (ap (sources_by_path new) (sym here) ∙ text-at new stayed.number no_file after within))

      paths_alike : paths old ≡ paths new
      paths_alike = same_paths old new before after texts_alike

      as_many : length old ≡ length new
      as_many = sym (length-map old (λ f. f.0)) ∙ ap length paths_alike ∙ length-map new (λ f. f.0)

      pub others_stay : StaysBut numbers old new
      others_stay = record {
        paths = paths_alike;
        others = λ n out. elim (cases_lt n (length old)) [
          | inl less ↦
              let here : n < length new = omega (arith, less, as_many) in
              let path : (get_or old n no_file).0 ≡ (get_or new n no_file).0 = sym (path-at old n no_file less) ∙ ap (λ ps. get_or ps n []) paths_alike ∙ path-at new n no_file here in
              same_file n n less here path (unnamed n less out)
          | inr past ↦ get_or_past old n no_file past ∙ sym (get_or_past new n no_file (omega (arith, past, as_many)))
        ];
      }

      pub all_within : All (λ n. n < length new) numbers
      all_within = subst (All (λ n. n < length new)) (sym are) within
        where
          within : All (λ n. n < length new) (numbers_of (paths old) changes)
          within k d there =
              let below : get_or (numbers_of (paths old) changes) k d < length (paths old) = numbers_within (paths old) changes k d there in
              omega (arith, below, as_many, length-map old (λ f. f.0))

-- ---- a file put among others in the order of the paths

behind-insert : (p : List ℕ) (w : Workspace) (k : ℕ) (f : SourceAt) → slice_cmp nat_cmp p f.0 ≡ Less → AreBehind p (paths w) → AreBehind p (paths (insert w k f))
behind-insert p w zero f new all = (new, all)
behind-insert p [] (suc k) f new all = (new, tt)
behind-insert p (e ∷ w) (suc k) f new all = (all.0, behind-insert p w k f new all.1)

-- where a file with this path goes among these, so that they still ascend
record Insertion (path : List ℕ) (s : Source) (old : Workspace) : Type 0 where
  at : ℕ
  within : at ≤ length old
  ascends : IsInOrder (insert old at (path, s))
  sources : (q : List ℕ) → lookup (bytes_eq q) (insert old at (path, s)) ≡ cond (bytes_eq path q) (Some s) (lookup (bytes_eq q) old)

insertion : (path : List ℕ) (s : Source) (old : Workspace) → IsInOrder old → lookup (bytes_eq path) old ≡ None → Insertion path s old
unfolding IsStrictlySortedBy
insertion path s [] order none = record {
  at = 0;
  within = omega arith;
  ascends = (tt, tt);
  sources = λ q. ap (λ b. cond b (Some s) None) (symm q path);
}
insertion path s (e ∷ es) order none = by (slice_cmp nat_cmp path e.0) refl (λ rest. insertion path s es order.1 rest)
  where
    by : (o : Ordering) → slice_cmp nat_cmp path e.0 ≡ o → (lookup (bytes_eq path) es ≡ None → Insertion path s es) → Insertion path s (e ∷ es)
    by Less is next = record {
      at = 0;
      within = omega arith;
      ascends = ((is, behind-later path e.0 (paths es) is order.0), order);
      sources = λ q. ap (λ b. cond b (Some s) (lookup (bytes_eq q) (e ∷ es))) (symm q path);
    }
    by Equal is next =
        let same : bytes_eq path e.0 ≡ true = sym (is_eq-slice_cmp path e.0) ∙ ap is_eq is in
        let no : Some e.1 ≡ None = sym (ap (λ b. cond b (Some e.1) (lookup (bytes_eq path) es)) same) ∙ none in absurd (cc)
    by Greater is next =
        let differs : bytes_eq path e.0 ≡ false = sym (is_eq-slice_cmp path e.0) ∙ ap is_eq is in
        let rest : Insertion path s es = next (sym (ap (λ b. cond b (Some e.1) (lookup (bytes_eq path) es)) differs) ∙ none) in
        let before : slice_cmp nat_cmp e.0 path ≡ Less = nat_list_cmp_total.antisymm e.0 path ∙ ap ordering_reverse is in record {
          at = suc rest.at;
          within = omega (arith, rest.within);
          ascends = (behind-insert e.0 es rest.at (path, s) before order.0, rest.ascends);
          sources = λ q. here q (bytes_eq q e.0) refl (lookup (bytes_eq q) (insert es rest.at (path, s))) (rest.sources q);
        }
      where
        here : (q : List ℕ) (b : Bool) → bytes_eq q e.0 ≡ b → (found : Option Source) → found ≡ cond (bytes_eq path q) (Some s) (lookup (bytes_eq q) es)
            → cond b (Some e.1) found ≡ cond (bytes_eq path q) (Some s) (cond b (Some e.1) (lookup (bytes_eq q) es))
        here q false is found rest = rest
        here q true same found rest =
            let other : bytes_eq path q ≡ false = ap (bytes_eq path) ((bytes_decides q e.0).0 same) ∙ (sym (is_eq-slice_cmp path e.0) ∙ ap is_eq is) in
            sym (ap (λ c. cond c (Some s) (Some e.1)) other)

-- ---- the one file that came

-- a text that is read if it isn't proto3, or isn't, and a file with such a text, given its path and its text
abbrev pub read_as : Bool → List ℕ → Source
read_as r text = record { text = text; reads_others = r }

abbrev pub file_as : Bool → List ℕ × List ℕ → SourceAt
file_as r file = (file.0, read_as r file.1)

-- it comes to the workspace of the analysis, and with it that is the workspace of the board
pub record ComesTo (r : Bool) (a : AnalysisData) (board : BoardView) (file : List ℕ × List ℕ) : Type 0 where
  pub arrives : Arrives a (file_as r file)
  pub with_it : (w : Workspace) → IsWorkspaceOf r board w → insert arrives.old arrives.at (file_as r file) ≡ w

only : (p q : List ℕ) (k : ℕ) → k < 1 → get_or (p ∷ []) k q ≡ q → p ≡ q
only p q zero there same = same
only p q (suc k) there same = absurd (omega (arith, there))

module _ (r : Bool) (a : AnalysisData) (board : BoardView) (changes : List (List ℕ)) (file : List ℕ × List ℕ) (known : IsKnown a) (order : IsInOrder (workspace_in a))
    (named : NameAllChanges changes (sources_by_path (workspace_in a)) (λ path. known_source r path board)) (came : IsArrival a changes board file) where
  abbrev source : Source
  source = read_as r file.1

  put : Insertion file.0 source (workspace_in a)
  put =
      let w = workspace_in a in
      let none : position (λ q. bytes_eq q file.0) (paths w) ≡ None = ap (position (λ q. bytes_eq q file.0)) (sym (ap (λ (b : AnalysisData). b.paths) known.is)) ∙ came.new in
      insertion file.0 source w order (no_text file.0 w (none-at file.0 w none))

  other : (q : List ℕ) → bytes_eq file.0 q ≡ false → Contains changes q → ⊥
  other q apart has =
      let here : Contains (file.0 ∷ []) q = subst (λ cs. Contains cs q) came.alone has in
      false≢true (sym apart ∙ (bytes_decides file.0 q).1 (only file.0 q here.0 here.1 here.2))

  there : known_source r file.0 board ≡ Some source
  there = ap (option_map (λ (text : List ℕ). read_as r text)) came.there

  pub comes_to : ComesTo r a board file
  comes_to = record {
    arrives = record { old = workspace_in a; at = put.at; is = known.is; within = put.within; ordered = put.ascends; nobody = came.nobody };
    with_it = λ w of. one_list (insert (workspace_in a) put.at (file_as r file)) w put.ascends of.ordered (λ q. put.sources q ∙ by w of q (bytes_eq file.0 q) refl);
  }
    where
      by : (w : Workspace) → IsWorkspaceOf r board w → (q : List ℕ) (b : Bool) → bytes_eq file.0 q ≡ b → cond b (Some source) (lookup (bytes_eq q) (workspace_in a)) ≡ lookup (bytes_eq q) w
      by w of q true is = sym (of.sources q ∙ ap (λ p. known_source r p board) (sym ((bytes_decides file.0 q).0 is)) ∙ there)
      by w of q false is = sym (named q (other q is)) ∙ sym (of.sources q)

-- ---- the texts of a board

source-cond : (r : Bool) (b : Bool) (t : TextAt) (o : Option TextAt) → cond b (Some (read_as r t.text)) (option_map (λ (u : TextAt). read_as r u.text) o) ≡ option_map (λ (u : TextAt). read_as r u.text) (cond b (Some t) o)
source-cond r true t o = refl
source-cond r false t o = refl

source_among : (r : Bool) (q : List ℕ) (ts : List TextAt) → sources_by_path (workspace_of r ts) q ≡ option_map (λ (u : TextAt). read_as r u.text) (text_for q ts)
source_among r q [] = refl
source_among r q (t ∷ ts) = ap (cond (bytes_eq q t.path) (Some (read_as r t.text))) (source_among r q ts) ∙ source-cond r (bytes_eq q t.path) t (text_for q ts)

source_of_slot : (r : Bool) (q : List ℕ) (s : Option SlotView) → option_map (λ (u : TextAt). read_as r u.text) (option_map (text_in q) s) ≡ option_map (λ (text : List ℕ). read_as r text) (option_map (λ (u : SlotView). u.text) s)
source_of_slot r q None = refl
source_of_slot r q (Some s) = refl

pub ordered_pieces : (r : Bool) (ts : List TextAt) → Ascends ts → IsInOrder (workspace_of r ts)
ordered_pieces r ts ascends = subst (λ ps. IsStrictlySortedBy (slice_cmp nat_cmp) ps) (sym (file_paths r ts)) ascends

-- those that a board lends are its workspace
pub lent_workspace : (r : Bool) (board lent_board : BoardView) (ts : List TextAt) → lent_board ≡ record board { is_lent = true } → IsTextsIn lent_board ts → IsWorkspaceOf r board (workspace_of r ts)
lent_workspace r board lent_board ts is are =
    let there : IsTextsIn (record board { is_lent = true }) ts = subst (λ b. IsTextsIn b ts) is are in record {
      ordered = ordered_pieces r ts there.ascends;
      sources = λ q. source_among r q ts ∙ ap (option_map (λ (u : TextAt). read_as r u.text)) (there.each q) ∙ source_of_slot r q (slot_of q board);
    }

-- a board has one workspace
pub one_workspace : (r : Bool) (board : BoardView) (v w : Workspace) → IsWorkspaceOf r board v → IsWorkspaceOf r board w → v ≡ w
one_workspace r board v w is are = one_list v w is.ordered are.ordered (λ q. is.sources q ∙ sym (are.sources q))

-- paths that name all changes to the texts of a board name all to its workspace
pub named_in : (r : Bool) (board : BoardView) (w : Workspace) (changes : List (List ℕ)) (before : List ℕ → Option Source) → IsWorkspaceOf r board w → NameAllChanges changes before (λ path. known_source r path board) → NameAllChanges changes before (sources_by_path w)
named_in r board w changes before of named path out = of.sources path ∙ named path out

-- an analysis of one workspace of a board is that of each
pub of_workspace : {E : Type 0} (found : Result AnalysisData E) (r : Bool) (v : Workspace) (board : BoardView) → IfOk found (λ found. found ≡ analysis v) → ((w : Workspace) → IsWorkspaceOf r board w → v ≡ w) → IfOk found (λ found. (w : Workspace) → IsWorkspaceOf r board w → found ≡ analysis w)
of_workspace (Ok a) r v board is same = λ w of. is ∙ ap analysis (same w of)
of_workspace (Err e) r v board is same = tt

-- the board is as before once all is taken back
pub back_again : (board lent_board after : BoardView) → board.is_lent ≡ false → lent_board ≡ record board { is_lent = true } → after ≡ record lent_board { is_lent = false } → after ≡ board
back_again board lent_board after here is back = back ∙ ap {A = BoardView} (λ (b : BoardView). record b { is_lent = false }) is ∙ ap (λ (b : Bool). record board { is_lent = b }) (sym here)

-- the piece of a path that a board holds is that of the file that came
pub arrival_of : {B : Type 0} (shown : B → TextAt) (r : Option B) (a : AnalysisData) (board : BoardView) (changes : List (List ℕ)) (path : List ℕ) → changes ≡ path ∷ [] → position (λ q. bytes_eq q path) a.paths ≡ None → NoneImports a.facts path
    → option_map shown r ≡ piece_in (slot_of path board) → IfSome r (λ b. IfSome (slot_of path board) (λ s. shown b ≡ text_in path s)) → IfSome r (λ b. IsArrival a changes board (let t = shown b in (t.path, t.text)))
arrival_of shown None a board changes path alone new nobody piece current = tt
arrival_of shown (Some b) a board changes path alone new nobody piece current = by (slot_of path board) refl piece current
  where
    by : (found : Option SlotView) → slot_of path board ≡ found → Some (shown b) ≡ piece_in found → IfSome found (λ s. shown b ≡ text_in path s) → IsArrival a changes board (let t = shown b in (t.path, t.text))
    by None there piece current = absurd (cc)
    by (Some s) there piece current = subst (λ (t : TextAt). IsArrival a changes board (t.path, t.text)) (sym current) (record {
      alone = alone;
      new = new;
      there = ap (option_map (λ (s : SlotView). s.text)) there;
      nobody = nobody;
    })
