-- What merged changes are: their URIs ascend, and each has its ranges.
use Rattle.std.proofs.Common.{◌≡◌, ℕ, List, [], ◌∷◌, ◌++◌, Bool, true, false, cond, Some, unwrap_or, Ordering, Less, Equal, Greater, is_eq, nat_cmp, bytes_eq, filter, fold, refl, sym, ap, ◌∙◌}
use Rattle.std.proofs.lemmas.Cmp.{nat_list_cmp_total}
use Rattle.std.proofs.lemmas.Map.Text.{is_eq-slice_cmp}
use Rattle.std.proofs.lemmas.Slice.Eq.{bytes_eq-Decides}
use Rattle.std.specs.BTreeMap.{insert_entry}
use Rattle.std.specs.Cmp.Lexicographic.{slice_cmp}
use Rattle.std.specs.List.{AllByRecursion}
use Rattle.std.specs.List.Sorted.{IsStrictlySortedBy}
use Rattle.std.specs.Map.{keys_of, lookup, remove_entry}
use Rattle.std.specs.Ordering.{match_ordering, ordering_reverse}
use Rattle.doc_text.specs.declared.position.Range.{Range}
use Rattle.lsp_rpc.specs.WorkspaceEdit.{Changes, further, ranges_at, with_ranges}
use Rattle.lsp_rpc.specs.Laws.{UrisStandOnce, RangesAreKept}

abbrev Change : Type 0
Change = List ℕ × List Range

abbrev cmp : List ℕ → List ℕ → Ordering
cmp xs ys = slice_cmp nat_cmp xs ys

-- ---- the ranges of a URI

eq_at : (o : Ordering) (xs ys : List ℕ) → cmp xs ys ≡ o → bytes_eq xs ys ≡ is_eq o
eq_at o xs ys h = sym (is_eq-slice_cmp xs ys) ∙ ap is_eq h

put_at : (o : Ordering) (k : List ℕ) (v : List Range) (e : Change) (es : Changes) → cmp k e.0 ≡ o → lookup (bytes_eq k) (insert_entry cmp es k v) ≡ Some v
    → lookup (bytes_eq k) (match_ordering o ((k, v) ∷ e ∷ es) ((e.0, v) ∷ es) (e ∷ insert_entry cmp es k v)) ≡ Some v
put_at Less k v e es h later = rw ((bytes_eq-Decides k k).1 refl) refl
put_at Equal k v e es h later = rw (eq_at Equal k e.0 h) refl
put_at Greater k v e es h later = rw (eq_at Greater k e.0 h) later

put : (k : List ℕ) (v : List Range) (es : Changes) → lookup (bytes_eq k) (insert_entry cmp es k v) ≡ Some v
put k v [] = rw ((bytes_eq-Decides k k).1 refl) refl
put k v (e ∷ es) = put_at _ k v e es refl (put k v es)

other_at : (o : Ordering) (q k : List ℕ) (v : List Range) (e : Change) (es : Changes) → cmp k e.0 ≡ o → bytes_eq q k ≡ false
    → lookup (bytes_eq q) (insert_entry cmp es k v) ≡ lookup (bytes_eq q) es
    → lookup (bytes_eq q) (match_ordering o ((k, v) ∷ e ∷ es) ((e.0, v) ∷ es) (e ∷ insert_entry cmp es k v)) ≡ lookup (bytes_eq q) (e ∷ es)
other_at Less q k v e es h apart later = rw apart refl
other_at Equal q k v e es h apart later =
    let same : k ≡ e.0 = (bytes_eq-Decides k e.0).0 (eq_at Equal k e.0 h) in
    let here : bytes_eq q e.0 ≡ false = ap (bytes_eq q) (sym same) ∙ apart in
    rw here refl
other_at Greater q k v e es h apart later = ap (λ r. cond (bytes_eq q e.0) (Some e.1) r) later

other : (q k : List ℕ) (v : List Range) (es : Changes) → bytes_eq q k ≡ false → lookup (bytes_eq q) (insert_entry cmp es k v) ≡ lookup (bytes_eq q) es
other q k v [] apart = rw apart refl
other q k v (e ∷ es) apart = other_at _ q k v e es refl apart (other q k v es apart)

removed_at : (b : Bool) (q k : List ℕ) (e : Change) (es rest : Changes) → bytes_eq k e.0 ≡ b → bytes_eq q k ≡ false → lookup (bytes_eq q) rest ≡ lookup (bytes_eq q) es
    → lookup (bytes_eq q) (cond b es (e ∷ rest)) ≡ lookup (bytes_eq q) (e ∷ es)
removed_at true q k e es rest h apart same =
    let here : bytes_eq q e.0 ≡ false = ap (bytes_eq q) (sym ((bytes_eq-Decides k e.0).0 h)) ∙ apart in
    rw here refl
removed_at false q k e es rest h apart same = ap (λ r. cond (bytes_eq q e.0) (Some e.1) r) same

removed : (q k : List ℕ) (es : Changes) → bytes_eq q k ≡ false → lookup (bytes_eq q) (remove_entry (bytes_eq k) es) ≡ lookup (bytes_eq q) es
removed q k [] apart = refl
removed q k (e ∷ es) apart = removed_at _ q k e es _ refl apart (removed q k es apart)

-- the ranges of a document behind others, but for those among them
abbrev more : List Range → Change → List Range
more before d = before ++ further before d.1

one_step : (b : Bool) (uri : List ℕ) (cs : Changes) (d : Change) → bytes_eq uri d.0 ≡ b → ranges_at uri (with_ranges cs d) ≡ cond b (more (ranges_at uri cs) d) (ranges_at uri cs)
one_step true uri cs d h =
    let same : uri ≡ d.0 = (bytes_eq-Decides uri d.0).0 h in
    rw same (ap (λ o. unwrap_or o []) (put d.0 (more (ranges_at d.0 cs) d) (remove_entry (bytes_eq d.0) cs)))
one_step false uri cs d h =
    ap (λ o. unwrap_or o []) (other uri d.0 (more (ranges_at d.0 cs) d) (remove_entry (bytes_eq d.0) cs) h ∙ removed uri d.0 cs h)

abbrev of_uri : List ℕ → Changes → Changes
of_uri uri ds = filter (λ d. bytes_eq uri d.0) ds

gathered : (b : Bool) (before : List Range) (d : Change) (ds : Changes) → fold more (cond b (more before d) before) ds ≡ fold more before (cond b (d ∷ ds) ds)
gathered true before d ds = refl
gathered false before d ds = refl

kept : (uri : List ℕ) (cs ds : Changes) → ranges_at uri (fold with_ranges cs ds) ≡ fold more (ranges_at uri cs) (of_uri uri ds)
kept uri cs [] = refl
kept uri cs (d ∷ ds) =
    kept uri (with_ranges cs d) ds
    ∙ ap (λ rs. fold more rs (of_uri uri ds)) (one_step (bytes_eq uri d.0) uri cs d refl)
    ∙ gathered (bytes_eq uri d.0) (ranges_at uri cs) d (of_uri uri ds)

pub edit_ranges : RangesAreKept
edit_ranges uri documents = kept uri [] documents

-- ---- the order of the URIs

abbrev IsBelowAll : List ℕ → Changes → Type 0
IsBelowAll k es = AllByRecursion (λ y. cmp k y ≡ Less) (keys_of es)

below_put_at : (o : Ordering) (a k : List ℕ) (v : List Range) (e : Change) (es : Changes) → cmp a k ≡ Less → IsBelowAll a (e ∷ es) → IsBelowAll a (insert_entry cmp es k v)
    → IsBelowAll a (match_ordering o ((k, v) ∷ e ∷ es) ((e.0, v) ∷ es) (e ∷ insert_entry cmp es k v))
below_put_at Less a k v e es h all later = (h, all)
below_put_at Equal a k v e es h all later = all
below_put_at Greater a k v e es h all later = (all.0, later)

below_put : (a k : List ℕ) (v : List Range) (es : Changes) → cmp a k ≡ Less → IsBelowAll a es → IsBelowAll a (insert_entry cmp es k v)
below_put a k v [] h all = (h, tt)
below_put a k v (e ∷ es) h all = below_put_at (cmp k e.0) a k v e es h all (below_put a k v es h all.1)

below_removed_at : (b : Bool) (a : List ℕ) (e : Change) (es rest : Changes) → IsBelowAll a (e ∷ es) → IsBelowAll a rest → IsBelowAll a (cond b es (e ∷ rest))
below_removed_at true a e es rest all later = all.1
below_removed_at false a e es rest all later = (all.0, later)

below_removed : (a k : List ℕ) (es : Changes) → IsBelowAll a es → IsBelowAll a (remove_entry (bytes_eq k) es)
below_removed a k [] all = tt
below_removed a k (e ∷ es) all = below_removed_at (bytes_eq k e.0) a e es _ all (below_removed a k es all.1)

below_next : (a b : List ℕ) (es : Changes) → cmp a b ≡ Less → IsBelowAll b es → IsBelowAll a es
below_next a b [] h all = tt
below_next a b (e ∷ es) h all = (nat_list_cmp_total.trans a b e.0 h all.0, below_next a b es h all.1)

abbrev Ascends : Changes → Type 0
Ascends es = IsStrictlySortedBy (slice_cmp nat_cmp) (keys_of es)

put_ascends_at : (o : Ordering) (k : List ℕ) (v : List Range) (e : Change) (es : Changes) → cmp k e.0 ≡ o → Ascends (e ∷ es) → Ascends (insert_entry cmp es k v)
    → Ascends (match_ordering o ((k, v) ∷ e ∷ es) ((e.0, v) ∷ es) (e ∷ insert_entry cmp es k v))
unfolding IsStrictlySortedBy
put_ascends_at Less k v e es h s later = ((h, below_next k e.0 es h s.0), s)
put_ascends_at Equal k v e es h s later = s
put_ascends_at Greater k v e es h s later = (below_put e.0 k v es (nat_list_cmp_total.antisymm e.0 k ∙ ap ordering_reverse h) s.0, later)

put_ascends : (k : List ℕ) (v : List Range) (es : Changes) → Ascends es → Ascends (insert_entry cmp es k v)
unfolding IsStrictlySortedBy
put_ascends k v [] s = (tt, tt)
put_ascends k v (e ∷ es) s = put_ascends_at _ k v e es refl s (put_ascends k v es s.1)

removed_ascends_at : (b : Bool) (k : List ℕ) (e : Change) (es : Changes) → Ascends (e ∷ es) → Ascends (remove_entry (bytes_eq k) es) → Ascends (cond b es (e ∷ remove_entry (bytes_eq k) es))
unfolding IsStrictlySortedBy
removed_ascends_at true k e es s later = s.1
removed_ascends_at false k e es s later = (below_removed e.0 k es s.0, later)

removed_ascends : (k : List ℕ) (es : Changes) → Ascends es → Ascends (remove_entry (bytes_eq k) es)
unfolding IsStrictlySortedBy
removed_ascends k [] s = tt
removed_ascends k (e ∷ es) s = removed_ascends_at (bytes_eq k e.0) k e es s (removed_ascends k es s.1)

ascends : (cs ds : Changes) → Ascends cs → Ascends (fold with_ranges cs ds)
ascends cs [] s = s
ascends cs (d ∷ ds) s = ascends (with_ranges cs d) ds (put_ascends d.0 (more (ranges_at d.0 cs) d) (remove_entry (bytes_eq d.0) cs) (removed_ascends d.0 cs s))

nothing_ascends : Ascends []
unfolding IsStrictlySortedBy
nothing_ascends = tt

pub edit_uris : UrisStandOnce
edit_uris documents = ascends [] documents nothing_ascends
