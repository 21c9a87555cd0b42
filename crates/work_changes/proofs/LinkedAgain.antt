-- Links while changes are taken one after the other.
use Rattle.std.proofs.Common.{◌≡◌, ◌≢◌, ◌<◌, ◌≤◌, ◌+◌, ◌==◌, ℕ, zero, suc, List, [], ◌∷◌, ◌++◌, Bool, true, false, length, get_or, set, drop, map, refl, sym, ap, subst, ◌∙◌, add-one, arith, below_more, drop-cons}
use Rattle.std.specs.Prelude.{All, Contains}
use Rattle.std.proofs.lemmas.Bool.{false≢true}
use Rattle.std.proofs.lemmas.Bool.Decides.{nat_tests}
use Rattle.std.proofs.lemmas.List.Elements.{All-contains, All-head, All-tail, All-weaker}
use Rattle.std.proofs.lemmas.List.{length-map, length-set, get_or-set_other, get_or-set_same, get_or_default, ext_get_or, same_lists}
use Rattle.std.proofs.lemmas.Simd.{map-map}
use Rattle.proto_tree.specs.Read.{value_tree}
use Rattle.proto_decls.specs.declared.diagnostic.Diag.{Diag}
use Rattle.proto_decls.specs.declared.fact.FileFacts.{FileFacts}
use Rattle.proto_decls.specs.Facts.{facts_of}
use Rattle.proto_decls.specs.Order.{in_order}
use Rattle.proto_decls.specs.declared.named_facts.NamedFacts.{NamedFacts}
use Rattle.proto_resolve.specs.declared.resolve.Links.{Links}
use Rattle.proto_names.specs.Files.{decls_at, facts_at, no_facts}
use Rattle.proto_names.specs.Outlines.{with_facts}
use Rattle.proto_resolve.specs.Resolved.{resolved, sites_at}
use Rattle.proto_resolve.specs.Seen.{SeenLaw}
use Rattle.proto_resolve.specs.Sites.{names_of_file}
use Rattle.work_links.specs.declared.asked.Asked.{Asked}
use Rattle.work_links.specs.declared.renumbering.Renumbering.{Renumbering}
use Rattle.work_links.specs.Asked.{has_all, names_asked}
use Rattle.work_links.specs.Laws.{DifferBy, TouchedLaw}
use Rattle.work_links.specs.Touched.{decl_after, links_after, Tells}
use Rattle.work_index.proofs.Numbered.{made, made_at, made_length}
use Rattle.work_index.proofs.Known.{same_files}
use Rattle.work_index.specs.declared.analysis.Resolutions.{Resolutions}
use Rattle.work_index.specs.Workspace.{Source, Workspace, all_facts, asked_of, diagnostics_of, merged, named_facts, no_file, resolution_of, source_facts}
use Rattle.work_changes.specs.declared.relinking.Effect.{Effect}
use Rattle.work_changes.specs.declared.relinking.Effect.TheVariants.{Stay, Move, Relink}
use Rattle.work_changes.specs.declared.relinking.FileChange.{FileChange}
use Rattle.work_changes.specs.declared.relinking.Outdated.{Outdated}
use Rattle.work_changes.specs.declared.relinking.Relinking.{Relinking}
use Rattle.work_changes.specs.Changes.{AreLinked, AreLinkedBefore, AreTakenBut, DifferAt, Follows, HasPlaces, IsLinked, IsMoved, StaysBut, StillWait, WasKnown, file_source, links_under, no_links, waiting_under, waits}
use Rattle.work_changes.proofs.Changed.{is_put, others_stay, paths_stay}

-- ---- files that wait

pub within_waiting : (waiting : List Bool) (n : ℕ) → get_or waiting n true ≡ false → n < length waiting
within_waiting [] n idle = absurd (false≢true (sym idle))
within_waiting (x ∷ waiting) zero idle = omega arith
within_waiting (x ∷ waiting) (suc n) idle = let rest : n < length waiting = within_waiting waiting n idle in omega (arith, rest)

-- a file that waits still does where one more does
pub one_more_waits : (waiting : List Bool) (k n : ℕ) → get_or waiting n true ≡ true → get_or (set waiting k true) n true ≡ true
one_more_waits [] k n marked = marked
one_more_waits (x ∷ waiting) zero zero marked = refl
one_more_waits (x ∷ waiting) zero (suc n) marked = marked
one_more_waits (x ∷ waiting) (suc k) zero marked = marked
one_more_waits (x ∷ waiting) (suc k) (suc n) marked = one_more_waits waiting k n marked

not_before : (a b : Bool) → (a ≡ true → b ≡ true) → b ≡ false → a ≡ false
not_before true b still idle = absurd (false≢true (sym idle ∙ still refl))
not_before false b still idle = refl

-- ---- the effect of a change on one file

-- the same of one file
pub record IsAlike (n : ℕ) (before now : Relinking) : Type 0 where
  pub links : get_or now.resolutions.links.items n no_links ≡ get_or before.resolutions.links.items n no_links
  pub diagnostics : get_or now.resolutions.diagnostics.items n [] ≡ get_or before.resolutions.diagnostics.items n []
  pub waits : waits now n ≡ waits before n

-- what is so after an effect on the links of a file
pub record IsUnder (effect : Effect) (k : ℕ) (before now : Relinking) : Type 0 where
  pub links : now.resolutions.links.items ≡ links_under effect k before.resolutions.links.items
  pub diagnostics : now.resolutions.diagnostics.items ≡ before.resolutions.diagnostics.items
  pub waiting : now.waiting.items ≡ waiting_under effect k before.waiting.items

alike_after : (n : ℕ) (a b c : Relinking) → IsAlike n a b → IsAlike n b c → IsAlike n a c
alike_after n a b c first second = record {
  links = second.links ∙ first.links;
  diagnostics = second.diagnostics ∙ first.diagnostics;
  waits = second.waits ∙ first.waits;
}

linked_alike : (files : List NamedFacts) (n : ℕ) (s : Source) (before now : Relinking) → IsAlike n before now → IsLinked files n s before.resolutions → IsLinked files n s now.resolutions
linked_alike files n s before now alike linked = record { links = alike.links ∙ linked.links; diagnostics = alike.diagnostics ∙ linked.diagnostics }

links_elsewhere : (e : Effect) (k n : ℕ) (links : List Links) → n ≢ k → get_or (links_under e k links) n no_links ≡ get_or links n no_links
links_elsewhere Stay k n links apart = refl
links_elsewhere (Move by) k n links apart = get_or-set_other links k n _ no_links apart
links_elsewhere Relink k n links apart = refl

waiting_elsewhere : (e : Effect) (k n : ℕ) (waiting : List Bool) → n ≢ k → get_or (waiting_under e k waiting) n true ≡ get_or waiting n true
waiting_elsewhere Stay k n waiting apart = refl
waiting_elsewhere (Move by) k n waiting apart = refl
waiting_elsewhere Relink k n waiting apart = get_or-set_other waiting k n _ true apart

elsewhere : (e : Effect) (k n : ℕ) (before now : Relinking) → IsUnder e k before now → n ≢ k → IsAlike n before now
elsewhere e k n before now under apart = record {
  links = ap (λ links. get_or links n no_links) under.links ∙ links_elsewhere e k n before.resolutions.links.items apart;
  diagnostics = ap (λ diagnostics. get_or diagnostics n []) under.diagnostics;
  waits = ap (λ waiting. get_or waiting n true) under.waiting ∙ waiting_elsewhere e k n before.waiting.items apart;
}

links_count : (e : Effect) (k : ℕ) (links : List Links) → length (links_under e k links) ≡ length links
links_count Stay k links = refl
links_count (Move by) k links = length-set links k _
links_count Relink k links = refl

waiting_count : (e : Effect) (k : ℕ) (waiting : List Bool) → length (waiting_under e k waiting) ≡ length waiting
waiting_count Stay k waiting = refl
waiting_count (Move by) k waiting = refl
waiting_count Relink k waiting = length-set waiting k _

places_under : (e : Effect) (k count : ℕ) (before now : Relinking) → IsUnder e k before now → HasPlaces count before → HasPlaces count now
places_under e k count before now under places = record {
  links = ap length under.links ∙ links_count e k before.resolutions.links.items ∙ places.links;
  diagnostics = ap length under.diagnostics ∙ places.diagnostics;
  waiting = ap length under.waiting ∙ waiting_count e k before.waiting.items ∙ places.waiting;
}

still_waits : (e : Effect) (k n : ℕ) (waiting : List Bool) → get_or waiting n true ≡ true → get_or (waiting_under e k waiting) n true ≡ true
still_waits Stay k n waiting marked = marked
still_waits (Move by) k n waiting marked = marked
still_waits Relink k n waiting marked = one_more_waits waiting k n marked

-- a file that is spared is linked as before but for the numbers
module _ (old new : List NamedFacts) (change : FileChange) (differs : DifferAt old new change) (law : TouchedLaw) (n : ℕ) (s : Source) (asked : Asked) (by : Renumbering)
    (moved : IsMoved old new change n asked by) (own : facts_at old n ≡ source_facts s) (has : has_all asked (asked_of s) ≡ true) where
  own_now : facts_at new n ≡ source_facts s
  own_now = sym (differs.others n moved.other) ∙ own

  asked_same : names_asked (sites_at new n s.text (value_tree s.text)) (decls_at new n) ≡ asked_of s
  asked_same = ap (λ (facts : FileFacts). let tree = value_tree s.text in names_asked (names_of_file s.text facts tree.nodes) facts.decls) own_now

  links_moved : resolved new n s.text (value_tree s.text) ≡ links_after (decl_after by) (resolved old n s.text (value_tree s.text))
  links_moved =
      let touched = moved.touched in
      let there : (let by = touched.by in by.file) ≡ change.file = (let tells = moved.tells in tells.file_is) in
      let differ_by : DifferBy old new touched = record {
        files = differs.files;
        others = λ g apart. differs.others g (λ same. apart (same ∙ sym there));
        tells = subst (λ g. Tells g (facts_at old g) (facts_at new g) touched) (sym there) moved.tells;
      } in
      law old new touched n asked s.text (value_tree s.text) (λ same. moved.other (same ∙ there)) differ_by moved.imports (rw asked_same has) moved.untouched
      ∙ ap (λ by. links_after (decl_after by) (resolved old n s.text (value_tree s.text))) moved.by_is

-- the file itself is linked after the effect, unless it waits
here : (old new : List NamedFacts) (change : FileChange) → DifferAt old new change → SeenLaw → TouchedLaw → (n : ℕ) (s : Source) (asked : Asked) → n < length new → facts_at old n ≡ source_facts s → has_all asked (asked_of s) ≡ true
    → (e : Effect) → Follows old new change n asked e → (before now : Relinking) → n < length before.resolutions.links.items → n < length before.waiting.items → IsUnder e n before now → IsLinked old n s before.resolutions
    → waits now n ≡ false → IsLinked new n s now.resolutions
here old new change differs seen touched n s asked within own has Stay follows before now linked_there waiting_there under linked idle =
    let same : resolved old n s.text (value_tree s.text) ≡ resolved new n s.text (value_tree s.text) = seen old new n within follows.1 s.text (value_tree s.text) in record {
      links = ap (λ links. get_or links n no_links) under.links ∙ linked.links ∙ same;
      diagnostics = ap (λ diagnostics. get_or diagnostics n []) under.diagnostics ∙ linked.diagnostics ∙ ap (merged (facts_of s.text)) same;
    }
here old new change differs seen touched n s asked within own has (Move by) follows before now linked_there waiting_there under linked idle =
    let same : resolved new n s.text (value_tree s.text) ≡ links_after (decl_after by) (resolved old n s.text (value_tree s.text)) = links_moved old new change differs touched n s asked by follows own has in record {
      links = ap (λ links. get_or links n no_links) under.links ∙ get_or-set_same before.resolutions.links.items n _ no_links linked_there ∙ ap (links_after (decl_after by)) linked.links ∙ sym same;
      diagnostics = ap (λ diagnostics. get_or diagnostics n []) under.diagnostics ∙ linked.diagnostics
          ∙ ap (λ (diags : List Diag). in_order ((let facts = facts_of s.text in facts.diags) ++ diags)) (sym (ap (λ (links : Links). links.diags) same));
    }
here old new change differs seen touched n s asked within own has Relink follows before now linked_there waiting_there under linked idle =
    absurd (false≢true (sym idle ∙ ap (λ waiting. get_or waiting n true) under.waiting ∙ get_or-set_same before.waiting.items n true true waiting_there))

-- ---- the files that are brought up to a change one after the other

-- the first k files follow from the new facts, and the others are as at the start
pub record AreFollowed (new : List NamedFacts) (w : Workspace) (start now : Relinking) (k : ℕ) : Type 0 where
  pub places : HasPlaces (length w) now
  pub wait : StillWait start now
  pub done : (n : ℕ) → n < k → waits now n ≡ false → IsLinked new n (file_source w n) now.resolutions
  pub ahead : (n : ℕ) → k ≤ n → IsAlike n start now

pub none_followed : (new : List NamedFacts) (w : Workspace) (start : Relinking) → HasPlaces (length w) start → AreFollowed new w start start 0
none_followed new w start places = record {
  places = places;
  wait = λ n marked. marked;
  done = λ n there. absurd (omega (arith, there));
  ahead = λ n far. record { links = refl; diagnostics = refl; waits = refl };
}

module _ (new : List NamedFacts) (w : Workspace) (start now : Relinking) (k : ℕ) (so_far : AreFollowed new w start now k) where
  -- a file that waits is passed over
  pub passed_over : waits now k ≡ true → AreFollowed new w start now (k + 1)
  passed_over marked = record {
    places = so_far.places;
    wait = so_far.wait;
    done = below_more (λ n. waits now n ≡ false → IsLinked new n (file_source w n) now.resolutions) k so_far.done (λ idle. absurd (false≢true (sym idle ∙ marked)));
    ahead = λ n far. so_far.ahead n (omega (arith, far));
  }

  -- one that doesn't wait gets the effect of the change
  pub one_followed : (change : FileChange) (before : AreLinkedBefore new change w start) → SeenLaw → TouchedLaw → k < length w → (asked : Asked) → has_all asked (asked_of (file_source w k)) ≡ true
      → waits now k ≡ false → (e : Effect) → ((old : List NamedFacts) → DifferAt old new change → Follows old new change k asked e) → (later : Relinking) → IsUnder e k now later → AreFollowed new w start later (k + 1)
  one_followed change before seen touched there asked has idle e follows later under =
      let linked = before.linked in
      let places = so_far.places in
      let alike : IsAlike k start now = so_far.ahead k (omega arith) in
      let not_waiting : waits start k ≡ false = sym alike.waits ∙ idle in
      let differs = before.differ in
      let within : k < length new = omega (arith, there, linked.count, differs.files) in
      let here_now : waits later k ≡ false → IsLinked new k (file_source w k) later.resolutions =
      here before.old new change before.differ seen touched k (file_source w k) asked within (linked.own k not_waiting) has e (follows before.old before.differ) now later (omega (arith, there, places.links)) (omega (arith, there, places.waiting)) under
      (linked_alike before.old k (file_source w k) start now alike (linked.linked k not_waiting)) in record {
        places = places_under e k (length w) now later under so_far.places;
        wait = λ n marked. ap (λ waiting. get_or waiting n true) under.waiting ∙ still_waits e k n now.waiting.items (so_far.wait n marked);
        done = below_more (λ n. waits later n ≡ false → IsLinked new n (file_source w n) later.resolutions) k (λ n less. earlier n less (elsewhere e k n now later under (λ same. absurd (omega (arith, less, same))))) here_now;
        ahead = λ n far. alike_after n start now later (so_far.ahead n (omega (arith, far))) (elsewhere e k n now later under (λ same. absurd (omega (arith, far, same))));
      }
    where
      earlier : (n : ℕ) → n < k → IsAlike n now later → waits later n ≡ false → IsLinked new n (file_source w n) later.resolutions
      earlier n less alike idle = linked_alike new n (file_source w n) now later alike (so_far.done n less (sym alike.waits ∙ idle))

  -- all are brought up to it in the end
  pub all_followed : (change : FileChange) → AreLinkedBefore new change w start → length w ≤ k → AreLinked new w now
  all_followed change before end' =
      let linked = before.linked in
      let differs = before.differ in record {
        count = sym differs.files ∙ linked.count;
        places = so_far.places;
        own = λ n idle. own n (not_before (waits start n) (waits now n) (so_far.wait n) idle);
        linked = λ n idle. so_far.done n (inside n idle) idle;
      }
    where
      inside : (n : ℕ) → waits now n ≡ false → n < k
      inside n idle = let places = so_far.places in omega (arith, within_waiting now.waiting.items n idle, places.waiting, end')

      own : (n : ℕ) → waits start n ≡ false → facts_at new n ≡ source_facts (file_source w n)
      own n idle =
          let linked = before.linked in
          let differs = before.differ in
          sym (differs.others n (λ same. false≢true (sym idle ∙ ap (waits start) same ∙ before.waits))) ∙ linked.own n idle

-- ---- changes that are taken one after the other

-- the facts of a file of a workspace
pub facts_in : (w : Workspace) (n : ℕ) → n < length w → facts_at (all_facts w) n ≡ source_facts (file_source w n)
facts_in [] n there = absurd (omega (arith, there))
facts_in (x ∷ w) zero there = refl
facts_in (x ∷ w) (suc n) there = facts_in w n (omega (arith, there))

pub outside : (f n : ℕ) (rest : List ℕ) → n ≢ f → (Contains rest n → ⊥) → Contains (f ∷ rest) n → ⊥
outside f n rest apart out has = by has.0 has.1 has.2
  where
    by : (k : ℕ) → k < length (f ∷ rest) → get_or (f ∷ rest) k n ≡ n → ⊥
    by zero there is = apart (sym is)
    by (suc k) there is = out (k, omega (arith, there), is)

-- where the workspace before the changes is known, and the files wait whose text changes, no change is taken
pub none_taken : (o : Outdated) (w : Workspace) (changed : List ℕ) (now : Relinking) (was : WasKnown o w changed) → now.resolutions ≡ o.resolutions → length now.waiting.items ≡ length w → All (λ f. waits now f ≡ true) changed
    → AreTakenBut changed o.table w now
none_taken o w changed now was kept count wait =
    subst (λ files. AreTakenBut changed files w now) (sym was.table) (record {
      paths = map-map (λ f. f.path) named_facts old ∙ stays.paths;
      others = λ n there out. facts_in old n (omega (arith, there, long)) ∙ ap (λ f. source_facts f.1) (stays.others n out) ∙ sym (facts_in w n there);
      linked = record {
        count = length-map old named_facts ∙ long;
        places = record {
          links = ap length links_are ∙ made_length (resolution_of old) old ∙ long;
          diagnostics = ap length diagnostics_are ∙ made_length (diagnostics_of old) old ∙ long;
          waiting = count;
        };
        own = λ n idle. facts_in old n (there n idle) ∙ ap (λ f. source_facts f.1) (stays.others n (out n idle));
        linked = λ n idle. record {
          links = ap (λ links. get_or links n no_links) links_are ∙ made_at (resolution_of old) old n no_links (there n idle) ∙ ap (λ f. resolution_of old (n, f)) (stays.others n (out n idle));
          diagnostics = ap (λ diagnostics. get_or diagnostics n []) diagnostics_are ∙ made_at (diagnostics_of old) old n [] (there n idle) ∙ ap (λ f. diagnostics_of old (n, f)) (stays.others n (out n idle));
        };
      };
      wait = λ k d less. (was.within k d less, wait k d less);
    })
  where
    old : Workspace
    old = was.old

    stays : StaysBut changed old w
    stays = was.stays

    links_are : now.resolutions.links.items ≡ made (resolution_of old) old
    links_are = ap (λ (r : Resolutions). r.links.items) kept ∙ was.links

    diagnostics_are : now.resolutions.diagnostics.items ≡ made (diagnostics_of old) old
    diagnostics_are = ap (λ (r : Resolutions). r.diagnostics.items) kept ∙ was.diagnostics

    long : length old ≡ length w
    long = sym (length-map old (λ f. f.0)) ∙ ap length stays.paths ∙ length-map w (λ f. f.0)

    there : (n : ℕ) → waits now n ≡ false → n < length old
    there n idle = omega (arith, within_waiting now.waiting.items n idle, count, long)

    out : (n : ℕ) → waits now n ≡ false → Contains changed n → ⊥
    out n idle has = false≢true (sym idle ∙ All-contains (λ f. waits now f ≡ true) changed n wait has)

-- one more is taken
pub one_taken : (file : ℕ) (rest : List ℕ) (files : List NamedFacts) (w : Workspace) (now later : Relinking) → AreTakenBut (file ∷ rest) files w now → AreLinked (with_facts files file (facts_at (all_facts w) file)) w later → StillWait now later
    → AreTakenBut rest (with_facts files file (facts_at (all_facts w) file)) w later
one_taken file rest files w now later so_far linked still = record {
  paths = paths_stay files file facts ∙ so_far.paths;
  others = λ n there out. by n there out (n == file) refl;
  linked = linked;
  wait = All-weaker (λ f. (f < length w) × (waits now f ≡ true)) (λ f. (f < length w) × (waits later f ≡ true)) (λ f was. (was.0, still f was.1)) rest (All-tail (λ f. (f < length w) × (waits now f ≡ true)) file rest so_far.wait);
}
  where
    facts : FileFacts
    facts = facts_at (all_facts w) file

    inside : file < length files
    inside =
        let was : (file < length w) × (waits now file ≡ true) = All-head (λ f. (f < length w) × (waits now f ≡ true)) file rest so_far.wait in
        let linked = so_far.linked in
        omega (arith, was.0, linked.count)

    equal : (n : ℕ) → (n == file) ≡ true → n ≡ file
    equal n is = grind (arith, nat_tests)

    apart : (n : ℕ) → (n == file) ≡ false → n ≢ file
    apart n is same = false≢true (sym is ∙ (let at : (n == file) ≡ true = grind (arith, nat_tests) in at))

    by : (n : ℕ) → n < length w → (Contains rest n → ⊥) → (b : Bool) → (n == file) ≡ b → facts_at (with_facts files file facts) n ≡ facts_at (all_facts w) n
    by n there out true is =
        let same = equal n is in
        ap (facts_at (with_facts files file facts)) same ∙ is_put files file facts inside ∙ ap (facts_at (all_facts w)) (sym same)
    by n there out false is = others_stay files file n facts (apart n is) ∙ so_far.others n there (outside file n rest (apart n is) out)

-- of the changes that are listed, the first k are taken, and the next one is that of a file that waits
module _ (changed : List ℕ) (k : ℕ) (files : List NamedFacts) (w : Workspace) (now : Relinking) (there : k < length changed) (so_far : AreTakenBut (drop k changed) files w now) where
  next : drop k changed ≡ get_or changed k 0 ∷ drop (k + 1) changed
  next = rw (add-one k) (drop-cons changed k 0 there)

  split : AreTakenBut (get_or changed k 0 ∷ drop (k + 1) changed) files w now
  split = subst (λ rest. AreTakenBut rest files w now) next so_far

  pub next_waits : waits now (get_or changed k 0) ≡ true
  next_waits = (All-head (λ f. (f < length w) × (waits now f ≡ true)) (get_or changed k 0) (drop (k + 1) changed) split.wait).1

  pub next_taken : (later_files : List NamedFacts) (later : Relinking) → later_files ≡ with_facts files (get_or changed k 0) (facts_at (all_facts w) (get_or changed k 0)) → AreLinked later_files w later → StillWait now later
      → AreTakenBut (drop (k + 1) changed) later_files w later
  next_taken later_files later are linked still =
      let file = get_or changed k 0 in
      subst (λ fs. AreTakenBut (drop (k + 1) changed) fs w later) (sym are) (one_taken file (drop (k + 1) changed) files w now later split (subst (λ fs. AreLinked fs w later) are linked) still)

-- once all are taken, the files are those of the workspace
pub all_taken : (files : List NamedFacts) (w : Workspace) (now : Relinking) → AreTakenBut [] files w now → files ≡ all_facts w
all_taken files w now taken = same_files files w taken.paths (ext_get_or no_facts (map (λ f. f.facts) files) (map (λ f. source_facts f.1) w) long at)
  where
    long : length (map (λ f. f.facts) files) ≡ length (map (λ f. source_facts f.1) w)
    long = let linked = taken.linked in length-map files (λ f. f.facts) ∙ linked.count ∙ sym (length-map w (λ f. source_facts f.1))

    at : (n : ℕ) → n < length (map (λ f. f.facts) files) → get_or (map (λ f. f.facts) files) n no_facts ≡ get_or (map (λ f. source_facts f.1) w) n no_facts
    at n there =
        taken.others n (omega (arith, there, long, length-map w (λ f. source_facts f.1))) (λ has. absurd (omega (arith, has.1)))
        ∙ ap (λ facts. get_or facts n no_facts) (map-map (λ f. f.facts) named_facts w)

-- ---- the files that are linked again

-- the first k files are linked, and so are the others that don't wait
pub record AreLinkedUpTo (files : List NamedFacts) (w : Workspace) (waiting : List Bool) (found : Resolutions) (k : ℕ) : Type 0 where
  pub links : length found.links.items ≡ length w
  pub diagnostics : length found.diagnostics.items ≡ length w
  pub done : (n : ℕ) → n < k → IsLinked files n (file_source w n) found
  pub ahead : (n : ℕ) → k ≤ n → get_or waiting n true ≡ false → IsLinked files n (file_source w n) found

pub none_linked : (files : List NamedFacts) (w : Workspace) (now : Relinking) → AreLinked files w now → AreLinkedUpTo files w now.waiting.items now.resolutions 0
none_linked files w now linked = let places = linked.places in record {
  links = places.links;
  diagnostics = places.diagnostics;
  done = λ n there. absurd (omega (arith, there));
  ahead = λ n far idle. linked.linked n idle;
}

module _ (files : List NamedFacts) (w : Workspace) (waiting : List Bool) (found : Resolutions) (k : ℕ) (so_far : AreLinkedUpTo files w waiting found k) where
  -- a file that doesn't wait is linked
  pub one_passed : get_or waiting k true ≡ false → AreLinkedUpTo files w waiting found (k + 1)
  one_passed idle = record {
    links = so_far.links;
    diagnostics = so_far.diagnostics;
    done = below_more (λ n. IsLinked files n (file_source w n) found) k so_far.done (so_far.ahead k (omega arith) idle);
    ahead = λ n far. so_far.ahead n (omega (arith, far));
  }

  -- one that waits is linked again
  pub one_linked : files ≡ all_facts w → k < length w → (later : Resolutions) → later.links.items ≡ set found.links.items k (resolution_of w (k, get_or w k no_file)) → later.diagnostics.items ≡ set found.diagnostics.items k (diagnostics_of w (k, get_or w k no_file))
      → AreLinkedUpTo files w waiting later (k + 1)
  one_linked all there later links diagnostics = record {
    links = ap length links ∙ length-set found.links.items k _ ∙ so_far.links;
    diagnostics = ap length diagnostics ∙ length-set found.diagnostics.items k _ ∙ so_far.diagnostics;
    done = below_more (λ n. IsLinked files n (file_source w n) later) k (λ n less. elsewhere n (λ same. absurd (omega (arith, less, same))) (so_far.done n less)) at;
    ahead = λ n far idle. elsewhere n (λ same. absurd (omega (arith, far, same))) (so_far.ahead n (omega (arith, far)) idle);
  }
    where
      elsewhere : (n : ℕ) → n ≢ k → IsLinked files n (file_source w n) found → IsLinked files n (file_source w n) later
      elsewhere n apart linked = record {
        links = ap (λ links. get_or links n no_links) links ∙ get_or-set_other found.links.items k n _ no_links apart ∙ linked.links;
        diagnostics = ap (λ diagnostics. get_or diagnostics n []) diagnostics ∙ get_or-set_other found.diagnostics.items k n _ [] apart ∙ linked.diagnostics;
      }

      at : IsLinked files k (file_source w k) later
      at = let text = (file_source w k).text in record {
        links = ap (λ links. get_or links k no_links) links ∙ get_or-set_same found.links.items k _ no_links (omega (arith, there, so_far.links)) ∙ ap (λ files. resolved files k text (value_tree text)) (sym all);
        diagnostics = ap (λ diagnostics. get_or diagnostics k []) diagnostics ∙ get_or-set_same found.diagnostics.items k _ [] (omega (arith, there, so_far.diagnostics))
            ∙ ap (λ files. merged (facts_of text) (resolved files k text (value_tree text))) (sym all);
      }

  -- in the end all are
  pub all_links : files ≡ all_facts w → length w ≤ k → found.links.items ≡ made (resolution_of w) w
  all_links all end' = same_lists found.links.items (made (resolution_of w) w) (so_far.links ∙ sym (made_length (resolution_of w) w)) (λ n d there.
      let linked = so_far.done n (omega (arith, there, so_far.links, end')) in
      let text = (file_source w n).text in
      get_or_default found.links.items n d no_links there ∙ linked.links ∙ ap (λ files. resolved files n text (value_tree text)) all ∙ sym (made_at (resolution_of w) w n d (omega (arith, there, so_far.links))))

  pub all_diagnostics : files ≡ all_facts w → length w ≤ k → found.diagnostics.items ≡ made (diagnostics_of w) w
  all_diagnostics all end' = same_lists found.diagnostics.items (made (diagnostics_of w) w) (so_far.diagnostics ∙ sym (made_length (diagnostics_of w) w)) (λ n d there.
      let linked = so_far.done n (omega (arith, there, so_far.diagnostics, end')) in
      let text = (file_source w n).text in
      get_or_default found.diagnostics.items n d [] there ∙ linked.diagnostics ∙ ap (λ files. merged (facts_of text) (resolved files n text (value_tree text))) all ∙ sym (made_at (diagnostics_of w) w n d (omega (arith, there, so_far.diagnostics))))
