-- A search from a list of files, turn by turn.
use Rattle.std.proofs.Common.{◌≡◌, inl, inr, ⊎_elim, ℕ, ◌+◌, ◌<◌, ◌≤◌, List, [], false, length, get_or, ◌∙◌, arith}
use Rattle.std.specs.Prelude.{Contains}
use Rattle.std.proofs.lemmas.Bool.{cases_eq, cases_lt}
use Rattle.std.proofs.lemmas.List.{get_or_default, get_or_past}
use Rattle.std.proofs.lemmas.List.Elements.{Contains-get_or}
use Rattle.import_graph.specs.Walks.{Lists, Walk, stay, go, ReachedFrom}
use Rattle.import_graph.specs.FileSearches.{IsSeen, IsListed, VisitsAll}
use Rattle.import_graph.specs.declared.file_search.FileSearch.{FileSearch}

-- one more step at the end
pub walk_snoc : {Step : ℕ → ℕ → Type 0} {a b c : ℕ} → Walk Step a b → Step b c → Walk Step a c
walk_snoc stay last = go last stay
walk_snoc (go first rest) last = go first (walk_snoc rest last)

-- the same walk from its end, by steps the other way round
pub walk_back : {Step Back : ℕ → ℕ → Type 0} → ((a b : ℕ) → Step a b → Back b a) → {a b : ℕ} → Walk Step a b → Walk Back b a
walk_back each stay = stay
walk_back each (go {a = a} {b = b} first rest) = walk_snoc (walk_back each rest) (each a b first)

-- what was seen is reached, and of the files that were followed all steps were seen
pub record Searches (next : List (List ℕ)) (start : List ℕ) (s : FileSearch) (followed : ℕ) : Type 0 where
  pub as_long : length s.seen.items ≡ length next
  pub listed : IsListed s
  pub sound : (g : ℕ) → IsSeen s g → ReachedFrom next start g
  pub started : (g : ℕ) → Contains start g → IsSeen s g
  pub up_to : followed ≤ length s.found.items
  pub closed : (k b : ℕ) → k < followed → Lists next (get_or s.found.items k 0) b → IsSeen s b

-- what was seen is there
pub seen_within : (s : FileSearch) (g : ℕ) → IsSeen s g → g < length s.seen.items
seen_within s g m = elim (cases_lt g (length s.seen.items)) [
  | inl lt ↦ lt
  | inr past ↦ let none : get_or s.seen.items g false ≡ false = get_or_past s.seen.items g false past in absurd (cc (none, m))
]

pub Searches-init : (next : List (List ℕ)) (start : List ℕ) (s t : FileSearch) → length s.seen.items ≡ length next → IsListed s → length s.found.items ≡ 0
    → VisitsAll s t start → Searches next start t 0
Searches-init next start s t long listed empty all = record {
  as_long = all.as_long ∙ long;
  listed = all.listed listed;
  sound = λ g m. ⊎_elim (λ was. let has = (listed g).0 was in absurd (omega (arith, has.1, empty))) (λ has. (g, has, stay)) (all.others g m);
  started = all.marks;
  up_to = omega arith;
  closed = λ k b lt step. absurd (omega (arith, lt));
}

module _ (next : List (List ℕ)) (start : List ℕ) (old : FileSearch) (followed f : ℕ)
    (so_far : Searches next start old followed) (more : followed < length old.found.items) (is : get_or old.found.items followed 0 ≡ f) where
  -- the file that is followed was seen
  pub f_seen : IsSeen old f
  f_seen = (so_far.listed f).1 (rw is at (Contains-get_or old.found.items followed 0 more))

  pub f_there : f < length next
  f_there = omega (arith, seen_within old f f_seen, so_far.as_long)

  module _ (new : FileSearch) (all : VisitsAll old new (get_or next f [])) where
    pub Searches-turn : Searches next start new (followed + 1)
    Searches-turn =
        let f_reached = so_far.sound f f_seen in
        record {
          as_long = all.as_long ∙ so_far.as_long;
          listed = all.listed so_far.listed;
          sound = λ g m. ⊎_elim (so_far.sound g) (λ has. (f_reached.0, f_reached.1, walk_snoc f_reached.2 has)) (all.others g m);
          started = λ g has. all.keeps g (so_far.started g has);
          up_to = omega (arith, more, all.longer);
          closed = λ k b lt step. elim (cases_eq k followed) [
            | inl last ↦
                let at : get_or new.found.items k 0 ≡ f = rw last (all.in_place followed more ∙ is) in
                let row : Contains (get_or next f []) b = rw at at step in all.marks b row
            | inr other ↦
                let before : k < followed = omega (arith, lt, other) in
                let at = all.in_place k (omega (arith, before, more)) in
                let step' : Lists next (get_or old.found.items k 0) b = rw at at step in
                all.keeps b (so_far.closed k b before step')
          ];
        }

-- when all that were found are followed, what is reached was seen
module _ (next : List (List ℕ)) (start : List ℕ) (s : FileSearch) (followed : ℕ) (so_far : Searches next start s followed) (all : length s.found.items ≤ followed) where
  one_step : (a b : ℕ) → Lists next a b → IsSeen s a → IsSeen s b
  one_step a b step m =
      let (k, lt, e) = (so_far.listed a).0 m in
      let at : get_or s.found.items k 0 ≡ a = get_or_default s.found.items k 0 a lt ∙ e in
      so_far.closed k b (omega (arith, lt, all)) (rw at step)

  walk_seen : {a b : ℕ} → Walk (λ x y. Lists next x y) a b → IsSeen s a → IsSeen s b
  walk_seen stay m = m
  walk_seen (go {a = a} {b = b} step rest) m = walk_seen rest (one_step a b step m)

  pub Searches-done : (g : ℕ) → ReachedFrom next start g → IsSeen s g
  Searches-done g (h, has, walk) = walk_seen walk (so_far.started h has)
