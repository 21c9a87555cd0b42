-- Places put together file by file.
use Rattle.std.proofs.Common.{◌≡◌, ◌⊎◌, ◌∙◌, inl, inr, ℕ, zero, suc, ◌<◌, ◌≤◌, Bool, true, false, cond, List, [], ◌∷◌, get_or, map, refl, sym, ap, subst, arith}
use Rattle.std.specs.Prelude.{All, Contains, ◌==◌, ◌≢◌}
use Rattle.std.specs.List.{AllPairs}
use Rattle.std.proofs.lemmas.Bool.{eq-eqb, eqb-false, eqb-true, ne_eqb}
use Rattle.std.proofs.lemmas.List.Elements.{All-cons, All-contains, All-head, All-map, All-nil, All-tail}
use Rattle.std.proofs.lemmas.List.Kept.{AllPairs-cons}
use Rattle.proto_laws.proofs.Holders.{cases_in}
use Rattle.lsp_queries.specs.declared.place.Place.{Place}
use Rattle.lsp_renames.specs.ByFile.{behind, by_file, later}
use Rattle.lsp_renames.specs.Edited.{places_in}
use Rattle.lsp_queries.proofs.Pairs.{pairs-head, pairs-nil, pairs-tail}
use Rattle.lsp_laws.specs.DocumentLaws.{AreByFile, GroupsAreTheFiles}

abbrev Group : Type 0
Group = ℕ × List Place

abbrev files_of : List Group → List ℕ
files_of groups = map (λ g. g.0) groups

in_next : (x y : ℕ) (xs : List ℕ) → Contains xs y → Contains (x ∷ xs) y
in_next x y xs h = (suc h.0, omega (arith, h.1), h.2)

-- ---- the places in a file

pub none_in : (file : ℕ) (ps : List Place) → All (λ p. p.file ≢ file) ps → places_in file ps ≡ []
none_in file [] all = refl
none_in file (p ∷ ps) all =
    ap (λ b. cond b (p ∷ places_in file ps) (places_in file ps)) (ne_eqb p.file file (All-head (λ p. p.file ≢ file) p ps all)) ∙ none_in file ps (All-tail (λ p. p.file ≢ file) p ps all)

in_own : (file : ℕ) (p : Place) (ps : List Place) → p.file ≡ file → places_in file (p ∷ ps) ≡ p ∷ places_in file ps
in_own file p ps same = ap (λ b. cond b (p ∷ places_in file ps) (places_in file ps)) (eq-eqb p.file file same)

in_other : (file : ℕ) (p : Place) (ps : List Place) → p.file < file → places_in file (p ∷ ps) ≡ places_in file ps
in_other file p ps lt = ap (λ b. cond b (p ∷ places_in file ps) (places_in file ps)) (ne_eqb p.file file (λ same. omega arith))

-- ---- one place more

-- what stands in the file of the next place, and the groups of later files
record AreParted (file : ℕ) (ps own : List Place) (rest : List Group) : Type 0 where
  own_is : own ≡ places_in file ps
  above : All (λ g. file < g.0) rest
  each : All (λ g. g.1 ≡ places_in g.0 ps) rest
  once : AllPairs (λ g h. g.0 < h.0) rest
  all : All (λ p. (p.file ≡ file) ⊎ Contains (files_of rest) p.file) ps
  only : All (λ g. Contains (map (λ p. p.file) ps) g.0) rest

abbrev IsLower : Group → Group → Type 0
IsLower g h = g.0 < h.0

-- all groups of files from this one on
parted : (file : ℕ) (ps : List Place) (gs : List Group) → All (λ p. file ≤ p.file) ps → AreByFile ps gs → AreParted file ps (behind file gs) (later file gs)
parted file ps [] floor h =
    record {
      own_is = sym (none_in file ps (λ k d lt same. let inside = h.all k d lt in absurd (omega (arith, inside.1))));
      above = All-nil (λ g. file < g.0);
      each = All-nil (λ g. g.1 ≡ places_in g.0 ps);
      once = pairs-nil IsLower;
      all = λ k d lt. inr (h.all k d lt);
      only = All-nil (λ g. Contains (map (λ p. p.file) ps) g.0);
    }
parted file ps (g ∷ gs) floor h = by (g.0 == file) refl
  where
    above_first : All (λ x. g.0 < x.0) gs
    above_first = pairs-head IsLower g gs h.once

    from_first : (n : ℕ) → Contains (files_of (g ∷ gs)) n → g.0 ≤ n
    from_first n inside = there (cases_in g.0 (files_of gs) n inside)
      where
        there : (g.0 ≡ n) ⊎ Contains (files_of gs) n → g.0 ≤ n
        there (inl same) = omega arith
        there (inr more) = let lt = All-contains (λ m. g.0 < m) (files_of gs) n (All-map (λ m. g.0 < m) (λ x. x.0) gs above_first) more in omega (arith, lt)

    by : (b : Bool) → (g.0 == file) ≡ b → AreParted file ps (cond {A = List Place} b g.1 []) (cond {A = List Group} b gs (g ∷ gs))
    by true is =
        let same = eqb-true g.0 file is in
        record {
          own_is = All-head (λ g. g.1 ≡ places_in g.0 ps) g gs h.each ∙ ap (λ n. places_in n ps) same;
          above = subst (λ n. All (λ x. n < x.0) gs) same above_first;
          each = All-tail (λ g. g.1 ≡ places_in g.0 ps) g gs h.each;
          once = pairs-tail IsLower g gs h.once;
          all = λ k d lt. or_there (get_or ps k d).file same (cases_in g.0 (files_of gs) (get_or ps k d).file (h.all k d lt));
          only = All-tail (λ g. Contains (map (λ p. p.file) ps) g.0) g gs h.only;
        }
      where
        or_there : (n : ℕ) → g.0 ≡ file → (g.0 ≡ n) ⊎ Contains (files_of gs) n → (n ≡ file) ⊎ Contains (files_of gs) n
        or_there n same (inl own) = inl (sym own ∙ same)
        or_there n same (inr more) = inr more
    by false is =
        let le : file ≤ g.0 = All-contains (λ m. file ≤ m) (map (λ p. p.file) ps) g.0 (All-map (λ m. file ≤ m) (λ p. p.file) ps floor) (All-head (λ g. Contains (map (λ p. p.file) ps) g.0) g gs h.only) in
        let differ = eqb-false g.0 file is in
        let lt : file < g.0 = omega (arith, le, differ) in
        record {
          own_is = sym (none_in file ps (λ k d inside same. let past = from_first (get_or ps k d).file (h.all k d inside) in absurd (omega (arith, past, lt, same))));
          above = All-cons (λ x. file < x.0) g gs lt (λ k d inside. let past = above_first k d inside in omega (arith, past, lt));
          each = h.each;
          once = h.once;
          all = λ k d inside. inr (h.all k d inside);
          only = h.only;
        }

groups-cons : (p : Place) (ps : List Place) (own : List Place) (rest : List Group) → AreParted p.file ps own rest → AreByFile (p ∷ ps) ((p.file, p ∷ own) ∷ rest)
groups-cons p ps own rest h =
    record {
      each = All-cons (λ g. g.1 ≡ places_in g.0 (p ∷ ps)) (p.file, p ∷ own) rest (ap (λ l. p ∷ l) h.own_is ∙ sym (in_own p.file p ps refl))
          (λ k d lt. h.each k d lt ∙ sym (in_other (get_or rest k d).0 p ps (h.above k d lt)));
      once = AllPairs-cons IsLower (p.file, p ∷ own) rest h.above h.once;
      all = All-cons (λ q. Contains (p.file ∷ files_of rest) q.file) p ps (zero, omega arith, refl) (λ k d lt. there (get_or ps k d).file (h.all k d lt));
      only = All-cons (λ g. Contains (p.file ∷ map (λ p. p.file) ps) g.0) (p.file, p ∷ own) rest (zero, omega arith, refl)
          (λ k d lt. in_next p.file (get_or rest k d).0 (map (λ p. p.file) ps) (h.only k d lt));
    }
  where
    there : (n : ℕ) → (n ≡ p.file) ⊎ Contains (files_of rest) n → Contains (p.file ∷ files_of rest) n
    there n (inl same) = (zero, omega arith, sym same)
    there n (inr more) = in_next p.file n (files_of rest) more

pub groups-are : GroupsAreTheFiles
groups-are [] pairs = record { each = All-nil (λ g. g.1 ≡ places_in g.0 []); once = pairs-nil IsLower; all = All-nil (λ p. Contains [] p.file); only = All-nil (λ g. Contains [] g.0) }
groups-are (p ∷ ps) pairs =
    let h = groups-are ps (pairs-tail (λ p q. p.file ≤ q.file) p ps pairs) in
    groups-cons p ps (behind p.file (by_file ps)) (later p.file (by_file ps)) (parted p.file ps (by_file ps) (pairs-head (λ p q. p.file ≤ q.file) p ps pairs) h)
