-- Places put together file by file, and the places in a file.
use Rattle.std.proofs.Common.{◌≡◌, ◌∙◌, ℕ, ◌≤◌, Bool, true, false, cond, List, [], ◌∷◌, Some, refl, sym, ap, arith}
use Rattle.std.specs.Prelude.{All, ◌==◌, ◌≢◌, find}
use Rattle.std.specs.List.{AllPairs}
use Rattle.std.specs.Option.{option_map_or}
use Rattle.std.proofs.lemmas.Bool.{eqb-false, eqb-true, ne_eqb}
use Rattle.std.proofs.lemmas.List.Elements.{All-head, All-tail}
use Rattle.lsp_queries.specs.declared.place.Place.{Place}
use Rattle.lsp_renames.specs.Edited.{places_in}
use Rattle.lsp_renames.specs.ByFile.{behind, by_file, later}
use Rattle.lsp_queries.proofs.Pairs.{pairs-head, pairs-tail}

abbrev Ascend : List Place → Type 0
Ascend ps = AllPairs (λ p q. p.file ≤ q.file) ps

-- what is put together for a file
abbrev pub group_at : ℕ → List (ℕ × List Place) → List Place
group_at file gs = option_map_or (λ g. g.1) (find (λ g. g.0 == file) gs) []

none_in : (file : ℕ) (ps : List Place) → All (λ p. p.file ≢ file) ps → places_in file ps ≡ []
none_in file [] all = refl
none_in file (p ∷ ps) all =
    ap (λ b. cond b (p ∷ places_in file ps) (places_in file ps)) (ne_eqb p.file file (All-head (λ p. p.file ≢ file) p ps all)) ∙ none_in file ps (All-tail (λ p. p.file ≢ file) p ps all)

-- where no place stands in an earlier file, those of this one come first
next-group : (file : ℕ) (ps : List Place) → All (λ p. file ≤ p.file) ps → Ascend ps → behind file (by_file ps) ≡ places_in file ps
next-group file [] from ascend = refl
next-group file (q ∷ qs) from ascend = by (q.file == file) refl (next-group q.file qs later_on (pairs-tail (λ p q. p.file ≤ q.file) q qs ascend))
  where
    later_on : All (λ p. q.file ≤ p.file) qs
    later_on = pairs-head (λ p q. p.file ≤ q.file) q qs ascend

    by : (b : Bool) → (q.file == file) ≡ b → behind q.file (by_file qs) ≡ places_in q.file qs
        → cond {A = List Place} b (q ∷ behind q.file (by_file qs)) [] ≡ cond {A = List Place} b (q ∷ places_in file qs) (places_in file qs)
    by true is own = ap (λ l. q ∷ l) (own ∙ ap (λ n. places_in n qs) (eqb-true q.file file is))
    by false is own =
        let differ = eqb-false q.file file is in
        let le = All-head (λ p. file ≤ p.file) q qs from in
        sym (none_in file qs (λ k d lt same. let past = later_on k d lt in differ (omega (arith, le, past, same))))

-- the group of another file is among the later ones
other-group : (file other : ℕ) (gs : List (ℕ × List Place)) → other ≢ file → group_at file (later other gs) ≡ group_at file gs
other-group file other [] differ = refl
other-group file other (g ∷ gs) differ = by (g.0 == other) refl
  where
    by : (b : Bool) → (g.0 == other) ≡ b → group_at file (cond b gs (g ∷ gs)) ≡ group_at file (g ∷ gs)
    by true is = sym (ap (λ b. option_map_or (λ g. g.1) (cond b (Some g) (find (λ g. g.0 == file) gs)) []) (ne_eqb g.0 file (λ same. differ (sym (eqb-true g.0 other is) ∙ same))))
    by false is = refl

-- what is put together for a file are the places in it
pub groups-are : (file : ℕ) (ps : List Place) → Ascend ps → group_at file (by_file ps) ≡ places_in file ps
groups-are file [] ascend = refl
groups-are file (p ∷ ps) ascend = by (p.file == file) refl (next-group p.file ps from more) (groups-are file ps more)
  where
    from : All (λ q. p.file ≤ q.file) ps
    from = pairs-head (λ p q. p.file ≤ q.file) p ps ascend

    more : Ascend ps
    more = pairs-tail (λ p q. p.file ≤ q.file) p ps ascend

    by : (b : Bool) → (p.file == file) ≡ b → behind p.file (by_file ps) ≡ places_in p.file ps → group_at file (by_file ps) ≡ places_in file ps
        → option_map_or (λ (g : ℕ × List Place). g.1) (cond b (Some (p.file, p ∷ behind p.file (by_file ps))) (find (λ g. g.0 == file) (later p.file (by_file ps)))) []
        ≡ cond {A = List Place} b (p ∷ places_in file ps) (places_in file ps)
    by true is own rest = ap (λ l. p ∷ l) (own ∙ ap (λ n. places_in n ps) (eqb-true p.file file is))
    by false is own rest = other-group file p.file (by_file ps) (eqb-false p.file file is) ∙ rest
