-- What stands side by side in a query stands side by side in each text that contains it.
use Rattle.std.proofs.Common.{◌≡◌, ℕ, zero, suc, ◌+◌, ◌<◌, List, [], ◌∷◌, ◌++◌, Bool, true, false, Option, inl, inr, take, length, map, slice_index, sym, ap, subst, ◌∙◌, arith, length-take}
use Rattle.std.specs.Prelude.{All, slice_get}
use Rattle.std.specs.Option.{option_map_or}
use Rattle.std.proofs.lemmas.Option.{slice_get_cases}
use Rattle.proto_decls.specs.declared.fact.Decl.{Decl}
use Rattle.std.proofs.Math.ListN.{get_or}
use Rattle.std.proofs.lemmas.Bool.{false_from_ne_true, false≢true, or_cases}
use Rattle.std.proofs.lemmas.List.{get_or-map, get_or-take, length-map}
use Rattle.std.proofs.lemmas.Slice.Eq.{bytes_eq-Decides}
use Rattle.std.specs.Char.{to_ascii_lowercase}
use Rattle.proto_decls.specs.BytePairs.{HasNeighbours}
use Rattle.lsp_queries.specs.Matching.{begins, contains}

begins-neighbours : (query text : List ℕ) → begins query text ≡ true → HasNeighbours text query
begins-neighbours query text begun = λ i there.
    let same : map to_ascii_lowercase (take (length query) text) ≡ map to_ascii_lowercase query = (bytes_eq-Decides _ _).0 begun in
    let long : length (take (length query) text) ≡ length query =
    sym (length-map (take (length query) text) to_ascii_lowercase) ∙ ap length same ∙ length-map query to_ascii_lowercase in
    let at : (j : ℕ) → j < length query → to_ascii_lowercase (slice_index text j) ≡ to_ascii_lowercase (slice_index query j) =
    λ j lt.
    ap to_ascii_lowercase (sym (get_or-take (length query) text j 0 lt))
    ∙ sym (get_or-map to_ascii_lowercase (take (length query) text) j 0 0 (omega (arith, lt, long)))
    ∙ ap (λ (l : List ℕ). get_or l j 0) same
    ∙ get_or-map to_ascii_lowercase query j 0 0 lt in
    record {
      place = i;
      within = omega (arith, there, long, length-take (length query) text);
      first_is = at i (omega (arith, there));
      second_is = at (i + 1) there;
    }

-- what stands side by side stands so behind one byte more
later : (c : ℕ) (text query : List ℕ) → HasNeighbours text query → HasNeighbours (c ∷ text) query
later c text query beside = λ i there.
    let found = beside i there in
    let next : suc found.place + 1 ≡ suc (found.place + 1) = omega arith in
    record {
      place = suc found.place;
      within = omega (arith, found.within);
      first_is = found.first_is;
      second_is = ap (λ (n : ℕ). to_ascii_lowercase (slice_index (c ∷ text) n)) next ∙ found.second_is;
    }

pub contains-neighbours : (query text : List ℕ) → contains query text ≡ true → HasNeighbours text query
contains-neighbours query [] there = begins-neighbours query [] there
contains-neighbours query (c ∷ text) there = elim (or_cases (begins query (c ∷ text)) (contains query text) there) [
  | inl begun ↦ begins-neighbours query (c ∷ text) begun
  | inr behind ↦ later c text query (contains-neighbours query text behind)
]

-- a file whose names don't have what stands side by side in the query has no match
pub no-match : (query : List ℕ) (decls : List Decl) (n : ℕ) → All (λ d. ¬ HasNeighbours d.full_name query) decls → option_map_or (λ d. contains query d.full_name) (slice_get decls n) false ≡ false
no-match query decls n none = elim (slice_get_cases decls n).1 [
  | inl found ↦
      ap (λ (d : Option Decl). option_map_or (λ d. contains query d.full_name) d false) found.2
      ∙ false_from_ne_true _ (λ there. none n found.0 found.1 (subst (λ (d : Decl). HasNeighbours d.full_name query) (sym found.3) (contains-neighbours query found.0.full_name there)))
  | inr past ↦ ap (λ (d : Option Decl). option_map_or (λ d. contains query d.full_name) d false) past.1
]

-- one file more
pub leaves-out-more : (P : ℕ → Type 0) (searched : List Bool) (b : Bool) → ((n : ℕ) → get_or searched n true ≡ false → P n) → (b ≡ false → P (length searched)) → (n : ℕ) → get_or (searched ++ b ∷ []) n true ≡ false → P n
leaves-out-more P [] b before here zero out = here out
leaves-out-more P [] b before here (suc n) out = absurd (false≢true (sym out))
leaves-out-more P (x ∷ searched) b before here zero out = before zero out
leaves-out-more P (x ∷ searched) b before here (suc n) out = leaves-out-more (λ m. P (suc m)) searched b (λ m. before (suc m)) here n out
