-- A query in a text, place by place.
use Rattle.std.proofs.Common.{◌≡◌, ℕ, zero, suc, ◌+◌, ◌<◌, ◌≤◌, ◌||◌, List, [], ◌∷◌, Option, Some, None, is_some, true, false, ◌++◌, take, drop, length, map, refl, sym, ap, ◌∙◌, arith, ⊎_elim, take-append-drop, length-drop, length-take}
use Rattle.std.proofs.lemmas.Bool.{false_from_ne_true, or_cases, or_left, or_right}
use Rattle.std.proofs.lemmas.List.{take-map, drop-map, length-map, length-append}
use Rattle.std.proofs.Math.Seq.{drop-append_seam, take-append_seam}
use Rattle.std.proofs.lemmas.Slice.Eq.{bytes_eq-Decides}
use Rattle.std.specs.Char.{to_ascii_lowercase}
use Rattle.std.specs.Str.{str_eq_ignore_ascii_case}
use Rattle.memchr.specs.Find.{OccursAt, FindsNeedle}
use Rattle.memchr.proofs.lemmas.MatchLemmas.{OccursAt-part, OccursAt-from_part}
use Rattle.lsp_queries.specs.Matching.{begins, contains, Holds, ContainsLaw}

-- what stands from a place on, byte by byte
contains-step : (query text : List ℕ) (k : ℕ) → k < length text → contains query (drop k text) ≡ (begins query (drop k text) || contains query (drop (suc k) text))
contains-step query [] k lt = absurd (omega (arith, lt))
contains-step query (c ∷ text) zero lt = refl
contains-step query (c ∷ text) (suc k) lt = contains-step query text k (omega (arith, lt))

pub contains-drop : (query text : List ℕ) (k : ℕ) → k < length text → contains query (drop k text) ≡ (begins query (drop k text) || contains query (drop (k + 1) text))
contains-drop query text k lt =
    let next : suc k ≡ k + 1 = omega arith in
    contains-step query text k lt ∙ ap (λ n. begins query (drop k text) || contains query (drop n text)) next

-- where the text doesn't begin with the query, only the rest counts
pub contains-later : (query text : List ℕ) (k : ℕ) → k < length text → begins query (drop k text) ≡ false → contains query (drop (k + 1) text) ≡ contains query (drop k text)
contains-later query text k lt none = sym (contains-drop query text k lt ∙ ap (λ b. b || contains query (drop (k + 1) text)) none)

-- a text that begins with the query somewhere contains it
pub contains-at : (query text : List ℕ) (k : ℕ) → k ≤ length text → begins query (drop k text) ≡ true → contains query text ≡ true
contains-at query [] zero le there = there
contains-at query [] (suc k) le there = there
contains-at query (c ∷ text) zero le there = or_left _ _ there
contains-at query (c ∷ text) (suc k) le there = or_right _ _ (contains-at query text k (omega (arith, le)) there)

-- a place where a text begins with the query
pub record BeginsAt (query text : List ℕ) : Type 0 where
  pub place : ℕ
  pub within : place ≤ length text
  pub begins_there : begins query (drop place text) ≡ true

pub contains-where : (query text : List ℕ) → contains query text ≡ true → BeginsAt query text
contains-where query [] there = record { place = 0; within = omega arith; begins_there = there }
contains-where query (c ∷ text) there =
    ⊎_elim
    (λ here. record { place = 0; within = omega arith; begins_there = here })
    (λ later. let found = contains-where query text later in record { place = suc found.place; within = omega (arith, found.within); begins_there = found.begins_there })
    (or_cases _ _ there)

-- ---- the same in lower case

abbrev pub lower : List ℕ → List ℕ
lower bs = map to_ascii_lowercase bs

pub lower-part : (query text : List ℕ) (k : ℕ) → take (length (lower query)) (drop k (lower text)) ≡ lower (take (length query) (drop k text))
lower-part query text k =
    ap (λ n. take n (drop k (lower text))) (length-map query to_ascii_lowercase)
    ∙ ap (take (length query)) (drop-map to_ascii_lowercase k text)
    ∙ take-map to_ascii_lowercase (length query) (drop k text)

pub begins-occurs : (query text : List ℕ) (k : ℕ) → OccursAt (lower text) (lower query) k → begins query (drop k text) ≡ true
begins-occurs query text k occurs =
    (bytes_eq-Decides (lower (take (length query) (drop k text))) (lower query)).1 (sym (lower-part query text k) ∙ OccursAt-part (lower text) (lower query) k occurs)

pub occurs-begins : (query text : List ℕ) (k : ℕ) → k ≤ length text → begins query (drop k text) ≡ true → OccursAt (lower text) (lower query) k
occurs-begins query text k le there =
    let same = (bytes_eq-Decides (lower (take (length query) (drop k text))) (lower query)).0 there in
    let long : length (take (length query) (drop k text)) ≡ length query = sym (length-map _ to_ascii_lowercase) ∙ ap length same ∙ length-map query to_ascii_lowercase in
    let fits : k + length (lower query) ≤ length (lower text) = omega (arith, le, long, length-take (length query) (drop k text), length-drop k text, length-map query to_ascii_lowercase, length-map text to_ascii_lowercase) in
    OccursAt-from_part (lower text) (lower query) k fits (lower-part query text k ∙ same)

-- a search for the query in lower case finds it exactly where the text contains it
pub finds-contains : (query text : List ℕ) (r : Option ℕ) → FindsNeedle (lower text) (lower query) 0 r → is_some r ≡ contains query text
finds-contains query text None nowhere =
    sym (false_from_ne_true (contains query text) (λ there.
    let found = contains-where query text there in
    let occurs = occurs-begins query text found.place found.within found.begins_there in
    nowhere found.place (omega arith) (omega (arith, found.within, length-map text to_ascii_lowercase)) occurs))
finds-contains query text (Some k) h =
    let within : k ≤ length text = omega (arith, h.1.fits, length-map text to_ascii_lowercase) in
    sym (contains-at query text k within (begins-occurs query text k h.1))

-- ---- the query as a part of the text

pub contains-part : (query text : List ℕ) → contains query text ≡ true → Holds query text
contains-part query text there =
    let found = contains-where query text there in
    let rest = drop found.place text in
    record {
      before = take found.place text;
      part = take (length query) rest;
      behind = drop (length query) rest;
      cut = sym (ap (λ l. take found.place text ++ l) (take-append-drop (length query) rest) ∙ take-append-drop found.place text);
      same = found.begins_there;
    }

pub part-contains : (query text : List ℕ) → Holds query text → contains query text ≡ true
part-contains query text h =
    let same = (bytes_eq-Decides (lower h.part) (lower query)).0 h.same in
    let long : length query ≡ length h.part = sym (length-map query to_ascii_lowercase) ∙ ap length (sym same) ∙ length-map h.part to_ascii_lowercase in
    let rest : drop (length h.before) text ≡ h.part ++ h.behind = ap (drop (length h.before)) h.cut ∙ drop-append_seam h.before (h.part ++ h.behind) in
    let front : take (length query) (drop (length h.before) text) ≡ h.part = ap (take (length query)) rest ∙ ap (λ n. take n (h.part ++ h.behind)) long ∙ take-append_seam h.part h.behind in
    let within : length h.before ≤ length text = omega (arith, ap length h.cut, length-append h.before (h.part ++ h.behind)) in
    contains-at query text (length h.before) within (ap (λ l. str_eq_ignore_ascii_case l query) front ∙ h.same)

pub contains-law : ContainsLaw
contains-law query text = (contains-part query text, part-contains query text)
