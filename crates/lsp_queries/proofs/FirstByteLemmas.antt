-- The first byte of a query, in either case, in a text.
use Rattle.std.proofs.Common.{◌≡◌, ℕ, zero, suc, ◌+◌, ◌≤◌, List, [], ◌∷◌, Some, None, Bool, true, false, take, drop, length, slice_index, refl, sym, ap, ◌∙◌, arith, drop-drop}
use Rattle.std.proofs.Math.ListN.{get_or}
use Rattle.std.proofs.lemmas.Bool.{false_from_ne_true, false≢true}
use Rattle.std.proofs.lemmas.Bool.Decides.{nat_tests}
use Rattle.std.proofs.lemmas.List.{get_or-drop, drop_all}
use Rattle.std.proofs.lemmas.Slice.Eq.{bytes_eq-Decides}
use Rattle.std.specs.Str.{str_to_ascii_lowercase}
use Rattle.std.specs.Char.{to_ascii_lowercase, to_ascii_uppercase}
use Rattle.memchr.specs.Find.{is_byte2, Nowhere, Passes, IsFirstByte}
use Rattle.lsp_queries.specs.Matching.{begins, contains}
use Rattle.lsp_queries.proofs.MatchingLemmas.{contains-later}

-- a byte is the first one of the query, in lower case or in upper case
abbrev pub is_first : List ℕ → ℕ → Bool
is_first query x = is_byte2 (to_ascii_lowercase (slice_index query 0)) (to_ascii_uppercase (slice_index query 0)) x

first-is : (q x : ℕ) → to_ascii_lowercase x ≡ to_ascii_lowercase q → is_byte2 (to_ascii_lowercase q) (to_ascii_uppercase q) x ≡ true
first-is q x same = grind (arith, nat_tests, same)

-- where a text begins with the query, its first byte is that of the query
begins-first : (query text : List ℕ) → 1 ≤ length query → begins query text ≡ true → is_first query (slice_index text 0) ≡ true
begins-first [] text le there = absurd (omega (arith, le))
begins-first (q ∷ query) [] le there = absurd (false≢true there)
begins-first (q ∷ query) (x ∷ text) le there =
    let same : str_to_ascii_lowercase (take (length (q ∷ query)) (x ∷ text)) ≡ str_to_ascii_lowercase (q ∷ query) = (bytes_eq-Decides _ _).0 there in
    first-is q x (ap (λ l. get_or l 0 0) same)

-- what has no such byte may be passed over
pub skips : (query text : List ℕ) (k : ℕ) → 1 ≤ length query → k ≤ length text → Nowhere (Passes (is_first query) text) 0 k → contains query (drop k text) ≡ contains query text
skips query text zero some within nowhere = refl
skips query text (suc k) some within nowhere =
    let there : slice_index (drop k text) 0 ≡ slice_index text k = get_or-drop k text 0 0 ∙ ap (slice_index text) (omega arith) in
    let none : begins query (drop k text) ≡ false = false_from_ne_true _ (λ begun. nowhere k (omega arith) (omega arith) (ap (is_first query) (sym there) ∙ begins-first query (drop k text) some begun)) in
    let next : suc k ≡ k + 1 = omega arith in
    ap (λ n. contains query (drop n text)) next
    ∙ contains-later query text k (omega (arith, within)) none
    ∙ skips query text k some (omega (arith, within)) (λ j low high. nowhere j low (omega (arith, high)))

in-nothing : (query : List ℕ) → 1 ≤ length query → contains query [] ≡ false
in-nothing [] some = absurd (omega (arith, some))
in-nothing (q ∷ query) some = refl

-- a text without such a byte doesn't contain the query
pub found-nowhere : (query text : List ℕ) → 1 ≤ length query → IsFirstByte (is_first query) text None → contains query text ≡ false
found-nowhere query text some nowhere =
    sym (skips query text (length text) some (omega arith) nowhere) ∙ ap (contains query) (drop_all (length text) text (omega arith)) ∙ in-nothing query some

-- up to such a byte nothing is found
pub found-later : (query text : List ℕ) (start k : ℕ) → 1 ≤ length query → IsFirstByte (is_first query) (drop start text) (Some k) → contains query (drop (start + k) text) ≡ contains query (drop start text)
found-later query text start k some found =
    ap (contains query) (sym (drop-drop k start text)) ∙ skips query (drop start text) k some (omega (arith, found.0.high)) found.0.before
