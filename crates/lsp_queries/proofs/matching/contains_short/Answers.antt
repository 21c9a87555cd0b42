use Rattle.std.proofs.Common.{◌≡◌, ◌≤◌, ◌<◌, ◌-◌, ◌+◌, ℕ, true, false, length, take, drop, List, [], ◌∷◌, Option, ap, sym, ◌∙◌, arith, refl, subst, slice_index, length-drop}
use Rattle.std.proofs.lemmas.List.{take_all}
use Rattle.std.specs.Char.{to_ascii_lowercase, to_ascii_uppercase}
use Rattle.memchr.specs.Find.{is_byte2, IsFirstByte}
use Rattle.lsp_queries.specs.Matching.{begins, contains}
use Rattle.lsp_queries.proofs.FirstByteLemmas.{found-later, found-nowhere, is_first}
use Rattle.lsp_queries.proofs.MatchingLemmas.{contains-at, contains-later}
use Rattle.lsp_queries.proofs.matching.contains_short.Goals as goal

-- the empty query is in each text
in-each : (query text : List ℕ) → length query < 1 → contains query text ≡ true
in-each [] [] short = refl
in-each [] (c ∷ text) short = refl
in-each (q ∷ query) text short = absurd (omega (arith, short))

pub returns-in_default : goal.returns-in_default
returns-in_default c = sym (in-each c.args.query.now c.args.text.now c.in_default.len_below)

-- what the search for the first byte says of the text from the start
found : (query text : List ℕ) (start lower upper : ℕ) (r : Option ℕ) → start ≤ length text → lower ≡ to_ascii_lowercase (slice_index query 0) → upper ≡ to_ascii_uppercase (slice_index query 0)
    → IsFirstByte (is_byte2 lower upper) (take (length text - start) (drop start text)) r → IsFirstByte (is_first query) (drop start text) r
found query text start lower upper r within is_lower is_upper first =
    let rest : take (length text - start) (drop start text) ≡ drop start text = take_all _ _ (omega (arith, length-drop start text)) in
    subst (λ hay. IsFirstByte (is_first query) hay r) rest
    (subst (λ b. IsFirstByte (is_byte2 (to_ascii_lowercase (slice_index query 0)) b) (take (length text - start) (drop start text)) r) is_upper
    (subst (λ a. IsFirstByte (is_byte2 a upper) (take (length text - start) (drop start text)) r) is_lower first))

pub returns-then-begins : goal.returns-then-begins
returns-then-begins c =
    let query = c.args.query.now in
    let text = c.args.text.now in
    let start = c.text.start in
    let at = start + c.in-Some.skipped in
    let lower = c.to_ascii_lowercase-lower in
    let upper = c.to_ascii_uppercase-upper in
    let first = subst (IsFirstByte (is_first query) (drop start text)) c.in-Some.is (found query text start lower.result upper.result _ c.text.invariant.within lower.ensures.value upper.ensures.value c.memchr2.ensures) in
    let within : at < length text = omega (arith, first.0.high, length-drop start text, c.text.invariant.within) in
    let rest : take (length text - at) (drop at text) ≡ drop at text = take_all _ _ (omega (arith, length-drop at text)) in
    sym (contains-at query text at (omega (arith, within)) (ap (begins query) (sym rest) ∙ sym c.begins.ensures ∙ c.if-begins.true))

pub text-preserved : goal.text-preserved
text-preserved c =
    let query = c.args.query.now in
    let text = c.args.text.now in
    let start = c.text.start in
    let at = start + c.in-Some.skipped in
    let lower = c.to_ascii_lowercase-lower in
    let upper = c.to_ascii_uppercase-upper in
    let first = subst (IsFirstByte (is_first query) (drop start text)) c.in-Some.is (found query text start lower.result upper.result _ c.text.invariant.within lower.ensures.value upper.ensures.value c.memchr2.ensures) in
    let within : at < length text = omega (arith, first.0.high, length-drop start text, c.text.invariant.within) in
    let rest : take (length text - at) (drop at text) ≡ drop at text = take_all _ _ (omega (arith, length-drop at text)) in
    let none : begins query (drop at text) ≡ false = ap (begins query) (sym rest) ∙ sym c.begins.ensures ∙ c.if-begins.false in
    record {
      within = omega (arith, within);
      left = contains-later query text at within none ∙ found-later query text start c.in-Some.skipped c.in-len1-up.len_at_least first ∙ c.text.invariant.left;
    }

pub returns : goal.returns
returns c =
    let query = c.args.query.now in
    let text = c.args.text.now in
    let start = c.text.start in
    let lower = c.to_ascii_lowercase-lower in
    let upper = c.to_ascii_uppercase-upper in
    let nowhere = found query text start lower.result upper.result _ c.text.invariant.within lower.ensures.value upper.ensures.value c.memchr2.ensures in
    sym (sym c.text.invariant.left ∙ found-nowhere query (drop start text) c.in-len1-up.len_at_least (subst (IsFirstByte (is_first query) (drop start text)) c.in_default-memchr2.is nowhere))
