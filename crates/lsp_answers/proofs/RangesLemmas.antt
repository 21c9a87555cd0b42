-- Parts of a text and their ranges.
use Rattle.std.proofs.Common.{◌≡◌, ℕ, ◌+◌, ◌*◌, ◌<◌, ◌≤◌, List, [], ◌∷◌, length, drop, get_or, map, refl, ap, ◌∙◌, arith}
use Rattle.std.proofs.lemmas.List.{drop_more}
use Rattle.doc_text.specs.Positions.{position_of}
use Rattle.doc_text.specs.declared.encoding.Encoding.{Encoding}
use Rattle.doc_text.specs.declared.position.Position.{Position}
use Rattle.lsp_answers.specs.Ranges.{range_at, ends_of, paired}

-- the next pair
pub next-pair : (ps : List Position) (i : ℕ) (d e : Position) → 2 * i + 1 < length ps
    → paired (drop (2 * i) ps) ≡ record { start = get_or ps (2 * i) d; «end» = get_or ps (2 * i + 1) e } ∷ paired (drop (2 * (i + 1)) ps)
next-pair ps i d e lt =
    let first : 2 * i < length ps = omega arith in
    let next : 2 * i + 1 + 1 ≡ 2 * (i + 1) = omega arith in
    ap paired (drop_more ps (2 * i) d first ∙ ap (λ l. get_or ps (2 * i) d ∷ l) (drop_more ps (2 * i + 1) e lt ∙ ap (λ n. get_or ps (2 * i + 1) e ∷ drop n ps) next))

-- no pair is left
pub none-left : (ps : List Position) → length ps ≤ 1 → paired ps ≡ []
none-left [] few = refl
none-left (p ∷ []) few = refl
none-left (p ∷ q ∷ ps) few = absurd (omega (arith, few))

-- the ranges between the positions of the ends of parts
pub ranges-of-parts : (e : Encoding) (text : List ℕ) (parts : List (ℕ × ℕ)) → paired (map (position_of e text) (ends_of parts)) ≡ map (range_at e text) parts
ranges-of-parts e text [] = refl
ranges-of-parts e text (p ∷ parts) = ap (λ l. range_at e text p ∷ l) (ranges-of-parts e text parts)
