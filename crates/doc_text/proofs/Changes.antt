-- Changes of a text: where they cut it, and what they leave.
use Rattle.std.proofs.Common.{◌≡◌, ℕ, suc, zero, ◌+◌, ◌-◌, ◌≤◌, List, ◌++◌, length, get_or, take, drop, refl, ap, sym, ◌∙◌, subst, arith, ⊎_elim, inl, inr, IsUtf8}
use Rattle.std.specs.Prelude.{min, max, Option, Some, None}
use Rattle.std.specs.Str.{chars, IsCharBoundary}
use Rattle.std.proofs.lemmas.Bool.{cases_Bool, cases_lt}
use Rattle.std.proofs.lemmas.Str.{IsUtf8-append, IsUtf8-take, IsUtf8-drop}
use Rattle.doc_text.specs.declared.encoding.Encoding.{Encoding}
use Rattle.doc_text.specs.declared.position.Position.{Position}
use Rattle.doc_text.specs.declared.position.Range.{Range}
use Rattle.doc_text.specs.Lines.{is_lf_or_cr, lines}
use Rattle.doc_text.specs.Positions.{offset_in, offset_of}
use Rattle.doc_text.specs.Edits.{replaced}
use Rattle.doc_text.specs.Bytes.{lead_len, lead_units, line_offset}
use Rattle.doc_text.specs.Laws.{ChangesKeepTheRest}
use Rattle.doc_text.proofs.Ways.{line_way}
use Rattle.doc_text.proofs.Walks.{IsOnLine, line_first, line_more, line_ended, line_full, line_out, boundary_from, offset_from}

-- an offset between two characters
record IsCut (text : List ℕ) (at : ℕ) : Type 0 where
  in_range : at ≤ length text
  utf8 : IsUtf8 (drop at text)

run_on : (fuel : ℕ) (e : Encoding) (text : List ℕ) (character at left : ℕ) → length text ≤ at + fuel → IsOnLine e text character at left
    → IsCut text (offset_in e 0 character (lines (chars text)))
run_on zero e text character at left within on =
    let here : IsCut text at = record { in_range = on.in_range; utf8 = on.utf8 } in subst (IsCut text) (line_out e text character at left on (omega arith)) here
run_on (suc fuel) e text character at left within on =
    let here : IsCut text at = record { in_range = on.in_range; utf8 = on.utf8 } in
    let b = get_or text at 0 in
    let n = lead_units e b in
    ⊎_elim
    (λ inside. ⊎_elim
    (λ ends. subst (IsCut text) (line_ended e text character at left inside on ends) here)
    (λ plain. ⊎_elim
    (λ full. subst (IsCut text) (line_full e text character at left n inside on refl plain full) here)
    (λ fits. run_on fuel e text character (at + lead_len b) (left - n) (omega arith) (line_more e text character at left (lead_len b) n inside on refl refl plain fits))
    (cases_lt left n))
    (cases_Bool (is_lf_or_cr b)))
    (λ past. subst (IsCut text) (line_out e text character at left on past) here)
    (cases_lt at (length text))

pub offset_boundary : (e : Encoding) (p : Position) (text : List ℕ) → IsUtf8 text → IsCharBoundary text (offset_of e p text)
offset_boundary e p text utf8 =
    let start = line_offset p.line text in
    let way = line_way text p.line start utf8 refl in
    let rest = drop start text in
    let cut = run_on (length rest) e rest p.character 0 p.character (omega arith) (line_first e rest p.character way.utf8) in
    subst (IsCharBoundary text) (offset_from e p text rest start (offset_in e 0 p.character (lines (chars rest))) way refl refl)
    (boundary_from text rest start (offset_in e 0 p.character (lines (chars rest))) way.in_range refl cut.in_range cut.utf8)

least : (a b : ℕ) → a ≤ b → (min a b ≡ a) × (max a b ≡ b)
least a b below = (omega arith, omega arith)

greatest : (a b : ℕ) → b ≤ a → (min a b ≡ b) × (max a b ≡ a)
greatest a b below = (omega arith, omega arith)

pub keep_the_rest : ChangesKeepTheRest
unfolding replaced
keep_the_rest e r text new utf8 =
    let a = offset_of e r.start text in
    let b = offset_of e r.end text in
    let first = offset_boundary e r.start text utf8 in
    let second = offset_boundary e r.end text utf8 in
    ⊎_elim
    (λ above. let m = greatest a b (omega arith) in
    (b, a, record { ordered = omega arith; first = second; second = first; ends = inr (refl, refl) }, rw (m.0, m.1) refl))
    (λ below. let m = least a b below in
    (a, b, record { ordered = below; first = first; second = second; ends = inl (refl, refl) }, rw (m.0, m.1) refl))
    (cases_lt b a)

pub of_the_whole : (e : Encoding) (text new : List ℕ) → replaced e None text new ≡ new
unfolding replaced
of_the_whole e text new = refl

min_comm : (a b : ℕ) → min a b ≡ min b a
min_comm a b = omega arith

max_comm : (a b : ℕ) → max a b ≡ max b a
max_comm a b = omega arith

pub turned_round : (e : Encoding) (r : Range) (text new : List ℕ) → replaced e (Some (record { start = r.end; end = r.start })) text new ≡ replaced e (Some r) text new
unfolding replaced
turned_round e r text new =
    let a = offset_of e r.start text in
    let b = offset_of e r.end text in
    ap (λ n. take n text ++ new ++ drop (max b a) text) (min_comm b a) ∙ ap (λ n. take (min a b) text ++ new ++ drop n text) (max_comm b a)

pub keep_utf8 : (e : Encoding) (r : Option Range) (text new : List ℕ) → IsUtf8 text → IsUtf8 new → IsUtf8 (replaced e r text new)
keep_utf8 e None text new utf8 also = subst IsUtf8 (sym (of_the_whole e text new)) also
keep_utf8 e (Some r) text new utf8 also =
    let kept = keep_the_rest e r text new utf8 in
    let a = kept.0 in
    let b = kept.1 in
    subst IsUtf8 (sym kept.3)
    (IsUtf8-append (take a text ++ new) (drop b text) (IsUtf8-append (take a text) new (IsUtf8-take text a utf8 kept.2.first) also) (IsUtf8-drop text b utf8 kept.2.second))
