-- The position of an offset lies in the text.
use Rattle.std.proofs.Common.{◌≡◌, ℕ, suc, ◌+◌, ◌-◌, ◌<◌, ◌≤◌, Bool, true, false, List, [], ◌∷◌, length, get_or, sym, subst, arith, cond}
use Rattle.std.specs.Prelude.{nat_lt}
use Rattle.std.specs.Str.{chars}
use Rattle.doc_text.specs.declared.encoding.Encoding.{Encoding}
use Rattle.doc_text.specs.declared.encoding.Encoding.TheVariants.{Utf8}
use Rattle.doc_text.specs.declared.position.Position.{Position}
use Rattle.doc_text.specs.Lines.{content}
use Rattle.doc_text.specs.Positions.{char_units, units, fitting, in_line, next_line, position_in, position_of}
use Rattle.doc_text.specs.Laws.{IsInTheText}
use Rattle.doc_text.proofs.Steps.{some_line}

-- a run at the front has no more units than the whole
few_units : (e f : Encoding) (n : ℕ) (cs : List ℕ) → units e (fitting f n cs) ≤ units e cs
few_units e f n [] = omega arith
few_units e f n (c ∷ cs) = by (nat_lt n (char_units f c)) (few_units e f (n - char_units f c) cs)
  where
    by : (b : Bool) → units e (fitting f (n - char_units f c) cs) ≤ units e cs → units e (cond {A = List ℕ} b [] (c ∷ fitting f (n - char_units f c) cs)) ≤ units e (c ∷ cs)
    by true h = omega arith
    by false h = omega (arith, h)

-- in a list of lines
abbrev IsIn : Encoding → List (List ℕ) → Position → Type 0
IsIn e ls p = (p.line < length ls) × (p.character ≤ units e (content (get_or ls p.line [])))

in_next : (e : Encoding) (l : List ℕ) (ls : List (List ℕ)) (p : Position) → IsIn e ls p → IsIn e (l ∷ ls) (next_line p)
in_next e l ls p h =
    let next : 1 + p.line ≡ suc p.line = omega arith in
    (omega (arith, h.0), subst (λ n. p.character ≤ units e (content (get_or (l ∷ ls) n []))) (sym next) h.1)

is_in : (e : Encoding) (l : List ℕ) (ls : List (List ℕ)) (offset : ℕ) → IsIn e (l ∷ ls) (position_in e (l ∷ ls) offset)
is_in e l [] offset = (omega arith, few_units e Utf8 offset (content l))
is_in e l (m ∷ ls) offset = by (nat_lt offset (units Utf8 l)) (is_in e m ls (offset - units Utf8 l))
  where
    by : (b : Bool) → IsIn e (m ∷ ls) (position_in e (m ∷ ls) (offset - units Utf8 l)) → IsIn e (l ∷ m ∷ ls) (cond {A = Position} b (in_line e l offset) (next_line (position_in e (m ∷ ls) (offset - units Utf8 l))))
    by true h = (omega arith, few_units e Utf8 offset (content l))
    by false h = in_next e l (m ∷ ls) (position_in e (m ∷ ls) (offset - units Utf8 l)) h

pub in_the_text : (e : Encoding) (text : List ℕ) (offset : ℕ) → IsInTheText e (position_of e text offset) text
unfolding position_of
in_the_text e text offset =
    let some = some_line (chars text) in
    subst (λ ls. IsIn e ls (position_in e ls offset)) (sym some.is) (is_in e some.first some.others offset)
