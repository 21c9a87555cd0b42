-- The longest run of characters with at most so many units.
use Rattle.std.proofs.Common.{ℕ, suc, zero, ◌-◌, ◌<◌, ◌≤◌, cond, List, [], ◌∷◌, length, take, refl, ap, sym, subst, arith, lt-ltb, le-ltb, ⊎_elim}
use Rattle.std.proofs.lemmas.Bool.{cases_lt}
use Rattle.doc_text.specs.declared.encoding.Encoding.{Encoding}
use Rattle.doc_text.specs.Positions.{char_units, units, fitting}
use Rattle.doc_text.specs.Laws.{IsLongestRun}

over : (e : Encoding) (n c : ℕ) (cs : List ℕ) → n < char_units e c → IsLongestRun e n (c ∷ cs) []
over e n c cs past = record { rest = c ∷ cs; front = refl; fits = omega arith; longest = all }
  where
    all : (k : ℕ) → 0 < k → k ≤ length (c ∷ cs) → n < units e (take k (c ∷ cs))
    all zero some within = absurd (omega arith)
    all (suc k) some within = omega arith

more : (e : Encoding) (n c : ℕ) (cs run : List ℕ) → char_units e c ≤ n → IsLongestRun e (n - char_units e c) cs run → IsLongestRun e n (c ∷ cs) (c ∷ run)
more e n c cs run fits is = record { rest = is.rest; front = ap (λ l. c ∷ l) is.front; fits = omega (arith, is.fits); longest = all }
  where
    all : (k : ℕ) → length (c ∷ run) < k → k ≤ length (c ∷ cs) → n < units e (take k (c ∷ cs))
    all zero above within = absurd (omega arith)
    all (suc k) above within = omega (arith, is.longest k (omega arith) (omega arith))

pub longest : (e : Encoding) (n : ℕ) (cs : List ℕ) → IsLongestRun e n cs (fitting e n cs)
longest e n [] = record { rest = []; front = refl; fits = omega arith; longest = λ k above within. absurd (omega arith) }
longest e n (c ∷ cs) =
    ⊎_elim
    (λ past. subst (IsLongestRun e n (c ∷ cs)) (sym (ap (λ b. cond b [] (c ∷ fitting e (n - char_units e c) cs)) (lt-ltb n (char_units e c) past))) (over e n c cs past))
    (λ fits. subst (IsLongestRun e n (c ∷ cs)) (sym (ap (λ b. cond b [] (c ∷ fitting e (n - char_units e c) cs)) (le-ltb n (char_units e c) fits)))
    (more e n c cs (fitting e (n - char_units e c) cs) fits (longest e (n - char_units e c) cs)))
    (cases_lt n (char_units e c))
