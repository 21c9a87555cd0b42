-- Where a block comment ends, and what stands in its place where none does.
use Rattle.std.proofs.Common.{◌≡◌, ℕ, suc, zero, ◌+◌, ◌<◌, ◌≤◌, inl, inr, Bool, true, false, List, [], ◌∷◌, length, get_or, take, drop, refl, ap, sym, ◌∙◌, subst, arith, drop-cons, add-one, add-zero, length-drop, get_or-drop}
use Rattle.proto_lex.specs.Forms.{IsCommentRest}
use Rattle.proto_lex.specs.Scanner.{IsLongestFront}
use Rattle.proto_lex.proofs.LongestFront.{Continues, Continues-more, at_place}

-- one byte that no `*/` begins with
pub comment_cons : (b : ℕ) (bs : List ℕ) (closed : Bool) (m : ℕ) → ((b ≡ 42) → 0 < length bs → get_or bs 0 0 ≡ 47 → ⊥)
    → IsCommentRest closed (take m bs) → IsCommentRest closed (b ∷ take m bs)
comment_cons b bs closed zero no_end rest = rest
comment_cons b [] closed (suc m) no_end rest = rest
comment_cons b (c ∷ bs) closed (suc m) no_end rest = inr ((λ star slash. no_end star (omega arith) slash), rest)

comment_uncons : (b : ℕ) (bs : List ℕ) (closed : Bool) (m : ℕ) → ((b ≡ 42) → 0 < length bs → get_or bs 0 0 ≡ 47 → ⊥)
    → IsCommentRest closed (b ∷ take m bs) → IsCommentRest closed (take m bs)
comment_uncons b bs closed zero no_end rest = rest
comment_uncons b [] closed (suc m) no_end rest = rest
comment_uncons b (c ∷ bs) closed (suc m) no_end (inl ends) = absurd (no_end ends.0 (omega arith) ends.1)
comment_uncons b (c ∷ bs) closed (suc m) no_end (inr goes) = goes.1

comment_longer : (b : ℕ) (bs : List ℕ) (n : ℕ) (closed : Bool) → ((b ≡ 42) → 0 < length bs → get_or bs 0 0 ≡ 47 → ⊥)
    → IsLongestFront Bool IsCommentRest bs n closed → (d : Bool) (m : ℕ) → suc n < m → m ≤ length (b ∷ bs) → IsCommentRest d (take m (b ∷ bs)) → ⊥
comment_longer b bs n closed no_end ends d zero above within form = omega arith
comment_longer b bs n closed no_end ends d (suc m) above within form = ends.longest d m (omega arith) (omega arith) (comment_uncons b bs d m no_end form)

pub comment_byte : (b : ℕ) (bs : List ℕ) (n : ℕ) (closed : Bool) → ((b ≡ 42) → 0 < length bs → get_or bs 0 0 ≡ 47 → ⊥)
    → IsLongestFront Bool IsCommentRest bs n closed → IsLongestFront Bool IsCommentRest (b ∷ bs) (suc n) closed
comment_byte b bs n closed no_end ends = record {
  in_range = omega (arith, ends.in_range);
  form = comment_cons b bs closed n no_end ends.form;
  longest = comment_longer b bs n closed no_end ends;
}

after_end : (b c : ℕ) (bs : List ℕ) → b ≡ 42 → c ≡ 47 → (d : Bool) (m : ℕ) → 2 < m → m ≤ length (b ∷ c ∷ bs) → IsCommentRest d (take m (b ∷ c ∷ bs)) → ⊥
after_end b c bs star slash d zero above within form = omega arith
after_end b c bs star slash d (suc zero) above within form = omega arith
after_end b c bs star slash d (suc (suc zero)) above within form = omega arith
after_end b c [] star slash d (suc (suc (suc m))) above within form = omega arith
after_end b c (x ∷ bs) star slash d (suc (suc (suc m))) above within (inl ends) = cc (ends.3)
after_end b c (x ∷ bs) star slash d (suc (suc (suc m))) above within (inr goes) = goes.0 star slash

pub comment_closes : (b c : ℕ) (bs : List ℕ) → b ≡ 42 → c ≡ 47 → IsLongestFront Bool IsCommentRest (b ∷ c ∷ bs) 2 true
comment_closes b c bs star slash = record { in_range = omega arith; form = inl (star, slash, refl, refl); longest = after_end b c bs star slash }

-- at most one byte is left
pub comment_last : (bs : List ℕ) → length bs ≤ 1 → IsLongestFront Bool IsCommentRest bs (length bs) false
comment_last [] few = record { in_range = omega arith; form = refl; longest = λ d m above within form. omega arith }
comment_last (b ∷ []) few = record { in_range = omega arith; form = refl; longest = λ d m above within form. omega arith }
comment_last (b ∷ c ∷ bs) few = absurd (omega arith)

-- an open comment has no closed one at its front
pub open_not_closed : (bs : List ℕ) (m : ℕ) → IsCommentRest false bs → IsCommentRest true (take m bs) → ⊥
open_not_closed [] zero is_open closed = cc (closed)
open_not_closed [] (suc m) is_open closed = cc (closed)
open_not_closed (b ∷ bs) zero is_open closed = cc (closed)
open_not_closed (b ∷ []) (suc zero) is_open closed = cc (closed)
open_not_closed (b ∷ []) (suc (suc m)) is_open closed = cc (closed)
open_not_closed (b ∷ c ∷ bs) (suc zero) is_open closed = cc (closed)
open_not_closed (b ∷ c ∷ bs) (suc (suc m)) (inl ends) closed = cc (ends.2)
open_not_closed (b ∷ c ∷ bs) (suc (suc m)) (inr goes) (inl ends) = goes.0 ends.0 ends.1
open_not_closed (b ∷ c ∷ bs) (suc (suc m)) (inr goes) (inr more) = open_not_closed (c ∷ bs) (suc m) goes.1 more.1

-- The same at an offset of the bytes after the `/*`.
module _ (bs : List ℕ) (at : ℕ) (continues : Continues Bool IsCommentRest IsCommentRest bs at) where
  pub at_comment_end : at + 1 < length bs → get_or bs at 0 ≡ 42 → get_or bs (at + 1) 0 ≡ 47 → IsLongestFront Bool IsCommentRest bs (at + 2) true
  at_comment_end inside star slash =
      let here : drop (at + 1) bs ≡ get_or bs (at + 1) 0 ∷ drop (at + 1 + 1) bs = rw (add-one (at + 1), drop-cons bs (at + 1) 0 inside) refl in
      continues 2 true (at_place Bool IsCommentRest bs at 2 true (omega arith)
      (subst (λ l. IsLongestFront Bool IsCommentRest (get_or bs at 0 ∷ l) 2 true) (sym here) (comment_closes _ _ (drop (at + 1 + 1) bs) star slash)))

  pub at_comment_byte : at + 1 < length bs → (get_or bs at 0 ≡ 42 → get_or bs (at + 1) 0 ≡ 47 → ⊥) → Continues Bool IsCommentRest IsCommentRest bs (at + 1)
  at_comment_byte inside no_end =
      let next = get_or-drop (at + 1) bs 0 0 ∙ ap (λ i. get_or bs i 0) (add-zero (at + 1)) in
      Continues-more Bool IsCommentRest IsCommentRest IsCommentRest bs at (omega arith) continues
      (λ n closed. comment_byte (get_or bs at 0) (drop (at + 1) bs) n closed (λ star some slash. no_end star (sym next ∙ slash)))

  pub at_comment_last : at ≤ length bs → length bs ≤ at + 1 → IsLongestFront Bool IsCommentRest bs (length bs) false
  at_comment_last within past =
      let left = length-drop at bs in
      let all : at + length (drop at bs) ≡ length bs = omega (arith, left) in
      subst (λ n. IsLongestFront Bool IsCommentRest bs n false) all (continues (length (drop at bs)) false (comment_last (drop at bs) (omega (arith, left))))
