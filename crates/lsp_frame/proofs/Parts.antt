-- A frame that goes out in parts.
use Rattle.std.proofs.Common.{◌≡◌, ℕ, ◌+◌, ◌-◌, ◌<◌, ◌≤◌, List, [], ◌++◌, length, take, drop, arith, ap, sym, ◌∙◌, refl, Option, length-append, append_assoc, take-append-drop, append-nil}
use Rattle.std.proofs.lemmas.List.{take-take, drop-take, take-append-le}
use Rattle.std.proofs.Math.Seq.{take-append-add}
use Rattle.std.specs.Io.KnownBytes.{Appends}
use Rattle.std.proofs.KnownBytes.{Appends-trans, Appends-nil}
use Rattle.lsp_frame.specs.Writing.{SendsPrefix}
use Rattle.lsp_frame.specs.Steps.{SendsPrefixAfter}

take_add : (m n : ℕ) (xs : List ℕ) → take (m + n) xs ≡ take m xs ++ take n (drop m xs)
take_add m n xs =
    sym (take-append-drop m (take (m + n) xs)) ∙ ap (λ l. l ++ drop m (take (m + n) xs)) (take-take m (m + n) xs (omega arith)) ∙ ap (λ l. take m xs ++ l) (drop-take m n xs)

-- n more bytes of the part went out
pub part_more : (a b c : Option (List ℕ)) (part rest : List ℕ) (sent n : ℕ) → rest ≡ drop sent part → Appends a b (take sent part) → Appends b c (take n rest) → Appends a c (take (sent + n) part)
part_more a b c part rest sent n e first next =
    rw take_add (Appends-trans a b c (take sent part) (take n (drop sent part)) first (rw e at next))

-- a part behind others
sends_after : (a b c : Option (List ℕ)) (front part rest whole : List ℕ) (n k : ℕ) → whole ≡ front ++ part ++ rest → length front ≡ n → Appends a b front → SendsPrefixAfter b c part n k → SendsPrefix a c whole k
sends_after a b c front part rest whole n k e len first next =
    let more = k - n in
    let split : k ≡ length front + more = omega (arith, len, next.0) in
    let within : k < length (front ++ part) = omega (arith, len, length-append front part, next.0, next.1.0) in
    let below : k ≤ length (front ++ part) = omega arith in
    let cut : take k whole ≡ front ++ take more part =
    ap (take k) e ∙ take-append-le k (front ++ part) rest below ∙ ap (λ j. take j (front ++ part)) split ∙ take-append-add front part more in
    (omega (arith, ap length e, length-append (front ++ part) rest), rw cut (Appends-trans a b c front (take more part) first next.1.1))

module _ (p q r s : List ℕ) where
  pub first_fails : (a b : Option (List ℕ)) (k : ℕ) → SendsPrefixAfter a b p 0 k → SendsPrefix a b (p ++ q ++ r ++ s) k
  first_fails a b k h = sends_after a a b [] p (q ++ (r ++ s)) (p ++ q ++ r ++ s) 0 k (simp append_assoc) refl (Appends-nil a) h

  pub second_fails : (a b c : Option (List ℕ)) (n k : ℕ) → length p ≡ n → Appends a b p → SendsPrefixAfter b c q n k → SendsPrefix a c (p ++ q ++ r ++ s) k
  second_fails a b c n k len x h = sends_after a b c p q (r ++ s) (p ++ q ++ r ++ s) n k (simp append_assoc) len x h

  pub third_fails : (a b c d : Option (List ℕ)) (n k : ℕ) → length p + length q ≡ n → Appends a b p → Appends b c q → SendsPrefixAfter c d r n k → SendsPrefix a d (p ++ q ++ r ++ s) k
  third_fails a b c d n k len x y h = sends_after a c d (p ++ q) r s (p ++ q ++ r ++ s) n k refl (length-append p q ∙ len) (Appends-trans a b c p q x y) h

  pub fourth_fails : (a b c d e : Option (List ℕ)) (n k : ℕ) → length p + length q + length r ≡ n → Appends a b p → Appends b c q → Appends c d r → SendsPrefixAfter d e s n k → SendsPrefix a e (p ++ q ++ r ++ s) k
  fourth_fails a b c d e n k len x y z h =
      sends_after a d e (p ++ q ++ r) s [] (p ++ q ++ r ++ s) n k (sym (append-nil (p ++ q ++ r ++ s))) (omega (arith, length-append (p ++ q) r, length-append p q, len))
      (Appends-trans a c d (p ++ q) r (Appends-trans a b c p q x y) z) h

  pub all_sent : (a b c d e : Option (List ℕ)) → Appends a b p → Appends b c q → Appends c d r → Appends d e s → Appends a e (p ++ q ++ r ++ s)
  all_sent a b c d e x y z w = Appends-trans a d e (p ++ q ++ r) s (Appends-trans a c d (p ++ q) r (Appends-trans a b c p q x y) z) w
