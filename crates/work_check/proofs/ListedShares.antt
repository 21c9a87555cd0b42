-- The lines of shares of all files, as threads promised them.
use Rattle.std.proofs.Common.{◌≡◌, ◌≤◌, ℕ, List, [], ◌∷◌, ◌++◌, length, flat_map, map, refl, suc, sym, ap, ◌∙◌, subst, arith, append_assoc, append-nil, Ok, Result, IfOk, Some, slice_get}
use Rattle.std.proofs.lemmas.List.{length-map}
use Rattle.std.proofs.lemmas.Option.{same_Some}
use Rattle.std.specs.declared.alloc.AllocError.{AllocError}
use Rattle.std.specs.declared.thread.PromisedHandle.{PromisedHandle}
use Rattle.std.specs.declared.thread.Promise as Promise
use Rattle.std.specs.PromisedHandle.{KeepsEach}
use Rattle.work_shares.proofs.Kept.{KeptAt, kept_at}
use Rattle.work_check.specs.Steps.{AreAnswered, AreLinesBetween, left_from}
use Rattle.work_check.specs.declared.listed.Listed.{Listed}
use Rattle.work_check.specs.declared.shares.ShareLines.{ShareLines}
use Rattle.work_check.specs.declared.shares.ShareListed.{ShareListed}
use Rattle.work_check.proofs.LinesLemmas.{none-left}

abbrev pub Answer : Type 0
Answer = Result ShareLines AllocError

abbrev pub Handle : Type 0
Handle = PromisedHandle Answer ShareListed

abbrev lines_in : List ShareLines → List ℕ
lines_in shares = flat_map (λ share. share.lines.items) shares

abbrev fine : ShareLines → Answer
fine p = Ok p

-- the promises are of consecutive files of the workspace, the first of which begins at n, and the last ends at m
abbrev pub AreConsecutive : ℕ → ℕ → Listed → List Handle → Type 0
AreConsecutive n m l [] = n ≡ m
AreConsecutive n m l (h ∷ hs) = (h.promise.first ≡ n) × ((h.promise.listed.value ≡ l) × AreConsecutive h.promise.end m l hs)

-- one more promise
pub one_more : (n m : ℕ) (l : Listed) (hs : List Handle) (h : Handle) → AreConsecutive n m l hs → h.promise.first ≡ m → h.promise.listed.value ≡ l → AreConsecutive n h.promise.end l (hs ++ h ∷ [])
one_more n m l [] h c first files = (first ∙ sym c, (files, refl))
one_more n m l (x ∷ hs) h c first files = (c.0, (c.1.0, one_more x.promise.end m l hs h c.1.1 first files))

module _ (g : Promise.Ghosts ShareListed Answer) (keep : (p : ShareListed) (r : Answer) → g.kept_by p r → IfOk r (λ share. AreLinesBetween p.first p.end p.listed.value share.lines.items)) where
  together : (hs : List Handle) (shares : List ShareLines) (n m : ℕ) (l : Listed) → length hs ≡ length shares → AreConsecutive n m l hs
      → ((i : ℕ) (r : Answer) → slice_get (map Ok shares) i ≡ Some r → KeptAt g hs i r) → left_from n l ≡ lines_in shares ++ left_from m l
  together [] [] n m l len c kept = ap (λ k. left_from k l) c
  together [] (p ∷ shares) n m l len c kept = absurd (omega (arith, len))
  together (h ∷ hs) [] n m l len c kept = absurd (omega (arith, len))
  together (h ∷ hs) (p ∷ shares) n m l len c kept =
      let k = kept 0 (Ok p) refl in
      let same : h ≡ k.handle = same_Some h k.handle k.stands in
      let made : AreLinesBetween h.promise.first h.promise.end h.promise.listed.value p.lines.items = keep h.promise (Ok p) (subst (λ (x : Handle). g.kept_by x.promise (Ok p)) (sym same) k.kept) in
      let here : AreLinesBetween n h.promise.end l p.lines.items = subst (λ v. AreLinesBetween n h.promise.end v p.lines.items) c.1.0 (subst (λ k. AreLinesBetween k h.promise.end h.promise.listed.value p.lines.items) c.0 made) in
      let rest = together hs shares h.promise.end m l (omega (arith, len)) c.1.1 (λ i r at. let x = kept (suc i) r at in record { handle = x.handle; stands = x.stands; kept = x.kept }) in
      here.joined ∙ ap (λ l. p.lines.items ++ l) rest ∙ sym (append_assoc p.lines.items (lines_in shares) (left_from m l))

  -- what the joined threads promised is what is asked of the answers
  pub all_answered : (m : ℕ) (l : Listed) (hs : List Handle) (rs : List Answer) (n : ℕ) → AreConsecutive 0 m l hs → length l.files ≤ m
      → n ≡ length hs → length rs ≡ n → KeepsEach g n hs rs → AreAnswered l rs
  all_answered m l hs rs n c whole count len keeps =
      λ shares same.
      let kept : (i : ℕ) (r : Answer) → slice_get (map Ok shares) i ≡ Some r → KeptAt g hs i r = λ i r at. kept_at g hs rs n count len keeps i r (ap (λ xs. slice_get xs i) same ∙ at) in
      let long : length hs ≡ length shares = omega (arith, count, len, ap length same, length-map shares fine) in
      let all = together hs shares 0 m l long c kept in
      sym (all ∙ ap (λ l. lines_in shares ++ l) (none-left l m whole) ∙ append-nil (lines_in shares))
