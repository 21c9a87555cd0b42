-- Other texts, by the numbers of their files.
use Rattle.std.proofs.Common.{◌≡◌, ◌≢◌, ◌<◌, ◌≤◌, ◌+◌, ◌==◌, ℕ, zero, suc, List, [], ◌∷◌, ◌++◌, Bool, true, false, cond, Option, None, Some, length, get_or, map, set, refl, sym, ap, subst, ◌∙◌, arith, length-append}
use Rattle.std.specs.Prelude.{All, unwrap_or}
use Rattle.std.specs.Option.{option_map_or}
use Rattle.std.proofs.lemmas.Bool.{eqb-true, ne_eqb}
use Rattle.std.proofs.lemmas.Bool.Decides.{nat_tests}
use Rattle.std.proofs.lemmas.List.{get_or-set_other, get_or-set_same, get_or_append_left}
use Rattle.std.proofs.lemmas.List.Elements.{All-append, All-cons, All-head, All-nil, All-tail}
use Rattle.std.proofs.Math.Seq.{get_or-append_seam}
use Rattle.work_meaning.specs.Edited.{text_after}
use Rattle.work_meaning.specs.Quiet.{is_own, own_edit, own_text}
use Rattle.work_meaning.proofs.OtherTexts.{text_of_two}

-- ---- one list of texts

-- an empty place more is empty
pub none-more : {X : Type 0} (xs : List (Option X)) → ((n : ℕ) → get_or xs n None ≡ None) → (n : ℕ) → get_or (xs ++ None ∷ []) n None ≡ None
none-more [] none zero = refl
none-more [] none (suc n) = refl
none-more (x ∷ xs) none zero = none zero
none-more (x ∷ xs) none (suc n) = none-more xs (λ k. none (suc k)) n

-- what holds of a list holds of its front, and of its last element
module _ {X : Type 0} (P : X → Type 0) (xs : List X) (last : X) (all : List X) (are : all ≡ xs ++ last ∷ []) (h : All P all) where
  pub All-front : All P xs
  All-front k d lt = subst P (ap (λ (l : List X). get_or l k d) are ∙ get_or_append_left xs (last ∷ []) d k lt) (h k d (omega (arith, lt, ap length are, length-append xs (last ∷ []))))

  pub All-last : P last
  All-last = subst P (ap (λ (l : List X). get_or l (length xs) last) are ∙ get_or-append_seam xs last [] last) (h (length xs) last (omega (arith, ap length are, length-append xs (last ∷ []))))

same : (n : ℕ) → (n == n) ≡ true
same n = grind (arith, nat_tests)

-- a text that is put counts
module _ (texts : List (Option (List ℕ))) (file : ℕ) (text : List ℕ) (there : file < length texts) (n : ℕ) (t : List ℕ) where
  put-by : (b : Bool) → (file == n) ≡ b
      → unwrap_or (get_or (set texts file (Some text)) n None) t ≡ option_map_or (λ (e : ℕ × List ℕ). e.1) (cond {A = Option (ℕ × List ℕ)} b (Some (file, text)) None) (unwrap_or (get_or texts n None) t)
  put-by true is = ap (λ k. unwrap_or (get_or (set texts file (Some text)) k None) t) (sym (eqb-true file n is)) ∙ ap (λ o. unwrap_or o t) (get_or-set_same texts file (Some text) None there)
  put-by false is = ap (λ o. unwrap_or o t) (get_or-set_other texts file n (Some text) None (λ at. let e : (file == n) ≡ true = ap (λ k. file == k) at ∙ same file in absurd (cc (is, e))))

  pub put-text : unwrap_or (get_or (set texts file (Some text)) n None) t ≡ text_after ((file, text) ∷ []) n (unwrap_or (get_or texts n None) t)
  put-text = put-by (file == n) refl

-- ---- the texts that are taken first

pub from_view : {X : Type 0} (P : ℕ → Type 0) (number : X → ℕ) (xs : List X) (ns : List (ℕ × List ℕ)) (view : X → ℕ × List ℕ) → ns ≡ map view xs → ((x : X) → (view x).0 ≡ number x) → All (λ e. P e.0) ns → All (λ x. P (number x)) xs
from_view P number [] ns view are same all = All-nil (λ x. P (number x))
from_view P number (x ∷ xs) ns view are same all =
    let all' : All (λ (e : ℕ × List ℕ). P e.0) (view x ∷ map view xs) = subst (All (λ e. P e.0)) are all in
    All-cons (λ x. P (number x)) x xs (subst P (same x) (All-head (λ (e : ℕ × List ℕ). P e.0) (view x) (map view xs) all'))
    (from_view P number xs (map view xs) view refl same (All-tail (λ (e : ℕ × List ℕ). P e.0) (view x) (map view xs) all'))

module _ (own : Option ℕ) (file : ℕ) where
  -- another file keeps its text
  pub own-elsewhere : (o : Option (List ℕ)) (n : ℕ) (t : List ℕ) → n ≢ file → text_after (own_edit own file o) n t ≡ t
  own-elsewhere o n t apart = by (is_own own file) o
    where
      by : (b : Bool) (o : Option (List ℕ)) → text_after (cond {A = List (ℕ × List ℕ)} b (option_map_or (λ t. (file, t) ∷ []) o []) []) n t ≡ t
      by false o = refl
      by true None = refl
      by true (Some text) = ap (λ b. option_map_or (λ (e : ℕ × List ℕ). e.1) (cond {A = Option (ℕ × List ℕ)} b (Some (file, text)) None) t) (ne_eqb file n (λ at. apart (sym at)))

  -- the file has its own
  pub own-here : (texts : List (Option (List ℕ))) (t : List ℕ) → text_after (own_edit own file (get_or texts file None)) file t ≡ own_text own texts file t
  own-here texts t = by (is_own own file) (get_or texts file None)
    where
      by : (b : Bool) (o : Option (List ℕ)) → text_after (cond {A = List (ℕ × List ℕ)} b (option_map_or (λ t. (file, t) ∷ []) o []) []) file t ≡ cond {A = List ℕ} b (unwrap_or o t) t
      by false o = refl
      by true None = refl
      by true (Some text) = ap (λ b. option_map_or (λ (e : ℕ × List ℕ). e.1) (cond {A = Option (ℕ × List ℕ)} b (Some (file, text)) None) t) (same file)

  own-within : (o : Option (List ℕ)) (count : ℕ) → file < count → All (λ e. e.0 < count) (own_edit own file o)
  own-within o count there = by (is_own own file) o
    where
      by : (b : Bool) (o : Option (List ℕ)) → All (λ e. e.0 < count) (cond {A = List (ℕ × List ℕ)} b (option_map_or (λ t. (file, t) ∷ []) o []) [])
      by false o = All-nil (λ e. e.0 < count)
      by true None = All-nil (λ e. e.0 < count)
      by true (Some text) = All-cons (λ e. e.0 < count) (file, text) [] there (All-nil (λ e. e.0 < count))

-- the first k texts are looked at, and of them those that are taken first are listed
pub record AreOwn (own : Option ℕ) (texts : List (Option (List ℕ))) (k : ℕ) (edits : List (ℕ × List ℕ)) : Type 0 where
  pub within : All (λ e. e.0 < length texts) edits
  pub done : (n : ℕ) (t : List ℕ) → n < k → text_after edits n t ≡ own_text own texts n t
  pub ahead : (n : ℕ) (t : List ℕ) → k ≤ n → text_after edits n t ≡ t

pub none-own : (own : Option ℕ) (texts : List (Option (List ℕ))) → AreOwn own texts 0 []
none-own own texts = record { within = All-nil (λ e. e.0 < length texts); done = λ n t lt. absurd (omega (arith, lt)); ahead = λ n t far. refl }

pub one-own : (own : Option ℕ) (texts : List (Option (List ℕ))) (k : ℕ) (edits : List (ℕ × List ℕ)) → AreOwn own texts k edits → k < length texts → (o : Option (List ℕ)) → o ≡ get_or texts k None → (later : List (ℕ × List ℕ)) → later ≡ edits ++ own_edit own k o
    → AreOwn own texts (k + 1) later
one-own own texts k edits so_far there o is later are = record {
  within = subst (All (λ e. e.0 < length texts)) (sym are) (All-append (λ e. e.0 < length texts) edits (own_edit own k o) so_far.within (own-within own k o (length texts) there));
  done = λ n t lt. two n t ∙ by n t lt (n == k) refl;
  ahead = λ n t far. two n t ∙ ap (text_after edits n) (own-elsewhere own k o n t (λ at. absurd (omega (arith, far, at)))) ∙ so_far.ahead n t (omega (arith, far));
}
  where
    two : (n : ℕ) (t : List ℕ) → text_after later n t ≡ text_after edits n (text_after (own_edit own k o) n t)
    two n t = ap (λ es. text_after es n t) are ∙ text_of_two edits (own_edit own k o) n t

    apart : (n : ℕ) → (n == k) ≡ false → n ≢ k
    apart n is at = let e : (n == k) ≡ true = ap (λ m. m == k) at ∙ same k in absurd (cc (is, e))

    by : (n : ℕ) (t : List ℕ) → n < k + 1 → (b : Bool) → (n == k) ≡ b → text_after edits n (text_after (own_edit own k o) n t) ≡ own_text own texts n t
    by n t lt true at =
        let here : n ≡ k = eqb-true n k at in
        ap (λ m. text_after edits m (text_after (own_edit own k o) m t)) here ∙ so_far.ahead k (text_after (own_edit own k o) k t) (omega arith)
        ∙ ap (λ p. text_after (own_edit own k p) k t) is ∙ own-here own k texts t ∙ ap (λ m. own_text own texts m t) (sym here)
    by n t lt false at =
        let other = apart n at in
        ap (text_after edits n) (own-elsewhere own k o n t other) ∙ so_far.done n t (omega (arith, lt, other))
