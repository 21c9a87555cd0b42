-- Lemmas on cutting a body into items.
use Rattle.std.proofs.Common.{◌≡◌, ℕ, zero, suc, ◌+◌, ◌<◌, ◌-◌, Bool, true, false, ◌||◌, List, [], ◌∷◌, ◌++◌, length, get_or, take, drop, refl, sym, ap, ◌∙◌, arith, cond, ◌≤◌, subst, length-drop}
use Rattle.std.proofs.lemmas.List.{take_more, drop_more, drop_all, drop-drop, take_rest}
use Rattle.std.specs.Prelude.{◌==◌, ◌&&◌, not, IsTrue, count_by}
use Rattle.std.proofs.lemmas.Bool.{eqb-true, false≢true}
use denote.Enum.Bare.{same_true}
use Rattle.proto_tree.specs.contracts.lexeme.Terminal.{the_type}
use Rattle.std.proofs.lemmas.List.Sums.{count_by_more_yes, count_by_more_no, count_by-le-length}
use Rattle.proto_tree.specs.declared.lexeme.Terminal.TheVariants as w
use Rattle.proto_tree.specs.declared.lexeme.Lexeme.{Lexeme}
use Rattle.proto_tree.specs.declared.lexeme.Body.{Body}
use Rattle.proto_tree.specs.declared.lexeme.Terminal.{Terminal}
use Rattle.proto_tree.specs.Lexeme.{is, is_plain}
use Rattle.proto_syntax.specs.Skips.{opened, closed, IsSkip}
use Rattle.proto_syntax.proofs.SkipLemmas.{count-add}
use Rattle.proto_tree.specs.Cut.{ends_in, ends, items_from, is_finished, is_stray, is_at_depth_0, is_file, is_quiet}

-- the default of an index
abbrev pub no_lexeme : Lexeme
no_lexeme = record { terminal = w.Message; span = record { start = 0; «end» = 0 } }

-- the last token decides
pub ends_in-last : (terminal : Terminal) (ts : List Lexeme) (d : Lexeme) → 0 < length ts → ends_in terminal ts ≡ is terminal (get_or ts (length ts - 1) d)
ends_in-last terminal [] d h = absurd (omega arith)
ends_in-last terminal (t ∷ []) d h = refl
ends_in-last terminal (t ∷ u ∷ ts) d h =
    let e : length (t ∷ u ∷ ts) - 1 ≡ suc (length (u ∷ ts) - 1) = omega arith in
    ends_in-last terminal (u ∷ ts) d (omega arith) ∙ ap (λ n. is terminal (get_or (t ∷ u ∷ ts) n d)) (sym e)

-- where an item doesn't end, it grows by a token
pub items_from-grown : (body : Body) (ts : List Lexeme) (i : ℕ) (d : Lexeme) → i < length ts → ends body (take (i + 1) ts) (drop (i + 1) ts) ≡ false → items_from body (take i ts) (drop i ts) ≡ items_from body (take (i + 1) ts) (drop (i + 1) ts)
unfolding items_from
items_from-grown body ts i d h e =
    let more : take (i + 1) ts ≡ take i ts ++ get_or ts i d ∷ [] = take_more ts i d h in
    rw (drop_more ts i d h) (rw (← more) (rw e refl))

-- where it ends, the next one begins
pub items_from-ended : (body : Body) (ts : List Lexeme) (i : ℕ) (d : Lexeme) → i < length ts → ends body (take (i + 1) ts) (drop (i + 1) ts) ≡ true → items_from body (take i ts) (drop i ts) ≡ take (i + 1) ts ∷ items_from body [] (drop (i + 1) ts)
unfolding items_from
items_from-ended body ts i d h e =
    let more : take (i + 1) ts ≡ take i ts ++ get_or ts i d ∷ [] = take_more ts i d h in
    rw (drop_more ts i d h) (rw (← more) (rw e refl))

-- the rest of the tokens, as `&ts[i..]` has it
pub as_rest : (body : Body) (ts : List Lexeme) (i : ℕ) (b : Bool) → ends body (take i ts) (take (length ts - i) (drop i ts)) ≡ b → ends body (take i ts) (drop i ts) ≡ b
as_rest body ts i b e = rw take_rest at e

level_no : (a b : ℕ) → b < a → (a == b) ≡ false
level_no a b h = tested (a == b) refl
  where
    tested : (c : Bool) → (a == b) ≡ c → (a == b) ≡ false
    tested true e = absurd (omega (arith, eqb-true a b e))
    tested false e = e

-- inside braces nothing ends, as long as tokens follow
pub ends-inside : (body : Body) (item rest : List Lexeme) → count_by (is w.CloseBrace) item < count_by (is w.OpenBrace) item → 0 < length rest → ends body item rest ≡ false
ends-inside body item [] h m = absurd (omega arith)
ends-inside body item (t ∷ rest) h m =
    let level : is_at_depth_0 item ≡ false = level_no _ _ h in
    rw level (rw (stray item h) (none (is_file body) (is w.CloseBrace t)))
  where
    none : (a b : Bool) → (a && b && false) ≡ false
    none true true = refl
    none true false = refl
    none false true = refl
    none false false = refl

    not_close : (u : Lexeme) → count_by (is w.CloseBrace) (u ∷ []) < count_by (is w.OpenBrace) (u ∷ []) → (c : Bool) → is w.CloseBrace u ≡ c → (is_file body && c) ≡ false
    not_close u g true e =
        let one : count_by (is w.CloseBrace) (u ∷ []) ≡ 1 = rw e refl in
        absurd (omega (arith, count_by-le-length (is w.OpenBrace) (u ∷ [])))
    not_close u g false e = elim (is_file body) as (λ f. (f && false) ≡ false) [ true ↦ refl | false ↦ refl ]

    stray : (ts : List Lexeme) → count_by (is w.CloseBrace) ts < count_by (is w.OpenBrace) ts → is_stray body ts ≡ false
    stray [] g = refl
    stray (u ∷ []) g = not_close u g (is w.CloseBrace u) refl
    stray (u ∷ v ∷ us) g = refl

-- one more token is counted
pub count-step : (terminal : Terminal) (ts : List Lexeme) (i : ℕ) (d : Lexeme) (n m : ℕ) → i < length ts → n ≡ count_by (is terminal) (take i ts) → m ≡ cond (is terminal (get_or ts i d)) 1 0 → n + m ≡ count_by (is terminal) (take (i + 1) ts)
count-step terminal ts i d n m h e f = tested (is terminal (get_or ts i d)) refl
  where
    tested : (b : Bool) → is terminal (get_or ts i d) ≡ b → n + m ≡ count_by (is terminal) (take (i + 1) ts)
    tested true g = let one : m ≡ 1 = f ∙ ap (λ b. cond b 1 0) g in omega (arith, e, count_by_more_yes (is terminal) ts i d h g)
    tested false g = let none : m ≡ 0 = f ∙ ap (λ b. cond b 1 0) g in omega (arith, e, count_by_more_no (is terminal) ts i d h g)

-- Where the next n tokens stand inside braces and others follow, no item ends there.
pub items_from-inside : (body : Body) (ts : List Lexeme) (i n : ℕ) → i + n < length ts → ((m : ℕ) → 0 < m → m ≤ n → closed (take (i + m) ts) < opened (take (i + m) ts))
    → items_from body (take i ts) (drop i ts) ≡ items_from body (take (i + n) ts) (drop (i + n) ts)
items_from-inside body ts i zero lt f = let e : i + 0 ≡ i = omega arith in rw e refl
items_from-inside body ts i (suc n) lt f =
    let e : i + n + 1 ≡ i + suc n = omega arith in
    let here : closed (take (i + n + 1) ts) < opened (take (i + n + 1) ts) = subst (λ k. closed (take k ts) < opened (take k ts)) (sym e) (f (suc n) (omega arith) (omega arith)) in
    let inside : ends body (take (i + n + 1) ts) (drop (i + n + 1) ts) ≡ false = ends-inside body (take (i + n + 1) ts) (drop (i + n + 1) ts) here (omega (arith, length-drop (i + n + 1) ts)) in
    items_from-inside body ts i n (omega arith) (λ m some few. f m some (omega arith))
    ∙ items_from-grown body ts (i + n) no_lexeme (omega arith) inside
    ∙ ap (λ k. items_from body (take k ts) (drop k ts)) e

-- the braces of one more token
pub depth-step : (ts : List Lexeme) (i : ℕ) (d : Lexeme) (a b n m : ℕ) → i < length ts → a + closed (take i ts) ≡ b + opened (take i ts)
    → n ≡ cond (is w.OpenBrace (get_or ts i d)) 1 0 → m ≡ cond (is w.CloseBrace (get_or ts i d)) 1 0 → a + n + closed (take (i + 1) ts) ≡ b + m + opened (take (i + 1) ts)
depth-step ts i d a b n m h e f g =
    let o : opened (take i ts) + n ≡ opened (take (i + 1) ts) = count-step w.OpenBrace ts i d (opened (take i ts)) n h refl f in
    let c : closed (take i ts) + m ≡ closed (take (i + 1) ts) = count-step w.CloseBrace ts i d (closed (take i ts)) m h refl g in
    omega (arith, e, o, c)

-- inside the braces that begin at a place, behind an item so far that closes no more than it opens
pub skipped-inside : (ts : List Lexeme) (i n a b : ℕ) → a + closed (take i ts) ≡ b + opened (take i ts) → b ≤ a → IsSkip (drop i ts) n → i < length ts
    → (m : ℕ) → 0 < m → m ≤ n → i + m ≤ length ts → closed (take (i + m) ts) < opened (take (i + m) ts)
skipped-inside ts i n a b e le skip lt m some few within =
    let here : closed (take m (drop i ts)) < opened (take m (drop i ts)) = skip.inside m some few (omega (arith, length-drop i ts)) in
    omega (arith, e, le, here, count-add w.CloseBrace i m ts, count-add w.OpenBrace i m ts)

-- where a brace isn't closed, the item is all that is left
pub items_from-open : (body : Body) (ts : List Lexeme) (i n a b : ℕ) → a + closed (take i ts) ≡ b + opened (take i ts) → b ≤ a → IsSkip (drop i ts) n → i < length ts → length ts - i ≤ n
    → items_from body (take i ts) (drop i ts) ≡ take (length ts) ts ∷ items_from body [] (drop (length ts) ts)
items_from-open body ts i n a b e le skip lt far =
    let last : i + (length ts - i - 1) ≡ length ts - 1 = omega arith in
    let whole : length ts - 1 + 1 ≡ length ts = omega arith in
    let at_end : ends body (take (length ts - 1 + 1) ts) (drop (length ts - 1 + 1) ts) ≡ true = rw (whole, drop_all (length ts) ts (omega arith)) (either (is_finished body (take (length ts) ts)) (is_stray body (take (length ts) ts))) in
    items_from-inside body ts i (length ts - i - 1) (omega arith) (λ m some few. skipped-inside ts i n a b e le skip lt m some (omega arith) (omega arith))
    ∙ ap (λ k. items_from body (take k ts) (drop k ts)) last
    ∙ items_from-ended body ts (length ts - 1) no_lexeme (omega arith) at_end
    ∙ ap (λ k. take k ts ∷ items_from body [] (drop k ts)) whole
  where
    either : (a b : Bool) → (a || b || true) ≡ true
    either true true = refl
    either true false = refl
    either false true = refl
    either false false = refl

-- and it isn't a whole statement or block
pub unfinished : (body : Body) (ts : List Lexeme) → closed ts < opened ts → false ≡ is_finished body ts
unfinished body ts h = let depth : is_at_depth_0 ts ≡ false = level_no _ _ h in rw depth refl

-- ---- tokens that end nothing

-- a plain token isn't a terminal that isn't plain
plain_no : (terminal : Terminal) (t : Lexeme) → is_plain terminal ≡ false → is_plain t.terminal ≡ true → is terminal t ≡ false
plain_no terminal t p q = tested (is terminal t) refl
  where
    tested : (b : Bool) → is terminal t ≡ b → is terminal t ≡ false
    tested true e = let same : t.terminal ≡ terminal = same_true the_type (search refl) t.terminal terminal e in absurd (false≢true (sym p ∙ ap is_plain (sym same) ∙ q))
    tested false e = e

ends_in-push : (terminal : Terminal) (item : List Lexeme) (t : Lexeme) → ends_in terminal (item ++ t ∷ []) ≡ is terminal t
ends_in-push terminal [] t = refl
ends_in-push terminal (u ∷ []) t = refl
ends_in-push terminal (u ∷ v ∷ us) t = ends_in-push terminal (v ∷ us) t

-- where a quiet place follows, the item doesn't end there
ends-quiet : (body : Body) (item : List Lexeme) (t u : Lexeme) (rest : List Lexeme) → is_plain t.terminal ≡ true → is w.CloseBrace u ≡ false → ends body (item ++ t ∷ []) (u ∷ rest) ≡ false
ends-quiet body item t u rest p q =
    let no_end : is w.Semicolon t ≡ false = plain_no w.Semicolon t refl p in
    let no_close : is w.CloseBrace t ≡ false = plain_no w.CloseBrace t refl p in
    let first : ends_in w.Semicolon (item ++ t ∷ []) ≡ false = ends_in-push w.Semicolon item t ∙ no_end in
    let second : ends_in w.CloseBrace (item ++ t ∷ []) ≡ false = ends_in-push w.CloseBrace item t ∙ no_close in
    rw (first, second, stray item no_close, q) (none _ _ (is_file body) _)
  where
    stray : (ts : List Lexeme) → is w.CloseBrace t ≡ false → is_stray body (ts ++ t ∷ []) ≡ false
    stray [] e = rw e (elim (is_file body) as (λ f. (f && false) ≡ false) [ true ↦ refl | false ↦ refl ])
    stray (x ∷ []) e = refl
    stray (x ∷ y ∷ xs) e = refl

    none : (a b c d : Bool) → (a && (b && false) || false || c && false && d) ≡ false
    none true true true d = refl
    none true true false d = refl
    none true false true d = refl
    none true false false d = refl
    none false b true d = refl
    none false b false d = refl

-- a quiet place: the token there is plain, and one that closes nothing follows
record IsQuiet (body : Body) (ts : List Lexeme) (i : ℕ) : Type 0 where
  within : i + 1 < length ts
  goes_on : ends body (take (i + 1) ts) (drop (i + 1) ts) ≡ false
  opens_none : opened (take (i + 1) ts) ≡ opened (take i ts)
  closes_none : closed (take (i + 1) ts) ≡ closed (take i ts)

both : (a b : Bool) → IsTrue (a && b) → (a ≡ true) × (b ≡ true)
both true true h = (refl, refl)
both true false h = absurd (false≢true h)
both false b h = absurd (false≢true h)

not_true : (a : Bool) → not a ≡ true → a ≡ false
not_true true h = cc
not_true false h = refl

quiet-at : (body : Body) (ts : List Lexeme) (i : ℕ) → IsTrue (is_quiet (drop i ts)) → IsQuiet body ts i
quiet-at body ts i h = by_rest (drop i ts) refl h
  where
    by_rest : (rest : List Lexeme) → drop i ts ≡ rest → IsTrue (is_quiet rest) → IsQuiet body ts i
    by_rest [] e q = absurd (false≢true q)
    by_rest (t ∷ []) e q = absurd (false≢true q)
    by_rest (t ∷ u ∷ us) e q =
        let two = both (is_plain t.terminal) (not (is w.CloseBrace u)) q in
        let len : length (drop i ts) ≡ length ts - i = length-drop i ts in
        let long : length (t ∷ u ∷ us) ≡ length ts - i = ap length (sym e) ∙ len in
        let lt : i < length ts = omega arith in
        let both_at : get_or ts i t ∷ drop (i + 1) ts ≡ t ∷ u ∷ us = sym (drop_more ts i t lt) ∙ e in
        let here : get_or ts i t ≡ t = cc in
        let behind : drop (i + 1) ts ≡ u ∷ us = cc in
        let front : take (i + 1) ts ≡ take i ts ++ t ∷ [] = take_more ts i t lt ∙ ap (λ x. take i ts ++ x ∷ []) here in
        record {
          within = omega arith;
          goes_on = rw (front, behind) (ends-quiet body (take i ts) t u us two.0 (not_true _ two.1));
          opens_none = count_by_more_no (is w.OpenBrace) ts i t lt (rw here (plain_no w.OpenBrace t refl two.0));
          closes_none = count_by_more_no (is w.CloseBrace) ts i t lt (rw here (plain_no w.CloseBrace t refl two.0));
        }

-- Over the next n tokens nothing ends, and the braces stay as they are.
pub record IsQuietRun (body : Body) (ts : List Lexeme) (i n : ℕ) : Type 0 where
  pub so_far : items_from body (take i ts) (drop i ts) ≡ items_from body (take (i + n) ts) (drop (i + n) ts)
  pub opens_none : opened (take (i + n) ts) ≡ opened (take i ts)
  pub closes_none : closed (take (i + n) ts) ≡ closed (take i ts)

pub quiet_run : (body : Body) (ts : List Lexeme) (i n : ℕ) → ((k : ℕ) → k < n → IsTrue (is_quiet (drop k (drop i ts)))) → IsQuietRun body ts i n
quiet_run body ts i zero f = let e : i + 0 ≡ i = omega arith in record { so_far = rw e refl; opens_none = rw e refl; closes_none = rw e refl }
quiet_run body ts i (suc n) f =
    let e : i + suc n ≡ i + n + 1 = omega arith in
    let before : IsQuietRun body ts i n = quiet_run body ts i n (λ k lt. f k (omega arith)) in
    let here : IsQuiet body ts (i + n) = quiet-at body ts (i + n) (subst (λ l. IsTrue (is_quiet l)) (drop-drop n i ts) (f n (omega arith))) in
    record {
      so_far = rw e (before.so_far ∙ items_from-grown body ts (i + n) no_lexeme (omega (arith, here.within)) here.goes_on);
      opens_none = rw e (here.opens_none ∙ before.opens_none);
      closes_none = rw e (here.closes_none ∙ before.closes_none);
    }
