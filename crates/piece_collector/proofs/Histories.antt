-- What is true of histories
use Rattle.std.proofs.Common.{◌≡◌, ℕ, Bool, true, false, cond, not, ◌&&◌, ◌||◌, ◌==◌, List, [], ◌∷◌, ◌++◌, Option, Some, None, refl, sym, ap, ◌∙◌, IsTrue}
use Rattle.std.specs.Str.{bytes_eq}
use Rattle.std.specs.List.{list_any, filter}
use Rattle.std.specs.Cmp.Lexicographic.{bytes_decides}
use Rattle.piece_collector.specs.Events.{Event}
use Rattle.piece_collector.specs.History.{Entry, Set, Removed, Gave, Offered, Failed, changes, last, since, is_out, wants, standing, history, paths, first, first_wanted}
use Rattle.piece_collector.specs.Board.{IsFirstWanted}
use Rattle.piece_collector.specs.Laws.{IsCutAtChange, IsGiven, is_failure}
use Rattle.piece_collector.proofs.Search.{wanted_known, filter_has, filter_only}
use Rattle.piece_collector.proofs.Next.{first_none, first_is}

pub cut_at_change : (p : List ℕ) (h : List Entry) → IsCutAtChange p h (since p h) (last p h)
cut_at_change p [] = record { parts = refl; unchanged = refl; change = tt }
cut_at_change p (e ∷ h) = at (changes p e) refl (cut_at_change p h)
  where
    at : (b : Bool) → changes p e ≡ b → IsCutAtChange p h (since p h) (last p h) → IsCutAtChange p (e ∷ h) (cond b [] (e ∷ since p h)) (cond b (e ∷ h) (last p h))
    at true d r = record { parts = refl; unchanged = refl; change = d }
    at false d r = record { parts = ap (λ l. e ∷ l) r.parts; unchanged = rw d r.unchanged; change = r.change }

-- one more entry, which is no failure
given_more : (p : List ℕ) (s : ℕ) (h : List Entry) (e : Entry) → is_failure p s e ≡ false → IsGiven p s h → IsGiven p s (e ∷ h)
given_more p s h e d r = record { later = e ∷ r.later; before = r.before; parts = ap (λ l. e ∷ l) r.parts; unfailed = rw d r.unfailed }

pub out_given : (p : List ℕ) (s : ℕ) (h : List Entry) → IsTrue (is_out p s h) → IsGiven p s h
out_given p s [] i = absurd (cc)
out_given p s (Set q u ∷ h) i = given_more p s h (Set q u) refl (out_given p s h i)
out_given p s (Removed q ∷ h) i = given_more p s h (Removed q) refl (out_given p s h i)
out_given p s (Gave None ∷ h) i = given_more p s h (Gave None) refl (out_given p s h i)
out_given p s (Gave (Some q) ∷ h) i = at (bytes_eq p q) refl i (out_given p s h)
  where
    at : (b : Bool) → bytes_eq p q ≡ b → IsTrue (b || is_out p s h) → (IsTrue (is_out p s h) → IsGiven p s h) → IsGiven p s (Gave (Some q) ∷ h)
    at true d i f = record { later = []; before = h; parts = ap (λ r. Gave (Some r) ∷ h) (sym ((bytes_decides p q).0 d)); unfailed = refl }
    at false d i f = given_more p s h (Gave (Some q)) refl (f i)
out_given p s (Offered q r u ∷ h) i = given_more p s h (Offered q r u) refl (out_given p s h i)
out_given p s (Failed q r ∷ h) i = at (bytes_eq p q && (r == s)) refl i (out_given p s h)
  where
    at : (b : Bool) → (bytes_eq p q && (r == s)) ≡ b → IsTrue (not b && is_out p s h) → (IsTrue (is_out p s h) → IsGiven p s h) → IsGiven p s (Failed q r ∷ h)
    at true d i f = absurd (cc)
    at false d i f = given_more p s h (Failed q r) d (f i)

-- what stands before a job of p with no failure after it
stays_out : (p : List ℕ) (s : ℕ) (later before : List Entry) → list_any (is_failure p s) later ≡ false → IsTrue (is_out p s (later ++ Gave (Some p) ∷ before))
stays_out p s [] before u = rw ((bytes_decides p p).1 refl) refl
stays_out p s (Set q t ∷ later) before u = stays_out p s later before u
stays_out p s (Removed q ∷ later) before u = stays_out p s later before u
stays_out p s (Gave None ∷ later) before u = stays_out p s later before u
stays_out p s (Gave (Some q) ∷ later) before u = elim (bytes_eq p q) as (λ b. (b || is_out p s (later ++ Gave (Some p) ∷ before)) ≡ true) [ true ↦ refl | false ↦ stays_out p s later before u ]
stays_out p s (Offered q r t ∷ later) before u = stays_out p s later before u
stays_out p s (Failed q r ∷ later) before u = at (bytes_eq p q && (r == s)) u (stays_out p s later before)
  where
    at : (b : Bool) → (b || list_any (is_failure p s) later) ≡ false → (list_any (is_failure p s) later ≡ false → IsTrue (is_out p s (later ++ Gave (Some p) ∷ before))) → IsTrue (not b && is_out p s (later ++ Gave (Some p) ∷ before))
    at true u f = absurd (cc)
    at false u f = f u

pub given_out : (p : List ℕ) (s : ℕ) (h : List Entry) → IsGiven p s h → IsTrue (is_out p s h)
given_out p s h r = ap (is_out p s) r.parts ∙ stays_out p s r.later r.before r.unfailed

not_true : (b : Bool) → (IsTrue b → b ≡ false) → b ≡ false
not_true true f = f refl
not_true false f = refl

-- the path that a job is for is the first wanted one
pub given_is_first : (o : ℕ) (es : List Event) (g : Option (List ℕ)) → first_wanted o (history o es) ≡ g → IsFirstWanted o es g
given_is_first o es g e = at g e
  where
    P : List ℕ → Bool
    P p = wants (standing o p (history o es))

    ps : List (List ℕ)
    ps = filter P (paths (history o es))

    here : (q : List ℕ) → IsTrue (P q) → IsTrue (list_any (bytes_eq q) ps)
    here q h = filter_has P (paths (history o es)) q h (wanted_known o (history o es) q h)

    at : (g : Option (List ℕ)) → first ps ≡ g → IsFirstWanted o es g
    at None e = λ q. not_true (P q) (λ h. absurd (let x : true ≡ false = sym (here q h) ∙ first_none ps e q in cc))
    at (Some p) e = let f = first_is ps p e in (filter_only P (paths (history o es)) p f.0, λ q h. f.1 q (here q h))
