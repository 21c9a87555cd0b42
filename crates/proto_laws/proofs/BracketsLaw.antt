-- The test for brackets in pairs is the grammar of brackets in pairs.
use Rattle.std.proofs.Common.{◌≡◌, Bool, true, false, List, [], ◌∷◌, ◌++◌, refl, sym, ap, ◌∙◌, append_assoc, append-nil, Option, Some, None}
use Rattle.std.specs.Prelude.{◌&&◌, IsTrue}
use Rattle.std.proofs.lemmas.Bool.{false≢true}
use denote.Enum.Bare.{same_true, true_same}
use Rattle.proto_tree.specs.contracts.lexeme.Terminal.{the_type}
use Rattle.proto_tree.specs.declared.lexeme.Lexeme.{Lexeme}
use Rattle.proto_tree.specs.declared.lexeme.Terminal.{Terminal}
use Rattle.proto_tree.specs.declared.lexeme.Terminal.TheVariants as w
use Rattle.proto_tree.specs.Lexeme.{is}
use Rattle.proto_tree.specs.Parts.{closes, opener, is_closer, is_balanced, IsBalanced, none, plain, pair}

step-open : (p : List Terminal) (t : Lexeme) (ts : List Lexeme) (c : Terminal) → opener t.terminal ≡ Some c → closes p (t ∷ ts) ≡ closes (c ∷ p) ts
step-open [] t ts c e = rw (e, closes) refl
step-open (d ∷ p) t ts c e = rw (e, closes) refl

step-plain : (p : List Terminal) (t : Lexeme) (ts : List Lexeme) → opener t.terminal ≡ None → is_closer t.terminal ≡ false → closes p (t ∷ ts) ≡ closes p ts
step-plain [] t ts e f = rw (e, closes) (rw f refl)
step-plain (d ∷ p) t ts e f = rw (e, closes) (rw f refl)

step-close : (p : List Terminal) (t : Lexeme) (ts : List Lexeme) (c : Terminal) → opener t.terminal ≡ None → is_closer t.terminal ≡ true → closes (c ∷ p) (t ∷ ts) ≡ (is c t && closes p ts)
step-close p t ts c e f = rw (e, closes) (rw f refl)

step-none : (t : Lexeme) (ts : List Lexeme) → opener t.terminal ≡ None → is_closer t.terminal ≡ true → closes [] (t ∷ ts) ≡ false
step-none t ts e f = rw (e, closes) (rw f refl)

-- what closes is no opening one
closer_of : (x c : Terminal) → opener x ≡ Some c → (opener c ≡ None) × (is_closer c ≡ true)
closer_of w.OpenBrace c e = let h : w.CloseBrace ≡ c = cc in (rw (← h) refl, rw (← h) refl)
closer_of w.OpenBracket c e = let h : w.CloseBracket ≡ c = cc in (rw (← h) refl, rw (← h) refl)
closer_of w.OpenParen c e = let h : w.CloseParen ≡ c = cc in (rw (← h) refl, rw (← h) refl)
closer_of _ c e = absurd (never e)
  where
    never : {c : Terminal} → None ≡ Some c → ⊥
    never e = cc

runs : {ts : List Lexeme} → IsBalanced ts → (p : List Terminal) (rest : List Lexeme) → closes p (ts ++ rest) ≡ closes p rest
runs none p rest = refl
runs (plain {t} {ts} e f more) p rest = step-plain p t (ts ++ rest) e f ∙ runs more p rest
runs (pair {first} last inner ts e inside more) p rest =
    let c = closer_of first.terminal last.terminal e in
    let assoc : (inner ++ last ∷ ts) ++ rest ≡ inner ++ last ∷ (ts ++ rest) = append_assoc inner (last ∷ ts) rest in
    step-open p first ((inner ++ last ∷ ts) ++ rest) last.terminal e
    ∙ ap (closes (last.terminal ∷ p)) assoc
    ∙ runs inside (last.terminal ∷ p) (last ∷ (ts ++ rest))
    ∙ step-close p last (ts ++ rest) last.terminal c.0 c.1
    ∙ ap (λ b. b && closes p (ts ++ rest)) (true_same the_type last.terminal last.terminal refl)
    ∙ runs more p rest

-- each pending one is closed in turn, with pairs between
abbrev Closing : List Terminal → List Lexeme → Type 0
Closing [] ts = IsBalanced ts
Closing (c ∷ p) ts = (inner : List Lexeme) × (last : Lexeme) × (rest : List Lexeme) × (ts ≡ inner ++ last ∷ rest) × IsBalanced inner × (last.terminal ≡ c) × Closing p rest

along : {ts us : List Lexeme} → ts ≡ us → IsBalanced us → IsBalanced ts
along e b = rw e b

add_plain : (p : List Terminal) (t : Lexeme) (ts : List Lexeme) → opener t.terminal ≡ None → is_closer t.terminal ≡ false → Closing p ts → Closing p (t ∷ ts)
add_plain [] t ts e f c = plain e f c
add_plain (d ∷ p) t ts e f c = (t ∷ c.0, c.1, c.2, ap (λ l. t ∷ l) c.3, plain e f c.4, c.5, c.6)

add_pair : (p : List Terminal) (t : Lexeme) (ts : List Lexeme) (c : Terminal) → opener t.terminal ≡ Some c → Closing (c ∷ p) ts → Closing p (t ∷ ts)
add_pair [] t ts c e h = along (ap (λ l. t ∷ l) h.3) (pair h.1 h.0 h.2 (e ∙ ap Some (sym h.5)) h.4 h.6)
add_pair (d ∷ p) t ts c e h = (
  t ∷ h.0 ++ h.1 ∷ h.6.0,
  h.6.1,
  h.6.2,
  ap (λ l. t ∷ l) (h.3 ∙ ap (λ l. h.0 ++ h.1 ∷ l) h.6.3 ∙ sym (append_assoc h.0 (h.1 ∷ h.6.0) (h.6.1 ∷ h.6.2))),
  pair h.1 h.0 h.6.0 (e ∙ ap Some (sym h.5)) h.4 h.6.4,
  h.6.5,
  h.6.6,
)

both : (a b : Bool) → (a && b) ≡ true → (a ≡ true) × (b ≡ true)
both true true e = (refl, refl)
both true false e = cc
both false b e = cc

closing : (ts : List Lexeme) (p : List Terminal) → closes p ts ≡ true → Closing p ts
closing [] [] e = none
closing [] (c ∷ p) e = absurd (false≢true e)
closing (t ∷ ts) p e = by_opener (opener t.terminal) refl (closing ts)
  where
    at_closer : (q : List Terminal) → closes q (t ∷ ts) ≡ true → opener t.terminal ≡ None → is_closer t.terminal ≡ true → ((r : List Terminal) → closes r ts ≡ true → Closing r ts) → Closing q (t ∷ ts)
    at_closer [] h f g more = absurd (false≢true (sym (step-none t ts f g) ∙ h))
    at_closer (c ∷ q) h f g more =
        let b = both (is c t) (closes q ts) (sym (step-close q t ts c f g) ∙ h) in
        ([], t, ts, refl, none, same_true the_type (search refl) t.terminal c b.0, more q b.1)

    by_closer : (b : Bool) → is_closer t.terminal ≡ b → opener t.terminal ≡ None → ((r : List Terminal) → closes r ts ≡ true → Closing r ts) → Closing p (t ∷ ts)
    by_closer true g f more = at_closer p e f g more
    by_closer false g f more = add_plain p t ts f g (more p (sym (step-plain p t ts f g) ∙ e))

    by_opener : (o : Option Terminal) → opener t.terminal ≡ o → ((r : List Terminal) → closes r ts ≡ true → Closing r ts) → Closing p (t ∷ ts)
    by_opener (Some c) f more = add_pair p t ts c f (more (c ∷ p) (sym (step-open p t ts c f) ∙ e))
    by_opener None f more = by_closer (is_closer t.terminal) refl f more

pub balanced_is : (ts : List Lexeme) → IsTrue (is_balanced ts) → IsBalanced ts
balanced_is ts e = closing ts [] e

pub is_balanced_of : (ts : List Lexeme) → IsBalanced ts → IsTrue (is_balanced ts)
is_balanced_of ts b = ap (closes []) (sym (append-nil ts)) ∙ runs b [] []
