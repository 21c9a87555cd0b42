-- What the tokens of a text spell, one behind the other.
use Rattle.std.proofs.Common.{◌≡◌, ℕ, ◌+◌, ◌≤◌, List, [], ◌∷◌, ◌++◌, refl, sym, ap, subst, ◌∙◌, append_assoc, append-nil}
use Rattle.std.specs.List.{flat_map}
use Rattle.proto_tree.specs.declared.lexeme.Lexeme.{Lexeme}
use Rattle.proto_tree.specs.declared.node.Span.{Span}
use Rattle.proto_tree.specs.declared.node.TypeName.{TypeName}
use Rattle.proto_tree.specs.Grammar.{◌⊳◌, IsFull, IsIdent, IsType}
use Rattle.proto_laws.proofs.Rise.{Rise, rise-behind}

-- the tokens have in them, one behind the other, those that spell each of these
abbrev pub Spell : {X : Type 0} → (X → List Lexeme → Type 0) → List Lexeme → List X → Type 0
Spell P ts [] = Unit {0}
Spell P ts (x ∷ more) = (front : List Lexeme) × (its : List Lexeme) × (behind : List Lexeme) × (ts ≡ front ++ (its ++ behind)) × P x its × Spell P behind more

module _ {X : Type 0} (P : X → List Lexeme → Type 0) where
  pub spell-one : (x : X) (ts : List Lexeme) → P x ts → Spell P ts (x ∷ [])
  spell-one x ts p = ([], ts, [], sym (append-nil ts), p, tt)

  -- tokens before them
  pub spell-later : (front behind : List Lexeme) (xs : List X) → Spell P behind xs → Spell P (front ++ behind) xs
  spell-later front behind [] h = tt
  spell-later front behind (x ∷ more) h = (front ++ h.0, h.1, h.2, ap (λ l. front ++ l) h.3 ∙ sym (append_assoc front h.0 (h.1 ++ h.2)), h.4, h.5)

  longer : (ts front its behind more : List Lexeme) → ts ≡ front ++ (its ++ behind) → ts ++ more ≡ front ++ (its ++ (behind ++ more))
  longer ts front its behind more e = ap (λ l. l ++ more) e ∙ append_assoc front (its ++ behind) more ∙ ap (λ l. front ++ l) (append_assoc its behind more)

  pub spell-joined : (front behind : List Lexeme) (xs more : List X) → Spell P front xs → Spell P behind more → Spell P (front ++ behind) (xs ++ more)
  spell-joined front behind [] more h q = spell-later front behind more q
  spell-joined front behind (x ∷ xs) more h q = (h.0, h.1, h.2 ++ behind, longer front h.0 h.1 h.2 behind h.3, h.4, spell-joined h.2 behind xs more h.5 q)

  -- tokens behind them
  pub spell-sooner : (front behind : List Lexeme) (xs : List X) → Spell P front xs → Spell P (front ++ behind) xs
  spell-sooner front behind [] h = tt
  spell-sooner front behind (x ∷ xs) h = (h.0, h.1, h.2 ++ behind, longer front h.0 h.1 h.2 behind h.3, h.4, spell-sooner h.2 behind xs h.5)

  -- they stand in the form behind, in the form before, or in both
  pub spell-behind : {A B : List Lexeme → Type 0} (xs : List X) → ((rest : List Lexeme) → B rest → Spell P rest xs) → (ts : List Lexeme) → (A ⊳ B) ts → Spell P ts xs
  spell-behind xs q ts h = subst (λ l. Spell P l xs) (sym h.2) (spell-later h.0 h.1 xs (q h.1 h.4))

  pub spell-before : {A B : List Lexeme → Type 0} (xs : List X) → ((front : List Lexeme) → A front → Spell P front xs) → (ts : List Lexeme) → (A ⊳ B) ts → Spell P ts xs
  spell-before xs p ts h = subst (λ l. Spell P l xs) (sym h.2) (spell-sooner h.0 h.1 xs (p h.0 h.3))

  pub spell-turn : {A B : List Lexeme → Type 0} (xs more : List X) → ((front : List Lexeme) → A front → Spell P front xs) → ((rest : List Lexeme) → B rest → Spell P rest more) → (ts : List Lexeme) → (A ⊳ B) ts → Spell P ts (xs ++ more)
  spell-turn xs more p q ts h = subst (λ l. Spell P l (xs ++ more)) (sym h.2) (spell-joined h.0 h.1 xs more (p h.0 h.3) (q h.1 h.4))

-- what is spelled has parts that its own tokens spell
pub spell-parts : {X Y : Type 0} (P : X → List Lexeme → Type 0) (Q : Y → List Lexeme → Type 0) (parts : X → List Y) → ((x : X) (ts : List Lexeme) → P x ts → Spell Q ts (parts x))
    → (ts : List Lexeme) (xs : List X) → Spell P ts xs → Spell Q ts (flat_map parts xs)
spell-parts P Q parts each ts [] h = tt
spell-parts P Q parts each ts (x ∷ more) h =
    let all = parts x ++ flat_map parts more in
    subst (λ l. Spell Q l all) (sym h.3) (spell-later Q h.0 (h.1 ++ h.2) all (spell-joined Q h.1 h.2 (parts x) (flat_map parts more) (each x h.1 h.4) (spell-parts P Q parts each h.2 more h.5)))

-- ---- full names and types

pub full-spelled : (spans : List Span) (ts : List Lexeme) → IsFull spans ts → Spell IsIdent ts spans
full-spelled [] ts h = tt
full-spelled (s ∷ []) ts h = spell-one IsIdent s ts h
full-spelled (s ∷ t ∷ more) ts h =
    spell-turn IsIdent (s ∷ []) (t ∷ more) (spell-one IsIdent s) (spell-behind IsIdent (t ∷ more) (full-spelled (t ∷ more))) ts h

pub type-spelled : (t : TypeName) (ts : List Lexeme) → IsType t ts → Spell IsIdent ts t.components
type-spelled t ts h = spell-behind IsIdent t.components (full-spelled t.components) ts h.0

-- ---- in the order of the tokens

abbrev pub start_of : Lexeme → ℕ
start_of t = t.span.start

-- these tokens begin at this offset
abbrev pub BeginAt : ℕ → List Lexeme → Type 0
BeginAt at ts = (first : Lexeme) × (more : List Lexeme) × (ts ≡ first ∷ more) × (start_of first ≡ at)

pub spelled-rise : {X : Type 0} (P : X → List Lexeme → Type 0) (start : X → ℕ) → ((x : X) (ts : List Lexeme) → P x ts → BeginAt (start x) ts)
    → (at : ℕ) (ts : List Lexeme) (xs : List X) → Rise start_of at ts → Spell P ts xs → Rise start at xs
spelled-rise P start begins at ts [] up h = tt
spelled-rise P start begins at ts (x ∷ more) up h =
    let b = begins x h.1 h.4 in
    let here = rise-behind start_of at h.0 (b.0 ∷ b.1 ++ h.2) (subst (λ l. Rise start_of at (h.0 ++ (l ++ h.2))) b.2 (subst (Rise start_of at) h.3 up)) in
    let behind = spelled-rise P start begins (start_of b.0 + 1) h.2 more (rise-behind start_of (start_of b.0 + 1) b.1 h.2 here.1) h.5 in
    subst (λ n. (at ≤ n) × Rise start (n + 1) more) b.3 (here.0, behind)

pub ident-begins : (s : Span) (ts : List Lexeme) → IsIdent s ts → BeginAt s.start ts
ident-begins s ts h = (h.0, [], h.1, ap (λ span. span.start) h.3)

-- a type has some tokens, and begins with its dot or its first identifier
none-before : (front rest : List Lexeme) → [] ≡ front ++ rest → [] ≡ rest
none-before [] rest e = e
none-before (t ∷ front) rest e = cc

full-some : (spans : List Span) (ts : List Lexeme) → IsFull spans ts → [] ≡ ts → ⊥
full-some [] ts h e = h
full-some (s ∷ []) ts h e = let same : [] ≡ h.0 ∷ [] = e ∙ h.1 in cc (same)
full-some (s ∷ t ∷ more) ts h e = let same : [] ≡ h.3.0 ∷ h.1 = subst (λ l. [] ≡ l ++ h.1) h.3.1 (e ∙ h.2) in cc (same)

pub type-begins : (t : TypeName) (ts : List Lexeme) → IsType t ts → BeginAt t.span.start ts
type-begins t [] h = absurd (full-some t.components h.0.1 h.0.4 (none-before h.0.0 h.0.1 h.0.2))
type-begins t (u ∷ us) h = (u, us, refl, sym (ap (λ span. span.start) h.1))
