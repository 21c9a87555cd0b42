-- What is spelled as a part of a statement is read as it, whatever follows that can't belong to the part.
use Rattle.std.proofs.Common.{◌≡◌, ℕ, zero, suc, ◌+◌, ◌<◌, ◌≤◌, Bool, true, false, List, [], ◌∷◌, ◌++◌, length, map, Option, Some, refl, sym, ap, subst, ◌∙◌, arith, append_assoc, length-append}
use Rattle.std.specs.List.{AllPass}
use Rattle.std.proofs.lemmas.Bool.{false≢true}
use denote.Enum.Bare.{same_true, true_same}
use Rattle.proto_tree.specs.contracts.lexeme.Terminal.{the_type}
use Rattle.proto_tree.specs.declared.lexeme.Lexeme.{Lexeme}
use Rattle.proto_tree.specs.declared.lexeme.Terminal.{Terminal}
use Rattle.proto_tree.specs.declared.lexeme.Terminal.TheVariants as w
use Rattle.proto_tree.specs.declared.node.Literal.{Literal}
use Rattle.proto_tree.specs.declared.node.Number.{Number}
use Rattle.proto_tree.specs.declared.node.Span.{Span}
use Rattle.proto_tree.specs.declared.node.TypeName.{TypeName}
use Rattle.proto_tree.specs.Lexeme.{same_terminal, is_identifier}
use Rattle.proto_tree.specs.Cut.{begins}
use Rattle.proto_tree.specs.Parts.{Reader, ◌>>=◌, pure, and_then, one, eat, run, terminal, identifier, separated_by, separated, full, type_name, texts, literal_of, literal, number, between, last_of, span_of}
use Rattle.proto_tree.specs.Grammar.{◌⊳◌, IsTerminal, IsWordAt, IsIdent, IsFlag, IsSeparated, IsFull, IsType, IsLiteral, IsNumber}
use Rattle.proto_laws.proofs.GrammarLemmas.{type_span, number_span, spanned}

-- ---- the first token

-- a token or more, and the first one's terminal passes
pub record Starts (fits : Terminal → Bool) (ts : List Lexeme) : Type 0 where
  pub first : Lexeme
  pub more : List Lexeme
  pub whole : ts ≡ first ∷ more
  pub passes : fits first.terminal ≡ true

abbrev pub is_terminal : Terminal → Terminal → Bool
is_terminal it x = same_terminal x it

pub starts_before : {fits : Terminal → Bool} {front : List Lexeme} (rest : List Lexeme) → Starts fits front → Starts fits (front ++ rest)
starts_before rest s = record { first = s.first; more = s.more ++ rest; whole = ap (λ l. l ++ rest) s.whole; passes = s.passes }

-- a form, and behind it another, start as the first one does
pub starts_turn : {fits : Terminal → Bool} {ts : List Lexeme} (P Q : List Lexeme → Type 0) → ((front : List Lexeme) → P front → Starts fits front) → (P ⊳ Q) ts → Starts fits ts
starts_turn {fits} P Q s h = subst (Starts fits) (sym h.2) (starts_before h.1 (s h.0 h.3))

pub is_same : (it : Terminal) → same_terminal it it ≡ true
is_same it = true_same the_type it it refl

pub starts_terminal : (it : Terminal) (ts : List Lexeme) → IsTerminal it ts → Starts (is_terminal it) ts
starts_terminal it ts h = record { first = h.0; more = []; whole = h.1; passes = ap (is_terminal it) h.2 ∙ is_same it }

pub starts_terminal_at : (it : Terminal) (span : Span) (ts : List Lexeme) → IsWordAt it span ts → Starts (is_terminal it) ts
starts_terminal_at it span ts h = starts_terminal it ts (h.0, h.1, h.2)

pub starts_ident : (span : Span) (ts : List Lexeme) → IsIdent span ts → Starts is_identifier ts
starts_ident span ts h = record { first = h.0; more = []; whole = h.1; passes = h.2 }

-- a terminal that passes is none that doesn't
pub differs : (fits : Terminal → Bool) (x it : Terminal) → fits x ≡ true → fits it ≡ false → same_terminal x it ≡ false
differs fits x it e f = by (same_terminal x it) refl
  where
    by : (b : Bool) → same_terminal x it ≡ b → same_terminal x it ≡ false
    by true g = absurd (false≢true (sym f ∙ ap fits (sym (same_true the_type (search refl) x it g)) ∙ e))
    by false g = g

pub starts_not : {fits : Terminal → Bool} {ts : List Lexeme} (it : Terminal) → Starts fits ts → fits it ≡ false → begins it ts ≡ false
starts_not {fits} it s f = ap (begins it) s.whole ∙ differs fits s.first.terminal it s.passes f

pub starts_as : {ts : List Lexeme} (it : Terminal) → Starts (is_terminal it) ts → begins it ts ≡ true
starts_as it s = ap (begins it) s.whole ∙ s.passes

-- ---- readers in turn

pub read_then : {A B : Type 0} (r : Reader A) (f : A → Reader B) (ts here : List Lexeme) (a : A) (out : Option (B × List Lexeme)) → r ts ≡ Some (a, here) → f a here ≡ out → (r >>= f) ts ≡ out
read_then {A} r f ts here a out e g = ap (λ (o : Option (A × List Lexeme)). and_then o f) e ∙ g

-- The first of two parts is read, and behind it the second.
pub step_at : {A B : Type 0} (r : Reader A) (f : A → Reader B) (P Q : List Lexeme → Type 0) (a : A) (out : Option (B × List Lexeme)) (ts rest : List Lexeme) (h : (P ⊳ Q) ts) → r (h.0 ++ (h.1 ++ rest)) ≡ Some (a, h.1 ++ rest) → f a (h.1 ++ rest) ≡ out
    → (r >>= f) (ts ++ rest) ≡ out
step_at r f P Q a out ts rest h p q = read_then r f (ts ++ rest) (h.1 ++ rest) a out (ap r (ap (λ l. l ++ rest) h.2 ∙ append_assoc h.0 h.1 rest) ∙ p) q

-- the same, where nothing else is known of where the first part ends
pub step : {A B : Type 0} (r : Reader A) (f : A → Reader B) (P Q : List Lexeme → Type 0) (a : A) (out : Option (B × List Lexeme)) (ts rest : List Lexeme) → (P ⊳ Q) ts
    → ((front back : List Lexeme) → P front → Q back → r (front ++ (back ++ rest)) ≡ Some (a, back ++ rest)) → ((back : List Lexeme) → Q back → f a (back ++ rest) ≡ out) → (r >>= f) (ts ++ rest) ≡ out
step r f P Q a out ts rest h p q = step_at r f P Q a out ts rest h (p h.0 h.1 h.3 h.4) (q h.1 h.4)

read_one : (fits : Terminal → Bool) (t : Lexeme) (rest : List Lexeme) → fits t.terminal ≡ true → one fits (t ∷ rest) ≡ Some (t.span, rest)
unfolding one
read_one fits t rest e = rw e refl

read_front : (fits : Terminal → Bool) (t : Lexeme) (front rest : List Lexeme) → front ≡ t ∷ [] → fits t.terminal ≡ true → one fits (front ++ rest) ≡ Some (t.span, rest)
read_front fits t front rest e f = ap (λ l. one fits (l ++ rest)) e ∙ read_one fits t rest f

pub read_ident : (name : Span) (front rest : List Lexeme) → IsIdent name front → identifier (front ++ rest) ≡ Some (name, rest)
read_ident name front rest h = read_front is_identifier h.0 front rest h.1 h.2 ∙ ap (λ (s : Span). Some (s, rest)) h.3

pub read_terminal_at : (it : Terminal) (span : Span) (front rest : List Lexeme) → IsWordAt it span front → terminal it (front ++ rest) ≡ Some (span, rest)
read_terminal_at it span front rest h = read_front (is_terminal it) h.0 front rest h.1 (ap (is_terminal it) h.2 ∙ is_same it) ∙ ap (λ (s : Span). Some (s, rest)) h.3

pub at_terminal : {it : Terminal} {ts : List Lexeme} (h : IsTerminal it ts) → IsWordAt it h.0.span ts
at_terminal h = (h.0, h.1, h.2, refl)

-- a terminal, and what is behind it
pub step_terminal : {B : Type 0} (it : Terminal) (f : Span → Reader B) (Q : List Lexeme → Type 0) (out : Option (B × List Lexeme)) (ts rest : List Lexeme) → (IsTerminal it ⊳ Q) ts
    → ((s : Span) (back : List Lexeme) → Q back → f s (back ++ rest) ≡ out) → (terminal it >>= f) (ts ++ rest) ≡ out
step_terminal it f Q out ts rest h q =
    let named : (IsWordAt it h.3.0.span ⊳ Q) ts = (h.0, h.1, h.2, at_terminal h.3, h.4) in
    step (terminal it) f (IsWordAt it h.3.0.span) Q h.3.0.span out ts rest named (λ front back p more. read_terminal_at it h.3.0.span front (back ++ rest) p) (q h.3.0.span)

-- a terminal at the end
pub last_terminal : {B : Type 0} (it : Terminal) (f : Span → Reader B) (out : Option (B × List Lexeme)) (ts rest : List Lexeme) → IsTerminal it ts → ((s : Span) → f s rest ≡ out) → (terminal it >>= f) (ts ++ rest) ≡ out
last_terminal it f out ts rest h q = read_then (terminal it) f (ts ++ rest) rest h.0.span out (read_terminal_at it h.0.span ts rest (at_terminal h)) (q h.0.span)

eat_not : (it : Terminal) (ts : List Lexeme) → begins it ts ≡ false → eat it ts ≡ Some (false, ts)
unfolding eat
eat_not it [] e = refl
eat_not it (t ∷ ts) e = rw e refl

eat_it : (it : Terminal) (t : Lexeme) (ts : List Lexeme) → t.terminal ≡ it → eat it (t ∷ ts) ≡ Some (true, ts)
unfolding eat
eat_it it t ts e = rw (ap (is_terminal it) e ∙ is_same it) refl

-- a flag is read where the terminal doesn't follow by chance
pub read_flag : (it : Terminal) (flag : Bool) (front rest : List Lexeme) → IsFlag it flag front → (flag ≡ false → begins it rest ≡ false) → eat it (front ++ rest) ≡ Some (flag, rest)
read_flag it true front rest h none = ap (λ l. eat it (l ++ rest)) h.1 ∙ eat_it it h.0 rest h.2
read_flag it false front rest h none = ap (λ l. eat it (l ++ rest)) h ∙ eat_not it rest (none refl)

-- ---- entries with separators

-- one entry at least
some_entries : {A : Type 0} (separator : Terminal) (P : A → List Lexeme → Type 0) (xs : List A) (ts : List Lexeme) → ((x : A) (front : List Lexeme) → P x front → 0 < length front) → IsSeparated separator P xs ts → length xs ≤ length ts
some_entries separator P [] ts some h = absurd h
some_entries separator P (x ∷ []) ts some h = let one = some x ts h in omega (arith, one)
some_entries separator P (x ∷ y ∷ more) ts some h =
    let first = some x h.0 h.3 in
    let others = some_entries separator P (y ∷ more) h.4.1 some h.4.4 in
    let len : length ts ≡ length h.0 + (length h.4.0 + length h.4.1) = ap length h.2 ∙ length-append h.0 h.1 ∙ ap (λ k. length h.0 + k) (ap length h.4.2 ∙ length-append h.4.0 h.4.1) in
    omega (arith, first, others, len)

read_separated_by : {A : Type 0} (separator : Terminal) (item : Reader A) (P : A → List Lexeme → Type 0) (Q : List Lexeme → Type 0) → ((x : A) (front rest : List Lexeme) → P x front → Q rest → item (front ++ rest) ≡ Some (x, rest))
    → ((ts : List Lexeme) → begins separator ts ≡ true → Q ts) → (n : ℕ) (xs : List A) (ts rest : List Lexeme) → length xs ≤ n → IsSeparated separator P xs ts → Q rest → begins separator rest ≡ false
    → separated_by separator item n (ts ++ rest) ≡ Some (xs, rest)
read_separated_by separator item P Q reads between n [] ts rest few h q none = absurd h
read_separated_by separator item P Q reads between zero (x ∷ xs) ts rest few h q none = absurd (omega (arith, few))
read_separated_by separator item P Q reads between (suc n) (x ∷ []) ts rest few h q none = rw (reads x ts rest h q, eat_not separator rest none) refl
read_separated_by separator item P Q reads between (suc n) (x ∷ y ∷ more) ts rest few h q none =
    let mark = h.4.3 in
    let behind : h.1 ++ rest ≡ mark.0 ∷ (h.4.1 ++ rest) = ap (λ l. l ++ rest) (h.4.2 ∙ ap (λ l. l ++ h.4.1) mark.1) in
    let whole : ts ++ rest ≡ h.0 ++ (h.1 ++ rest) = ap (λ l. l ++ rest) h.2 ∙ append_assoc h.0 h.1 rest in
    let follows : Q (h.1 ++ rest) = between (h.1 ++ rest) (ap (begins separator) behind ∙ ap (is_terminal separator) mark.2 ∙ is_same separator) in
    let first : item (ts ++ rest) ≡ Some (x, h.1 ++ rest) = ap item whole ∙ reads x h.0 (h.1 ++ rest) h.3 follows in
    let second : eat separator (h.1 ++ rest) ≡ Some (true, h.4.1 ++ rest) = ap (eat separator) behind ∙ eat_it separator mark.0 (h.4.1 ++ rest) mark.2 in
    let others = read_separated_by separator item P Q reads between n (y ∷ more) h.4.1 rest (omega (arith, few)) h.4.4 q none in
    rw (first, second, others) refl

pub read_separated : {A : Type 0} (separator : Terminal) (item : Reader A) (P : A → List Lexeme → Type 0) (Q : List Lexeme → Type 0) → ((x : A) (front rest : List Lexeme) → P x front → Q rest → item (front ++ rest) ≡ Some (x, rest))
    → ((ts : List Lexeme) → begins separator ts ≡ true → Q ts) → ((x : A) (front : List Lexeme) → P x front → 0 < length front) → (xs : List A) (ts rest : List Lexeme) → IsSeparated separator P xs ts → Q rest → begins separator rest ≡ false
    → separated separator item (ts ++ rest) ≡ Some (xs, rest)
unfolding separated
read_separated separator item P Q reads between some xs ts rest h q none =
    let few = some_entries separator P xs ts some h in
    let len = length-append ts rest in
    read_separated_by separator item P Q reads between (length (ts ++ rest)) xs ts rest (omega (arith, few, len)) h q none

-- entries start as the first one does
pub starts_separated : {A : Type 0} {fits : Terminal → Bool} (separator : Terminal) (P : A → List Lexeme → Type 0) (xs : List A) (ts : List Lexeme) → ((x : A) (front : List Lexeme) → P x front → Starts fits front) → IsSeparated separator P xs ts → Starts fits ts
starts_separated separator P [] ts s h = absurd h
starts_separated separator P (x ∷ []) ts s h = s x ts h
starts_separated separator P (x ∷ y ∷ more) ts s h = starts_turn (P x) _ (s x) h

pub some_of : {fits : Terminal → Bool} {ts : List Lexeme} → Starts fits ts → 0 < length ts
some_of s = let len = ap length s.whole in omega (arith, len)

-- ---- names

pub read_full : (names : List Span) (ts rest : List Lexeme) → IsFull names ts → begins w.Dot rest ≡ false → full (ts ++ rest) ≡ Some (names, rest)
read_full names ts rest h none =
    read_separated w.Dot identifier IsIdent (λ l. Unit {0}) (λ name front rest p q. read_ident name front rest p) (λ ts dot. tt) (λ name front p. some_of (starts_ident name front p)) names ts rest h tt none

pub starts_full : (names : List Span) (ts : List Lexeme) → IsFull names ts → Starts is_identifier ts
starts_full names ts h = starts_separated w.Dot IsIdent names ts starts_ident h

-- an identifier or a dot
abbrev pub in_type : Terminal → Bool
in_type w.Dot = true
in_type x = is_identifier x

identifier_in_type : (x : Terminal) → is_identifier x ≡ true → in_type x ≡ true
identifier_in_type w.Dot e = refl
identifier_in_type x e = e

pub starts_type : (name : TypeName) (ts : List Lexeme) → IsType name ts → Starts in_type ts
starts_type name ts h = by name.is_absolute h.0
  where
    by : (absolute : Bool) → (IsFlag w.Dot absolute ⊳ IsFull name.components) ts → Starts in_type ts
    by true g = record { first = g.3.0; more = g.1; whole = g.2 ∙ ap (λ l. l ++ g.1) g.3.1; passes = ap in_type g.3.2 }
    by false g =
        let s = starts_full name.components g.1 g.4 in
        record { first = s.first; more = s.more; whole = g.2 ∙ ap (λ l. l ++ g.1) g.3 ∙ s.whole; passes = identifier_in_type s.first.terminal s.passes }

-- the name that is read where this token stands first
typed : Lexeme → Bool → List Span → TypeName
typed t absolute components = record { span = between t.span (last_of t.span components); is_absolute = absolute; components = components }

read_typed : (t : Lexeme) (name : TypeName) (front rest : List Lexeme) → (IsFlag w.Dot name.is_absolute ⊳ IsFull name.components) front → begins w.Dot rest ≡ false
    → (eat w.Dot >>= (λ absolute. full >>= (λ components. pure (typed t absolute components)))) (front ++ rest) ≡ Some (typed t name.is_absolute name.components, rest)
read_typed t name front rest h none =
    step (eat w.Dot) _ (IsFlag w.Dot name.is_absolute) (IsFull name.components) name.is_absolute _ front rest h
    (λ dot names p q. read_flag w.Dot name.is_absolute dot (names ++ rest) p (λ e. starts_not w.Dot (starts_before rest (starts_full name.components names q)) refl))
    (λ names q. read_then full _ (names ++ rest) rest name.components _ (read_full name.components names rest q none) refl)

type_at : (t : Lexeme) (ts : List Lexeme) (name : TypeName) (front rest : List Lexeme) → front ++ rest ≡ t ∷ ts → IsType name front → begins w.Dot rest ≡ false → type_name (t ∷ ts) ≡ Some (name, rest)
unfolding type_name typed
type_at t ts name front rest e h none =
    let span : between t.span (last_of t.span name.components) ≡ name.span = type_span t ts name.components name.is_absolute front rest (sym e) h.0 ∙ sym h.1 in
    ap (eat w.Dot >>= (λ absolute. full >>= (λ components. pure (typed t absolute components)))) (sym e) ∙ read_typed t name front rest h.0 none
    ∙ ap (λ (at : Span). Some (record { span = at; is_absolute = name.is_absolute; components = name.components }, rest)) span

pub read_type : (name : TypeName) (front rest : List Lexeme) → IsType name front → begins w.Dot rest ≡ false → type_name (front ++ rest) ≡ Some (name, rest)
read_type name front rest h none =
    let s = starts_type name front h in
    let whole : front ++ rest ≡ s.first ∷ (s.more ++ rest) = ap (λ l. l ++ rest) s.whole in
    ap type_name whole ∙ type_at s.first (s.more ++ rest) name front rest whole h none

-- ---- literals and numbers

read_run : (fits : Terminal → Bool) (ts rest : List Lexeme) → AllPass (λ t. fits t.terminal) ts → ((t : Lexeme) (more : List Lexeme) → rest ≡ t ∷ more → fits t.terminal ≡ false) → run fits (ts ++ rest) ≡ (map (λ t. t.span) ts, rest)
unfolding run
read_run fits [] [] all none = refl
read_run fits [] (t ∷ more) all none = rw (none t more refl) refl
read_run fits (t ∷ ts) rest all none =
    let first : fits t.terminal ≡ true = all 0 t (omega arith) in
    let more = read_run fits ts rest (λ k d lt. all (suc k) d (omega (arith, lt))) none in
    rw (first, more) refl

pub starts_literal : (it : Literal) (ts : List Lexeme) → IsLiteral it ts → Starts (is_terminal w.PlainText) ts
starts_literal it [] h = absurd (h.2 refl)
starts_literal it (t ∷ ts) h = record { first = t; more = ts; whole = refl; passes = h.1 0 t (omega arith) }

pub read_literal : (it : Literal) (front rest : List Lexeme) → IsLiteral it front → begins w.PlainText rest ≡ false → literal (front ++ rest) ≡ Some (it, rest)
unfolding literal
read_literal it front rest h none =
    let run = read_run (is_terminal w.PlainText) front rest h.1 (λ t more e. sym (ap (begins w.PlainText) e) ∙ none) in
    let spans : texts (front ++ rest) ≡ (it.parts, rest) = run ∙ ap (λ (l : List Span). (l, rest)) h.0 in
    ap literal_of spans ∙ whole it.parts refl
  where
    empty : (ts : List Lexeme) → ¬ (ts ≡ []) → map (λ t. t.span) ts ≡ [] → ⊥
    empty [] some e = some refl
    empty (t ∷ ts) some e = cc

    whole : (parts : List Span) → it.parts ≡ parts → literal_of (it.parts, rest) ≡ Some (it, rest)
    whole [] e = absurd (empty front h.2 (h.0 ∙ e))
    whole (s ∷ ss) e =
        let span : between s (last_of s ss) ≡ it.span = spanned front s ss (h.0 ∙ e) ∙ sym h.3 in
        ap (λ (l : List Span). literal_of (l, rest)) e ∙ ap (λ (at : Span). Some (record { span = at; parts = s ∷ ss }, rest)) span ∙ ap (λ (l : List Span). Some (record { span = it.span; parts = l }, rest)) (sym e)

-- a minus or an integer
abbrev pub in_number : Terminal → Bool
in_number w.Minus = true
in_number w.Int = true
in_number _ = false

pub starts_number : (may_be_negative : Bool) (n : Number) (ts : List Lexeme) → IsNumber may_be_negative n ts → Starts in_number ts
starts_number may_be_negative n ts h = by n.is_negative h.0
  where
    by : (minus : Bool) → (IsFlag w.Minus minus ⊳ IsWordAt w.Int n.digits) ts → Starts in_number ts
    by true g = record { first = g.3.0; more = g.1; whole = g.2 ∙ ap (λ l. l ++ g.1) g.3.1; passes = ap in_number g.3.2 }
    by false g = record { first = g.4.0; more = []; whole = g.2 ∙ ap (λ l. l ++ g.1) g.3 ∙ g.4.1; passes = ap in_number g.4.2 }

abbrev counted : Lexeme → Bool → Span → Number
counted t minus digits = record { span = between t.span digits; is_negative = minus; digits = digits }

number_at : (t : Lexeme) (ts : List Lexeme) (n : Number) (front rest : List Lexeme) → front ++ rest ≡ t ∷ ts → IsNumber true n front → number true (t ∷ ts) ≡ Some (n, rest)
unfolding number
number_at t ts n front rest e h =
    let span : between t.span n.digits ≡ n.span = number_span t ts n.digits n.is_negative front rest (sym e) h.0 ∙ sym h.2 in
    let read : (eat w.Minus >>= (λ minus. terminal w.Int >>= (λ digits. pure (counted t minus digits)))) (front ++ rest) ≡ Some (counted t n.is_negative n.digits, rest) =
    step (eat w.Minus) _ (IsFlag w.Minus n.is_negative) (IsWordAt w.Int n.digits) n.is_negative _ front rest h.0
    (λ mark int p q. read_flag w.Minus n.is_negative mark (int ++ rest) p (λ g. starts_not w.Minus (starts_before rest (starts_terminal_at w.Int n.digits int q)) refl))
    (λ int q. read_then (terminal w.Int) _ (int ++ rest) rest n.digits _ (read_terminal_at w.Int n.digits int rest q) refl) in
    ap (eat w.Minus >>= (λ minus. terminal w.Int >>= (λ digits. pure (counted t minus digits)))) (sym e) ∙ read ∙ ap (λ (at : Span). Some (record { span = at; is_negative = n.is_negative; digits = n.digits }, rest)) span

pub read_number : (may_be_negative : Bool) (n : Number) (front rest : List Lexeme) → IsNumber may_be_negative n front → number may_be_negative (front ++ rest) ≡ Some (n, rest)
unfolding number
read_number true n front rest h =
    let s = starts_number true n front h in
    let whole : front ++ rest ≡ s.first ∷ (s.more ++ rest) = ap (λ l. l ++ rest) s.whole in
    ap (number true) whole ∙ number_at s.first (s.more ++ rest) n front rest whole h
read_number false n front rest h = by n.is_negative refl h.0
  where
    by : (minus : Bool) → n.is_negative ≡ minus → (IsFlag w.Minus minus ⊳ IsWordAt w.Int n.digits) front → number false (front ++ rest) ≡ Some (n, rest)
    by true e g = absurd (false≢true (h.1 e))
    by false e g =
        let int : IsWordAt w.Int n.digits front = (g.4.0, g.2 ∙ ap (λ l. l ++ g.1) g.3 ∙ g.4.1, g.4.2, g.4.3) in
        let span : n.digits ≡ n.span = sym int.3 ∙ sym (ap span_of int.1) ∙ sym h.2 in
        read_then (terminal w.Int) _ (front ++ rest) rest n.digits _ (read_terminal_at w.Int n.digits front rest int)
        (ap (λ (at : Span). Some (record { span = at; is_negative = false; digits = n.digits }, rest)) span ∙ ap (λ (minus : Bool). Some (record { span = n.span; is_negative = minus; digits = n.digits }, rest)) (sym e))
