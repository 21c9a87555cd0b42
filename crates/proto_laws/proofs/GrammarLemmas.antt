-- What the readers of statements read is spelled so.
use Rattle.std.proofs.Common.{◌≡◌, inl, inr, ℕ, zero, suc, ◌-◌, Bool, true, false, List, [], ◌∷◌, ◌++◌, length, take, All, map, Option, Some, None, refl, sym, ap, subst, ◌∙◌, arith, cond, append_assoc, append-nil, length-take}
use Rattle.std.specs.Prelude.{IsTrue, ◌&&◌}
use Rattle.std.specs.List.{AllPass}
use Rattle.std.proofs.lemmas.Bool.{false≢true}
use Rattle.std.proofs.lemmas.List.{take-take}
use denote.Enum.Bare.{same_true}
use Rattle.proto_tree.specs.contracts.lexeme.Terminal.{the_type}
use Rattle.proto_tree.specs.declared.lexeme.Lexeme.{Lexeme}
use Rattle.proto_tree.specs.declared.lexeme.Body.{Body}
use Rattle.proto_tree.specs.declared.lexeme.Body.TheVariants as b
use Rattle.proto_tree.specs.declared.lexeme.Terminal.{Terminal}
use Rattle.proto_tree.specs.declared.lexeme.Terminal.TheVariants as w
use Rattle.proto_tree.specs.declared.node.Header.{Header}
use Rattle.proto_tree.specs.declared.node.Header.TheVariants as header
use Rattle.proto_tree.specs.declared.node.Node.{Node}
use Rattle.proto_tree.specs.declared.node.Node.TheVariants as node
use Rattle.proto_tree.specs.declared.node.Number.{Number}
use Rattle.proto_tree.specs.declared.node.RangeEnd.{RangeEnd}
use Rattle.proto_tree.specs.declared.node.RangeEnd.TheVariants as bound
use Rattle.proto_tree.specs.declared.node.ReservedList.{ReservedList}
use Rattle.proto_tree.specs.declared.node.ReservedList.TheVariants.{Ranges, Names}
use Rattle.proto_tree.specs.declared.node.Span.{Span}
use Rattle.proto_tree.specs.declared.node.TypeName.{TypeName}
use Rattle.proto_tree.specs.Lexeme.{is, same_terminal, is_identifier}
use Rattle.proto_tree.specs.Cut.{ends_in, begins}
use Rattle.proto_tree.specs.Parts.{Reader, ◌>>=◌, ◌>>◌, pure, nothing, if_all, and_then, one, eat, run, terminal, identifier, separated_by, separated, full, type_name, texts, literal_of, literal, number, but_last, is_content, is_options_end, rest_if, between, last_of, last_span, span_of}
use Rattle.proto_tree.specs.Forms.{option_parts, block_name, extend_header, group_header, in_parentheses, rpc_header, header_form, header_and_brace, header_and_rest, numbered, is_label, label, labels_given, labels, plain_field, map_field, field, field_or_map, begins_map, syntax_form, import_form, package_form, value_form, empty_form, rpc_form, rpc_of, option_part, option_value, option_form, named_from, range_end, range, ranges, literals, reserved_list, reserved_form, form, statement}
use Rattle.proto_tree.specs.Grammar.{◌⊳◌, IsTerminal, IsWordAt, IsIdent, IsFlag, IsSeparated, IsFull, IsType, IsLiteral, IsNumber, IsLabels, begins_with_label, AreAllLabels, IsAt, IsContent, IsFieldEnd, IsOptionPart, IsOptionName, IsRangeEnd, IsRange, IsReservedList, IsInParentheses, IsHeader, IsModifier, Spells, is_syntax, is_import, is_package, is_option, is_field, is_map_field, is_value, is_reserved_in_message, is_reserved_in_enum, is_rpc, is_empty, may_be_field, has_options, is_listed_in_enum}
use Rattle.proto_laws.proofs.BracketsLaw.{balanced_is}
use Rattle.proto_tree.proofs.PartLemmas.{pair_is}
use Rattle.proto_tree.proofs.SuffixLemmas.{never}

-- what is read is spelled so, and the rest is left
abbrev pub Gives : {A : Type 0} → Reader A → (A → List Lexeme → Type 0) → Type 0
Gives {A} r P = (ts : List Lexeme) (a : A) (rest : List Lexeme) → r ts ≡ Some (a, rest) → (front : List Lexeme) × (ts ≡ front ++ rest) × P a front

pub turn : {P Q : List Lexeme → Type 0} (a b : List Lexeme) → P a → Q b → (P ⊳ Q) (a ++ b)
turn a b p q = (a, b, refl, p, q)

-- one reader behind another
pub after : {A B : Type 0} (r : Reader A) (f : A → Reader B) (T : B → List Lexeme → Type 0) {P : A → List Lexeme → Type 0} → Gives r P → ((a : A) (front : List Lexeme) → P a front → Gives (f a) (λ b back. T b (front ++ back))) → Gives (r >>= f) T
after {A} {B} r f T {P} p q ts b rest e = at (r ts) refl e
  where
    at : (o : Option (A × List Lexeme)) → r ts ≡ o → and_then o f ≡ Some (b, rest) → (front : List Lexeme) × (ts ≡ front ++ rest) × T b front
    at None g h = never h
    at (Some x) g h =
        let first = p ts x.0 x.1 g in
        let second = q x.0 first.0 first.2 x.1 b rest h in
        (first.0 ++ second.0, first.1 ∙ ap (λ l. first.0 ++ l) second.1 ∙ sym (append_assoc first.0 second.0 rest), second.2)

-- One reader behind another, where what the first one gives is also said of the tokens that it leaves.
pub after_at : {A B : Type 0} (ts : List Lexeme) (r : Reader A) (f : A → Reader B) (T : B → List Lexeme → Type 0) {P : A → List Lexeme → List Lexeme → Type 0}
    → ((a : A) (here : List Lexeme) → r ts ≡ Some (a, here) → (front : List Lexeme) × (ts ≡ front ++ here) × P a front here)
    → ((a : A) (front here : List Lexeme) → ts ≡ front ++ here → P a front here → (b : B) (rest : List Lexeme) → f a here ≡ Some (b, rest) → (back : List Lexeme) × (here ≡ back ++ rest) × T b (front ++ back))
    → (b : B) (rest : List Lexeme) → (r >>= f) ts ≡ Some (b, rest) → (front : List Lexeme) × (ts ≡ front ++ rest) × T b front
after_at {A} {B} ts r f T {P} p q b rest e = at (r ts) refl e
  where
    at : (o : Option (A × List Lexeme)) → r ts ≡ o → and_then o f ≡ Some (b, rest) → (front : List Lexeme) × (ts ≡ front ++ rest) × T b front
    at None g h = never h
    at (Some x) g h =
        let first = p x.0 x.1 g in
        let second = q x.0 first.0 x.1 first.1 first.2 b rest h in
        (first.0 ++ second.0, first.1 ∙ ap (λ l. first.0 ++ l) second.1 ∙ sym (append_assoc first.0 second.0 rest), second.2)

-- a last reader, and the value that stands for all
pub last : {A B : Type 0} (r : Reader A) (f : A → B) (T : B → List Lexeme → Type 0) {P : A → List Lexeme → Type 0} → Gives r P → ((a : A) (front : List Lexeme) → P a front → T (f a) front) → Gives (r >>= (λ a. pure (f a))) T
last {A} {B} r f T {P} p q ts b rest e = at (r ts) refl e
  where
    at : (o : Option (A × List Lexeme)) → r ts ≡ o → and_then o (λ a. pure (f a)) ≡ Some (b, rest) → (front : List Lexeme) × (ts ≡ front ++ rest) × T b front
    at None g h = never h
    at (Some x) g h =
        let first = p ts x.0 x.1 g in
        let same = pair_is h in
        (first.0, first.1 ∙ ap (λ l. first.0 ++ l) same.1, subst (λ y. T y first.0) same.0 (q x.0 first.0 first.2))

gives-one : (fits : Terminal → Bool) → Gives (one fits) (λ s ts. (t : Lexeme) × (ts ≡ t ∷ []) × IsTrue (fits t.terminal) × (t.span ≡ s))
unfolding one
gives-one fits [] a rest e = never e
gives-one fits (t ∷ ts) a rest e = by (fits t.terminal) refl e
  where
    by : (b : Bool) → fits t.terminal ≡ b → ◌≡◌ {A = Option (Span × List Lexeme)} (cond {A = Option (Span × List Lexeme)} b (Some (t.span, ts)) None) (Some (a, rest)) → (front : List Lexeme) × (t ∷ ts ≡ front ++ rest) × ((u : Lexeme) × (front ≡ u ∷ []) × IsTrue (fits u.terminal) × (u.span ≡ a))
    by true f e = (t ∷ [], ap (λ l. t ∷ l) (pair_is e).1, (t, refl, f, (pair_is e).0))
    by false f e = never e

pub gives-identifier : Gives identifier IsIdent
gives-identifier = gives-one is_identifier

pub gives-terminal_at : (it : Terminal) → Gives (terminal it) (IsWordAt it)
gives-terminal_at it ts a rest e =
    let g = gives-one (λ x. same_terminal x it) ts a rest e in
    (g.0, g.1, (g.2.0, g.2.1, same_true the_type (search refl) g.2.0.terminal it g.2.2, g.2.3))

pub gives-terminal : (it : Terminal) → Gives (terminal it) (λ s. IsTerminal it)
gives-terminal it ts a rest e =
    let g = gives-terminal_at it ts a rest e in
    (g.0, g.1, (g.2.0, g.2.1, g.2.2))

pub gives-eat : (it : Terminal) → Gives (eat it) (IsFlag it)
unfolding eat
gives-eat it [] a rest e = by a (pair_is e).0 (pair_is e).1
  where
    by : (a : Bool) → false ≡ a → [] ≡ rest → (front : List Lexeme) × ([] ≡ front ++ rest) × IsFlag it a front
    by true f g = absurd (false≢true f)
    by false f g = ([], g, refl)
gives-eat it (t ∷ ts) a rest e = by (is it t) refl e
  where
    made : (x a : Bool) (front : List Lexeme) → x ≡ a → IsFlag it x front → IsFlag it a front
    made x a front same h = subst (λ y. IsFlag it y front) same h

    by : (b : Bool) → is it t ≡ b → ◌≡◌ {A = Option (Bool × List Lexeme)} (cond {A = Option (Bool × List Lexeme)} b (Some (true, ts)) (Some (false, t ∷ ts))) (Some (a, rest)) → (front : List Lexeme) × (t ∷ ts ≡ front ++ rest) × IsFlag it a front
    by true f e = (t ∷ [], ap (λ l. t ∷ l) (pair_is e).1, made true a (t ∷ []) (pair_is e).0 (t, refl, same_true the_type (search refl) t.terminal it f))
    by false f e = ([], (pair_is e).1, made false a [] (pair_is e).0 refl)

-- what no front begins with, its own front does not
begins_less : (it : Terminal) (front rest : List Lexeme) → begins it (front ++ rest) ≡ false → begins it front ≡ false
begins_less it [] rest e = refl
begins_less it (t ∷ front) rest e = e

-- the flag, which says whether the terminal stands in front
eats : (it : Terminal) (ts : List Lexeme) (a : Bool) (rest : List Lexeme) → eat it ts ≡ Some (a, rest) → begins it ts ≡ a
unfolding eat
eats it [] a rest e = (pair_is e).0
eats it (t ∷ ts) a rest e = by (is it t) refl e
  where
    by : (b : Bool) → is it t ≡ b → ◌≡◌ {A = Option (Bool × List Lexeme)} (cond {A = Option (Bool × List Lexeme)} b (Some (true, ts)) (Some (false, t ∷ ts))) (Some (a, rest)) → is it t ≡ a
    by true f e = f ∙ (pair_is e).0
    by false f e = f ∙ (pair_is e).0

-- the flag of a front, where the terminal is known to stand before all that follows, or not to
flag_begins : (it : Terminal) (flag : Bool) (mark back rest : List Lexeme) → IsFlag it flag mark → begins it (mark ++ (back ++ rest)) ≡ flag → begins it (mark ++ back) ≡ flag
flag_begins it true mark back rest h e = subst (λ l. begins it (l ++ back) ≡ true) (sym h.1) (subst (λ l. begins it (l ++ (back ++ rest)) ≡ true) h.1 e)
flag_begins it false mark back rest h e = begins_less it (mark ++ back) rest (ap (begins it) (append_assoc mark back rest) ∙ e)

gives-separated_by : {A : Type 0} (separator : Terminal) (item : Reader A) (P : A → List Lexeme → Type 0) → Gives item P → (n : ℕ) → Gives (separated_by separator item n) (IsSeparated separator P)
gives-separated_by {A} separator item P p zero = λ ts a rest e. never e
gives-separated_by {A} separator item P p (suc n) =
    after _ _ _ p (λ x front here. after _ _ _ (gives-eat separator) (λ again mark flag. more x front here again mark flag (gives-separated_by separator item P p n)))
  where
    joined : (x : A) (found : List A) (front mark back : List Lexeme) → P x front → IsTerminal separator mark → IsSeparated separator P found back → IsSeparated separator P (x ∷ found) (front ++ (mark ++ back))
    joined x [] front mark back here between behind = absurd behind
    joined x (y ∷ found) front mark back here between behind = (front, mark ++ back, refl, here, (mark, back, refl, between, behind))

    more : (x : A) (front : List Lexeme) → P x front → (again : Bool) (mark : List Lexeme) → IsFlag separator again mark → Gives (separated_by separator item n) (IsSeparated separator P)
        → Gives (cond {A = Reader (List A)} again (separated_by separator item n >>= (λ more. pure (x ∷ more))) (pure (x ∷ []))) (λ found back. IsSeparated separator P found (front ++ (mark ++ back)))
    more x front here true mark flag behind = last _ _ _ behind (λ found back spelled. joined x found front mark back here flag spelled)
    more x front here false mark flag behind = λ ts a rest e.
        let none : front ++ (mark ++ []) ≡ front = ap (λ l. front ++ l) (append-nil mark ∙ flag) ∙ append-nil front in
        ([], (pair_is e).1, subst (λ found. IsSeparated separator P found (front ++ (mark ++ []))) (pair_is e).0 (subst (P x) (sym none) here))

pub gives-separated : {A : Type 0} (separator : Terminal) (item : Reader A) (P : A → List Lexeme → Type 0) → Gives item P → Gives (separated separator item) (IsSeparated separator P)
unfolding separated
gives-separated separator item P p ts = gives-separated_by separator item P p (length ts) ts

pub gives-full : Gives full IsFull
gives-full = gives-separated w.Dot identifier IsIdent gives-identifier

pub heads : {x y : Lexeme} {xs ys : List Lexeme} → x ∷ xs ≡ y ∷ ys → x ≡ y
heads e = cc

-- the last component of a name is its last token
full_last : (components : List Span) (names : List Lexeme) (d : Span) → IsFull components names → (u : Lexeme) × (us : List Lexeme) × (names ≡ u ∷ us) × (last_of d components ≡ last_span u us)
full_last [] names d h = absurd h
full_last (x ∷ []) names d h = (h.0, [], h.1, sym h.3)
full_last (x ∷ y ∷ more) names d h =
    let r = full_last (y ∷ more) h.4.1 x h.4.4 in
    let whole : names ≡ h.3.0 ∷ h.4.3.0 ∷ r.0 ∷ r.1 = h.2 ∙ ap (λ l. l ++ h.1) h.3.1 ∙ ap (λ l. h.3.0 ∷ l) (h.4.2 ∙ ap (λ l. l ++ h.4.1) h.4.3.1 ∙ ap (λ l. h.4.3.0 ∷ l) r.2) in
    (h.3.0, h.4.3.0 ∷ r.0 ∷ r.1, whole, r.3)

-- the span of a full name is from its first component to its last
pub full_span : (s : Span) (ss : List Span) (names : List Lexeme) → IsFull (s ∷ ss) names → between s (last_of s ss) ≡ span_of names
full_span s [] names h = ap (λ (x : Span). between x x) (sym h.3) ∙ ap span_of (sym h.1)
full_span s (y ∷ more) names h =
    let r = full_last (s ∷ y ∷ more) names s h in
    let whole : h.3.0 ∷ h.1 ≡ r.0 ∷ r.1 = sym (h.2 ∙ ap (λ l. l ++ h.1) h.3.1) ∙ r.2 in
    let first : s ≡ r.0.span = sym h.3.3 ∙ ap (λ (x : Lexeme). x.span) (heads whole) in
    ap (λ (x : Span). between x (last_of y more)) first ∙ ap (between r.0.span) r.3 ∙ ap span_of (sym r.2)

-- the last token of a list stands here
abbrev pub EndsAt : Span → List Lexeme → Type 0
EndsAt span ts = (u : Lexeme) × (us : List Lexeme) × (ts ≡ u ∷ us) × (last_span u us ≡ span)

-- the last token of a list is the last of what is behind
last_behind : (t : Lexeme) (ts : List Lexeme) (u : Lexeme) (us : List Lexeme) → last_span t (ts ++ u ∷ us) ≡ last_span u us
last_behind t [] u us = refl
last_behind t (x ∷ ts) u us = last_behind x ts u us

-- a form, and where its last token stands
abbrev pub Ending : (List Lexeme → Type 0) → Span → List Lexeme → Type 0
Ending P span ts = P ts × EndsAt span ts

-- the last of the parts ends with the last token
pub parts_last : (P : List Lexeme → Type 0) (parts : List Span) (names : List Lexeme) (d : Span) → IsSeparated w.Dot (Ending P) parts names → (u : Lexeme) × (us : List Lexeme) × (names ≡ u ∷ us) × (last_of d parts ≡ last_span u us)
parts_last P [] names d h = absurd h
parts_last P (x ∷ []) names d h = (h.1.0, h.1.1, h.1.2, sym h.1.3)
parts_last P (x ∷ y ∷ more) names d h =
    let r = parts_last P (y ∷ more) h.4.1 x h.4.4 in
    let front = h.3.1 in
    let tail : h.1 ≡ h.4.3.0 ∷ r.0 ∷ r.1 = h.4.2 ∙ ap (λ l. l ++ h.4.1) h.4.3.1 ∙ ap (λ l. h.4.3.0 ∷ l) r.2 in
    let whole : names ≡ front.0 ∷ (front.1 ++ h.4.3.0 ∷ r.0 ∷ r.1) = h.2 ∙ ap (λ l. l ++ h.1) front.2 ∙ ap (λ l. front.0 ∷ (front.1 ++ l)) tail in
    (front.0, front.1 ++ h.4.3.0 ∷ r.0 ∷ r.1, whole, r.3 ∙ sym (last_behind front.0 front.1 h.4.3.0 (r.0 ∷ r.1)))

-- the same parts, without their ends
parts_only : (P : List Lexeme → Type 0) (parts : List Span) (names : List Lexeme) → IsSeparated w.Dot (Ending P) parts names → IsSeparated w.Dot (λ span. P) parts names
parts_only P [] names h = absurd h
parts_only P (x ∷ []) names h = h.0
parts_only P (x ∷ y ∷ more) names h = (h.0, h.1, h.2, h.3.0, (h.4.0, h.4.1, h.4.2, h.4.3, parts_only P (y ∷ more) h.4.1 h.4.4))

pub type_span : (t : Lexeme) (ts : List Lexeme) (components : List Span) (absolute : Bool) (front rest : List Lexeme) → t ∷ ts ≡ front ++ rest → (IsFlag w.Dot absolute ⊳ IsFull components) front → between t.span (last_of t.span components) ≡ span_of front
type_span t ts components true front rest e h =
    let r = full_last components h.1 t.span h.4 in
    let whole : front ≡ h.3.0 ∷ r.0 ∷ r.1 = h.2 ∙ ap (λ l. l ++ h.1) h.3.1 ∙ ap (λ l. h.3.0 ∷ l) r.2 in
    let first : t ≡ h.3.0 = heads (e ∙ ap (λ l. l ++ rest) whole) in
    ap (between t.span) r.3 ∙ ap (λ (x : Lexeme). between x.span (last_span r.0 r.1)) first ∙ ap span_of (sym whole)
type_span t ts components false front rest e h =
    let r = full_last components h.1 t.span h.4 in
    let whole : front ≡ r.0 ∷ r.1 = h.2 ∙ ap (λ l. l ++ h.1) h.3 ∙ r.2 in
    let first : t ≡ r.0 = heads (e ∙ ap (λ l. l ++ rest) whole) in
    ap (between t.span) r.3 ∙ ap (λ (x : Lexeme). between x.span (last_span r.0 r.1)) first ∙ ap span_of (sym whole)

pub gives-type_name : Gives type_name IsType
unfolding type_name
gives-type_name [] a rest e = never e
gives-type_name (t ∷ ts) a rest e =
    let g = after _ _ Read (gives-eat w.Dot) (λ absolute dot flag. last _ _ _ gives-full (λ components names spelled. (turn _ _ flag spelled, refl))) (t ∷ ts) a rest e in
    (g.0, g.1, (g.2.0, g.2.1 ∙ type_span t ts a.components a.is_absolute g.0 rest g.1 g.2.0))
  where
    Read : TypeName → List Lexeme → Type 0
    Read name front = (IsFlag w.Dot name.is_absolute ⊳ IsFull name.components) front × (name.span ≡ between t.span (last_of t.span name.components))

pub gives-in_parentheses : Gives in_parentheses IsInParentheses
unfolding in_parentheses
gives-in_parentheses =
    after _ _ IsInParentheses (gives-terminal w.OpenParen) (λ s1 f1 p1 ts. after_at ts (eat w.Stream) _ (λ name back. IsInParentheses name (f1 ++ back)) (flag ts) (λ stream f2 here same p2 name rest e.
    let g = after _ _ (λ name. IsType name ⊳ IsTerminal w.CloseParen) gives-type_name (λ name f3 p3. last _ _ (λ name back. (IsType name ⊳ IsTerminal w.CloseParen) (f3 ++ back)) (gives-terminal w.CloseParen) (λ s4 f4 p4. turn _ _ p3 p4)) here name rest e in
    let first : begins w.Stream (f2 ++ g.0) ≡ stream = flag_begins w.Stream stream f2 g.0 rest p2.0 (subst (λ l. begins w.Stream (f2 ++ l) ≡ stream) g.1 p2.1) in
    (g.0, g.1, turn f1 (f2 ++ g.0) p1 (subst (λ flag. (IsFlag w.Stream flag ⊳ (IsType name ⊳ IsTerminal w.CloseParen)) (f2 ++ g.0)) (sym first) (turn f2 g.0 p2.0 g.2)))))
  where
    flag : (ts : List Lexeme) (a : Bool) (here : List Lexeme) → eat w.Stream ts ≡ Some (a, here) → (front : List Lexeme) × (ts ≡ front ++ here) × (IsFlag w.Stream a front × (begins w.Stream (front ++ here) ≡ a))
    flag ts a here e =
        let g = gives-eat w.Stream ts a here e in
        (g.0, g.1, (g.2, subst (λ l. begins w.Stream l ≡ a) g.1 (eats w.Stream ts a here e)))

-- ---- headers

gives-block_name : (it : Terminal) → Gives (block_name it) (λ name. IsTerminal it ⊳ IsIdent name)
gives-block_name it ts a rest e = after _ _ (λ name. IsTerminal it ⊳ IsIdent name) (gives-terminal it) (λ s1 f1 p1. named f1 p1) ts a rest e
  where
    named : (f1 : List Lexeme) → IsTerminal it f1 → Gives identifier (λ name back. (IsTerminal it ⊳ IsIdent name) (f1 ++ back))
    named f1 p1 ts a rest e = let g = gives-identifier ts a rest e in (g.0, g.1, turn _ _ p1 g.2)

gives-extend_header : Gives extend_header IsHeader
unfolding extend_header
gives-extend_header = after _ _ _ (gives-terminal w.Extend) (λ s1 f1 p1. last _ _ _ gives-type_name (λ name f2 p2. turn _ _ p1 p2))

gives-group_header : Gives group_header IsHeader
unfolding group_header
gives-group_header =
    after _ _ _ (gives-terminal w.Group) (λ s1 f1 p1. after _ _ _ gives-identifier (λ name f2 p2. after _ _ _ (gives-terminal w.Equals) (λ s3 f3 p3. last _ _ _ (gives-terminal w.Int) (λ s4 f4 p4. turn _ _ p1 (turn _ _ p2 (turn _ _ p3 p4))))))

pub gives-rpc_header : Gives rpc_header IsHeader
unfolding rpc_header
gives-rpc_header =
    after _ _ _ (gives-terminal w.Rpc) (λ s1 f1 p1. after _ _ _ gives-identifier (λ name f2 p2. after _ _ _ gives-in_parentheses (λ request f3 p3. after _ _ _ (gives-terminal w.Returns) (λ s4 f4 p4. last _ _ _ gives-in_parentheses (λ response f5 p5. turn _ _ p1 (turn _ _ p2 (turn _ _ p3 (turn _ _ p4 p5))))))))

gives-header_form : (it : Terminal) → Gives (header_form it) IsHeader
gives-header_form w.Message = last _ _ _ (gives-block_name w.Message) (λ name f p. p)
gives-header_form w.Enum = last _ _ _ (gives-block_name w.Enum) (λ name f p. p)
gives-header_form w.Service = last _ _ _ (gives-block_name w.Service) (λ name f p. p)
gives-header_form w.Oneof = last _ _ _ (gives-block_name w.Oneof) (λ name f p. p)
gives-header_form w.Extend = gives-extend_header
gives-header_form w.Group = gives-group_header
gives-header_form w.Rpc = gives-rpc_header
gives-header_form _ = λ ts a rest e. never e

pub gives-header : Gives header_and_rest (λ head. IsHeader head ⊳ IsTerminal w.OpenBrace)
unfolding header_and_brace
gives-header [] a rest e = never e
gives-header (t ∷ ts) a rest e = after _ _ (λ head. IsHeader head ⊳ IsTerminal w.OpenBrace) (gives-header_form t.terminal) (λ head f1 p1. last _ _ _ (gives-terminal w.OpenBrace) (λ s2 f2 p2. turn _ _ p1 p2)) (t ∷ ts) a rest e

-- ---- parts of several tokens

all_cons : {X : Type 0} (P : X → Type 0) (x : X) (xs : List X) → P x → All P xs → All P (x ∷ xs)
all_cons P x xs p all zero d lt = p
all_cons P x xs p all (suc k) d lt = all k d (omega (arith, lt))

-- the tokens that are taken as long as they pass
taken : (fits : Terminal → Bool) (ts : List Lexeme) → (front : List Lexeme) × (ts ≡ front ++ (run fits ts).1) × (map (λ t. t.span) front ≡ (run fits ts).0) × AllPass (λ t. fits t.terminal) front
unfolding run
taken fits [] = ([], refl, refl, λ k d lt. absurd (omega (arith, lt)))
taken fits (t ∷ ts) = by (fits t.terminal) refl (taken fits ts)
  where
    by : (b : Bool) → fits t.terminal ≡ b → ((front : List Lexeme) × (ts ≡ front ++ (run fits ts).1) × (map (λ t. t.span) front ≡ (run fits ts).0) × AllPass (λ t. fits t.terminal) front)
        → (front : List Lexeme) × (t ∷ ts ≡ front ++ (run fits (t ∷ ts)).1) × (map (λ t. t.span) front ≡ (run fits (t ∷ ts)).0) × AllPass (λ t. fits t.terminal) front
    by true e more = rw e (t ∷ more.0, ap (λ l. t ∷ l) more.1, ap (λ l. t.span ∷ l) more.2, all_cons (λ t. fits t.terminal ≡ true) t more.0 e more.3)
    by false e more = rw e ([], refl, refl, λ k d lt. absurd (omega (arith, lt)))

-- the last of the tokens' spans
last_is : (t : Lexeme) (ts : List Lexeme) → last_of t.span (map (λ t. t.span) ts) ≡ last_span t ts
last_is t [] = refl
last_is t (u ∷ ts) = last_is u ts

-- the span of tokens is from the first of their spans to the last
pub spanned : (ts : List Lexeme) (s : Span) (ss : List Span) → map (λ t. t.span) ts ≡ s ∷ ss → between s (last_of s ss) ≡ span_of ts
spanned [] s ss e = cc
spanned (t ∷ ts) s ss e =
    let heads : t.span ≡ s = cc in
    let tails : map (λ t. t.span) ts ≡ ss = cc in
    ap (λ x. between x (last_of x ss)) (sym heads) ∙ ap (λ l. between t.span (last_of t.span l)) (sym tails) ∙ ap (between t.span) (last_is t ts)

gives-literal : Gives literal IsLiteral
unfolding literal
gives-literal ts a rest e =
    let t = taken (λ x. same_terminal x w.PlainText) ts in
    made t.0 t.1 t.2 t.3 (texts ts).0 (texts ts).1 refl refl e
  where
    no_spans : (front : List Lexeme) → front ≡ [] → (s : Span) (ss : List Span) → map (λ t. t.span) front ≡ s ∷ ss → ⊥
    no_spans [] none s ss e = cc
    no_spans (t ∷ front) none s ss e = cc

    made : (front : List Lexeme) → ts ≡ front ++ (texts ts).1 → map (λ t. t.span) front ≡ (texts ts).0 → AllPass (is w.PlainText) front → (spans : List Span) (left : List Lexeme) → (texts ts).0 ≡ spans → (texts ts).1 ≡ left → literal_of (spans, left) ≡ Some (a, rest)
        → (front : List Lexeme) × (ts ≡ front ++ rest) × IsLiteral a front
    made front e1 e2 all [] left same behind g = never g
    made front e1 e2 all (s ∷ ss) left same behind g =
        let is_some : front ≡ [] → ⊥ = λ none. no_spans front none s ss (e2 ∙ same) in
        (front, e1 ∙ ap (λ l. front ++ l) (behind ∙ (pair_is g).1), subst (λ x. IsLiteral x front) (pair_is g).0 (e2 ∙ same, all, is_some, spanned front s ss (e2 ∙ same)))

-- a number's span is that of its tokens
pub number_span : (t : Lexeme) (ts : List Lexeme) (digits : Span) (minus : Bool) (front rest : List Lexeme) → t ∷ ts ≡ front ++ rest → (IsFlag w.Minus minus ⊳ IsWordAt w.Int digits) front → between t.span digits ≡ span_of front
number_span t ts digits true front rest e h =
    let whole : front ≡ h.3.0 ∷ h.4.0 ∷ [] = h.2 ∙ ap (λ l. l ++ h.1) h.3.1 ∙ ap (λ l. h.3.0 ∷ l) h.4.1 in
    let first : t ≡ h.3.0 = heads (e ∙ ap (λ l. l ++ rest) whole) in
    ap (λ (x : Lexeme). between x.span digits) first ∙ ap (between h.3.0.span) (sym h.4.3) ∙ ap span_of (sym whole)
number_span t ts digits false front rest e h =
    let whole : front ≡ h.4.0 ∷ [] = h.2 ∙ ap (λ l. l ++ h.1) h.3 ∙ h.4.1 in
    let first : t ≡ h.4.0 = heads (e ∙ ap (λ l. l ++ rest) whole) in
    ap (λ (x : Lexeme). between x.span digits) first ∙ ap (between h.4.0.span) (sym h.4.3) ∙ ap span_of (sym whole)

gives-number : (may_be_negative : Bool) → Gives (number may_be_negative) (IsNumber may_be_negative)
unfolding number
gives-number true [] a rest e = never e
gives-number true (t ∷ ts) a rest e =
    let g = after _ _ Read (gives-eat w.Minus) (λ minus f1 p1. last _ _ _ (gives-terminal_at w.Int) (λ digits f2 p2. (turn _ _ p1 p2, refl))) (t ∷ ts) a rest e in
    (g.0, g.1, (g.2.0, (λ h. refl), g.2.1 ∙ number_span t ts a.digits a.is_negative g.0 rest g.1 g.2.0))
  where
    Read : Number → List Lexeme → Type 0
    Read n front = (IsFlag w.Minus n.is_negative ⊳ IsWordAt w.Int n.digits) front × (n.span ≡ between t.span n.digits)
gives-number false ts a rest e = last _ _ (IsNumber false) (gives-terminal_at w.Int) (λ digits f1 p1. (turn [] _ refl p1, λ h. h, sym p1.3 ∙ ap span_of (sym p1.1))) ts a rest e

-- ---- what ends a statement

-- the last token, and what is before it
pub last_token : (it : Terminal) (ts : List Lexeme) → ends_in it ts ≡ true → (t : Lexeme) × (ts ≡ but_last 1 ts ++ t ∷ []) × (t.terminal ≡ it)
last_token it [] e = absurd (false≢true e)
last_token it (t ∷ []) e = (t, refl, same_true the_type (search refl) t.terminal it e)
last_token it (t ∷ u ∷ ts) e =
    let more = last_token it (u ∷ ts) e in
    let n : length (t ∷ u ∷ ts) - 1 ≡ suc (length (u ∷ ts) - 1) = omega arith in
    (more.0, rw n (ap (λ l. t ∷ l) more.1), more.2)

both : (x y : Bool) → (x && y) ≡ true → (x ≡ true) × (y ≡ true)
both true true e = (refl, refl)
both true false e = absurd (false≢true e)
both false y e = absurd (false≢true e)

pub content : (ts : List Lexeme) → is_content ts ≡ true → IsContent ts
content [] e = absurd (false≢true e)
content (t ∷ ts) e = (balanced_is (t ∷ ts) e, λ none. cc)

pub but_last_twice : (ts : List Lexeme) → but_last 1 (but_last 1 ts) ≡ but_last 2 ts
but_last_twice ts =
    let len : length (but_last 1 ts) ≡ length ts - 1 = omega (arith, length-take (length ts - 1) ts) in
    let n : length (but_last 1 ts) - 1 ≡ length ts - 2 = omega arith in
    ap (λ k. take k (but_last 1 ts)) n ∙ take-take (length ts - 2) (length ts - 1) ts (omega arith)

field_end : (ts : List Lexeme) → is_options_end ts ≡ true → IsFieldEnd ts
unfolding is_options_end
field_end [] e = absurd (false≢true e)
field_end (t ∷ []) e = inl (t, refl, same_true the_type (search refl) t.terminal w.Semicolon e)
field_end (t ∷ u ∷ ts) e =
    let c = both (is w.OpenBracket t && ends_in w.Semicolon (u ∷ ts) && ends_in w.CloseBracket (but_last 1 (u ∷ ts))) (is_content (but_last 2 (u ∷ ts))) e in
    let d = both (is w.OpenBracket t && ends_in w.Semicolon (u ∷ ts)) (ends_in w.CloseBracket (but_last 1 (u ∷ ts))) c.0 in
    let a = both (is w.OpenBracket t) (ends_in w.Semicolon (u ∷ ts)) d.0 in
    let semicolon = last_token w.Semicolon (u ∷ ts) a.1 in
    let bracket = last_token w.CloseBracket (but_last 1 (u ∷ ts)) d.1 in
    let inside : IsContent (but_last 1 (but_last 1 (u ∷ ts))) = subst IsContent (sym (but_last_twice (u ∷ ts))) (content (but_last 2 (u ∷ ts)) c.1) in
    let split : t ∷ u ∷ ts ≡ (t ∷ []) ++ (but_last 1 (but_last 1 (u ∷ ts)) ++ (bracket.0 ∷ [] ++ semicolon.0 ∷ [])) =
    ap (λ l. t ∷ l) (semicolon.1 ∙ ap (λ l. l ++ semicolon.0 ∷ []) bracket.1 ∙ append_assoc (but_last 1 (but_last 1 (u ∷ ts))) (bracket.0 ∷ []) (semicolon.0 ∷ [])) in
    inr (subst (IsTerminal w.OpenBracket ⊳ (IsContent ⊳ (IsTerminal w.CloseBracket ⊳ IsTerminal w.Semicolon))) (sym split)
    (turn _ _ (t, refl, same_true the_type (search refl) t.terminal w.OpenBracket a.0) (turn _ _ inside (turn _ _ (bracket.0, refl, bracket.2) (semicolon.0, refl, semicolon.2)))))

gives-field_end : Gives (rest_if is_options_end) (λ x. IsFieldEnd)
gives-field_end ts a rest e = by (is_options_end ts) refl e
  where
    by : (b : Bool) → is_options_end ts ≡ b → ◌≡◌ {A = Option (Unit {0} × List Lexeme)} (cond {A = Option (Unit {0} × List Lexeme)} b (Some (tt, [])) None) (Some (a, rest)) → (front : List Lexeme) × (ts ≡ front ++ rest) × IsFieldEnd front
    by true f e = (ts, sym (append-nil ts) ∙ ap (λ l. ts ++ l) (pair_is e).1, field_end ts f)
    by false f e = never e

-- ---- statements

gives-numbered : Gives numbered (λ end. IsIdent end.0 ⊳ (IsTerminal w.Equals ⊳ (IsWordAt w.Int end.1 ⊳ IsFieldEnd)))
gives-numbered =
    after _ _ _ gives-identifier (λ name f1 p1. after _ _ _ (gives-terminal w.Equals) (λ s2 f2 p2. after _ _ _ (gives-terminal_at w.Int) (λ at f3 p3. last _ _ _ gives-field_end (λ s4 f4 p4. turn _ _ p1 (turn _ _ p2 (turn _ _ p3 p4))))))

-- a label, or nothing
abbrev IsLabel : Option Span → List Lexeme → Type 0
IsLabel None ts = ts ≡ []
IsLabel (Some s) ts = (t : Lexeme) × (ts ≡ t ∷ []) × (is_label t.terminal ≡ true) × (t.span ≡ s)

gives-label : Gives label IsLabel
unfolding label
gives-label [] a rest e = ([], (pair_is e).1, subst (λ x. IsLabel x []) (pair_is e).0 refl)
gives-label (t ∷ ts) a rest e = by (is_label t.terminal) refl e
  where
    by : (b : Bool) → is_label t.terminal ≡ b → ◌≡◌ {A = Option (Option Span × List Lexeme)} (cond {A = Option (Option Span × List Lexeme)} b (Some (Some t.span, ts)) (Some (None, t ∷ ts))) (Some (a, rest)) → (front : List Lexeme) × (t ∷ ts ≡ front ++ rest) × IsLabel a front
    by true f e = (t ∷ [], ap (λ l. t ∷ l) (pair_is e).1, subst (λ x. IsLabel x (t ∷ [])) (pair_is e).0 (t, refl, f, refl))
    by false f e = ([], (pair_is e).1, subst (λ x. IsLabel x []) (pair_is e).0 refl)

no_labels : IsLabels [] []
no_labels = (refl, λ k d lt. absurd (omega (arith, lt)), omega arith)

one_label : (t : Lexeme) → is_label t.terminal ≡ true → IsLabels (t.span ∷ []) (t ∷ [])
one_label t h = (refl, all_cons (λ t. is_label t.terminal ≡ true) t [] h no_labels.1, omega arith)

two_labels : (t u : Lexeme) → is_label t.terminal ≡ true → is_label u.terminal ≡ true → IsLabels (t.span ∷ u.span ∷ []) (t ∷ u ∷ [])
two_labels t u h g = (refl, all_cons (λ t. is_label t.terminal ≡ true) t (u ∷ []) h (one_label u g).1, omega arith)

gives-labels : Gives labels IsLabels
unfolding labels
gives-labels = after _ _ _ gives-label (λ first f1 p1. second first f1 p1)
  where
    whole : (s : Span) (f1 : List Lexeme) → IsLabel (Some s) f1 → (next : Option Span) (f2 : List Lexeme) → IsLabel next f2 → IsLabels (labels_given (Some s) next) (f1 ++ f2)
    whole s f1 p1 None f2 p2 =
        let e : f1 ++ f2 ≡ p1.0 ∷ [] = ap (λ l. l ++ f2) p1.1 ∙ ap (λ l. p1.0 ∷ l) p2 in
        subst (IsLabels (s ∷ [])) (sym e) (subst (λ x. IsLabels (x ∷ []) (p1.0 ∷ [])) p1.3 (one_label p1.0 p1.2))
    whole s f1 p1 (Some u) f2 p2 =
        let e : f1 ++ f2 ≡ p1.0 ∷ p2.0 ∷ [] = ap (λ l. l ++ f2) p1.1 ∙ ap (λ l. p1.0 ∷ l) p2.1 in
        let spans : p1.0.span ∷ p2.0.span ∷ [] ≡ s ∷ u ∷ [] = ap (λ x. x ∷ p2.0.span ∷ []) p1.3 ∙ ap (λ x. s ∷ x ∷ []) p2.3 in
        subst (IsLabels (s ∷ u ∷ [])) (sym e) (subst (λ x. IsLabels x (p1.0 ∷ p2.0 ∷ [])) spans (two_labels p1.0 p2.0 p1.2 p2.2))

    second : (first : Option Span) (f1 : List Lexeme) → IsLabel first f1 → Gives (elim first [ None ↦ pure [] | Some s ↦ label >>= (λ second. pure (labels_given (Some s) second)) ]) (λ found back. IsLabels found (f1 ++ back))
    second None f1 p1 = λ ts a rest e. ([], (pair_is e).1, subst (λ x. IsLabels x (f1 ++ [])) (pair_is e).0 (rw p1 no_labels))
    second (Some s) f1 p1 = last _ _ _ gives-label (λ next f2 p2. whole s f1 p1 next f2 p2)

-- a label is read where one stands
labels_one : (ts : List Lexeme) (a : Option Span) (rest : List Lexeme) → label ts ≡ Some (a, rest) → (a ≡ None) → begins_with_label rest ≡ false
unfolding label
labels_one [] a rest e none = ap begins_with_label (sym (pair_is e).1)
labels_one (t ∷ ts) a rest e none = by (is_label t.terminal) refl e
  where
    by : (b : Bool) → is_label t.terminal ≡ b → ◌≡◌ {A = Option (Option Span × List Lexeme)} (cond {A = Option (Option Span × List Lexeme)} b (Some (Some t.span, ts)) (Some (None, t ∷ ts))) (Some (a, rest)) → begins_with_label rest ≡ false
    by true f e = never (sym none ∙ sym (pair_is e).0)
    by false f e = ap begins_with_label (sym (pair_is e).1) ∙ f

-- as many labels are read as stand there, at most two
labels_all : (ts : List Lexeme) (found : List Span) (rest : List Lexeme) → labels ts ≡ Some (found, rest) → AreAllLabels found rest
unfolding labels
labels_all ts found rest e = first (label ts) refl e
  where
    second : (s : Span) (here : List Lexeme) (o : Option (Option Span × List Lexeme)) → label here ≡ o → and_then o (λ second. pure (labels_given (Some s) second)) ≡ Some (found, rest) → AreAllLabels found rest
    second s here None g h = never h
    second s here (Some (None, left)) g h = inr (subst (λ l. begins_with_label l ≡ false) (pair_is h).1 (labels_one here None left g refl))
    second s here (Some (Some u, left)) g h = inl (ap length (sym (pair_is h).0))

    first : (o : Option (Option Span × List Lexeme)) → label ts ≡ o → and_then o (λ first. elim first [ None ↦ pure [] | Some s ↦ label >>= (λ second. pure (labels_given (Some s) second)) ]) ≡ Some (found, rest) → AreAllLabels found rest
    first None g h = never h
    first (Some (None, left)) g h = inr (subst (λ l. begins_with_label l ≡ false) (pair_is h).1 (labels_one ts None left g refl))
    first (Some (Some s, left)) g h = second s left (label left) refl h

-- what the labels leave, and what of it is read
labels_less : (found : List Span) (back rest : List Lexeme) → AreAllLabels found (back ++ rest) → AreAllLabels found back
labels_less found back rest (inl two) = inl two
labels_less found back rest (inr none) = inr (front back none)
  where
    front : (back : List Lexeme) → begins_with_label (back ++ rest) ≡ false → begins_with_label back ≡ false
    front [] e = refl
    front (t ∷ ts) e = e

-- the labels, and what they leave
gives-all_labels : (ts : List Lexeme) (a : List Span) (here : List Lexeme) → labels ts ≡ Some (a, here) → (front : List Lexeme) × (ts ≡ front ++ here) × (IsLabels a front × AreAllLabels a here)
gives-all_labels ts a here e = let g = gives-labels ts a here e in (g.0, g.1, (g.2, labels_all ts a here e))

gives-plain_field : (body : Body) (first : Terminal) (span : Span) (found : List Span) (front : List Lexeme) → IsTrue (may_be_field body first) → IsLabels found front → Gives (plain_field span found) (λ n back. AreAllLabels found back → Spells body first span n (front ++ back))
unfolding plain_field
gives-plain_field body first span found front fits marks = after _ _ _ gives-type_name (λ its_type f1 p1. last _ _ _ gives-numbered (λ end f2 p2. λ all. is_field fits refl (turn _ _ marks (all, turn _ _ p1 p2))))

gives-map_field : (first : Terminal) (span : Span) (found : List Span) (front : List Lexeme) → IsTrue (may_be_field b.Message first) → IsLabels found front → Gives (map_field span found) (λ n back. AreAllLabels found back → Spells b.Message first span n (front ++ back))
unfolding map_field
gives-map_field first span found front fits marks =
    after _ _ _ (gives-terminal w.Map) (λ s1 f1 p1. after _ _ _ (gives-terminal w.Less) (λ s2 f2 p2. after _ _ _ gives-type_name (λ key f3 p3. after _ _ _ (gives-terminal w.Comma) (λ s4 f4 p4. after _ _ _ gives-type_name (λ value f5 p5. after _ _ _ (gives-terminal w.Greater) (λ s6 f6 p6. last _ _ _ gives-numbered (λ end f7 p7. λ all. is_map_field fits refl (turn _ _ marks (all, turn _ _ p1 (turn _ _ p2 (turn _ _ p3 (turn _ _ p4 (turn _ _ p5 (turn _ _ p6 p7))))))))))))))

gives-field : (body : Body) (first : Terminal) (span : Span) → IsTrue (may_be_field body first) → Gives (field span) (Spells body first span)
unfolding field
gives-field body first span fits ts =
    after_at ts labels _ (Spells body first span) (gives-all_labels ts) (λ found front here same marks n rest e.
    let g = gives-plain_field body first span found front fits marks.0 here n rest e in
    (g.0, g.1, g.2 (labels_less found g.0 rest (subst (AreAllLabels found) g.1 marks.1))))

gives-field_or_map : (first : Terminal) (span : Span) → IsTrue (may_be_field b.Message first) → Gives (field_or_map span) (Spells b.Message first span)
unfolding field_or_map
gives-field_or_map first span fits ts =
    after_at ts labels _ (Spells b.Message first span) (gives-all_labels ts) (λ found front here same marks n rest e.
    let g = by found front marks.0 here (begins_map here) n rest e in
    (g.0, g.1, g.2 (labels_less found g.0 rest (subst (AreAllLabels found) g.1 marks.1))))
  where
    by : (found : List Span) (front : List Lexeme) → IsLabels found front → (ts : List Lexeme) (is_map : Bool) (a : Node) (rest : List Lexeme) → cond {A = Option (Node × List Lexeme)} is_map (map_field span found ts) (plain_field span found ts) ≡ Some (a, rest)
        → (back : List Lexeme) × (ts ≡ back ++ rest) × (AreAllLabels found back → Spells b.Message first span a (front ++ back))
    by found front marks ts true a rest e = gives-map_field first span found front fits marks ts a rest e
    by found front marks ts false a rest e = gives-plain_field b.Message first span found front fits marks ts a rest e

gives-syntax : (span : Span) → Gives (syntax_form span) (Spells b.File w.Syntax span)
unfolding syntax_form
gives-syntax span =
    after _ _ _ (gives-terminal w.Syntax) (λ s1 f1 p1. after _ _ _ (gives-terminal w.Equals) (λ s2 f2 p2. after _ _ _ gives-literal (λ value f3 p3. last _ _ _ (gives-terminal w.Semicolon) (λ s4 f4 p4. is_syntax (turn _ _ p1 (turn _ _ p2 (turn _ _ p3 p4)))))))

gives-package : (span : Span) → Gives (package_form span) (Spells b.File w.Package span)
unfolding package_form
gives-package span = after _ _ _ (gives-terminal w.Package) (λ s1 f1 p1. after _ _ _ gives-full (λ components f2 p2. after _ _ _ (gives-terminal w.Semicolon) (λ s3 f3 p3. named components f1 f2 f3 p1 p2 p3)))
  where
    named : (components : List Span) (f1 f2 f3 : List Lexeme) → IsTerminal w.Package f1 → IsFull components f2 → IsTerminal w.Semicolon f3
        → Gives (elim components [ [] ↦ nothing | s ∷ ss ↦ pure (node.Package span (between s (last_of s ss)) (s ∷ ss)) ]) (λ n back. Spells b.File w.Package span n (f1 ++ (f2 ++ (f3 ++ back))))
    named [] f1 f2 f3 p1 p2 p3 ts a rest e = never e
    named (s ∷ ss) f1 f2 f3 p1 p2 p3 ts a rest e =
        let h : (IsTerminal w.Package ⊳ (IsAt (IsFull (s ∷ ss)) (between s (last_of s ss)) ⊳ IsTerminal w.Semicolon)) (f1 ++ (f2 ++ f3)) = turn f1 _ p1 (turn f2 f3 (p2, full_span s ss f2 p2) p3) in
        ([], (pair_is e).1, subst (λ n. Spells b.File w.Package span n (f1 ++ (f2 ++ (f3 ++ [])))) (pair_is e).0 (is_package (rw append-nil h)))

gives-value : (first : Terminal) (span : Span) → is_listed_in_enum first ≡ false → Gives (value_form span) (Spells b.Enum first span)
unfolding value_form
gives-value first span fits =
    after _ _ _ gives-identifier (λ name f1 p1. after _ _ _ (gives-terminal w.Equals) (λ s2 f2 p2. after _ _ _ (gives-number true) (λ value f3 p3. last _ _ _ gives-field_end (λ s4 f4 p4. is_value fits (turn _ _ p1 (turn _ _ p2 (turn _ _ p3 p4)))))))

gives-empty : (body : Body) (span : Span) → Gives (empty_form span) (Spells body w.Semicolon span)
unfolding empty_form
gives-empty body span = last _ _ _ (gives-terminal w.Semicolon) (λ s1 f1 p1. is_empty p1)

-- a weaker form
weaken : {A : Type 0} (r : Reader A) (T : A → List Lexeme → Type 0) {P : A → List Lexeme → Type 0} → Gives r P → ((a : A) (front : List Lexeme) → P a front → T a front) → Gives r T
weaken r T p q ts a rest e = let g = p ts a rest e in (g.0, g.1, q a g.0 g.2)

-- what follows where `weak` stands or not
abbrev BehindWeak : Bool → Bool → List Lexeme → Type 0
BehindWeak true is_public ts = (is_public ≡ false) × (ts ≡ [])
BehindWeak false is_public ts = IsFlag w.Public is_public ts

gives-behind_weak : (weak : Bool) → Gives (cond {A = Reader Bool} weak (pure false) (eat w.Public)) (BehindWeak weak)
gives-behind_weak true = λ ts a rest e. ([], (pair_is e).1, (sym (pair_is e).0, refl))
gives-behind_weak false = gives-eat w.Public

modifier : (weak is_public : Bool) (f2 f3 : List Lexeme) → IsFlag w.Weak weak f2 → BehindWeak weak is_public f3 → IsModifier is_public (f2 ++ f3)
modifier true is_public f2 f3 p2 p3 = subst (λ x. IsModifier x (f2 ++ f3)) (sym p3.0) (inr (subst (IsTerminal w.Weak) (sym (ap (λ l. f2 ++ l) p3.1 ∙ append-nil f2)) p2))
modifier false true f2 f3 p2 p3 = subst (IsTerminal w.Public) (sym (ap (λ l. l ++ f3) p2)) p3
modifier false false f2 f3 p2 p3 = inl (ap (λ l. l ++ f3) p2 ∙ p3)

gives-import : (span : Span) → Gives (import_form span) (Spells b.File w.Import span)
unfolding import_form
gives-import span =
    after _ _ _ (gives-terminal w.Import) (λ s1 f1 p1. after _ _ _ (gives-eat w.Weak) (λ weak f2 p2. after _ _ _ (gives-behind_weak weak) (λ is_public f3 p3. after _ _ _ gives-literal (λ path f4 p4. last _ _ _ (gives-terminal w.Semicolon) (λ s5 f5 p5.
    is_import (f1, f2 ++ (f3 ++ (f4 ++ f5)), refl, p1, (f2 ++ f3, f4 ++ f5, sym (append_assoc f2 f3 (f4 ++ f5)), modifier weak is_public f2 f3 p2 p3, turn _ _ p4 p5)))))))

gives-rpc : (span : Span) → Gives (rpc_form span) (Spells b.Service w.Rpc span)
unfolding rpc_form
gives-rpc span = after _ _ _ gives-rpc_header (λ head f1 p1. after _ _ _ (gives-terminal w.Semicolon) (λ s2 f2 p2. of head f1 f2 (turn _ _ p1 p2)))
  where
    of : (head : Header) (f1 f2 : List Lexeme) → (IsHeader head ⊳ IsTerminal w.Semicolon) (f1 ++ f2) → Gives (rpc_of span head) (λ n back. Spells b.Service w.Rpc span n (f1 ++ (f2 ++ back)))
    of (header.Rpc name request response) f1 f2 h = λ ts a rest e. ([], (pair_is e).1, subst (λ n. Spells b.Service w.Rpc span n (f1 ++ (f2 ++ []))) (pair_is e).0 (is_rpc (rw append-nil h)))
    of _ f1 f2 h = λ ts a rest e. never e

-- where a part in parentheses ends
closed_at : (s : Span) (f1 middle f4 : List Lexeme) → IsTerminal w.OpenParen f1 → IsWordAt w.CloseParen s f4 → EndsAt s (f1 ++ (middle ++ f4))
closed_at s f1 middle f4 p1 p4 =
    let whole : f1 ++ (middle ++ f4) ≡ p1.0 ∷ (middle ++ p4.0 ∷ []) = ap (λ l. l ++ (middle ++ f4)) p1.1 ∙ ap (λ l. p1.0 ∷ (middle ++ l)) p4.1 in
    (p1.0, middle ++ p4.0 ∷ [], whole, last_behind p1.0 middle p4.0 [] ∙ p4.3)

-- a part in parentheses
pub parted : (s : Span) (absolute : Bool) (parts : List Span) (f1 f2 f3 f4 : List Lexeme) → IsTerminal w.OpenParen f1 → IsFlag w.Dot absolute f2 → IsFull parts f3 → IsWordAt w.CloseParen s f4 → Ending IsOptionPart s (f1 ++ (f2 ++ (f3 ++ f4)))
parted s absolute parts f1 f2 f3 f4 p1 p2 p3 p4 =
    (inr (absolute, parts, turn f1 _ p1 (turn f2 _ p2 (turn f3 f4 p3 (p4.0, p4.1, p4.2)))), subst (λ l. EndsAt s (f1 ++ l)) (append_assoc f2 f3 f4) (closed_at s f1 (f2 ++ f3) f4 p1 p4))

gives-option_part : Gives option_part (Ending IsOptionPart)
unfolding option_part
gives-option_part ts a rest e = by (begins w.OpenParen ts) e
  where
    by : (paren : Bool) → cond {A = Option (Span × List Lexeme)} paren ((terminal w.OpenParen >> (eat w.Dot >> (full >> terminal w.CloseParen))) ts) (identifier ts) ≡ Some (a, rest) → (front : List Lexeme) × (ts ≡ front ++ rest) × Ending IsOptionPart a front
    by true e =
        after _ _ (Ending IsOptionPart) (gives-terminal w.OpenParen) (λ s1 f1 p1. after _ _ _ (gives-eat w.Dot) (λ absolute f2 p2. after _ _ _ gives-full (λ parts f3 p3. weaken _ _ (gives-terminal_at w.CloseParen) (λ s4 f4 p4. parted s4 absolute parts f1 f2 f3 f4 p1 p2 p3 p4)))) ts a rest e
    by false e = let g = gives-identifier ts a rest e in (g.0, g.1, (inl (a, g.2), (g.2.0, [], g.2.1, g.2.3)))

gives-option_value : Gives option_value (λ s. IsAt IsContent s ⊳ IsTerminal w.Semicolon)
unfolding option_value
gives-option_value ts a rest e = by (ends_in w.Semicolon ts && is_content (but_last 1 ts)) refl e
  where
    by : (fits : Bool) → (ends_in w.Semicolon ts && is_content (but_last 1 ts)) ≡ fits → ◌≡◌ {A = Option (Span × List Lexeme)} (cond {A = Option (Span × List Lexeme)} fits (Some (span_of (but_last 1 ts), [])) None) (Some (a, rest))
        → (front : List Lexeme) × (ts ≡ front ++ rest) × (IsAt IsContent a ⊳ IsTerminal w.Semicolon) front
    by true f e =
        let x = both (ends_in w.Semicolon ts) (is_content (but_last 1 ts)) f in
        let end = last_token w.Semicolon ts x.0 in
        (ts, sym (append-nil ts) ∙ ap (λ l. ts ++ l) (pair_is e).1, (but_last 1 ts, end.0 ∷ [], end.1, (content (but_last 1 ts) x.1, sym (pair_is e).0), (end.0, refl, end.2)))
    by false f e = never e

-- the name is the whole of the parts
pub named_is : (ts : List Lexeme) (parts : List Span) (names here : List Lexeme) → ts ≡ names ++ here → IsSeparated w.Dot (Ending IsOptionPart) parts names → named_from ts parts ≡ Some (span_of names)
named_is [] parts names here e h =
    let r = parts_last IsOptionPart parts names (record { start = 0; «end» = 0 }) h in
    let none : [] ≡ r.0 ∷ (r.1 ++ here) = e ∙ ap (λ l. l ++ here) r.2 in
    cc
named_is (t ∷ ts) parts names here e h =
    let r = parts_last IsOptionPart parts names t.span h in
    let first : t ≡ r.0 = heads (e ∙ ap (λ l. l ++ here) r.2) in
    let same : between t.span (last_of t.span parts) ≡ span_of names = ap (between t.span) r.3 ∙ ap (λ (x : Lexeme). between x.span (last_span r.0 r.1)) first ∙ ap span_of (sym r.2) in
    ap (λ (s : Span). Some s) same

some_is : (s t : Span) → ◌≡◌ {A = Option Span} (Some s) (Some t) → s ≡ t
some_is s t e = cc

gives-option : (body : Body) (span : Span) → IsTrue (has_options body) → Gives (option_form span) (Spells body w.Option span)
unfolding option_form
gives-option body span fits =
    after _ _ _ (gives-terminal w.Option) (λ s1 f1 p1 ts. after_at ts option_parts _ (λ n back. Spells body w.Option span n (f1 ++ back)) (parts_at ts) (λ parts f2 here same p2.
    after _ _ (λ n back. Spells body w.Option span n (f1 ++ (f2 ++ back))) (gives-terminal w.Equals) (λ s3 f3 p3. after _ _ _ gives-option_value (λ value f4 p4.
    named (named_from ts parts) value f1 f2 f3 f4 (named_is ts parts f2 here same p2) p1 (parts, parts_only IsOptionPart parts f2 p2) p3 p4)) here))
  where
    parts_at : (ts : List Lexeme) (a : List Span) (here : List Lexeme) → option_parts ts ≡ Some (a, here) → (front : List Lexeme) × (ts ≡ front ++ here) × IsSeparated w.Dot (Ending IsOptionPart) a front
    parts_at ts a here e = gives-separated w.Dot option_part (Ending IsOptionPart) gives-option_part ts a here e

    named : (o : Option Span) (value : Span) (f1 f2 f3 f4 : List Lexeme) → o ≡ Some (span_of f2) → IsTerminal w.Option f1 → IsOptionName f2 → IsTerminal w.Equals f3 → (IsAt IsContent value ⊳ IsTerminal w.Semicolon) f4
        → Gives (elim o [ None ↦ nothing | Some name ↦ pure (node.OptionDef span name value) ]) (λ n back. Spells body w.Option span n (f1 ++ (f2 ++ (f3 ++ (f4 ++ back)))))
    named None value f1 f2 f3 f4 same p1 p2 p3 p4 = λ ts a rest e. never e
    named (Some name) value f1 f2 f3 f4 same p1 p2 p3 p4 = λ ts a rest e.
        let h : (IsTerminal w.Option ⊳ (IsAt IsOptionName name ⊳ (IsTerminal w.Equals ⊳ (IsAt IsContent value ⊳ IsTerminal w.Semicolon)))) (f1 ++ (f2 ++ (f3 ++ f4))) = turn f1 _ p1 (turn f2 _ (p2, some_is name (span_of f2) same) (turn f3 f4 p3 p4)) in
        ([], (pair_is e).1, subst (λ n. Spells body w.Option span n (f1 ++ (f2 ++ (f3 ++ (f4 ++ []))))) (pair_is e).0 (is_option fits (rw append-nil h)))

-- what follows `to`
abbrev BehindTo : Bool → RangeEnd → List Lexeme → Type 0
BehindTo may_be_negative bound.Same ts = ⊥
BehindTo may_be_negative (bound.Number n) ts = IsNumber may_be_negative n ts
BehindTo may_be_negative (bound.Max span) ts = IsWordAt w.Max span ts

gives-range_end : (may_be_negative : Bool) → Gives (range_end may_be_negative) (BehindTo may_be_negative)
unfolding range_end
gives-range_end may_be_negative ts a rest e = by (begins w.Max ts) e
  where
    by : (is_max : Bool) → cond {A = Option (RangeEnd × List Lexeme)} is_max ((terminal w.Max >>= (λ s. pure (bound.Max s))) ts) ((number may_be_negative >>= (λ n. pure (bound.Number n))) ts) ≡ Some (a, rest) → (front : List Lexeme) × (ts ≡ front ++ rest) × BehindTo may_be_negative a front
    by true e = last _ _ (BehindTo may_be_negative) (gives-terminal_at w.Max) (λ s f p. p) ts a rest e
    by false e = last _ _ (BehindTo may_be_negative) (gives-number may_be_negative) (λ n f p. p) ts a rest e

abbrev BehindLow : Bool → Bool → RangeEnd → List Lexeme → Type 0
BehindLow may_be_negative true high ts = BehindTo may_be_negative high ts
BehindLow may_be_negative false high ts = (high ≡ bound.Same) × (ts ≡ [])

gives-behind_low : (may_be_negative is_longer : Bool) → Gives (cond {A = Reader RangeEnd} is_longer (range_end may_be_negative) (pure bound.Same)) (BehindLow may_be_negative is_longer)
gives-behind_low may_be_negative true = gives-range_end may_be_negative
gives-behind_low may_be_negative false = λ ts a rest e. ([], (pair_is e).1, (sym (pair_is e).0, refl))

ranged : (may_be_negative is_longer : Bool) (high : RangeEnd) (f2 f3 : List Lexeme) → IsFlag w.To is_longer f2 → BehindLow may_be_negative is_longer high f3 → IsRangeEnd may_be_negative high (f2 ++ f3)
ranged may_be_negative true bound.Same f2 f3 p2 p3 = absurd p3
ranged may_be_negative true (bound.Number n) f2 f3 p2 p3 = (f2, f3, refl, p2, p3)
ranged may_be_negative true (bound.Max span) f2 f3 p2 p3 = (f2, f3, refl, p2, p3)
ranged may_be_negative false high f2 f3 p2 p3 = subst (λ h. IsRangeEnd may_be_negative h (f2 ++ f3)) (sym p3.0) (ap (λ l. l ++ f3) p2 ∙ p3.1)

gives-range : (may_be_negative : Bool) → Gives (range may_be_negative) (IsRange may_be_negative)
unfolding range
gives-range may_be_negative =
    after _ _ _ (gives-number may_be_negative) (λ low f1 p1. after _ _ _ (gives-eat w.To) (λ is_longer f2 p2. last _ _ _ (gives-behind_low may_be_negative is_longer) (λ high f3 p3. (f1, f2 ++ f3, refl, p1, ranged may_be_negative is_longer high f2 f3 p2 p3))))

gives-reserved_list : (may_be_negative : Bool) → Gives (reserved_list may_be_negative) (IsReservedList may_be_negative)
unfolding reserved_list
gives-reserved_list may_be_negative ts a rest e = by (begins w.PlainText ts) e
  where
    by : (are_names : Bool) → cond {A = Option (ReservedList × List Lexeme)} are_names ((literals >>= (λ names. pure (Names names))) ts) ((ranges may_be_negative >>= (λ found. pure (Ranges found))) ts) ≡ Some (a, rest)
        → (front : List Lexeme) × (ts ≡ front ++ rest) × IsReservedList may_be_negative a front
    by true e = last _ _ (IsReservedList may_be_negative) (gives-separated w.Comma literal IsLiteral gives-literal) (λ names f p. p) ts a rest e
    by false e = last _ _ (IsReservedList may_be_negative) (gives-separated w.Comma (range may_be_negative) (IsRange may_be_negative) (gives-range may_be_negative)) (λ found f p. p) ts a rest e

gives-reserved_in_message : (span : Span) → Gives (reserved_form false span) (Spells b.Message w.Reserved span)
unfolding reserved_form
gives-reserved_in_message span = after _ _ _ (gives-terminal w.Reserved) (λ s1 f1 p1. after _ _ _ (gives-reserved_list false) (λ list f2 p2. last _ _ _ (gives-terminal w.Semicolon) (λ s3 f3 p3. is_reserved_in_message (turn _ _ p1 (turn _ _ p2 p3)))))

gives-reserved_in_enum : (span : Span) → Gives (reserved_form true span) (Spells b.Enum w.Reserved span)
unfolding reserved_form
gives-reserved_in_enum span = after _ _ _ (gives-terminal w.Reserved) (λ s1 f1 p1. after _ _ _ (gives-reserved_list true) (λ list f2 p2. last _ _ _ (gives-terminal w.Semicolon) (λ s3 f3 p3. is_reserved_in_enum (turn _ _ p1 (turn _ _ p2 p3)))))

-- ---- the forms of each body

gives-file : (it : Terminal) (span : Span) → Gives (form b.File it span) (Spells b.File it span)
gives-file w.Syntax span = gives-syntax span
gives-file w.Import span = gives-import span
gives-file w.Package span = gives-package span
gives-file w.Option span = gives-option b.File span refl
gives-file w.Semicolon span = gives-empty b.File span
gives-file _ span = λ ts a rest e. never e

gives-message : (it : Terminal) (span : Span) → Gives (form b.Message it span) (Spells b.Message it span)
gives-message w.Message span = λ ts a rest e. never e
gives-message w.Enum span = λ ts a rest e. never e
gives-message w.Extend span = λ ts a rest e. never e
gives-message w.Oneof span = λ ts a rest e. never e
gives-message w.Option span = gives-option b.Message span refl
gives-message w.Reserved span = gives-reserved_in_message span
gives-message w.Semicolon span = gives-empty b.Message span
gives-message _ span = gives-field_or_map _ span refl

gives-oneof : (it : Terminal) (span : Span) → Gives (form b.Oneof it span) (Spells b.Oneof it span)
gives-oneof w.Option span = gives-option b.Oneof span refl
gives-oneof w.Semicolon span = gives-empty b.Oneof span
gives-oneof _ span = gives-field b.Oneof _ span refl

gives-extend : (it : Terminal) (span : Span) → Gives (form b.Extend it span) (Spells b.Extend it span)
gives-extend w.Semicolon span = gives-empty b.Extend span
gives-extend _ span = gives-field b.Extend _ span refl

gives-enum : (it : Terminal) (span : Span) → Gives (form b.Enum it span) (Spells b.Enum it span)
gives-enum w.Option span = gives-option b.Enum span refl
gives-enum w.Reserved span = gives-reserved_in_enum span
gives-enum w.Semicolon span = gives-empty b.Enum span
gives-enum _ span = gives-value _ span refl

gives-service : (it : Terminal) (span : Span) → Gives (form b.Service it span) (Spells b.Service it span)
gives-service w.Option span = gives-option b.Service span refl
gives-service w.Rpc span = gives-rpc span
gives-service w.Semicolon span = gives-empty b.Service span
gives-service _ span = λ ts a rest e. never e

gives-rpc_body : (it : Terminal) (span : Span) → Gives (form b.Rpc it span) (Spells b.Rpc it span)
gives-rpc_body w.Option span = gives-option b.Rpc span refl
gives-rpc_body w.Semicolon span = gives-empty b.Rpc span
gives-rpc_body _ span = λ ts a rest e. never e

gives-form : (body : Body) (it : Terminal) (span : Span) → Gives (form body it span) (Spells body it span)
gives-form b.File = gives-file
gives-form b.Message = gives-message
gives-form b.Oneof = gives-oneof
gives-form b.Extend = gives-extend
gives-form b.Enum = gives-enum
gives-form b.Service = gives-service
gives-form b.Rpc = gives-rpc_body

-- where the whole is read, nothing is left
all_read : {A : Type 0} (o : Option (A × List Lexeme)) (a : A) → if_all o ≡ Some a → o ≡ Some (a, [])
all_read None a e = never e
all_read (Some (x, [])) a e = ap (λ o. elim o [ None ↦ None | Some y ↦ Some (y, []) ]) e
all_read (Some (x, t ∷ ts)) a e = never e

pub statement_spelled : (body : Body) (t : Lexeme) (ts : List Lexeme) (n : Node) → statement body (t ∷ ts) ≡ Some n → Spells body t.terminal (span_of (t ∷ ts)) n (t ∷ ts)
unfolding statement
statement_spelled body t ts n e =
    let g = gives-form body t.terminal (span_of (t ∷ ts)) (t ∷ ts) n [] (all_read _ n e) in
    subst (Spells body t.terminal (span_of (t ∷ ts)) n) (sym (g.1 ∙ append-nil g.0)) g.2
