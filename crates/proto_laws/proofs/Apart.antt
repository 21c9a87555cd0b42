-- No two identifiers of a text touch.
use Rattle.std.proofs.Common.{◌≡◌, ◌⊎◌, inl, inr, ℕ, zero, suc, ◌+◌, ◌-◌, ◌<◌, ◌≤◌, Bool, true, false, List, [], ◌∷◌, ◌++◌, length, take, drop, get_or, refl, sym, ap, subst, ◌∙◌, arith, cond, drop-drop}
use Rattle.std.specs.Prelude.{not, ◌||◌, All, filter, map}
use Rattle.std.specs.List.{AllPairs}
use Rattle.std.proofs.lemmas.List.Elements.{All-head, All-tail, All-map, All-filter, All-push, All-weaker}
use Rattle.std.proofs.lemmas.List.Kept.{AllPairs-cons}
use Rattle.proto_lex.specs.declared.bytes.Class.{Class}
use Rattle.proto_lex.specs.declared.bytes.Class.TheVariants as class
use Rattle.proto_lex.specs.declared.token.Token.{Token}
use Rattle.proto_lex.specs.declared.token.Kind.TheVariants as k
use Rattle.proto_lex.specs.Bytes.{class_of, is_letter, is_name_byte, is_quote, is_space, is_symbol}
use Rattle.std.specs.Char.{is_ascii_digit}
use Rattle.proto_lex.specs.Forms.{IsIdent as IsIdentForm}
use Rattle.proto_lex.specs.Laws.{IsOrderedFrom}
use Rattle.proto_lex.specs.Tokens.{IsTokenAt, AreTokens, AreTokensFrom, byte_order_mark_len, tokens}
use Rattle.proto_tree.specs.declared.lexeme.Lexeme.{Lexeme}
use Rattle.proto_tree.specs.declared.lexeme.Body.TheVariants as b
use Rattle.proto_tree.specs.declared.node.Span.{Span}
use Rattle.proto_tree.specs.Grammar.{IsIdent}
use Rattle.proto_tree.specs.Lexeme.{is_bad, lexeme_of, lexemes}
use Rattle.proto_tree.specs.Read.{body_tree, max_blocks, read, tree_of}
use Rattle.proto_laws.specs.Apart.{NamesAreApart}
use Rattle.proto_laws.proofs.Identifiers.{identifiers-spelled, identifiers-same, identifiers_in}
use Rattle.proto_laws.proofs.Spelled.{Spell}
use Rattle.proto_laws.proofs.TokenNames.{IfIdentifier, of_ident, spelled-all, tokens_from-known}

-- ---- bytes

-- a letter goes on with a name
goes_on : (c : ℕ) → class_of c ≡ class.Letter → is_name_byte c ≡ true
unfolding class_of is_name_byte
goes_on c e = by (is_letter c) (is_ascii_digit c) (is_quote c) (is_space c) (is_symbol c) e
  where
    by : (l d q s y : Bool) → cond {A = Class} l class.Letter (cond {A = Class} d class.Digit (cond {A = Class} q class.Quote (cond {A = Class} s class.Space (cond {A = Class} y class.Symbol class.Other)))) ≡ class.Letter → (l || d) ≡ true
    by true d q s y e = refl
    by false true q s y e = refl
    by false false true s y e = cc
    by false false false true y e = cc
    by false false false false true e = cc
    by false false false false false e = cc

first_letter : (m : ℕ) (xs : List ℕ) → IsIdentForm (take m xs) → (c : ℕ) × (more : List ℕ) × (xs ≡ c ∷ more) × (class_of c ≡ class.Letter)
first_letter zero xs h = absurd h
first_letter (suc m) [] h = absurd h
first_letter (suc m) (x ∷ xs) h = (x, xs, refl, h.0)

next_taken : (n : ℕ) (xs : List ℕ) (c : ℕ) (more : List ℕ) → drop n xs ≡ c ∷ more → (take (suc n) xs ≡ take n xs ++ c ∷ []) × (suc n ≤ length xs)
next_taken zero [] c more e = cc
next_taken zero (x ∷ xs) c more e = let same : x ≡ c = cc in (ap (λ y. y ∷ []) same, omega arith)
next_taken (suc n) [] c more e = cc
next_taken (suc n) (x ∷ xs) c more e = let rest = next_taken n xs c more e in (ap (λ l. x ∷ l) rest.0, omega (arith, rest.1))

one_longer : (xs : List ℕ) (c : ℕ) → IsIdentForm xs → is_name_byte c ≡ true → IsIdentForm (xs ++ c ∷ [])
one_longer [] c h e = absurd h
one_longer (x ∷ xs) c h e = (h.0, All-push (λ y. is_name_byte y ≡ true) xs c h.1 e)

-- ---- tokens

-- the span is that of an identifier, as a token of the text
abbrev pub IsIdentAt : List ℕ → Span → Type 0
IsIdentAt text s = IsTokenAt text (record { kind = k.Ident; start = s.start; «end» = s.«end» })

order : (i j : ℕ) → i ≤ j → (i < j) ⊎ (i ≡ j)
order zero zero le = inr refl
order zero (suc j) le = inl (omega arith)
order (suc i) zero le = absurd (omega (arith, le))
order (suc i) (suc j) le = by (order i j (omega (arith, le)))
  where
    by : (i < j) ⊎ (i ≡ j) → (suc i < suc j) ⊎ (suc i ≡ suc j)
    by (inl lt) = inl (omega (arith, lt))
    by (inr same) = inr (ap suc same)

-- the next one doesn't begin where one ends: the two would be one
no_touch : (text : List ℕ) (s u : Span) → IsIdentAt text s → IsIdentAt text u → s.«end» ≡ u.start → ⊥
no_touch text s u h g e =
    let len : s.«end» - s.start + s.start ≡ s.«end» = omega (arith, h.ordered) in
    let next = first_letter (u.«end» - u.start) (drop u.start text) g.token.form in
    let behind : drop (s.«end» - s.start) (drop s.start text) ≡ next.0 ∷ next.1 = drop-drop (s.«end» - s.start) s.start text ∙ ap (λ n. drop n text) (omega (arith, h.ordered, e)) ∙ next.2 in
    let longer = next_taken (s.«end» - s.start) (drop s.start text) next.0 next.1 behind in
    h.token.longest k.Ident (suc (s.«end» - s.start)) (omega arith) longer.1
    (subst IsIdentForm (sym longer.0) (one_longer (take (s.«end» - s.start) (drop s.start text)) next.0 h.token.form (goes_on next.0 next.3)))

apart_at : (text : List ℕ) (s u : Span) → IsIdentAt text s → IsIdentAt text u → s.«end» ≤ u.start → s.«end» < u.start
apart_at text s u h g le = by (order s.«end» u.start le)
  where
    by : (s.«end» < u.start) ⊎ (s.«end» ≡ u.start) → s.«end» < u.start
    by (inl lt) = lt
    by (inr same) = absurd (no_touch text s u h g same)

-- lexemes one behind the other
abbrev pub InLine : ℕ → List Lexeme → Type 0
InLine at [] = Unit {0}
InLine at (t ∷ ts) = (at ≤ t.span.start) × (t.span.start < t.span.«end») × InLine t.span.«end» ts

pub line-sooner : (at later : ℕ) (ts : List Lexeme) → at ≤ later → InLine later ts → InLine at ts
line-sooner at later [] le h = tt
line-sooner at later (t ∷ ts) le h = (omega (arith, le, h.0), h.1, h.2)

line-behind : (at : ℕ) (front behind : List Lexeme) → InLine at (front ++ behind) → InLine at behind
line-behind at [] behind h = h
line-behind at (t ∷ front) behind h = line-sooner at t.span.«end» behind (omega (arith, h.0, h.1)) (line-behind t.span.«end» front behind h.2)

all-after : (at : ℕ) (ts : List Lexeme) → InLine at ts → All (λ t. at ≤ t.span.start) ts
all-after at [] h i d lt = absurd (omega (arith, lt))
all-after at (t ∷ ts) h zero d lt = h.0
all-after at (t ∷ ts) h (suc i) d lt = all-after at ts (line-sooner at t.span.«end» ts (omega (arith, h.0, h.1)) h.2) i d (omega (arith, lt))

module _ (text : List ℕ) where
  pub lexemes-in_line : (limit at : ℕ) (ts : List Token) → IsOrderedFrom limit at ts → InLine at (lexemes text ts)
  lexemes-in_line limit at [] h = tt
  lexemes-in_line limit at (t ∷ ts) h = by (is_bad t.kind) (lexemes-in_line limit t.«end» ts h.2)
    where
      by : (b : Bool) → InLine t.«end» (lexemes text ts) → InLine at (map (lexeme_of text) (cond {A = List Token} (not b) (t ∷ filter (λ t. not (is_bad t.kind)) ts) (filter (λ t. not (is_bad t.kind)) ts)))
      by true behind = line-sooner at t.«end» (lexemes text ts) (omega (arith, h.0, h.1)) behind
      by false behind = (h.0, h.1, behind)

  token-ident : (t : Token) → IsTokenAt text t → IfIdentifier (IsIdentAt text) (lexeme_of text t)
  token-ident t h is = record {
    ordered = h.ordered;
    token = record {
      in_range = h.token.in_range;
      form = of_ident t.kind (take (t.«end» - t.start) (drop t.start text)) h.token.form is;
      longest = h.token.longest;
      no_trivia = h.token.no_trivia;
    };
  }

  pub lexemes-known : (ts : List Token) → All (IsTokenAt text) ts → All (IfIdentifier (IsIdentAt text)) (lexemes text ts)
  lexemes-known ts are =
      let good : Token → Bool = λ t. not (is_bad t.kind) in
      All-map (IfIdentifier (IsIdentAt text)) (lexeme_of text) (filter good ts)
      (All-weaker (IsTokenAt text) (λ t. IfIdentifier (IsIdentAt text) (lexeme_of text t)) token-ident (filter good ts) (All-filter good (IsTokenAt text) ts are))

  all-behind : (P : Lexeme → Type 0) (front behind : List Lexeme) → All P (front ++ behind) → All P behind
  all-behind P [] behind h = h
  all-behind P (x ∷ front) behind h = all-behind P front behind (All-tail P x (front ++ behind) h)

  spelled-apart : (at : ℕ) (ts : List Lexeme) (spans : List Span) → All (IfIdentifier (IsIdentAt text)) ts → InLine at ts → Spell IsIdent ts spans → AllPairs (λ a b. a.«end» < b.start) spans
  spelled-apart at ts [] known line h = λ i j d lt within. absurd (omega (arith, within))
  spelled-apart at ts (s ∷ more) known line h =
      let t = h.4.0 in
      let split : ts ≡ h.0 ++ (t ∷ h.2) = h.3 ∙ ap (λ l. h.0 ++ (l ++ h.2)) h.4.1 in
      let here = all-behind (IfIdentifier (IsIdentAt text)) h.0 (t ∷ h.2) (subst (All (IfIdentifier (IsIdentAt text))) split known) in
      let up = line-behind at h.0 (t ∷ h.2) (subst (InLine at) split line) in
      let behind = All-tail (IfIdentifier (IsIdentAt text)) t h.2 here in
      let own : IsIdentAt text s = subst (IsIdentAt text) h.4.3 (All-head (IfIdentifier (IsIdentAt text)) t h.2 here h.4.2) in
      let later : All (λ u. s.«end» < u.start) more = spelled-all (λ u. s.«end» < u.start) h.2 more
      (λ i d lt is. apart_at text s (get_or h.2 i d).span own (behind i d lt is) (subst (λ x. x.«end» ≤ (get_or h.2 i d).span.start) h.4.3 (all-after t.span.«end» h.2 up.2 i d lt))) h.5 in
      AllPairs-cons (λ a b. a.«end» < b.start) s more later (spelled-apart t.span.«end» h.2 more behind up.2 h.5)

pub lexemes-apart : (text : List ℕ) (at : ℕ) (its : List Lexeme) → All (IfIdentifier (IsIdentAt text)) its → InLine at its → NamesAreApart (body_tree max_blocks b.File its).nodes
lexemes-apart text at its known line =
    let spelled = identifiers-spelled max_blocks b.File its in
    let nodes = (body_tree max_blocks b.File its).nodes in
    record {
      all = identifiers_in nodes;
      same = identifiers-same nodes;
      some = All-weaker (IsIdentAt text) (λ s. s.start < s.«end») (λ s h. h.ordered) (identifiers_in nodes) (spelled-all (IsIdentAt text) its (identifiers_in nodes) known spelled);
      apart = spelled-apart text at its (identifiers_in nodes) known line spelled;
    }

tree-apart : (text : List ℕ) (ts : List Token) (at : ℕ) → AreTokensFrom text at ts → IsOrderedFrom (length text) at ts → NamesAreApart (tree_of text ts).nodes
unfolding tree_of
tree-apart text ts at are line = lexemes-apart text at (lexemes text ts) (lexemes-known text ts (tokens_from-known text at ts are)) (lexemes-in_line text (length text) at ts line)

pub names_are_apart : ((text : List ℕ) → AreTokens text (tokens text)) → ((text : List ℕ) → IsOrderedFrom (length text) (byte_order_mark_len text) (tokens text)) → (text : List ℕ) → NamesAreApart (read text).nodes
unfolding read
names_are_apart are line text = tree-apart text (tokens text) (byte_order_mark_len text) (are text) (line text)
