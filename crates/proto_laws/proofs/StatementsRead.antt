-- What is spelled as a header or as a statement is read as it.
use Rattle.std.proofs.Common.{◌≡◌, ◌⊎◌, inl, inr, ◌-◌, ◌<◌, Bool, true, false, List, [], ◌∷◌, ◌++◌, length, take, map, Option, Some, None, refl, sym, ap, subst, ◌∙◌, arith, cond, append_assoc, append-nil, length-append}
use Rattle.std.specs.Prelude.{IsTrue, ◌&&◌}
use Rattle.std.proofs.lemmas.Bool.{false≢true}
use denote.Enum.Bare.{same_true}
use Rattle.proto_tree.specs.contracts.lexeme.Terminal.{the_type}
use Rattle.proto_tree.specs.declared.lexeme.Lexeme.{Lexeme}
use Rattle.proto_tree.specs.declared.lexeme.Body.{Body}
use Rattle.proto_tree.specs.declared.lexeme.Body.TheVariants as b
use Rattle.proto_tree.specs.declared.lexeme.Terminal.{Terminal}
use Rattle.proto_tree.specs.declared.lexeme.Terminal.TheVariants as w
use Rattle.proto_tree.specs.declared.node.Field.{Field}
use Rattle.proto_tree.specs.declared.node.Header.{Header}
use Rattle.proto_tree.specs.declared.node.Header.TheVariants as header
use Rattle.proto_tree.specs.declared.node.Literal.{Literal}
use Rattle.proto_tree.specs.declared.node.MapField.{MapField}
use Rattle.proto_tree.specs.declared.node.Node.{Node}
use Rattle.proto_tree.specs.declared.node.Node.TheVariants as node
use Rattle.proto_tree.specs.declared.node.Number.{Number}
use Rattle.proto_tree.specs.declared.node.RangeEnd.{RangeEnd}
use Rattle.proto_tree.specs.declared.node.RangeEnd.TheVariants as bound
use Rattle.proto_tree.specs.declared.node.ReservedList.{ReservedList}
use Rattle.proto_tree.specs.declared.node.ReservedList.TheVariants.{Ranges, Names}
use Rattle.proto_tree.specs.declared.node.ReservedRange.{ReservedRange}
use Rattle.proto_tree.specs.declared.node.Span.{Span}
use Rattle.proto_tree.specs.declared.node.TypeName.{TypeName}
use Rattle.proto_tree.specs.Lexeme.{is, is_identifier}
use Rattle.proto_tree.specs.Cut.{ends_in, begins}
use Rattle.proto_tree.specs.Parts.{Reader, ◌>>=◌, ◌>>◌, pure, nothing, if_all, eat, terminal, identifier, full, type_name, literal, number, but_last, is_content, is_options_end, rest_if, between, last_of, span_of}
use Rattle.proto_tree.specs.Forms.{option_parts, block_name, extend_header, group_header, in_parentheses, rpc_header, header_form, header_and_brace, header_and_rest, numbered, is_label, label, labels_given, labels, plain_field, map_field, field, field_or_map, begins_map, syntax_form, import_form, package_form, value_form, empty_form, rpc_form, option_part, option_value, option_form, named_from, range_end, range, ranges, literals, reserved_list, reserved_form, form, statement}
use Rattle.proto_tree.specs.Grammar.{◌⊳◌, IsTerminal, IsWordAt, IsIdent, IsFlag, IsSeparated, IsFull, IsType, IsLiteral, IsNumber, IsLabels, begins_with_label, AreAllLabels, IsAt, IsContent, IsFieldEnd, IsOptionPart, IsOptionName, IsRangeEnd, IsRange, IsReservedList, IsInParentheses, IsHeader, IsModifier, Spells, is_syntax, is_import, is_package, is_option, is_field, is_map_field, is_value, is_reserved_in_message, is_reserved_in_enum, is_rpc, is_empty, may_be_field, has_options, is_listed_in_enum}
use Rattle.proto_tree.proofs.PartLemmas.{pair_is}
use Rattle.proto_laws.specs.Trees.{first_terminal}
use Rattle.proto_laws.proofs.BracketsLaw.{is_balanced_of}
use Rattle.proto_laws.proofs.GrammarLemmas.{full_span, but_last_twice, named_is, Ending, parted}
use Rattle.proto_laws.proofs.PartsRead.{Starts, is_terminal, is_same, starts_before, starts_turn, starts_terminal, starts_terminal_at, starts_ident, starts_not, starts_as, read_then, step_at, step, read_ident, read_terminal_at, at_terminal, step_terminal, last_terminal, read_flag, read_separated, starts_separated, some_of, read_full, starts_full, in_type, starts_type, read_type, starts_literal, read_literal, in_number, starts_number, read_number}

-- ---- headers

-- an identifier, and what is behind it
step_ident : {B : Type 0} (name : Span) (f : Span → Reader B) (Q : List Lexeme → Type 0) (out : Option (B × List Lexeme)) (ts rest : List Lexeme) → (IsIdent name ⊳ Q) ts
    → ((back : List Lexeme) → Q back → f name (back ++ rest) ≡ out) → (identifier >>= f) (ts ++ rest) ≡ out
step_ident name f Q out ts rest h q = step identifier f (IsIdent name) Q name out ts rest h (λ front back p more. read_ident name front (back ++ rest) p) q

-- a type, and behind it what begins with no dot
step_type : {B : Type 0} (name : TypeName) (f : TypeName → Reader B) (Q : List Lexeme → Type 0) (out : Option (B × List Lexeme)) (ts rest : List Lexeme) → (IsType name ⊳ Q) ts
    → ((back : List Lexeme) → Q back → begins w.Dot (back ++ rest) ≡ false) → ((back : List Lexeme) → Q back → f name (back ++ rest) ≡ out) → (type_name >>= f) (ts ++ rest) ≡ out
step_type name f Q out ts rest h none q = step type_name f (IsType name) Q name out ts rest h (λ front back p more. read_type name front (back ++ rest) p (none back more)) q

-- behind a terminal stands no other one
no_other : (it other : Terminal) (ts rest : List Lexeme) → IsTerminal it ts → is_terminal it other ≡ false → begins other (ts ++ rest) ≡ false
no_other it other ts rest h e = starts_not other (starts_before rest (starts_terminal it ts h)) e

no_other_turn : (it other : Terminal) (Q : List Lexeme → Type 0) (ts rest : List Lexeme) → (IsTerminal it ⊳ Q) ts → is_terminal it other ≡ false → begins other (ts ++ rest) ≡ false
no_other_turn it other Q ts rest h e = starts_not other (starts_before rest (starts_turn (IsTerminal it) Q (starts_terminal it) h)) e

no_dot_turn : (name : Span) (Q : List Lexeme → Type 0) (ts rest : List Lexeme) → (IsIdent name ⊳ Q) ts → begins w.Dot (ts ++ rest) ≡ false
no_dot_turn name Q ts rest h = starts_not w.Dot (starts_before rest (starts_turn (IsIdent name) Q (starts_ident name) h)) refl

block_named : (it : Terminal) (name : Span) (front rest : List Lexeme) → (IsTerminal it ⊳ IsIdent name) front → block_name it (front ++ rest) ≡ Some (name, rest)
block_named it name front rest h = step_terminal it (λ s. identifier) (IsIdent name) _ front rest h (λ s back p. read_ident name back rest p)

-- where a part with a flag in front has none, the terminal doesn't stand there
unmarked : (it : Terminal) (inside flag back rest : List Lexeme) (fits : Terminal → Bool) → inside ≡ flag ++ back → IsFlag it (begins it inside) flag → Starts fits back → begins it inside ≡ false → begins it (back ++ rest) ≡ false
unmarked it inside flag back rest fits e p s none =
    let empty : flag ≡ [] = subst (λ x. IsFlag it x flag) none p in
    let first : begins it inside ≡ is it s.first = ap (begins it) (e ∙ ap (λ l. l ++ back) empty ∙ s.whole) in
    ap (λ l. begins it (l ++ rest)) s.whole ∙ sym first ∙ none

in_parentheses_read : (name : TypeName) (front rest : List Lexeme) → IsInParentheses name front → in_parentheses (front ++ rest) ≡ Some (name, rest)
unfolding in_parentheses
in_parentheses_read name front rest h =
    step_terminal w.OpenParen _ (λ inside. (IsFlag w.Stream (begins w.Stream inside) ⊳ (IsType name ⊳ IsTerminal w.CloseParen)) inside) _ front rest h (λ s inside p.
    step_at (eat w.Stream) _ (IsFlag w.Stream (begins w.Stream inside)) (IsType name ⊳ IsTerminal w.CloseParen) (begins w.Stream inside) _ inside rest p
    (read_flag w.Stream (begins w.Stream inside) p.0 (p.1 ++ rest) p.3 (unmarked w.Stream inside p.0 p.1 rest in_type p.2 p.3 (starts_turn (IsType name) (IsTerminal w.CloseParen) (starts_type name) p.4)))
    (step_type name _ (IsTerminal w.CloseParen) _ p.1 rest p.4 (λ close r. no_other w.CloseParen w.Dot close rest r refl) (λ close r. last_terminal w.CloseParen _ _ close rest r (λ s. refl))))

starts_in_parentheses : (name : TypeName) (front : List Lexeme) → IsInParentheses name front → Starts (is_terminal w.OpenParen) front
starts_in_parentheses name front h = starts_turn (IsTerminal w.OpenParen) _ (starts_terminal w.OpenParen) h

rpc_read : (name : Span) (request response : TypeName) (front rest : List Lexeme) → IsHeader (header.Rpc name request response) front → rpc_header (front ++ rest) ≡ Some (header.Rpc name request response, rest)
unfolding rpc_header
rpc_read name request response front rest h =
    step_terminal w.Rpc _ (IsIdent name ⊳ (IsInParentheses request ⊳ (IsTerminal w.Returns ⊳ IsInParentheses response))) _ front rest h (λ s t1 h1.
    step_ident name _ (IsInParentheses request ⊳ (IsTerminal w.Returns ⊳ IsInParentheses response)) _ t1 rest h1 (λ t2 h2.
    step in_parentheses _ (IsInParentheses request) (IsTerminal w.Returns ⊳ IsInParentheses response) request _ t2 rest h2 (λ f2 t3 p2 h3. in_parentheses_read request f2 (t3 ++ rest) p2) (λ t3 h3.
    step_terminal w.Returns _ (IsInParentheses response) _ t3 rest h3 (λ s4 t4 h4. read_then in_parentheses _ (t4 ++ rest) rest response _ (in_parentheses_read response t4 rest h4) refl))))

-- a header with a name alone
named_read : (it : Terminal) (name : Span) (made : Span → Header) (front rest : List Lexeme) → (IsTerminal it ⊳ IsIdent name) front → (block_name it >>= (λ name. pure (made name))) (front ++ rest) ≡ Some (made name, rest)
named_read it name made front rest h = read_then (block_name it) (λ name. pure (made name)) (front ++ rest) rest name (Some (made name, rest)) (block_named it name front rest h) refl

group_read : (name : Span) (front rest : List Lexeme) → IsHeader (header.Group name) front → group_header (front ++ rest) ≡ Some (header.Group name, rest)
unfolding group_header
group_read name front rest h =
    step_terminal w.Group _ (IsIdent name ⊳ (IsTerminal w.Equals ⊳ IsTerminal w.Int)) _ front rest h (λ s t1 h1.
    step_ident name _ (IsTerminal w.Equals ⊳ IsTerminal w.Int) _ t1 rest h1 (λ t2 h2.
    step_terminal w.Equals _ (IsTerminal w.Int) _ t2 rest h2 (λ s3 t3 h3. last_terminal w.Int _ _ t3 rest h3 (λ s4. refl))))

-- `{` follows
abbrev BraceFollows : List Lexeme → Type 0
BraceFollows rest = begins w.Dot rest ≡ false

header_read : (head : Header) (front rest : List Lexeme) → IsHeader head front → BraceFollows rest → header_form (first_terminal head) (front ++ rest) ≡ Some (head, rest)
unfolding extend_header
header_read (header.Message name) front rest h none = named_read w.Message name header.Message front rest h
header_read (header.Enum name) front rest h none = named_read w.Enum name header.Enum front rest h
header_read (header.Service name) front rest h none = named_read w.Service name header.Service front rest h
header_read (header.Oneof name) front rest h none = named_read w.Oneof name header.Oneof front rest h
header_read (header.Extend target) front rest h none =
    step_terminal w.Extend _ (IsType target) _ front rest h (λ s t1 h1. read_then type_name _ (t1 ++ rest) rest target _ (read_type target t1 rest h1 none) refl)
header_read (header.Group name) front rest h none = group_read name front rest h
header_read (header.Rpc name request response) front rest h none = rpc_read name request response front rest h

pub starts_header : (head : Header) (front : List Lexeme) → IsHeader head front → Starts (is_terminal (first_terminal head)) front
starts_header (header.Message name) front h = starts_turn (IsTerminal w.Message) _ (starts_terminal w.Message) h
starts_header (header.Enum name) front h = starts_turn (IsTerminal w.Enum) _ (starts_terminal w.Enum) h
starts_header (header.Service name) front h = starts_turn (IsTerminal w.Service) _ (starts_terminal w.Service) h
starts_header (header.Oneof name) front h = starts_turn (IsTerminal w.Oneof) _ (starts_terminal w.Oneof) h
starts_header (header.Extend target) front h = starts_turn (IsTerminal w.Extend) _ (starts_terminal w.Extend) h
starts_header (header.Group name) front h = starts_turn (IsTerminal w.Group) _ (starts_terminal w.Group) h
starts_header (header.Rpc name request response) front h = starts_turn (IsTerminal w.Rpc) _ (starts_terminal w.Rpc) h

brace_at : (t : Lexeme) (ts front rest : List Lexeme) (head : Header) → front ++ rest ≡ t ∷ ts → t.terminal ≡ first_terminal head → (IsHeader head ⊳ IsTerminal w.OpenBrace) front → header_and_brace (t ∷ ts) ≡ Some (head, rest)
unfolding header_and_brace
brace_at t ts front rest head e first h =
    ap (header_form t.terminal >>= (λ head. terminal w.OpenBrace >> pure head)) (sym e)
    ∙ ap (λ it. (header_form it >>= (λ head. terminal w.OpenBrace >> pure head)) (front ++ rest)) first
    ∙ step (header_form (first_terminal head)) _ (IsHeader head) (IsTerminal w.OpenBrace) head _ front rest h
    (λ f b p q. header_read head f (b ++ rest) p (no_other w.OpenBrace w.Dot b rest q refl))
    (λ b q. last_terminal w.OpenBrace _ _ b rest q (λ s. refl))

pub headers_are_read : (head : Header) (front rest : List Lexeme) → (IsHeader head ⊳ IsTerminal w.OpenBrace) front → header_and_rest (front ++ rest) ≡ Some (head, rest)
headers_are_read head front rest h =
    let s = starts_turn (IsHeader head) (IsTerminal w.OpenBrace) (starts_header head) h in
    let split : front ++ rest ≡ s.first ∷ (s.more ++ rest) = ap (λ l. l ++ rest) s.whole in
    ap header_and_brace split ∙ brace_at s.first (s.more ++ rest) front rest head split (same_true the_type (search refl) s.first.terminal (first_terminal head) s.passes) h

-- ---- ends of statements

pub ends_in_last : (it : Terminal) (ts : List Lexeme) (t : Lexeme) → t.terminal ≡ it → ends_in it (ts ++ t ∷ []) ≡ true
ends_in_last it [] t e = ap (is_terminal it) e ∙ is_same it
ends_in_last it (u ∷ []) t e = ap (is_terminal it) e ∙ is_same it
ends_in_last it (u ∷ v ∷ ts) t e = ends_in_last it (v ∷ ts) t e

take_front : (ts us : List Lexeme) → take (length ts) (ts ++ us) ≡ ts
take_front [] us = refl
take_front (t ∷ ts) us = ap (λ l. t ∷ l) (take_front ts us)

pub but_last_one : (ts : List Lexeme) (t : Lexeme) → but_last 1 (ts ++ t ∷ []) ≡ ts
but_last_one ts t =
    let len : length (ts ++ t ∷ []) - 1 ≡ length ts = omega (arith, length-append ts (t ∷ [])) in
    ap (λ k. take k (ts ++ t ∷ [])) len ∙ take_front ts (t ∷ [])

is_content_of : (ts : List Lexeme) → IsContent ts → is_content ts ≡ true
is_content_of [] h = absurd (h.1 refl)
is_content_of (t ∷ ts) h = is_balanced_of (t ∷ ts) h.0

and_true : (x y : Bool) → x ≡ true → y ≡ true → (x && y) ≡ true
and_true x y e f = rw (e, f) refl

-- options in brackets: a token, the content and two tokens more
options_end : (t : Lexeme) (content : List Lexeme) (u v : Lexeme) → t.terminal ≡ w.OpenBracket → IsContent content → u.terminal ≡ w.CloseBracket → v.terminal ≡ w.Semicolon → is_options_end (t ∷ ((content ++ u ∷ []) ++ v ∷ [])) ≡ true
unfolding is_options_end
options_end t [] u v e1 e2 e3 e4 = absurd (e2.1 refl)
options_end t (c ∷ content) u v e1 e2 e3 e4 =
    let front : List Lexeme = (c ∷ content) ++ u ∷ [] in
    let last : but_last 1 (front ++ v ∷ []) ≡ front = but_last_one front v in
    let inside : but_last 2 (front ++ v ∷ []) ≡ c ∷ content = sym (but_last_twice (front ++ v ∷ [])) ∙ ap (but_last 1) last ∙ but_last_one (c ∷ content) u in
    and_true _ _ (and_true _ _ (and_true _ _ (ap (is_terminal w.OpenBracket) e1 ∙ is_same w.OpenBracket) (ends_in_last w.Semicolon front v e4)) (ap (ends_in w.CloseBracket) last ∙ ends_in_last w.CloseBracket (c ∷ content) u e3)) (ap is_content inside ∙ is_content_of (c ∷ content) e2)

one_semicolon : (t : Lexeme) → t.terminal ≡ w.Semicolon → is_options_end (t ∷ []) ≡ true
unfolding is_options_end
one_semicolon t e = ap (is_terminal w.Semicolon) e ∙ is_same w.Semicolon

end_read : (ts : List Lexeme) → IsFieldEnd ts → is_options_end ts ≡ true
end_read ts (inl h) = ap is_options_end h.1 ∙ one_semicolon h.0 h.2
end_read ts (inr h) =
    let opening = h.3 in
    let inner = h.4 in
    let close = inner.4.3 in
    let semicolon = inner.4.4 in
    let ends : inner.4.0 ++ inner.4.1 ≡ close.0 ∷ semicolon.0 ∷ [] = ap (λ l. l ++ inner.4.1) close.1 ∙ ap (λ l. close.0 ∷ l) semicolon.1 in
    let back : h.1 ≡ (inner.0 ++ close.0 ∷ []) ++ semicolon.0 ∷ [] = inner.2 ∙ ap (λ l. inner.0 ++ l) (inner.4.2 ∙ ends) ∙ sym (append_assoc inner.0 (close.0 ∷ []) (semicolon.0 ∷ [])) in
    let all : ts ≡ opening.0 ∷ ((inner.0 ++ close.0 ∷ []) ++ semicolon.0 ∷ []) = h.2 ∙ ap (λ l. l ++ h.1) opening.1 ∙ ap (λ l. opening.0 ∷ l) back in
    ap is_options_end all ∙ options_end opening.0 inner.0 close.0 semicolon.0 opening.2 inner.3 close.2 semicolon.2

rest_read : {B : Type 0} (f : Unit {0} → Reader B) (out : Option (B × List Lexeme)) (ts : List Lexeme) → IsFieldEnd ts → f tt [] ≡ out → (rest_if is_options_end >>= f) (ts ++ []) ≡ out
rest_read f out ts h e = rw (append-nil ts, end_read ts h) e

numbered_read : (name at : Span) (ts : List Lexeme) → (IsIdent name ⊳ (IsTerminal w.Equals ⊳ (IsWordAt w.Int at ⊳ IsFieldEnd))) ts → numbered (ts ++ []) ≡ Some ((name, at), [])
numbered_read name at ts h =
    step_ident name _ (IsTerminal w.Equals ⊳ (IsWordAt w.Int at ⊳ IsFieldEnd)) _ ts [] h (λ t1 h1.
    step_terminal w.Equals _ (IsWordAt w.Int at ⊳ IsFieldEnd) _ t1 [] h1 (λ s t2 h2.
    step (terminal w.Int) _ (IsWordAt w.Int at) IsFieldEnd at _ t2 [] h2 (λ f b p q. read_terminal_at w.Int at f (b ++ []) p) (λ t3 h3. rest_read _ _ t3 h3 refl)))

-- a form that is read from the tokens and nothing behind them
wholly : {A : Type 0} (r : Reader A) (a : A) (ts : List Lexeme) → r (ts ++ []) ≡ Some (a, []) → r ts ≡ Some (a, [])
wholly r a ts e = ap r (sym (append-nil ts)) ∙ e

-- ---- labels

label_none : (ts : List Lexeme) → begins_with_label ts ≡ false → label ts ≡ Some (None, ts)
unfolding label
label_none [] e = refl
label_none (t ∷ ts) e = rw e refl

label_one : (t : Lexeme) (ts : List Lexeme) → is_label t.terminal ≡ true → label (t ∷ ts) ≡ Some (Some t.span, ts)
unfolding label
label_one t ts e = rw e refl

abbrev behind_first : Option Span → Reader (List Span)
behind_first first = elim first [ None ↦ pure [] | Some s ↦ label >>= (λ second. pure (labels_given (Some s) second)) ]

none_given : (behind : List Lexeme) → AreAllLabels [] behind → begins_with_label behind ≡ false
none_given behind (inl two) = absurd (omega (arith, two))
none_given behind (inr none) = none

one_given : (s : Span) (behind : List Lexeme) → AreAllLabels (s ∷ []) behind → begins_with_label behind ≡ false
one_given s behind (inl two) = absurd (omega (arith, two))
one_given s behind (inr none) = none

labels_read : (front behind : List Lexeme) → IsLabels (map (λ t. t.span) front) front → AreAllLabels (map (λ t. t.span) front) behind → labels (front ++ behind) ≡ Some (map (λ t. t.span) front, behind)
unfolding labels
labels_read [] behind h all = read_then label behind_first behind behind None _ (label_none behind (none_given behind all)) refl
labels_read (t ∷ []) behind h all =
    read_then label behind_first (t ∷ behind) behind (Some t.span) _ (label_one t behind (h.1 0 t (omega arith)))
    (read_then label _ behind behind None _ (label_none behind (one_given t.span behind all)) refl)
labels_read (t ∷ u ∷ []) behind h all =
    read_then label behind_first (t ∷ u ∷ behind) (u ∷ behind) (Some t.span) _ (label_one t (u ∷ behind) (h.1 0 t (omega arith)))
    (read_then label _ (u ∷ behind) behind (Some u.span) _ (label_one u behind (h.1 1 t (omega arith))) refl)
labels_read (t ∷ u ∷ v ∷ front) behind h all = absurd (omega (arith, h.2))

-- labels, and behind them the rest of a form
step_labels : {B : Type 0} (spans : List Span) (f : List Span → Reader B) (P : List Lexeme → Type 0) (out : Option (B × List Lexeme)) (ts : List Lexeme) → (IsLabels spans ⊳ (λ behind. AreAllLabels spans behind × P behind)) ts
    → ((back : List Lexeme) → P back → f spans (back ++ []) ≡ out) → (labels >>= f) (ts ++ []) ≡ out
step_labels spans f P out ts h q =
    let given : labels (h.0 ++ (h.1 ++ [])) ≡ Some (spans, h.1 ++ []) =
    subst (λ spans. labels (h.0 ++ (h.1 ++ [])) ≡ Some (spans, h.1 ++ [])) h.3.0
    (labels_read h.0 (h.1 ++ []) (refl, h.3.1, h.3.2) (subst (λ spans. AreAllLabels spans (h.1 ++ [])) (sym h.3.0) (subst (AreAllLabels spans) (sym (append-nil h.1)) h.4.0))) in
    step_at labels f (IsLabels spans) (λ behind. AreAllLabels spans behind × P behind) spans out ts [] h given (q h.1 h.4.1)

-- ---- fields

-- what is behind the labels of a field, and of a map field
abbrev IsPlain : Field → List Lexeme → Type 0
IsPlain f = IsType f.type_name ⊳ (IsIdent f.name ⊳ (IsTerminal w.Equals ⊳ (IsWordAt w.Int f.number ⊳ IsFieldEnd)))

abbrev IsMap : MapField → List Lexeme → Type 0
IsMap f = IsTerminal w.Map ⊳ (IsTerminal w.Less ⊳ (IsType f.key ⊳ (IsTerminal w.Comma ⊳ (IsType f.value ⊳ (IsTerminal w.Greater ⊳ (IsIdent f.name ⊳ (IsTerminal w.Equals ⊳ (IsWordAt w.Int f.number ⊳ IsFieldEnd))))))))

plain_read : (f : Field) (ts : List Lexeme) → IsPlain f ts → plain_field f.span f.labels (ts ++ []) ≡ Some (node.Field f, [])
unfolding plain_field
plain_read f ts h =
    step_type f.type_name _ (IsIdent f.name ⊳ (IsTerminal w.Equals ⊳ (IsWordAt w.Int f.number ⊳ IsFieldEnd))) _ ts [] h (λ back p. no_dot_turn f.name (IsTerminal w.Equals ⊳ (IsWordAt w.Int f.number ⊳ IsFieldEnd)) back [] p)
    (λ back p. read_then numbered _ (back ++ []) [] (f.name, f.number) _ (numbered_read f.name f.number back p) refl)

map_read : (f : MapField) (ts : List Lexeme) → IsMap f ts → map_field f.span f.labels (ts ++ []) ≡ Some (node.MapField f, [])
unfolding map_field
map_read f ts h =
    step_terminal w.Map _ (IsTerminal w.Less ⊳ (IsType f.key ⊳ (IsTerminal w.Comma ⊳ (IsType f.value ⊳ (IsTerminal w.Greater ⊳ Behind))))) _ ts [] h (λ s1 t1 h1.
    step_terminal w.Less _ (IsType f.key ⊳ (IsTerminal w.Comma ⊳ (IsType f.value ⊳ (IsTerminal w.Greater ⊳ Behind)))) _ t1 [] h1 (λ s2 t2 h2.
    step_type f.key _ (IsTerminal w.Comma ⊳ (IsType f.value ⊳ (IsTerminal w.Greater ⊳ Behind))) _ t2 [] h2 (λ back p. no_other_turn w.Comma w.Dot (IsType f.value ⊳ (IsTerminal w.Greater ⊳ Behind)) back [] p refl) (λ t3 h3.
    step_terminal w.Comma _ (IsType f.value ⊳ (IsTerminal w.Greater ⊳ Behind)) _ t3 [] h3 (λ s4 t4 h4.
    step_type f.value _ (IsTerminal w.Greater ⊳ Behind) _ t4 [] h4 (λ back p. no_other_turn w.Greater w.Dot Behind back [] p refl) (λ t5 h5.
    step_terminal w.Greater _ Behind _ t5 [] h5 (λ s6 t6 h6. read_then numbered _ (t6 ++ []) [] (f.name, f.number) _ (numbered_read f.name f.number t6 h6) refl))))))
  where
    Behind : List Lexeme → Type 0
    Behind = IsIdent f.name ⊳ (IsTerminal w.Equals ⊳ (IsWordAt w.Int f.number ⊳ IsFieldEnd))

field_read : (f : Field) (ts : List Lexeme) → (IsLabels f.labels ⊳ (λ behind. AreAllLabels f.labels behind × IsPlain f behind)) ts → field f.span (ts ++ []) ≡ Some (node.Field f, [])
unfolding field
field_read f ts h = step_labels f.labels (plain_field f.span) (IsPlain f) _ ts h (λ back p. plain_read f back p)

-- without `map` in front, or without `<` behind it, no map field begins
not_map : (ts : List Lexeme) → begins w.Map ts ≡ false → begins_map ts ≡ false
not_map [] e = refl
not_map (t ∷ []) e = refl
not_map (t ∷ u ∷ ts) e = rw e refl

not_less : (t : Lexeme) (ts : List Lexeme) → begins w.Less ts ≡ false → begins_map (t ∷ ts) ≡ false
not_less t [] e = refl
not_less t (u ∷ ts) e = by (is w.Map t)
  where
    by : (first : Bool) → (first && is w.Less u) ≡ false
    by true = e
    by false = refl

-- the tokens of a full name, with an identifier behind them
full_no_map : (names : List Span) (ts rest : List Lexeme) → IsFull names ts → Starts is_identifier rest → begins_map (ts ++ rest) ≡ false
full_no_map [] ts rest h s = absurd h
full_no_map (x ∷ []) ts rest h s = ap (λ l. begins_map (l ++ rest)) h.1 ∙ not_less h.0 rest (starts_not w.Less s refl)
full_no_map (x ∷ y ∷ more) ts rest h s =
    let first = h.3 in
    let dot = h.4.3 in
    let split : ts ++ rest ≡ first.0 ∷ (dot.0 ∷ (h.4.1 ++ rest)) = ap (λ l. l ++ rest) (h.2 ∙ ap (λ l. l ++ h.1) first.1 ∙ ap (λ l. first.0 ∷ l) (h.4.2 ∙ ap (λ l. l ++ h.4.1) dot.1)) in
    ap begins_map split ∙ not_less first.0 (dot.0 ∷ (h.4.1 ++ rest)) (ap (is_terminal w.Less) dot.2)

type_no_map : (name : TypeName) (ts rest : List Lexeme) → IsType name ts → Starts is_identifier rest → begins_map (ts ++ rest) ≡ false
type_no_map name ts rest h s = by name.is_absolute h.0
  where
    by : (absolute : Bool) → (IsFlag w.Dot absolute ⊳ IsFull name.components) ts → begins_map (ts ++ rest) ≡ false
    by true g = not_map (ts ++ rest) (no_other_turn w.Dot w.Map (IsFull name.components) ts rest g refl)
    by false g = ap (λ l. begins_map (l ++ rest)) (g.2 ∙ ap (λ l. l ++ g.1) g.3) ∙ full_no_map name.components g.1 rest g.4 s

plain_no_map : (f : Field) (ts : List Lexeme) → IsPlain f ts → begins_map (ts ++ []) ≡ false
plain_no_map f ts h =
    let named = starts_turn (IsIdent f.name) (IsTerminal w.Equals ⊳ (IsWordAt w.Int f.number ⊳ IsFieldEnd)) (starts_ident f.name) h.4 in
    ap begins_map (append-nil ts ∙ h.2) ∙ type_no_map f.type_name h.0 h.1 h.3 named

map_begins : (f : MapField) (ts : List Lexeme) → IsMap f ts → begins_map (ts ++ []) ≡ true
map_begins f ts h =
    let split : ts ≡ h.3.0 ∷ h.4.3.0 ∷ h.4.1 = h.2 ∙ ap (λ l. l ++ h.1) h.3.1 ∙ ap (λ l. h.3.0 ∷ l) (h.4.2 ∙ ap (λ l. l ++ h.4.1) h.4.3.1) in
    ap begins_map (append-nil ts ∙ split) ∙ and_true _ _ (ap (is_terminal w.Map) h.3.2 ∙ is_same w.Map) (ap (is_terminal w.Less) h.4.3.2 ∙ is_same w.Less)

-- which of the two is chosen
chosen : {B : Type 0} (x : Bool) (r s out : Option B) → x ≡ true → r ≡ out → cond {A = Option B} x r s ≡ out
chosen {B} x r s out e f = ap (λ (b : Bool). cond {A = Option B} b r s) e ∙ f

not_chosen : {B : Type 0} (x : Bool) (r s out : Option B) → x ≡ false → s ≡ out → cond {A = Option B} x r s ≡ out
not_chosen {B} x r s out e f = ap (λ (b : Bool). cond {A = Option B} b r s) e ∙ f

field_in_message : (f : Field) (ts : List Lexeme) → (IsLabels f.labels ⊳ (λ behind. AreAllLabels f.labels behind × IsPlain f behind)) ts → field_or_map f.span (ts ++ []) ≡ Some (node.Field f, [])
unfolding field_or_map
field_in_message f ts h = step_labels f.labels _ (IsPlain f) _ ts h (λ back p. not_chosen _ _ _ _ (plain_no_map f back p) (plain_read f back p))

map_in_message : (f : MapField) (ts : List Lexeme) → (IsLabels f.labels ⊳ (λ behind. AreAllLabels f.labels behind × IsMap f behind)) ts → field_or_map f.span (ts ++ []) ≡ Some (node.MapField f, [])
unfolding field_or_map
map_in_message f ts h = step_labels f.labels _ (IsMap f) _ ts h (λ back p. chosen _ _ _ _ (map_begins f back p) (map_read f back p))

-- ---- the other statements

syntax_read : (span : Span) (value : Literal) (ts : List Lexeme) → (IsTerminal w.Syntax ⊳ (IsTerminal w.Equals ⊳ (IsLiteral value ⊳ IsTerminal w.Semicolon))) ts → syntax_form span (ts ++ []) ≡ Some (node.Syntax span value, [])
unfolding syntax_form
syntax_read span value ts h =
    step_terminal w.Syntax _ (IsTerminal w.Equals ⊳ (IsLiteral value ⊳ IsTerminal w.Semicolon)) _ ts [] h (λ s1 t1 h1.
    step_terminal w.Equals _ (IsLiteral value ⊳ IsTerminal w.Semicolon) _ t1 [] h1 (λ s2 t2 h2.
    step literal _ (IsLiteral value) (IsTerminal w.Semicolon) value _ t2 [] h2 (λ f b p q. read_literal value f (b ++ []) p (no_other w.Semicolon w.PlainText b [] q refl)) (λ t3 h3.
    last_terminal w.Semicolon _ _ t3 [] h3 (λ s. refl))))

package_read : (span name : Span) (components : List Span) (ts : List Lexeme) → (IsTerminal w.Package ⊳ (IsAt (IsFull components) name ⊳ IsTerminal w.Semicolon)) ts → package_form span (ts ++ []) ≡ Some (node.Package span name components, [])
unfolding package_form
package_read span name components ts h =
    step_terminal w.Package _ (IsAt (IsFull components) name ⊳ IsTerminal w.Semicolon) _ ts [] h (λ s1 t1 h1.
    step_at full _ (IsAt (IsFull components) name) (IsTerminal w.Semicolon) components _ t1 [] h1 (read_full components h1.0 (h1.1 ++ []) h1.3.0 (no_other w.Semicolon w.Dot h1.1 [] h1.4 refl))
    (last_terminal w.Semicolon _ _ h1.1 [] h1.4 (λ s. named components h1.0 h1.3.0 h1.3.1)))
  where
    packaged : List Span → Reader Node
    packaged components = elim components [ [] ↦ nothing | s ∷ ss ↦ pure (node.Package span (between s (last_of s ss)) (s ∷ ss)) ]

    named : (components : List Span) (names : List Lexeme) → IsFull components names → name ≡ span_of names
        → packaged components [] ≡ Some (node.Package span name components, [])
    named [] names h e = absurd h
    named (s ∷ ss) names h e = ap (λ (at : Span). Some (node.Package span at (s ∷ ss), [])) (full_span s ss names h ∙ sym e)

value_read : (span name : Span) (n : Number) (ts : List Lexeme) → (IsIdent name ⊳ (IsTerminal w.Equals ⊳ (IsNumber true n ⊳ IsFieldEnd))) ts → value_form span (ts ++ []) ≡ Some (node.Value span name n, [])
unfolding value_form
value_read span name n ts h =
    step_ident name _ (IsTerminal w.Equals ⊳ (IsNumber true n ⊳ IsFieldEnd)) _ ts [] h (λ t1 h1.
    step_terminal w.Equals _ (IsNumber true n ⊳ IsFieldEnd) _ t1 [] h1 (λ s2 t2 h2.
    step (number true) _ (IsNumber true n) IsFieldEnd n _ t2 [] h2 (λ f b p q. read_number true n f (b ++ []) p) (λ t3 h3. rest_read _ _ t3 h3 refl)))

empty_read : (span : Span) (ts : List Lexeme) → IsTerminal w.Semicolon ts → empty_form span (ts ++ []) ≡ Some (node.Empty span, [])
unfolding empty_form
empty_read span ts h = last_terminal w.Semicolon _ _ ts [] h (λ s. refl)

rpc_statement : (span name : Span) (request response : TypeName) (ts : List Lexeme) → (IsHeader (header.Rpc name request response) ⊳ IsTerminal w.Semicolon) ts → rpc_form span (ts ++ []) ≡ Some (node.Rpc span name request response [], [])
unfolding rpc_form
rpc_statement span name request response ts h =
    step rpc_header _ (IsHeader (header.Rpc name request response)) (IsTerminal w.Semicolon) (header.Rpc name request response) _ ts [] h (λ f b p q. rpc_read name request response f (b ++ []) p)
    (λ b q. last_terminal w.Semicolon _ _ b [] q (λ s. refl))

-- what `weak` and `public` say
import_read : (span : Span) (is_public : Bool) (path : Literal) (ts : List Lexeme) → (IsTerminal w.Import ⊳ (IsModifier is_public ⊳ (IsLiteral path ⊳ IsTerminal w.Semicolon))) ts → import_form span (ts ++ []) ≡ Some (node.Import span is_public path, [])
unfolding import_form
import_read span is_public path ts h =
    step_terminal w.Import _ (IsModifier is_public ⊳ (IsLiteral path ⊳ IsTerminal w.Semicolon)) _ ts [] h (λ s1 t1 h1. ap (eat w.Weak >>= behind_weak) (ap (λ l. l ++ []) h1.2 ∙ append_assoc h1.0 h1.1 []) ∙ by is_public h1.0 h1.1 h1.3 h1.4)
  where
    path_read : (public : Bool) → Reader Node
    path_read public = literal >>= (λ path. terminal w.Semicolon >> pure (node.Import span public path))

    behind_weak : Bool → Reader Node
    behind_weak weak = cond {A = Reader Bool} weak (pure false) (eat w.Public) >>= path_read

    path_is : (public : Bool) (ts : List Lexeme) → (IsLiteral path ⊳ IsTerminal w.Semicolon) ts → path_read public (ts ++ []) ≡ Some (node.Import span public path, [])
    path_is public ts h =
        step literal _ (IsLiteral path) (IsTerminal w.Semicolon) path _ ts [] h (λ f b p q. read_literal path f (b ++ []) p (no_other w.Semicolon w.PlainText b [] q refl)) (λ t3 h3.
        last_terminal w.Semicolon _ _ t3 [] h3 (λ s. refl))

    starts_path : (ts : List Lexeme) → (IsLiteral path ⊳ IsTerminal w.Semicolon) ts → Starts (is_terminal w.PlainText) (ts ++ [])
    starts_path ts h = starts_before [] (starts_turn (IsLiteral path) (IsTerminal w.Semicolon) (starts_literal path) h)

    by : (public : Bool) (front back : List Lexeme) → IsModifier public front → (IsLiteral path ⊳ IsTerminal w.Semicolon) back → (eat w.Weak >>= behind_weak) (front ++ (back ++ [])) ≡ Some (node.Import span public path, [])
    by true front back p q =
        read_then (eat w.Weak) behind_weak (front ++ (back ++ [])) (front ++ (back ++ [])) false _ (read_flag w.Weak false [] (front ++ (back ++ [])) refl (λ e. no_other w.Public w.Weak front (back ++ []) p refl))
        (read_then (eat w.Public) path_read (front ++ (back ++ [])) (back ++ []) true _ (read_flag w.Public true front (back ++ []) p (λ e. absurd (false≢true (sym e)))) (path_is true back q))
    by false front back (inl p) q =
        ap (λ l. (eat w.Weak >>= behind_weak) (l ++ (back ++ []))) p
        ∙ read_then (eat w.Weak) behind_weak (back ++ []) (back ++ []) false _ (read_flag w.Weak false [] (back ++ []) refl (λ e. starts_not w.Weak (starts_path back q) refl))
        (read_then (eat w.Public) path_read (back ++ []) (back ++ []) false _ (read_flag w.Public false [] (back ++ []) refl (λ e. starts_not w.Public (starts_path back q) refl)) (path_is false back q))
    by false front back (inr p) q = read_then (eat w.Weak) behind_weak (front ++ (back ++ [])) (back ++ []) true _ (read_flag w.Weak true front (back ++ []) p (λ e. absurd (false≢true (sym e)))) (path_is false back q)

-- ---- options

-- part of an option's name, which ends with the token of this span
abbrev IsPartAt : Span → List Lexeme → Type 0
IsPartAt span ts = IsIdent span ts ⊎ ((absolute : Bool) × (parts : List Span) × (IsTerminal w.OpenParen ⊳ (IsFlag w.Dot absolute ⊳ (IsFull parts ⊳ IsWordAt w.CloseParen span))) ts)

part_at : (ts : List Lexeme) → IsOptionPart ts → (span : Span) × IsPartAt span ts
part_at ts (inl h) = (h.0, inl h.1)
part_at ts (inr h) =
    let g = h.2 in
    let close = g.4.4.4 in
    (close.0.span, inr (h.0, h.1, (g.0, g.1, g.2, g.3, (g.4.0, g.4.1, g.4.2, g.4.3, (g.4.4.0, g.4.4.1, g.4.4.2, g.4.4.3, at_terminal close)))))

part_ends : (span : Span) (ts : List Lexeme) → IsPartAt span ts → Ending IsOptionPart span ts
part_ends span ts (inl h) = (inl (span, h), (h.0, [], h.1, h.3))
part_ends span ts (inr h) =
    let g = h.2 in
    let whole : ts ≡ g.0 ++ (g.4.0 ++ (g.4.4.0 ++ g.4.4.1)) = g.2 ∙ ap (λ l. g.0 ++ l) (g.4.2 ∙ ap (λ l. g.4.0 ++ l) g.4.4.2) in
    subst (Ending IsOptionPart span) (sym whole) (parted span h.0 h.1 g.0 g.4.0 g.4.4.0 g.4.4.1 g.3 g.4.3 g.4.4.3 g.4.4.4)

some_part : (span : Span) (ts : List Lexeme) → IsPartAt span ts → 0 < length ts
some_part span ts (inl h) = some_of (starts_ident span ts h)
some_part span ts (inr h) = some_of (starts_turn (IsTerminal w.OpenParen) _ (starts_terminal w.OpenParen) h.2)

-- the parts, with their ends
parts_at : (parts : List Span) (ts : List Lexeme) → IsSeparated w.Dot (λ span. IsOptionPart) parts ts → (found : List Span) × IsSeparated w.Dot IsPartAt found ts
parts_at [] ts h = absurd h
parts_at (x ∷ []) ts h = let p = part_at ts h in (p.0 ∷ [], p.1)
parts_at (x ∷ y ∷ more) ts h =
    let p = part_at h.0 h.3 in
    let others = parts_at (y ∷ more) h.4.1 h.4.4 in
    longer p.0 others.0 ts h.0 h.1 h.4.0 h.4.1 h.2 p.1 h.4.2 h.4.3 others.1
  where
    longer : (first : Span) (found : List Span) (ts front behind dot back : List Lexeme) → ts ≡ front ++ behind → IsPartAt first front → behind ≡ dot ++ back → IsTerminal w.Dot dot → IsSeparated w.Dot IsPartAt found back
        → (found : List Span) × IsSeparated w.Dot IsPartAt found ts
    longer first [] ts front behind dot back e p f q h = absurd h
    longer first (z ∷ found) ts front behind dot back e p f q h = (first ∷ z ∷ found, (front, behind, e, p, (dot, back, f, q, h)))

parts_end : (parts : List Span) (ts : List Lexeme) → IsSeparated w.Dot IsPartAt parts ts → IsSeparated w.Dot (Ending IsOptionPart) parts ts
parts_end [] ts h = absurd h
parts_end (x ∷ []) ts h = part_ends x ts h
parts_end (x ∷ y ∷ more) ts h = (h.0, h.1, h.2, part_ends x h.0 h.3, (h.4.0, h.4.1, h.4.2, h.4.3, parts_end (y ∷ more) h.4.1 h.4.4))

part_read : (span : Span) (front rest : List Lexeme) → IsPartAt span front → option_part (front ++ rest) ≡ Some (span, rest)
unfolding option_part
part_read span front rest (inl h) = not_chosen _ _ _ _ (starts_not w.OpenParen (starts_before rest (starts_ident span front h)) refl) (read_ident span front rest h)
part_read span front rest (inr h) =
    chosen _ _ _ _ (starts_as w.OpenParen (starts_before rest (starts_turn (IsTerminal w.OpenParen) _ (starts_terminal w.OpenParen) h.2)))
    (step_terminal w.OpenParen _ (IsFlag w.Dot h.0 ⊳ (IsFull h.1 ⊳ IsWordAt w.CloseParen span)) _ front rest h.2 (λ s1 t1 h1.
    step (eat w.Dot) _ (IsFlag w.Dot h.0) (IsFull h.1 ⊳ IsWordAt w.CloseParen span) h.0 _ t1 rest h1
    (λ f b p q. read_flag w.Dot h.0 f (b ++ rest) p (λ e. starts_not w.Dot (starts_before rest (starts_turn (IsFull h.1) (IsWordAt w.CloseParen span) (starts_full h.1) q)) refl)) (λ t2 h2.
    step full _ (IsFull h.1) (IsWordAt w.CloseParen span) h.1 _ t2 rest h2 (λ f b p q. read_full h.1 f (b ++ rest) p (starts_not w.Dot (starts_before rest (starts_terminal_at w.CloseParen span b q)) refl)) (λ t3 h3.
    read_terminal_at w.CloseParen span t3 rest h3))))

parts_read : (parts : List Span) (front rest : List Lexeme) → IsSeparated w.Dot IsPartAt parts front → begins w.Dot rest ≡ false → option_parts (front ++ rest) ≡ Some (parts, rest)
parts_read parts front rest h none = read_separated w.Dot option_part IsPartAt (λ l. Unit {0}) (λ span front rest p q. part_read span front rest p) (λ ts dot. tt) some_part parts front rest h tt none

value_of_option : (value : Span) (ts : List Lexeme) → (IsAt IsContent value ⊳ IsTerminal w.Semicolon) ts → option_value (ts ++ []) ≡ Some (value, [])
unfolding option_value
value_of_option value ts h =
    let whole : ts ++ [] ≡ h.0 ++ h.4.0 ∷ [] = append-nil ts ∙ h.2 ∙ ap (λ l. h.0 ++ l) h.4.1 in
    let front = but_last_one h.0 h.4.0 in
    ap option_value whole
    ∙ chosen _ _ _ _ (and_true _ _ (ends_in_last w.Semicolon h.0 h.4.0 h.4.2) (ap is_content front ∙ is_content_of h.0 h.3.0)) (ap (λ (l : List Lexeme). Some (span_of l, [])) front ∙ ap (λ (s : Span). Some (s, [])) (sym h.3.1))

option_read : (span name value : Span) (ts : List Lexeme) → (IsTerminal w.Option ⊳ (IsAt IsOptionName name ⊳ (IsTerminal w.Equals ⊳ (IsAt IsContent value ⊳ IsTerminal w.Semicolon)))) ts → option_form span (ts ++ []) ≡ Some (node.OptionDef span name value, [])
unfolding option_form
option_read span name value ts h =
    step_terminal w.Option _ (IsAt IsOptionName name ⊳ (IsTerminal w.Equals ⊳ (IsAt IsContent value ⊳ IsTerminal w.Semicolon))) _ ts [] h (λ s t1 h1. named t1 h1 (parts_at h1.3.0.0 h1.0 h1.3.0.1))
  where
    made : Option Span → Span → Reader Node
    made o value = elim o [ None ↦ nothing | Some name ↦ pure (node.OptionDef span name value) ]

    named : (ts : List Lexeme) (h : (IsAt IsOptionName name ⊳ (IsTerminal w.Equals ⊳ (IsAt IsContent value ⊳ IsTerminal w.Semicolon))) ts) → (found : List Span) × IsSeparated w.Dot IsPartAt found h.0
        → (option_parts >>= (λ parts. terminal w.Equals >> (option_value >>= (λ value. made (named_from (ts ++ []) parts) value)))) (ts ++ []) ≡ Some (node.OptionDef span name value, [])
    named ts h parts =
        let same : named_from (ts ++ []) parts.0 ≡ Some name = named_is (ts ++ []) parts.0 h.0 h.1 (append-nil ts ∙ h.2) (parts_end parts.0 h.0 parts.1) ∙ ap (λ (s : Span). Some s) (sym h.3.1) in
        step_at option_parts _ (IsAt IsOptionName name) (IsTerminal w.Equals ⊳ (IsAt IsContent value ⊳ IsTerminal w.Semicolon)) parts.0 _ ts [] h
        (parts_read parts.0 h.0 (h.1 ++ []) parts.1 (no_other_turn w.Equals w.Dot (IsAt IsContent value ⊳ IsTerminal w.Semicolon) h.1 [] h.4 refl))
        (step_terminal w.Equals _ (IsAt IsContent value ⊳ IsTerminal w.Semicolon) _ h.1 [] h.4 (λ s t2 h2. read_then option_value _ (t2 ++ []) [] value _ (value_of_option value t2 h2) (ap (λ o. made o value []) same)))

-- ---- reserved numbers and names

range_end_read : (may_be_negative : Bool) (n : Number) (front rest : List Lexeme) → IsNumber may_be_negative n front → range_end may_be_negative (front ++ rest) ≡ Some (bound.Number n, rest)
unfolding range_end
range_end_read may_be_negative n front rest h =
    not_chosen _ _ _ _ (starts_not w.Max (starts_before rest (starts_number may_be_negative n front h)) refl) (read_then (number may_be_negative) _ (front ++ rest) rest n _ (read_number may_be_negative n front rest h) refl)

max_read : (may_be_negative : Bool) (span : Span) (front rest : List Lexeme) → IsWordAt w.Max span front → range_end may_be_negative (front ++ rest) ≡ Some (bound.Max span, rest)
unfolding range_end
max_read may_be_negative span front rest h =
    chosen _ _ _ _ (starts_as w.Max (starts_before rest (starts_terminal_at w.Max span front h))) (read_then (terminal w.Max) _ (front ++ rest) rest span _ (read_terminal_at w.Max span front rest h) refl)

abbrev NoTo : List Lexeme → Type 0
NoTo ts = begins w.To ts ≡ false

behind_low : Bool → Number → Bool → Reader ReservedRange
behind_low may_be_negative low is_longer = cond {A = Reader RangeEnd} is_longer (range_end may_be_negative) (pure bound.Same) >>= (λ high. pure (record { low = low; high = high }))

high_read : (may_be_negative : Bool) (low : Number) (high : RangeEnd) (front rest : List Lexeme) → IsRangeEnd may_be_negative high front → NoTo rest → (eat w.To >>= behind_low may_be_negative low) (front ++ rest) ≡ Some (record { low = low; high = high }, rest)
unfolding behind_low
high_read may_be_negative low bound.Same front rest h none = ap (λ l. (eat w.To >>= behind_low may_be_negative low) (l ++ rest)) h ∙ read_then (eat w.To) (behind_low may_be_negative low) rest rest false _ (read_flag w.To false [] rest refl (λ e. none)) refl
high_read may_be_negative low (bound.Number n) front rest h none =
    step (eat w.To) (behind_low may_be_negative low) (IsTerminal w.To) (IsNumber may_be_negative n) true _ front rest h (λ f b p q. read_flag w.To true f (b ++ rest) p (λ e. absurd (false≢true (sym e))))
    (λ b q. read_then (range_end may_be_negative) _ (b ++ rest) rest (bound.Number n) _ (range_end_read may_be_negative n b rest q) refl)
high_read may_be_negative low (bound.Max span) front rest h none =
    step (eat w.To) (behind_low may_be_negative low) (IsTerminal w.To) (IsWordAt w.Max span) true _ front rest h (λ f b p q. read_flag w.To true f (b ++ rest) p (λ e. absurd (false≢true (sym e))))
    (λ b q. read_then (range_end may_be_negative) _ (b ++ rest) rest (bound.Max span) _ (max_read may_be_negative span b rest q) refl)

range_read : (may_be_negative : Bool) (it : ReservedRange) (front rest : List Lexeme) → IsRange may_be_negative it front → NoTo rest → range may_be_negative (front ++ rest) ≡ Some (it, rest)
unfolding range behind_low
range_read may_be_negative it front rest h none =
    step (number may_be_negative) _ (IsNumber may_be_negative it.low) (IsRangeEnd may_be_negative it.high) it.low _ front rest h (λ f b p q. read_number may_be_negative it.low f (b ++ rest) p) (λ b q. high_read may_be_negative it.low it.high b rest q none)

starts_range : (may_be_negative : Bool) (it : ReservedRange) (front : List Lexeme) → IsRange may_be_negative it front → Starts in_number front
starts_range may_be_negative it front h = starts_turn (IsNumber may_be_negative it.low) (IsRangeEnd may_be_negative it.high) (starts_number may_be_negative it.low) h

-- what begins with a comma begins with nothing else
comma_no : (other : Terminal) → is_terminal w.Comma other ≡ false → (ts : List Lexeme) → begins w.Comma ts ≡ true → begins other ts ≡ false
comma_no other e [] f = refl
comma_no other e (t ∷ ts) f = starts_not {fits = is_terminal w.Comma} other (record { first = t; more = ts; whole = refl; passes = f }) e

list_read : (may_be_negative : Bool) (list : ReservedList) (front rest : List Lexeme) → IsReservedList may_be_negative list front → IsTerminal w.Semicolon rest → reserved_list may_be_negative (front ++ (rest ++ [])) ≡ Some (list, rest ++ [])
unfolding reserved_list
list_read may_be_negative (Ranges found) front rest h end =
    not_chosen _ _ _ _ (starts_not w.PlainText (starts_before (rest ++ []) (starts_separated w.Comma (IsRange may_be_negative) found front (starts_range may_be_negative) h)) refl)
    (read_then (ranges may_be_negative) _ (front ++ (rest ++ [])) (rest ++ []) found _
    (read_separated w.Comma (range may_be_negative) (IsRange may_be_negative) NoTo (range_read may_be_negative) (comma_no w.To refl) (λ it f p. some_of (starts_range may_be_negative it f p)) found front (rest ++ []) h (no_other w.Semicolon w.To rest [] end refl) (no_other w.Semicolon w.Comma rest [] end refl)) refl)
list_read may_be_negative (Names names) front rest h end =
    chosen _ _ _ _ (starts_as w.PlainText (starts_before (rest ++ []) (starts_separated w.Comma IsLiteral names front starts_literal h)))
    (read_then literals _ (front ++ (rest ++ [])) (rest ++ []) names _
    (read_separated w.Comma literal IsLiteral (λ l. begins w.PlainText l ≡ false) read_literal (comma_no w.PlainText refl) (λ it f p. some_of (starts_literal it f p)) names front (rest ++ []) h (no_other w.Semicolon w.PlainText rest [] end refl) (no_other w.Semicolon w.Comma rest [] end refl)) refl)

reserved_read : (may_be_negative : Bool) (span : Span) (list : ReservedList) (ts : List Lexeme) → (IsTerminal w.Reserved ⊳ (IsReservedList may_be_negative list ⊳ IsTerminal w.Semicolon)) ts → reserved_form may_be_negative span (ts ++ []) ≡ Some (node.Reserved span list, [])
unfolding reserved_form
reserved_read may_be_negative span list ts h =
    step_terminal w.Reserved _ (IsReservedList may_be_negative list ⊳ IsTerminal w.Semicolon) _ ts [] h (λ s t1 h1.
    step (reserved_list may_be_negative) _ (IsReservedList may_be_negative list) (IsTerminal w.Semicolon) list _ t1 [] h1 (λ f b p q. list_read may_be_negative list f b p q) (λ b q. last_terminal w.Semicolon _ _ b [] q (λ s. refl)))

-- ---- the forms of each body

option_form_of : (body : Body) → IsTrue (has_options body) → form body w.Option ≡ option_form
option_form_of b.Extend e = absurd (false≢true e)
option_form_of _ e = refl

empty_form_of : (body : Body) → form body w.Semicolon ≡ empty_form
empty_form_of b.File = refl
empty_form_of b.Message = refl
empty_form_of b.Oneof = refl
empty_form_of b.Extend = refl
empty_form_of b.Enum = refl
empty_form_of b.Service = refl
empty_form_of b.Rpc = refl

value_form_of : (first : Terminal) → is_listed_in_enum first ≡ false → form b.Enum first ≡ value_form
value_form_of w.Option e = absurd (false≢true (sym e))
value_form_of w.Reserved e = absurd (false≢true (sym e))
value_form_of w.Semicolon e = absurd (false≢true (sym e))
value_form_of _ e = refl

message_form_of : (first : Terminal) → IsTrue (may_be_field b.Message first) → form b.Message first ≡ field_or_map
message_form_of w.Message e = absurd (false≢true e)
message_form_of w.Enum e = absurd (false≢true e)
message_form_of w.Extend e = absurd (false≢true e)
message_form_of w.Option e = absurd (false≢true e)
message_form_of w.Oneof e = absurd (false≢true e)
message_form_of w.Reserved e = absurd (false≢true e)
message_form_of w.Semicolon e = absurd (false≢true e)
message_form_of _ e = refl

oneof_form_of : (first : Terminal) → IsTrue (may_be_field b.Oneof first) → form b.Oneof first ≡ field
oneof_form_of w.Option e = absurd (false≢true e)
oneof_form_of w.Semicolon e = absurd (false≢true e)
oneof_form_of _ e = refl

extend_form_of : (first : Terminal) → IsTrue (may_be_field b.Extend first) → form b.Extend first ≡ field
extend_form_of w.Semicolon e = absurd (false≢true e)
extend_form_of _ e = refl

-- a statement's form, read from its first terminal
abbrev ReadsAs : Body → Terminal → Span → Node → List Lexeme → Type 0
ReadsAs body first span n ts = form body first span ts ≡ Some (n, [])

by_form : (f : Span → Reader Node) (body : Body) (first : Terminal) (span : Span) (n : Node) (ts : List Lexeme) → form body first ≡ f → f span (ts ++ []) ≡ Some (n, []) → ReadsAs body first span n ts
by_form f body first span n ts e h = ap (λ (g : Span → Reader Node). g span ts) e ∙ wholly (f span) n ts h

field_of_body : (body : Body) (first : Terminal) (f : Field) (ts : List Lexeme) → IsTrue (may_be_field body first) → (IsLabels f.labels ⊳ (λ behind. AreAllLabels f.labels behind × IsPlain f behind)) ts → ReadsAs body first f.span (node.Field f) ts
field_of_body b.Message first f ts fits h = by_form field_or_map b.Message first f.span (node.Field f) ts (message_form_of first fits) (field_in_message f ts h)
field_of_body b.Oneof first f ts fits h = by_form field b.Oneof first f.span (node.Field f) ts (oneof_form_of first fits) (field_read f ts h)
field_of_body b.Extend first f ts fits h = by_form field b.Extend first f.span (node.Field f) ts (extend_form_of first fits) (field_read f ts h)
field_of_body _ first f ts fits h = absurd (false≢true fits)

form_read : {body : Body} {first : Terminal} {span : Span} {n : Node} {ts : List Lexeme} → Spells body first span n ts → ReadsAs body first span n ts
form_read (is_syntax {span} {value} {ts} h) = wholly (syntax_form span) _ ts (syntax_read span value ts h)
form_read (is_import {span} {is_public} {path} {ts} h) = wholly (import_form span) _ ts (import_read span is_public path ts h)
form_read (is_package {span} {name} {components} {ts} h) = wholly (package_form span) _ ts (package_read span name components ts h)
form_read (is_option {body} {span} {name} {value} {ts} fits h) = by_form option_form body w.Option span _ ts (option_form_of body fits) (option_read span name value ts h)
form_read (is_field {body} {first} {span} {f} {ts} fits same h) = subst (λ s. ReadsAs body first s (node.Field f) ts) same (field_of_body body first f ts fits h)
form_read (is_map_field {first} {span} {f} {ts} fits same h) =
    subst (λ s. ReadsAs b.Message first s (node.MapField f) ts) same (by_form field_or_map b.Message first f.span (node.MapField f) ts (message_form_of first fits) (map_in_message f ts h))
form_read (is_value {first} {span} {name} {n} {ts} fits h) = by_form value_form b.Enum first span _ ts (value_form_of first fits) (value_read span name n ts h)
form_read (is_reserved_in_message {span} {list} {ts} h) = wholly (reserved_form false span) _ ts (reserved_read false span list ts h)
form_read (is_reserved_in_enum {span} {list} {ts} h) = wholly (reserved_form true span) _ ts (reserved_read true span list ts h)
form_read (is_rpc {span} {name} {request} {response} {ts} h) = wholly (rpc_form span) _ ts (rpc_statement span name request response ts h)
form_read (is_empty {body} {span} {ts} h) = by_form empty_form body w.Semicolon span _ ts (empty_form_of body) (empty_read span ts h)

pub statements_are_read : (body : Body) (t : Lexeme) (ts : List Lexeme) (n : Node) → Spells body t.terminal (span_of (t ∷ ts)) n (t ∷ ts) → statement body (t ∷ ts) ≡ Some n
unfolding statement
statements_are_read body t ts n h = ap if_all (form_read h)

-- ---- one reading

one_value : {A : Type 0} {o : Option A} (x y : A) → o ≡ Some x → o ≡ Some y → x ≡ y
one_value x y e f = inside x y (sym e ∙ f)
  where
    inside : {A : Type 0} (x y : A) → Some x ≡ Some y → x ≡ y
    inside x y e = cc

pub statements_are_unique : (body : Body) (t : Lexeme) (ts : List Lexeme) (n other : Node) → Spells body t.terminal (span_of (t ∷ ts)) n (t ∷ ts) → Spells body t.terminal (span_of (t ∷ ts)) other (t ∷ ts) → n ≡ other
statements_are_unique body t ts n other h g = one_value n other (statements_are_read body t ts n h) (statements_are_read body t ts other g)

pub headers_are_unique : (head other : Header) (front rest other_front other_rest : List Lexeme) → (IsHeader head ⊳ IsTerminal w.OpenBrace) front → (IsHeader other ⊳ IsTerminal w.OpenBrace) other_front → front ++ rest ≡ other_front ++ other_rest → (head ≡ other) × (rest ≡ other_rest)
headers_are_unique head other front rest other_front other_rest h g same = pair_is (sym (headers_are_read head front rest h) ∙ ap header_and_rest same ∙ headers_are_read other other_front other_rest g)
