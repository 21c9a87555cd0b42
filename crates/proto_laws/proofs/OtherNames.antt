-- What is read of a text that isn't proto3 stands in the order of its tokens.
use Rattle.std.proofs.Common.{◌≡◌, ℕ, ◌+◌, Bool, true, false, List, [], ◌∷◌, length, map, Option, Some, refl, ap, arith, cond, IsUtf8}
use Rattle.std.specs.Prelude.{All, ◌&&◌, not, ◌==◌, codes, slice_index, slice_range, unwrap_or}
use Rattle.std.specs.List.{list_any}
use Rattle.std.specs.Str.{bytes_eq}
use denote.Enum.Bare.{same_true}
use Rattle.std.specs.List.Sorted.{IsStrictlyIncreasing}
use Rattle.std.proofs.lemmas.List.Elements.{All-cons, All-head, All-map, All-tail, All-weaker}
use Rattle.proto_lex.specs.Characters.{IsCut}
use Rattle.proto_lex.specs.Laws.{IsOrderedFrom}
use Rattle.proto_lex.specs.Tokens.{AreTokens, byte_order_mark_len, tokens}
use Rattle.proto_lex.specs.declared.token.Kind.{Kind}
use Rattle.proto_lex.specs.declared.token.Kind.TheVariants as k
use Rattle.proto_tree.specs.contracts.lexeme.Terminal.{the_type}
use Rattle.proto_tree.specs.declared.lexeme.Body.TheVariants as b
use Rattle.proto_tree.specs.declared.lexeme.Lexeme.{Lexeme}
use Rattle.proto_tree.specs.declared.lexeme.Terminal.{Terminal}
use Rattle.proto_tree.specs.declared.lexeme.Terminal.TheVariants as w
use Rattle.proto_tree.specs.declared.node.Span.{Span}
use Rattle.proto_tree.specs.Grammar.{IsIdent}
use Rattle.proto_tree.specs.Identifiers.{AllIdentifiers, IsIdentifierAt}
use Rattle.proto_tree.specs.Lexeme.{is, is_identifier, keyword, lexemes, string_terminal, symbol, terminal_of}
use Rattle.proto_tree.specs.Names.{names_in}
use Rattle.proto_tree.specs.Others.{begins_group, is_left_out, is_other_word, kept, other_lexeme, other_lexemes, other_terminal, other_tree, read_terminal}
use Rattle.proto_tree.specs.Read.{max_blocks}
use Rattle.proto_laws.specs.Apart.{NamesAreApart}
use Rattle.proto_laws.proofs.Apart.{InLine, IsIdentAt, lexemes-apart, lexemes-in_line, lexemes-known, line-sooner}
use Rattle.proto_laws.proofs.NameOrder.{lexemes-rise, names-spelled}
use Rattle.proto_laws.proofs.Rise.{Rise, increasing-from_rise, rise-sooner}
use Rattle.proto_laws.proofs.Spelled.{ident-begins, spelled-rise, start_of}
use Rattle.proto_laws.proofs.TokenNames.{IfIdentifier, lexemes-identifiers, lexemes-of_text, tokens_from-known}

-- ---- as they are read, without those that are left out

left_true : (x y : Bool) → (x && y) ≡ true → x ≡ true
left_true true y e = refl
left_true false y e = e

-- what is read as an identifier is one
is_read : (t : Lexeme) (ts : List Lexeme) → is_identifier (read_terminal t ts) ≡ true → is_identifier t.terminal ≡ true
is_read t ts e = by (is w.Group t && not (begins_group (t ∷ ts))) (λ named. ap is_identifier (same_true the_type (search refl) t.terminal w.Group (left_true (is w.Group t) (not (begins_group (t ∷ ts))) named))) e
  where
    by : (b : Bool) → (b ≡ true → is_identifier t.terminal ≡ true) → is_identifier (cond {A = Terminal} b w.Name t.terminal) ≡ true → is_identifier t.terminal ≡ true
    by true group e = group refl
    by false group e = e

kept-all : (Q : Span → Type 0) (ts : List Lexeme) → All (IfIdentifier Q) ts → All (IfIdentifier Q) (kept ts)
kept-all Q [] all = all
kept-all Q (t ∷ ts) all = by (is_left_out t ts) (kept-all Q ts (All-tail (IfIdentifier Q) t ts all))
  where
    here : Lexeme
    here = record { terminal = read_terminal t ts; span = t.span }

    by : (b : Bool) → All (IfIdentifier Q) (kept ts) → All (IfIdentifier Q) (cond {A = List Lexeme} b (kept ts) (here ∷ kept ts))
    by true rest = rest
    by false rest = All-cons (IfIdentifier Q) here (kept ts) (λ is. All-head (IfIdentifier Q) t ts all (is_read t ts is)) rest

kept-rise : (at : ℕ) (ts : List Lexeme) → Rise start_of at ts → Rise start_of at (kept ts)
kept-rise at [] h = tt
kept-rise at (t ∷ ts) h = by (is_left_out t ts) (kept-rise (start_of t + 1) ts h.1)
  where
    by : (b : Bool) → Rise start_of (start_of t + 1) (kept ts) → Rise start_of at (cond {A = List Lexeme} b (kept ts) (record { terminal = read_terminal t ts; span = t.span } ∷ kept ts))
    by true rest = rise-sooner start_of at (start_of t + 1) (kept ts) (omega (arith, h.0)) rest
    by false rest = (h.0, rest)

kept-in_line : (at : ℕ) (ts : List Lexeme) → InLine at ts → InLine at (kept ts)
kept-in_line at [] h = tt
kept-in_line at (t ∷ ts) h = by (is_left_out t ts) (kept-in_line t.span.«end» ts h.2)
  where
    by : (b : Bool) → InLine t.span.«end» (kept ts) → InLine at (cond {A = List Lexeme} b (kept ts) (record { terminal = read_terminal t ts; span = t.span } ∷ kept ts))
    by true rest = line-sooner at t.span.«end» (kept ts) (omega (arith, h.0, h.1)) rest
    by false rest = (h.0, h.1, rest)

module _ (text : List ℕ) where
  -- ---- with the other words

  words-rise : (at : ℕ) (ts : List Lexeme) → Rise start_of at ts → Rise start_of at (map (other_lexeme text) ts)
  words-rise at [] h = tt
  words-rise at (t ∷ ts) h = (h.0, words-rise (start_of t + 1) ts h.1)

  words-in_line : (at : ℕ) (ts : List Lexeme) → InLine at ts → InLine at (map (other_lexeme text) ts)
  words-in_line at [] h = tt
  words-in_line at (t ∷ ts) h = (h.0, h.1, words-in_line t.span.«end» ts h.2)

  -- what is an identifier was one
  was_identifier : (it : Terminal) (name : List ℕ) → is_identifier (other_terminal it name) ≡ true → is_identifier it ≡ true
  was_identifier w.Name name e = refl
  was_identifier _ name e = e

  words-all : (Q : Span → Type 0) (ts : List Lexeme) → All (IfIdentifier Q) ts → All (IfIdentifier Q) (map (other_lexeme text) ts)
  words-all Q ts all = All-map (IfIdentifier Q) (other_lexeme text) ts (All-weaker (IfIdentifier Q) (λ t. IfIdentifier Q (other_lexeme text t)) (λ t h is. h (was_identifier t.terminal (slice_range text t.span.start t.span.«end») is)) ts all)

  read-all : (Q : Span → Type 0) → All (IfIdentifier Q) (lexemes text (tokens text)) → All (IfIdentifier Q) (other_lexemes text)
  read-all Q all = kept-all Q (map (other_lexeme text) (lexemes text (tokens text))) (words-all Q (lexemes text (tokens text)) all)

  -- ---- the names of the tree

  module _ (line : IsOrderedFrom (length text) (byte_order_mark_len text) (tokens text)) where
    pub other_names-rise : IsStrictlyIncreasing (map (λ s. s.start) (names_in (other_tree text).nodes))
    unfolding other_tree
    other_names-rise =
        let at = byte_order_mark_len text in
        let up = kept-rise at _ (words-rise at _ (lexemes-rise text (length text) at (tokens text) line)) in
        increasing-from_rise (λ s. s.start) at _ (spelled-rise IsIdent (λ s. s.start) ident-begins at (other_lexemes text) _ up (names-spelled max_blocks b.File (other_lexemes text)))

    pub other_names-apart : AreTokens text (tokens text) → NamesAreApart (other_tree text).nodes
    unfolding other_tree
    other_names-apart are =
        let at = byte_order_mark_len text in
        lexemes-apart text at (other_lexemes text) (read-all (IsIdentAt text) (lexemes-known text (tokens text) (tokens_from-known text at (tokens text) are)))
        (kept-in_line at _ (words-in_line at _ (lexemes-in_line text (length text) at (tokens text) line)))

  pub other_names-identifiers : AreTokens text (tokens text) → (IsUtf8 text → All (IsCut text) (tokens text)) → AllIdentifiers (IsIdentifierAt text) (other_tree text).nodes
  unfolding other_tree
  other_names-identifiers are cut =
      lexemes-identifiers text (other_lexemes text) (read-all (IsIdentifierAt text) (lexemes-of_text text (tokens text) (tokens_from-known text (byte_order_mark_len text) (tokens text) are) cut))

-- ---- proto3 has none of the other words

row : (b : Bool) (x otherwise : Terminal) (y : Option Terminal) → is_other_word x ≡ false → is_other_word (unwrap_or y otherwise) ≡ false → is_other_word (unwrap_or (cond b (Some x) y) otherwise) ≡ false
row true x otherwise y p q = p
row false x otherwise y p q = q

word : (b : Bool) (x : Terminal) (y : Option Terminal) → is_other_word x ≡ false → is_other_word (unwrap_or y w.Name) ≡ false → is_other_word (unwrap_or (cond b (Some x) y) w.Name) ≡ false
word b x y p q = row b x w.Name y p q

no_keyword : (name : List ℕ) → is_other_word (keyword name) ≡ false
unfolding keyword
no_keyword name =
    word (bytes_eq name (codes "message")) _ _ refl (word (bytes_eq name (codes "enum")) _ _ refl (word (bytes_eq name (codes "service")) _ _ refl
    (word (bytes_eq name (codes "oneof")) _ _ refl (word (bytes_eq name (codes "extend")) _ _ refl (word (bytes_eq name (codes "rpc")) _ _ refl
    (word (bytes_eq name (codes "syntax")) _ _ refl (word (bytes_eq name (codes "import")) _ _ refl (word (bytes_eq name (codes "package")) _ _ refl
    (word (bytes_eq name (codes "option")) _ _ refl (word (bytes_eq name (codes "reserved")) _ _ refl (word (bytes_eq name (codes "weak")) _ _ refl
    (word (bytes_eq name (codes "public")) _ _ refl (word (bytes_eq name (codes "repeated")) _ _ refl (word (bytes_eq name (codes "optional")) _ _ refl
    (word (bytes_eq name (codes "map")) _ _ refl (word (bytes_eq name (codes "stream")) _ _ refl (word (bytes_eq name (codes "returns")) _ _ refl
    (word (bytes_eq name (codes "to")) _ _ refl (word (bytes_eq name (codes "max")) _ _ refl refl)))))))))))))))))))

sign : (b : Bool) (x : Terminal) (y : Option Terminal) → is_other_word x ≡ false → is_other_word (unwrap_or y w.Slash) ≡ false → is_other_word (unwrap_or (cond b (Some x) y) w.Slash) ≡ false
sign b x y p q = row b x w.Slash y p q

no_symbol : (byte : ℕ) → is_other_word (symbol byte) ≡ false
no_symbol byte =
    sign (byte == 123) _ _ refl (sign (byte == 125) _ _ refl (sign (byte == 40) _ _ refl (sign (byte == 41) _ _ refl (sign (byte == 91) _ _ refl
    (sign (byte == 93) _ _ refl (sign (byte == 60) _ _ refl (sign (byte == 62) _ _ refl (sign (byte == 59) _ _ refl (sign (byte == 44) _ _ refl
    (sign (byte == 61) _ _ refl (sign (byte == 46) _ _ refl (sign (byte == 58) _ _ refl (sign (byte == 43) _ _ refl (sign (byte == 45) _ _ refl refl))))))))))))))

no_string : (bs : List ℕ) → is_other_word (string_terminal bs) ≡ false
no_string bs = by (list_any (λ x. x == 92) bs)
  where
    by : (b : Bool) → is_other_word (cond {A = Terminal} b w.EscapedText w.PlainText) ≡ false
    by true = refl
    by false = refl

pub no_other_word : (kind : Kind) (bs : List ℕ) → is_other_word (terminal_of kind bs) ≡ false
no_other_word k.Ident bs = no_keyword bs
no_other_word k.Int bs = refl
no_other_word k.Float bs = refl
no_other_word k.Str bs = no_string bs
no_other_word k.Symbol bs = no_symbol (slice_index bs 0)
no_other_word (k.Bad reason) bs = refl
