-- The names of a text are made of its identifiers.
use Rattle.std.proofs.Common.{◌≡◌, ℕ, Bool, true, false, List, [], ◌∷◌, ◌++◌, refl, sym, ap, subst, ◌∙◌, arith, cond, IsUtf8}
use Rattle.std.specs.Prelude.{◌≢◌, not, ◌==◌, filter, slice_range, slice_index, All, IsTrue, Option, Some, unwrap_or}
use Rattle.std.specs.List.{list_any}
use Rattle.std.proofs.lemmas.Bool.{false≢true}
use Rattle.std.proofs.lemmas.List.Elements.{All-nil, All-cons, All-head, All-tail, All-map, All-filter, All-weaker}
use Rattle.proto_lex.specs.declared.token.Token.{Token}
use Rattle.proto_lex.specs.declared.token.Kind.{Kind}
use Rattle.proto_lex.specs.declared.token.Kind.TheVariants as k
use Rattle.proto_lex.specs.declared.bytes.Class.TheVariants as class
use Rattle.proto_lex.specs.Bytes.{class_of, is_letter, is_name_byte, is_quote, is_space, is_symbol}
use Rattle.proto_lex.specs.Characters.{IsCut}
use Rattle.proto_lex.specs.Forms.{IsForm, IsIdent as IsIdentForm}
use Rattle.proto_lex.specs.Tokens.{IsTokenAt, AreTokens, AreTokensFrom, byte_order_mark_len, tokens}
use Rattle.proto_tree.specs.declared.lexeme.Lexeme.{Lexeme}
use Rattle.proto_tree.specs.declared.lexeme.Body.TheVariants as b
use Rattle.proto_tree.specs.declared.lexeme.Terminal.{Terminal}
use Rattle.proto_tree.specs.declared.lexeme.Terminal.TheVariants as w
use Rattle.proto_tree.specs.declared.node.Span.{Span}
use Rattle.proto_tree.specs.Grammar.{IsIdent}
use Rattle.proto_tree.specs.Identifiers.{IsIdentifier, IsIdentifierAt, AllIdentifiers, NamesAreIdentifiers}
use Rattle.proto_tree.specs.Lexeme.{is_identifier, is_bad, lexeme_of, lexemes, string_terminal, symbol, terminal_of}
use Rattle.proto_tree.specs.Read.{body_tree, max_blocks, read, tree_of}
use Rattle.proto_laws.proofs.NameOrder.{names-spelled, components-spelled}
use Rattle.proto_laws.proofs.PackageNames.{packages-spelled}
use Rattle.proto_laws.proofs.Spelled.{Spell}

-- ---- the words that are identifiers

either : (b : Bool) (x y : Terminal) → is_identifier x ≡ false → is_identifier y ≡ false → is_identifier (cond b x y) ≡ false
either true x y p q = p
either false x y p q = q

-- nor is the terminal of a row of a table, or of one behind it
row : (b : Bool) (x : Terminal) (y : Option Terminal) → is_identifier x ≡ false → is_identifier (unwrap_or y w.Slash) ≡ false → is_identifier (unwrap_or (cond b (Some x) y) w.Slash) ≡ false
row true x y p q = p
row false x y p q = q

no_symbol : (byte : ℕ) → is_identifier (symbol byte) ≡ false
no_symbol byte =
    row (byte == 123) _ _ refl (row (byte == 125) _ _ refl (row (byte == 40) _ _ refl (row (byte == 41) _ _ refl (row (byte == 91) _ _ refl
    (row (byte == 93) _ _ refl (row (byte == 60) _ _ refl (row (byte == 62) _ _ refl (row (byte == 59) _ _ refl (row (byte == 44) _ _ refl
    (row (byte == 61) _ _ refl (row (byte == 46) _ _ refl (row (byte == 58) _ _ refl (row (byte == 43) _ _ refl (row (byte == 45) _ _ refl refl))))))))))))))

no_string : (bs : List ℕ) → is_identifier (string_terminal bs) ≡ false
no_string bs = either (list_any (λ x. x == 92) bs) w.EscapedText w.PlainText refl refl

-- an identifier is a token of that kind
pub of_ident : (kind : Kind) (bs : List ℕ) → IsForm kind bs → is_identifier (terminal_of kind bs) ≡ true → IsIdentForm bs
of_ident k.Ident bs form is = form
of_ident k.Int bs form is = absurd (false≢true is)
of_ident k.Float bs form is = absurd (false≢true is)
of_ident k.Str bs form is = absurd (false≢true (sym (no_string bs) ∙ is))
of_ident k.Symbol bs form is = absurd (false≢true (sym (no_symbol (slice_index bs 0)) ∙ is))
of_ident (k.Bad reason) bs form is = absurd (false≢true is)

-- ---- their bytes

dot_class : class_of 46 ≡ class.Symbol
unfolding class_of is_letter is_quote is_space is_symbol
dot_class = refl

no_name_byte : is_name_byte 46 ≡ false
unfolding is_name_byte is_letter
no_name_byte = refl

letter_no_dot : (c : ℕ) → class_of c ≡ class.Letter → c ≢ 46
letter_no_dot c letter same = let other : class.Symbol ≡ class.Letter = sym dot_class ∙ sym (ap class_of same) ∙ letter in cc (other)

name_no_dot : (c : ℕ) → is_name_byte c ≡ true → c ≢ 46
name_no_dot c name same = false≢true (sym no_name_byte ∙ sym (ap is_name_byte same) ∙ name)

-- no byte of an identifier is a dot
pub no_dot : (bs : List ℕ) → IsIdentifier bs → All (λ c. c ≢ 46) bs
no_dot [] form = absurd form
no_dot (c ∷ bs) form = All-cons (λ c. c ≢ 46) c bs (letter_no_dot c form.0) (All-weaker (λ c. is_name_byte c ≡ true) (λ c. c ≢ 46) name_no_dot bs form.1)

-- ---- tokens

-- a token of which this holds if it is an identifier
abbrev pub IfIdentifier : (Span → Type 0) → Lexeme → Type 0
IfIdentifier Q t = IsTrue (is_identifier t.terminal) → Q t.span

module _ (text : List ℕ) where
  -- what is known of each token of the text
  abbrev IsKnown : Token → Type 0
  IsKnown t = IsTokenAt text t × (IsUtf8 text → IsCut text t)

  pub tokens_from-known : (at : ℕ) (ts : List Token) → AreTokensFrom text at ts → All (IsTokenAt text) ts
  tokens_from-known at [] h = All-nil (IsTokenAt text)
  tokens_from-known at (t ∷ ts) h = All-cons (IsTokenAt text) t ts h.1 (tokens_from-known t.«end» ts h.2)

  -- a lexeme that is an identifier is one of the text
  abbrev pub IsOfText : Lexeme → Type 0
  IsOfText = IfIdentifier (IsIdentifierAt text)

  token-of_text : (t : Token) → IsKnown t → IsOfText (lexeme_of text t)
  token-of_text t h is = record {
    ordered = omega (arith, h.0.ordered);
    bytes = of_ident t.kind (slice_range text t.start t.«end») h.0.token.form is;
    cut = h.1;
  }

  pub lexemes-of_text : (ts : List Token) → All (IsTokenAt text) ts → (IsUtf8 text → All (IsCut text) ts) → All IsOfText (lexemes text ts)
  lexemes-of_text ts are cut =
      let good : Token → Bool = λ t. not (is_bad t.kind) in
      let known : All IsKnown ts = λ i d lt. (are i d lt, λ utf8. cut utf8 i d lt) in
      All-map IsOfText (lexeme_of text) (filter good ts)
      (All-weaker IsKnown (λ t. IsOfText (lexeme_of text t)) token-of_text (filter good ts) (All-filter good IsKnown ts known))

-- ---- what is spelled

All-behind : {X : Type 0} (P : X → Type 0) (front behind : List X) → All P (front ++ behind) → All P behind
All-behind P [] behind h = h
All-behind P (x ∷ front) behind h = All-behind P front behind (All-tail P x (front ++ behind) h)

-- what holds of each token that is an identifier holds of the identifiers that are spelled
pub spelled-all : (Q : Span → Type 0) (ts : List Lexeme) (spans : List Span) → All (IfIdentifier Q) ts → Spell IsIdent ts spans → All Q spans
spelled-all Q ts [] all h = All-nil Q
spelled-all Q ts (s ∷ more) all h =
    let ident = h.4 in
    let here : All (IfIdentifier Q) (ident.0 ∷ h.2) = All-behind (IfIdentifier Q) h.0 (ident.0 ∷ h.2) (subst (λ l. All (IfIdentifier Q) (h.0 ++ (l ++ h.2))) ident.1 (subst (All (IfIdentifier Q)) h.3 all)) in
    All-cons Q s more (subst Q ident.3 (All-head (IfIdentifier Q) ident.0 h.2 here ident.2)) (spelled-all Q h.2 more (All-tail (IfIdentifier Q) ident.0 h.2 here) h.5)

-- ---- texts

pub lexemes-identifiers : (text : List ℕ) (its : List Lexeme) → All (IsOfText text) its → AllIdentifiers (IsIdentifierAt text) (body_tree max_blocks b.File its).nodes
lexemes-identifiers text its all = record {
  names = spelled-all (IsIdentifierAt text) its _ all (names-spelled max_blocks b.File its);
  types = spelled-all (IsIdentifierAt text) its _ all (components-spelled max_blocks b.File its);
  packages = spelled-all (IsIdentifierAt text) its _ all (packages-spelled max_blocks b.File its);
}

tree-identifiers : (text : List ℕ) (ts : List Token) (at : ℕ) → AreTokensFrom text at ts → (IsUtf8 text → All (IsCut text) ts) → AllIdentifiers (IsIdentifierAt text) (tree_of text ts).nodes
unfolding tree_of
tree-identifiers text ts at are cut = lexemes-identifiers text (lexemes text ts) (lexemes-of_text text ts (tokens_from-known text at ts are) cut)

pub names_are_identifiers : ((text : List ℕ) → AreTokens text (tokens text)) → ((text : List ℕ) → IsUtf8 text → All (IsCut text) (tokens text)) → NamesAreIdentifiers
unfolding read
names_are_identifiers are cut text = tree-identifiers text (tokens text) (byte_order_mark_len text) (are text) (cut text)
