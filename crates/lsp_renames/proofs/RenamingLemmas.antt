-- Identifiers, and the scopes of full names.
use Rattle.std.proofs.Common.{◌≡◌, ◌≢◌, ◌↔◌, IsTrue, ℕ, ◌<◌, List, [], ◌∷◌, Bool, true, false, cond, inl, inr, length, get_or, refl, sym, ◌∙◌}
use Rattle.std.specs.Prelude.{◌==◌, Contains}
use Rattle.std.specs.Char.{is_ascii_digit}
use Rattle.std.specs.List.{list_any, list_all}
use Rattle.std.proofs.lemmas.Bool.{and_parts, and_from, cases_Bool, ne_eqb}
use Rattle.std.proofs.lemmas.List.Elements.{All-from_get_or}
use Rattle.std.proofs.lemmas.List.Folds.{list_any_none}
use Rattle.std.proofs.lemmas.List.{get_or_default}
use Rattle.std.proofs.lemmas.List.Sums.{AllPass-from_list_all, list_all-from_AllPass}
use Rattle.proto_lex.specs.declared.bytes.Class.TheVariants as class
use Rattle.proto_lex.specs.declared.token.Kind.TheVariants.{Ident}
use Rattle.proto_lex.specs.Bytes.{class_of, is_letter, is_name_byte, is_quote, is_space, is_symbol}
use Rattle.proto_lex.specs.Forms.{IsForm}
use Rattle.proto_decls.specs.FullNames.{dot}
use Rattle.proto_decls.proofs.ApartNames.{scope_joined}
use Rattle.lsp_renames.specs.Renaming.{is_identifier}
use Rattle.lsp_renames.specs.RenamingLaws.{IdentifierFormLaw, FullNameScopeLaw}

-- ---- identifiers

letter_chain : (letter digit quote space symbol : Bool) → cond letter class.Letter (cond digit class.Digit (cond quote class.Quote (cond space class.Space (cond symbol class.Symbol class.Other)))) ≡ class.Letter → letter ≡ true
letter_chain true digit quote space symbol is = refl
letter_chain false true quote space symbol is = cc (is)
letter_chain false false true space symbol is = cc (is)
letter_chain false false false true symbol is = cc (is)
letter_chain false false false false true is = cc (is)
letter_chain false false false false false is = cc (is)

class_letter : (b : ℕ) → class_of b ≡ class.Letter → is_letter b ≡ true
unfolding class_of
class_letter b is = letter_chain (is_letter b) (is_ascii_digit b) (is_quote b) (is_space b) (is_symbol b) is

letter_class : (b : ℕ) → is_letter b ≡ true → class_of b ≡ class.Letter
unfolding class_of
letter_class b is = rw is refl

pub identifier-form-law : IdentifierFormLaw
identifier-form-law [] = ((λ is. cc (is)), λ form. absurd form)
identifier-form-law (b ∷ rest) = (
  λ is. let parts = and_parts (is_letter b) (list_all is_name_byte rest) is in (letter_class b parts.0, AllPass-from_list_all is_name_byte rest parts.1),
  λ form. and_from (is_letter b) (list_all is_name_byte rest) (class_letter b form.0) (list_all-from_AllPass is_name_byte rest form.1),
)

pub identifier-answered : (name : List ℕ) (answer : Bool) → IsTrue answer ↔ IsForm Ident name → answer ≡ is_identifier name
identifier-answered name answer lexed =
    let law = identifier-form-law name in
    elim (cases_Bool (is_identifier name)) [
      | inl right ↦ lexed.1 (law.0 right) ∙ sym right
      | inr wrong ↦ elim (cases_Bool answer) [
        | inl answered ↦ absurd (cc (wrong, law.1 (lexed.0 answered)))
        | inr denied ↦ denied ∙ sym wrong
      ]
    ]

-- ---- scopes

abbrev is_dot : ℕ → Bool
is_dot b = b == dot

pub no_dot : (text : List ℕ) → ((k : ℕ) → k < length text → get_or text k 0 ≢ dot) → list_any is_dot text ≡ false
no_dot text lacks = list_any_none is_dot text (All-from_get_or (λ b. is_dot b ≡ false) text 0 (λ k lt. ne_eqb _ dot (lacks k lt)))

lacks_dot : (name : List ℕ) → ¬ Contains name dot → list_any is_dot name ≡ false
lacks_dot name none = no_dot name (λ k lt e. none (k, lt, get_or_default name k dot 0 lt ∙ e))

pub full-name-scope-law : FullNameScopeLaw
full-name-scope-law scope name none = sym (scope_joined scope name (lacks_dot name none))
