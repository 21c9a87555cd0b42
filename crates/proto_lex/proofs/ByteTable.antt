-- The scanner's table of classes holds the class of each byte.
use Rattle.std.proofs.Common.{◌≡◌, ℕ, ◌<◌, ◌≢◌, ◌⊎◌, inl, inr, Bool, true, false, cond, get_or, refl, ap, sym, ◌∙◌, arith}
use Rattle.std.specs.Prelude.{◌==◌, ◌||◌, map}
use Rattle.std.specs.Char.{is_ascii_digit}
use Rattle.std.proofs.lemmas.Bool.Decides.{nat_tests}
use Rattle.std.specs.List.{range_with_len}
use Rattle.std.proofs.lemmas.List.FromFn.{get_or-map-range_with_len}
use Rattle.proto_lex.specs.declared.bytes.TheConstants.{CLASSES}
use Rattle.proto_lex.specs.declared.bytes.Class.{Class}
use Rattle.proto_lex.specs.declared.bytes.Class.TheVariants as class
use Rattle.proto_lex.specs.Bytes.{class_of, is_letter, is_name_byte, is_quote, is_space, is_symbol}

-- the digit that stands for a class
abbrev code_of : Class → ℕ
code_of class.Letter = 49
code_of class.Digit = 50
code_of class.Quote = 51
code_of class.Space = 52
code_of class.Symbol = 53
code_of class.Other = 48

abbrev pub class_from : ℕ → Class
class_from n =
    cond (n == 49) class.Letter (cond (n == 50) class.Digit (cond (n == 51) class.Quote (cond (n == 52) class.Space (cond (n == 53) class.Symbol class.Other))))

from_code : (c : Class) → class_from (code_of c) ≡ c
from_code class.Letter = refl
from_code class.Digit = refl
from_code class.Quote = refl
from_code class.Space = refl
from_code class.Symbol = refl
from_code class.Other = refl

other_code : (n : ℕ) → n ≢ 49 → n ≢ 50 → n ≢ 51 → n ≢ 52 → n ≢ 53 → class_from n ≡ class.Other
other_code n letter digit quote space symbol = grind (arith, nat_tests)

whole_table : map (λ b. code_of (class_of b)) (range_with_len 0 256) ≡ CLASSES
unfolding class_of is_letter is_quote is_space is_symbol
whole_table = refl

pub table_class : (b : ℕ) → b < 256 → class_from (get_or CLASSES b 0) ≡ class_of b
table_class b byte =
    let entry = get_or-map-range_with_len (λ x. code_of (class_of x)) 0 256 b b 0 byte (omega arith) in
    ap class_from (ap (λ l. get_or l b 0) (sym whole_table) ∙ entry) ∙ from_code (class_of b)

pub table_other : (b : ℕ) → b < 256 → get_or CLASSES b 0 ≢ 49 → get_or CLASSES b 0 ≢ 50 → get_or CLASSES b 0 ≢ 51 → get_or CLASSES b 0 ≢ 52 → get_or CLASSES b 0 ≢ 53
    → class.Other ≡ class_of b
table_other b byte letter digit quote space symbol = sym (other_code (get_or CLASSES b 0) letter digit quote space symbol) ∙ table_class b byte

-- which classes go on with a name
abbrev pub is_name_class : Class → Bool
is_name_class class.Letter = true
is_name_class class.Digit = true
is_name_class class.Quote = false
is_name_class class.Space = false
is_name_class class.Symbol = false
is_name_class class.Other = false

name_chain : (letter digit quote space symbol : Bool)
    → is_name_class (cond letter class.Letter (cond digit class.Digit (cond quote class.Quote (cond space class.Space (cond symbol class.Symbol class.Other))))) ≡ (letter || digit)
name_chain true digit quote space symbol = refl
name_chain false true quote space symbol = refl
name_chain false false true space symbol = refl
name_chain false false false true symbol = refl
name_chain false false false false true = refl
name_chain false false false false false = refl

pub class_name : (b : ℕ) → is_name_class (class_of b) ≡ is_name_byte b
unfolding class_of is_name_byte
class_name b = name_chain (is_letter b) (is_ascii_digit b) (is_quote b) (is_space b) (is_symbol b)

-- the same of a byte whose class is known
pub in_name : (b : ℕ) (c : Class) → c ≡ class_of b → (c ≡ class.Letter) ⊎ (c ≡ class.Digit) → true ≡ is_name_byte b
in_name b c is (inl letter) = let name = class_name b in cc (name, is, letter)
in_name b c is (inr digit) = let name = class_name b in cc (name, is, digit)

not_name_class : (c : Class) → (c ≡ class.Letter → ⊥) → (c ≡ class.Digit → ⊥) → is_name_class c ≡ false
not_name_class class.Letter letter digit = absurd (letter refl)
not_name_class class.Digit letter digit = absurd (digit refl)
not_name_class class.Quote letter digit = refl
not_name_class class.Space letter digit = refl
not_name_class class.Symbol letter digit = refl
not_name_class class.Other letter digit = refl

pub not_in_name : (b : ℕ) (c : Class) → c ≡ class_of b → (c ≡ class.Letter → ⊥) → (c ≡ class.Digit → ⊥) → false ≡ is_name_byte b
not_in_name b c is letter digit = sym (not_name_class c letter digit) ∙ ap is_name_class is ∙ class_name b
