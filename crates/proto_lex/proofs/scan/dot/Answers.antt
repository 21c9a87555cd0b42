use Rattle.std.proofs.Common.{arith, ap, ◌∙◌}
use Rattle.proto_lex.specs.Bytes.{class_of}
use Rattle.proto_lex.proofs.Fronts.{dot_is_symbol}
use Rattle.proto_lex.proofs.Symbols.{symbol_first}
use Rattle.proto_lex.proofs.scan.dot.Goals as goal

pub returns-then-rest-eq1 : goal.returns-then-rest-eq1
returns-then-rest-eq1 c = symbol_first _ c.requires.some (ap class_of c.requires.first ∙ dot_is_symbol) (λ more. absurd (omega arith))

pub returns-in_default : goal.returns-in_default
returns-in_default c = symbol_first _ c.requires.some (ap class_of c.requires.first ∙ dot_is_symbol) (λ more. let no = c.in_default.not-Digit in let first = c.requires.first in record {
  no_line = λ slash. absurd (omega (arith, first, slash));
  no_block = λ slash. absurd (omega (arith, first, slash));
  no_number = λ dot digit. no (c.class_of.ensures ∙ digit);
})
