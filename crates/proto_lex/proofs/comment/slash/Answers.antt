use Rattle.std.proofs.Common.{arith, ap, ◌∙◌}
use Rattle.std.proofs.lemmas.List.{take_rest}
use Rattle.proto_lex.specs.Bytes.{class_of}
use Rattle.proto_lex.proofs.Fronts.{slash_is_symbol}
use Rattle.proto_lex.proofs.Symbols.{symbol_first, open_comment_first}
use Rattle.proto_lex.proofs.comment.slash.Goals as goal

pub returns-then-rest-eq1 : goal.returns-then-rest-eq1
returns-then-rest-eq1 c = symbol_first _ c.requires.some (ap class_of c.requires.first ∙ slash_is_symbol) (λ more. absurd (omega arith))

pub returns-else-closed : goal.returns-else-closed
returns-else-closed c = open_comment_first _ _ _ _ c.if-closed.false (omega arith) c.requires.first c.in-42.is (take_rest _ 2) c.comment_end-len.ensures.ends (c.comment_end-len.ensures.whole c.if-closed.false)

pub returns-in_default : goal.returns-in_default
returns-in_default c = symbol_first _ c.requires.some (ap class_of c.requires.first ∙ slash_is_symbol) (λ more. let first = c.requires.first in let others = c.in_default in record {
  no_line = λ slash second. omega arith;
  no_block = λ slash star. omega arith;
  no_number = λ dot. absurd (omega (arith, first, dot));
})
