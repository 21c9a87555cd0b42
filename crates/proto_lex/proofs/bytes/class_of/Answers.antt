use Rattle.std.proofs.Common.{arith, ap, sym, ◌∙◌}
use Rattle.proto_lex.proofs.ByteTable.{class_from, table_class, table_other}
use Rattle.proto_lex.proofs.bytes.class_of.Goals as goal

pub returns-in-49 : goal.returns-in-49
returns-in-49 c = sym (ap class_from c.in-49.is) ∙ table_class c.args.byte (omega arith)

pub returns-in-50 : goal.returns-in-50
returns-in-50 c = sym (ap class_from c.in-50.is) ∙ table_class c.args.byte (omega arith)

pub returns-in-51 : goal.returns-in-51
returns-in-51 c = sym (ap class_from c.in-51.is) ∙ table_class c.args.byte (omega arith)

pub returns-in-52 : goal.returns-in-52
returns-in-52 c = sym (ap class_from c.in-52.is) ∙ table_class c.args.byte (omega arith)

pub returns-in-53 : goal.returns-in-53
returns-in-53 c = sym (ap class_from c.in-53.is) ∙ table_class c.args.byte (omega arith)

pub returns-in_default : goal.returns-in_default
returns-in_default c = let others = c.in_default in
    table_other c.args.byte (omega arith) (λ is. omega (arith, others, is)) (λ is. omega (arith, others, is)) (λ is. omega (arith, others, is)) (λ is. omega (arith, others, is)) (λ is. omega (arith, others, is))
