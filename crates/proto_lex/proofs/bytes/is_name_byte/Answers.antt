use Rattle.proto_lex.proofs.ByteTable.{in_name, not_in_name}
use Rattle.proto_lex.proofs.bytes.is_name_byte.Goals as goal

pub returns-in-Letter : goal.returns-in-Letter
returns-in-Letter c = in_name _ _ c.class_of.ensures c.in-Letter.is

pub returns-in_default : goal.returns-in_default
returns-in_default c = not_in_name _ _ c.class_of.ensures c.in_default.not-Letter c.in_default.not-Digit
