use Rattle.proto_lex.proofs.Floats.{floats_are_forms}
use Rattle.proto_lex.proofs.Ints.{ints_are_forms}
use Rattle.proto_lex.proofs.laws.number_forms.Goals as goal

pub returns : goal.returns
returns c = record { ints = ints_are_forms; floats = floats_are_forms }
