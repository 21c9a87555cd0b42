use Rattle.proto_lex.proofs.Exists.{trivia_is_found}
use Rattle.proto_lex.proofs.KindForms.{kind_form, kind_exact}
use Rattle.proto_lex.proofs.laws.token_forms.Goals as goal

pub returns : goal.returns
returns c = record { kinds = λ bs kind. (kind_form bs kind, kind_exact bs kind); trivia = trivia_is_found }
