use Rattle.proto_laws.proofs.Parents.{parents-hold_in}
use Rattle.proto_laws.proofs.fact_laws.parents_hold.Goals as goal

pub returns : goal.returns
returns c = λ text. parents-hold_in text (c.decls_in_order.ensures text)
