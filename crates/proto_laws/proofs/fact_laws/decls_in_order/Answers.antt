use Rattle.proto_laws.proofs.DeclOrder.{decls-ascend}
use Rattle.proto_laws.proofs.fact_laws.decls_in_order.Goals as goal

pub returns : goal.returns
returns c = λ text. decls-ascend text c.names_law.ensures
