use Rattle.proto_decls.proofs.ProblemOrder.{problem_order-is}
use Rattle.proto_laws.proofs.fact_laws.problems_in_order.Goals as goal

pub returns : goal.returns
returns c = problem_order-is
