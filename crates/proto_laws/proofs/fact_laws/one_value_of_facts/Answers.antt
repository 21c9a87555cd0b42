use Rattle.proto_decls.specs.Facts.{opaque, stated}
use Rattle.proto_laws.proofs.FactsLaws.{facts-are, only_facts}
use Rattle.proto_laws.proofs.fact_laws.one_value_of_facts.Goals as goal

pub returns-clause-value : goal.returns-clause-value
returns-clause-value c = λ text tree. facts-are (opaque text (stated text tree.nodes)) (stated text tree.nodes) text tree

pub returns-clause-only : goal.returns-clause-only
returns-clause-only c = λ text tree f. only_facts (opaque text (stated text tree.nodes)) (stated text tree.nodes) text tree f
