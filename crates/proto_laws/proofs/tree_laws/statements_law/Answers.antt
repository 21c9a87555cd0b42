use Rattle.proto_laws.proofs.GrammarLemmas.{statement_spelled}
use Rattle.proto_laws.proofs.StatementsRead.{statements_are_read, statements_are_unique}
use Rattle.proto_laws.proofs.tree_laws.statements_law.Goals as goal

pub returns-clause-spelled : goal.returns-clause-spelled
returns-clause-spelled c = statement_spelled

pub returns-clause-read : goal.returns-clause-read
returns-clause-read c = statements_are_read

pub returns-clause-only : goal.returns-clause-only
returns-clause-only c = statements_are_unique
