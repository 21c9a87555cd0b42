use Rattle.proto_laws.proofs.GrammarLemmas.{gives-header}
use Rattle.proto_laws.proofs.StatementsRead.{headers_are_read, headers_are_unique}
use Rattle.proto_laws.proofs.tree_laws.headers_law.Goals as goal

pub returns-clause-spelled : goal.returns-clause-spelled
returns-clause-spelled c = gives-header

pub returns-clause-read : goal.returns-clause-read
returns-clause-read c = headers_are_read

pub returns-clause-only : goal.returns-clause-only
returns-clause-only c = headers_are_unique
