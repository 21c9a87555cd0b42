use Rattle.std.proofs.Common.{subst, sym}
use Rattle.proto_laws.specs.Trees.{ReadsBody}
use Rattle.proto_laws.proofs.TreesLaw.{body_only, body_reads, text_has, text_only}
use Rattle.proto_laws.proofs.tree_laws.trees_law.Goals as goal

pub returns-clause-body : goal.returns-clause-body
returns-clause-body c = λ blocks body ts tree. (body_only blocks body ts tree, λ same. subst (ReadsBody blocks body ts) (sym same) (body_reads blocks body ts))

pub returns-clause-exists : goal.returns-clause-exists
returns-clause-exists c = text_has c.one_token_list.ensures.exist

pub returns-clause-only : goal.returns-clause-only
returns-clause-only c = text_only c.one_token_list.ensures.unique
