use Rattle.std.proofs.Common.{true, false, sym, ◌∙◌}
use Rattle.proto_lex.proofs.Rest.{after_mark}
use Rattle.proto_lex.proofs.next.first_offset.Goals as goal

pub returns-then-starts_with-clause-value : goal.returns-then-starts_with-clause-value
returns-then-starts_with-clause-value c = after_mark _ true (sym c.if-starts_with.true ∙ c.starts_with.ensures.value)

pub returns-else-starts_with-clause-value : goal.returns-else-starts_with-clause-value
returns-else-starts_with-clause-value c = after_mark _ false (sym c.if-starts_with.false ∙ c.starts_with.ensures.value)
