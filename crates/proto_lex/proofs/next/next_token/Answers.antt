use Rattle.std.proofs.Common.{rules}
use Rattle.proto_lex.proofs.Cuts.{trivia_inside}
use Rattle.proto_lex.proofs.Rest.{skipped_none, skipped_trivia, first_token, no_token}
use Rattle.proto_lex.proofs.next.next_token.Goals as goal

pub loop-at-init : goal.loop-at-init
loop-at-init c = skipped_none _ _ c.requires

pub overflow_add-at : goal.overflow_add-at
overflow_add-at c =
    let within = trivia_inside _ _ _ c.loop-at.invariant.in_range c.in-Trivia.ensures in
    search (rules, within)

pub loop-at-preserved : goal.loop-at-preserved
loop-at-preserved c = skipped_trivia _ _ _ _ c.loop-at.invariant c.in-Trivia.ensures

pub returns-in-Token-clause-order : goal.returns-in-Token-clause-order
returns-in-Token-clause-order c = (first_token _ _ _ _ _ c.loop-at.invariant c.in-Token.ensures).order

pub returns-in-Token-clause-value : goal.returns-in-Token-clause-value
returns-in-Token-clause-value c = (first_token _ _ _ _ _ c.loop-at.invariant c.in-Token.ensures).value

pub returns-clause-value : goal.returns-clause-value
returns-clause-value c = no_token _ _ _ c.loop-at.invariant c.loop-at-test.false
