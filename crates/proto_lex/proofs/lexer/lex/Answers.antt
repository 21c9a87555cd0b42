use Rattle.std.proofs.Common.{is_ok, ap, subst, rules}
use Rattle.std.proofs.ResultArms.{chosen}
use Rattle.proto_lex.specs.Tokens.{AreTokens}
use Rattle.proto_lex.proofs.Cuts.{after_trivia, trivia_inside, after_token, at_text_end}
use Rattle.proto_lex.proofs.Exists.{tokens_are_unique}
use Rattle.proto_lex.proofs.lexer.lex.Goals as goal

pub loop-at-preserved-in-Trivia : goal.loop-at-preserved-in-Trivia
loop-at-preserved-in-Trivia c = after_trivia _ _ _ _ c.loop-at.invariant c.in-Trivia.ensures

pub loop-at-preserved : goal.loop-at-preserved
loop-at-preserved c = after_token _ _ _ _ _ _ c.loop-at.invariant c.in-Token.ensures (chosen _ _ _ _ c.push.ensures.items (ap is_ok c.in_ok-push-in-Token.was))

pub returns : goal.returns
returns c =
    let are = subst (λ text. AreTokens text c.loop-at.tokens.items) c.as_bytes-bytes.ensures.value (at_text_end _ _ _ c.loop-at.invariant c.loop-at-test.false) in
    tokens_are_unique _ _ are

pub overflow_add-at : goal.overflow_add-at
overflow_add-at c =
    let within = trivia_inside _ _ _ c.loop-at.invariant.in_range c.in-Trivia.ensures in
    search (rules, within)
