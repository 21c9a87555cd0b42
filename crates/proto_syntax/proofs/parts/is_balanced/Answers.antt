use Rattle.std.proofs.Common.{◌∙◌, ap, eqb, sym}
use Rattle.std.specs.Prelude.{reverse}
use Rattle.proto_syntax.proofs.BracketLemmas.{closes-step, closes-end}
use Rattle.proto_syntax.proofs.parts.is_balanced.Goals as goal

pub returns-then-not-branch : goal.returns-then-not-branch
returns-then-not-branch c =
    let step = closes-step (reverse c.tokens.pending.items) (reverse c.take_bracket.new.pending.items) c.args.ts.now c.tokens.t-index _ c.in_ok-take_bracket.field-0 c.tokens-test.true c.in_ok-take_bracket.ensures in
    sym (c.tokens.invariant ∙ (rw c.if-not-branch.true at step))

pub tokens-preserved : goal.tokens-preserved
tokens-preserved c =
    let step = closes-step (reverse c.tokens.pending.items) (reverse c.take_bracket.new.pending.items) c.args.ts.now c.tokens.t-index _ c.in_ok-take_bracket.field-0 c.tokens-test.true c.in_ok-take_bracket.ensures in
    c.tokens.invariant ∙ (rw c.if-not-branch.false at step)

pub returns : goal.returns
returns c = c.is_empty.ensures ∙ ap (λ n. eqb n 0) c.tokens.pending.ok.0 ∙ sym (c.tokens.invariant ∙ closes-end c.tokens.pending.items c.args.ts.now c.tokens.t-index c.tokens-test.false)
