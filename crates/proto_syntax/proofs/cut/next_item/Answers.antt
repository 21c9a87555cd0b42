use Rattle.std.proofs.Common.{◌≡◌, ℕ, ◌+◌, ◌-◌, ◌<◌, ◌≤◌, false, length, take, drop, sym, ◌∙◌, arith, length-drop}
use Rattle.std.specs.Prelude.{IsTrue}
use Rattle.std.proofs.lemmas.List.{take_rest}
use Rattle.proto_tree.specs.Cut.{ends, is_quiet}
use Rattle.proto_syntax.specs.Skips.{opened, closed, IsSkip}
use Rattle.proto_syntax.proofs.SkipLemmas.{begins-at, count-add}
use Rattle.proto_tree.specs.declared.lexeme.Terminal.TheVariants as w
use Rattle.proto_syntax.proofs.CutLemmas.{no_lexeme, items_from-grown, items_from-ended, items_from-inside, items_from-open, IsQuietRun, quiet_run, skipped-inside, unfinished, as_rest, depth-step}
use Rattle.proto_tree.proofs.ItemEnds.{ends-rest}
use Rattle.proto_syntax.proofs.cut.next_item.Goals as goal

pub returns-then-inner-ts-clause-first : goal.returns-then-inner-ts-clause-first
returns-then-inner-ts-clause-first c =
    let skip : IsSkip (drop c.places.«end» c.args.rest.tokens.now) c.skip_at.result =
    c.skip_at.ensures in
    c.places.invariant.so_far
    ∙ items_from-open c.args.body c.args.rest.tokens.now c.places.«end» c.skip_at.result c.places.opened c.places.closed c.places.invariant.depth (omega (arith, c.if-closed-opened.true)) skip c.places.invariant.within (omega (arith, c.min-inner.ensures, c.if-inner-ts.true))

pub returns-then-inner-ts-clause-finished : goal.returns-then-inner-ts-clause-finished
returns-then-inner-ts-clause-finished c =
    let skip : IsSkip (drop c.places.«end» c.args.rest.tokens.now) c.skip_at.result =
    c.skip_at.ensures in
    let far : length c.args.rest.tokens.now - c.places.«end» ≤ c.skip_at.result = omega (arith, c.min-inner.ensures, c.if-inner-ts.true) in
    let all : c.places.«end» + (length c.args.rest.tokens.now - c.places.«end») ≡ length c.args.rest.tokens.now = omega (arith, c.places.invariant.within) in
    let inside : closed (take (c.places.«end» + (length c.args.rest.tokens.now - c.places.«end»)) c.args.rest.tokens.now) < opened (take (c.places.«end» + (length c.args.rest.tokens.now - c.places.«end»)) c.args.rest.tokens.now) =
    skipped-inside c.args.rest.tokens.now c.places.«end» c.skip_at.result c.places.opened c.places.closed c.places.invariant.depth (omega (arith, c.if-closed-opened.true)) skip c.places.invariant.within
    (length c.args.rest.tokens.now - c.places.«end») (omega (arith, c.places.invariant.within)) far (omega (arith, c.places.invariant.within)) in
    unfinished c.args.body (take (length c.args.rest.tokens.now) c.args.rest.tokens.now) (rw all at inside)

pub places-preserved-then-is : goal.places-preserved-then-is
places-preserved-then-is c =
    let skip : IsSkip (drop c.places.«end» c.args.rest.tokens.now) c.skip_at.result =
    c.skip_at.ensures in
    let exact : c.min-inner.result ≡ c.skip_at.result = omega (arith, c.min-inner.ensures, c.if-inner-ts.false) in
    let few : c.skip_at.result < length c.args.rest.tokens.now - c.places.«end» = omega (arith, c.min-inner.ensures, c.if-inner-ts.false) in
    let deeper : opened (take c.skip_at.result (drop c.places.«end» c.args.rest.tokens.now)) ≡ closed (take c.skip_at.result (drop c.places.«end» c.args.rest.tokens.now)) + 1 =
    skip.one_deep (omega (arith, few, length-drop c.places.«end» c.args.rest.tokens.now)) in
    rw exact (record {
      within = omega (arith, few);
      few_opened = omega (arith, c.places.invariant.few_opened, skip.some);
      few_closed = omega (arith, c.places.invariant.few_closed);
      depth = omega (arith, c.places.invariant.depth, deeper, count-add w.OpenBrace c.places.«end» c.skip_at.result c.args.rest.tokens.now, count-add w.CloseBrace c.places.«end» c.skip_at.result c.args.rest.tokens.now);
      so_far = c.places.invariant.so_far
          ∙ items_from-inside c.args.body c.args.rest.tokens.now c.places.«end» c.skip_at.result (omega (arith, few))
          (λ m some le. skipped-inside c.args.rest.tokens.now c.places.«end» c.skip_at.result c.places.opened c.places.closed c.places.invariant.depth (omega (arith, c.if-closed-opened.true)) skip c.places.invariant.within m some le (omega (arith, few)));
    })

pub returns-then-ends-clause-first : goal.returns-then-ends-clause-first
returns-then-ends-clause-first c =
    c.places.invariant.so_far
    ∙ items_from-ended c.args.body c.args.rest.tokens.now c.places.«end» no_lexeme c.places.invariant.within (as_rest c.args.body c.args.rest.tokens.now (c.places.«end» + 1) _ (sym c.ends.ensures ∙ c.if-ends.true))

pub places-preserved : goal.places-preserved
places-preserved c =
    let goes_on : ends c.args.body (take (c.places.«end» + 1) c.args.rest.tokens.now) (drop (c.places.«end» + 1) c.args.rest.tokens.now) ≡ false =
    as_rest c.args.body c.args.rest.tokens.now (c.places.«end» + 1) _ (sym c.ends.ensures ∙ c.if-ends.false) in
    let more : 0 < length (drop (c.places.«end» + 1) c.args.rest.tokens.now) = ends-rest c.args.body (take (c.places.«end» + 1) c.args.rest.tokens.now) _ goes_on in
    record {
      within = omega (arith, more, length-drop (c.places.«end» + 1) c.args.rest.tokens.now);
      few_opened = omega (arith, c.places.invariant.few_opened, c.counted-opened.ensures.small);
      few_closed = omega (arith, c.places.invariant.few_closed, c.counted-closed.ensures.small);
      depth = depth-step c.args.rest.tokens.now c.places.«end» no_lexeme c.places.opened c.places.closed _ _ c.places.invariant.within c.places.invariant.depth c.counted-opened.ensures.value c.counted-closed.ensures.value;
      so_far = c.places.invariant.so_far ∙ items_from-grown c.args.body c.args.rest.tokens.now c.places.«end» no_lexeme c.places.invariant.within goes_on;
    }

pub places-preserved-then-run-gt0 : goal.places-preserved-then-run-gt0
places-preserved-then-run-gt0 c =
    let quiet : (k : ℕ) → k < c.quiet_run-run.result → IsTrue (is_quiet (drop k (drop c.places.«end» c.args.rest.tokens.now))) = rw take_rest at c.quiet_run-run.ensures.quiet in
    let run : IsQuietRun c.args.body c.args.rest.tokens.now c.places.«end» c.quiet_run-run.result = quiet_run c.args.body c.args.rest.tokens.now c.places.«end» c.quiet_run-run.result quiet in
    let few : c.quiet_run-run.result < length c.args.rest.tokens.now - c.places.«end» = rw (take_rest, length-drop c.places.«end» c.args.rest.tokens.now) at c.quiet_run-run.ensures.within in
    record {
      within = omega arith;
      few_opened = omega (arith, c.places.invariant.few_opened);
      few_closed = omega (arith, c.places.invariant.few_closed);
      depth = omega (arith, c.places.invariant.depth, run.opens_none, run.closes_none);
      so_far = c.places.invariant.so_far ∙ run.so_far;
    }

pub skip_at-requires-clause-opens : goal.skip_at-requires-clause-opens
skip_at-requires-clause-opens c = begins-at c.args.rest.tokens.now c.places.«end» no_lexeme c.places.invariant.within (sym c.is.ensures ∙ c.if-is.true)
