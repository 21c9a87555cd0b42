use Rattle.std.proofs.Common.{◌≡◌, ◌-◌, drop, get_or, arith, sym, ◌∙◌}
use Rattle.proto_syntax.specs.Skips.{IsSkip}
use Rattle.proto_syntax.proofs.SkipLemmas.{each, skip-behind, inside-skip, inside-all}
use Rattle.proto_syntax.proofs.CutLemmas.{no_lexeme}
use Rattle.proto_syntax.proofs.skips.skip.Goals as goal

pub returns-then-inner-ts-clause-skip : goal.returns-then-inner-ts-clause-skip
returns-then-inner-ts-clause-skip c =
    let reach : IsSkip (drop c.places.«end» c.args.ts.now) (get_or c.args.skips.now (c.places.«end» - 1) 1) =
    skip-behind c.args.ts.now c.args.skips.now c.places.«end» no_lexeme (each _ _ c.requires.skips) c.places.invariant.some (omega (arith, c.places-test.true)) (sym c.is.ensures ∙ c.if-is.true) in
    inside-all c.args.ts.now c.places.«end» c.places.depth (get_or c.args.skips.now (c.places.«end» - 1) 1) c.places.invariant reach (omega (arith, c.min-inner.ensures, c.known_skip.ensures, c.if-inner-ts.true))

pub places-smaller-then-is : goal.places-smaller-then-is
places-smaller-then-is c =
    let reach : IsSkip (drop c.places.«end» c.args.ts.now) (get_or c.args.skips.now (c.places.«end» - 1) 1) =
    skip-behind c.args.ts.now c.args.skips.now c.places.«end» no_lexeme (each _ _ c.requires.skips) c.places.invariant.some (omega (arith, c.places-test.true)) (sym c.is.ensures ∙ c.if-is.true) in
    omega (arith, c.min-inner.ensures, c.known_skip.ensures, c.if-inner-ts.false, reach.some, c.places-test.true)

pub places-preserved-then-is : goal.places-preserved-then-is
places-preserved-then-is c =
    let reach : IsSkip (drop c.places.«end» c.args.ts.now) (get_or c.args.skips.now (c.places.«end» - 1) 1) =
    skip-behind c.args.ts.now c.args.skips.now c.places.«end» no_lexeme (each _ _ c.requires.skips) c.places.invariant.some (omega (arith, c.places-test.true)) (sym c.is.ensures ∙ c.if-is.true) in
    let exact : c.min-inner.result ≡ get_or c.args.skips.now (c.places.«end» - 1) 1 = omega (arith, c.min-inner.ensures, c.known_skip.ensures, c.if-inner-ts.false) in
    rw exact (inside-skip c.args.ts.now c.places.«end» c.places.depth (get_or c.args.skips.now (c.places.«end» - 1) 1) c.places.invariant reach (omega (arith, c.min-inner.ensures, c.known_skip.ensures, c.if-inner-ts.false)))
