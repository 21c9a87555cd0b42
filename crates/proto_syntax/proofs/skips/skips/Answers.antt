use Rattle.std.proofs.Common.{◌≡◌, ◌+◌, ◌-◌, drop, ap, subst, ◌∙◌, sym, arith}
use Rattle.std.proofs.lemmas.List.{drop-drop, take_rest}
use Rattle.proto_syntax.proofs.SkipLemmas.{AreSkips, all, skips-plain}
use Rattle.proto_syntax.proofs.CutLemmas.{no_lexeme}
use Rattle.proto_syntax.proofs.skips.skips.Goals as goal

pub skip-requires-clause-skips : goal.skip-requires-clause-skips
skip-requires-clause-skips c =
    let back : c.places.at - 1 + 1 ≡ c.places.at = omega (arith, c.places-test.true) in
    let behind : drop 1 (drop (c.places.at - 1) c.args.ts.now) ≡ drop c.places.at c.args.ts.now = drop-drop 1 (c.places.at - 1) c.args.ts.now ∙ ap (λ k. drop k c.args.ts.now) back in
    rw (take_rest, take_rest, back, behind, c.as_slice.ensures.value) (all (drop c.places.at c.args.ts.now) (drop c.places.at c.places.found.items) c.places.invariant.skips)

pub returns-clause-skips : goal.returns-clause-skips
returns-clause-skips c =
    let start : c.places.at ≡ 0 = omega (arith, c.places-test.false) in
    all c.args.ts.now c.places.found.items (subst (λ k. AreSkips (drop k c.args.ts.now) (drop k c.places.found.items)) start c.places.invariant.skips)

pub places-preserved : goal.places-preserved
places-preserved c = record {
  in_range = omega (arith, c.places.invariant.in_range);
  same_length = c.places.invariant.same_length;
  skips = skips-plain c.args.ts.now c.places.found.items c.places.at no_lexeme (omega (arith, c.places-test.true)) c.places.invariant.in_range c.places.invariant.same_length (sym c.is.ensures ∙ c.if-is.false) c.places.invariant.skips;
}
