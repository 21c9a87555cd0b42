use Rattle.std.proofs.Common.{◌≡◌, ◌-◌, get_or, inl, inr, subst, sym, arith}
use Rattle.std.proofs.lemmas.Bool.{cases_eq}
use Rattle.proto_decls.proofs.LastParts.{no_dot}
use Rattle.proto_decls.proofs.full_name.last_dot.Goals as goal

pub loop-at-preserved : goal.loop-at-preserved
loop-at-preserved c = (
  omega (arith, c.loop-at.invariant.0),
  λ k from lt e. elim (cases_eq (c.loop-at.at - 1) k) [
    | inl equal ↦ c.if-name-at-eq46.false (subst (λ j. get_or c.args.name.now j 0 ≡ 46) (sym equal) e)
    | inr other ↦ c.loop-at.invariant.1 k (omega (arith, from, other)) lt e
  ],
)

pub returns : goal.returns
returns c = no_dot c.args.name.now (λ i lt. c.loop-at.invariant.1 i (omega (arith, c.loop-at-test.false)) lt)
