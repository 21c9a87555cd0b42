use Rattle.std.proofs.Common.{◌∙◌, sym, arith}
use Rattle.proto_decls.proofs.ApartNames.{at_end, joined_len, other_next, other_option, same_next, same_option}
use Rattle.proto_decls.proofs.full_name.compare_from.Goals as goal

pub loop-at-preserved : goal.loop-at-preserved
loop-at-preserved c =
    c.loop-at.invariant ∙ same_next _ _ c.loop-at.at c.byte_at-byte.result (sym c.byte_at-byte.ensures) (sym c.byte_at-other_byte.ensures ∙ same_option c.byte_at-byte.result c.byte_at-other_byte.result (sym c.ne.ensures ∙ c.if-ne.false))

pub returns-then-ne : goal.returns-then-ne
returns-then-ne c =
    c.cmp.ensures ∙ other_next _ _ c.loop-at.at _ _ (sym c.byte_at-byte.ensures) (sym c.byte_at-other_byte.ensures) (other_option c.byte_at-byte.result c.byte_at-other_byte.result (sym c.ne.ensures ∙ c.if-ne.true)) ∙ sym c.loop-at.invariant

pub returns : goal.returns
returns c =
    c.cmp-2.ensures ∙ at_end _ _ c.loop-at.at _ _ (omega (arith, joined_len c.args.scope.now c.args.last.now, c.loop-at-test.false)) (sym c.byte_at.ensures) (sym c.byte_at-2.ensures) ∙ sym c.loop-at.invariant
