use Rattle.std.proofs.Common.{◌≡◌, ◌<◌, ◌+◌, ◌-◌, length, [], ◌∷◌, Some, ap, sym, ◌∙◌, arith, length-append}
use Rattle.proto_tree.specs.declared.lexeme.Terminal.TheVariants as w
use Rattle.proto_tree.specs.Forms.{option_part}
use Rattle.proto_tree.proofs.PartLemmas.{separated-is, separated_by-more, separated_by-end, eat-shorter, nonempty}
use Rattle.proto_syntax.proofs.FormLemmas.{option_part-nil}
use Rattle.proto_syntax.proofs.forms.option_parts.Goals as goal

pub parts-init : goal.parts-init
parts-init c = rw c.in_ok-found.ensures (record { turns = omega arith; so_far = separated-is w.Dot option_part c.args.tokens.now.rest.now })

pub returns-then-not-eat : goal.returns-then-not-eat
returns-then-not-eat c =
    let some : 0 < length c.parts.tokens.rest.now = nonempty option_part c.parts.tokens.rest.now _ option_part-nil c.in_ok-item.ensures.reads in
    c.parts.invariant.so_far ∙ separated_by-end w.Dot option_part _ _ _ _ c.in_ok-item.item c.parts.found (omega arith) c.in_ok-item.ensures.reads (rw c.if-not-eat.true at c.eat.ensures.reads)
    ∙ ap (λ l. Some (l, c.eat.new.self.rest.now)) (sym c.in_ok-push.ensures.ok)

pub parts-smaller : goal.parts-smaller
parts-smaller c = omega (arith, eat-shorter w.Dot c.option_part.new.tokens.rest.now c.eat.new.self.rest.now (rw c.if-not-eat.false at c.eat.ensures.reads), c.in_ok-item.ensures.left)

pub parts-preserved : goal.parts-preserved
parts-preserved c =
    let some : 0 < length c.parts.tokens.rest.now = nonempty option_part c.parts.tokens.rest.now _ option_part-nil c.in_ok-item.ensures.reads in
    let less : length c.eat.new.self.rest.now < length c.option_part.new.tokens.rest.now = eat-shorter w.Dot _ _ (rw c.if-not-eat.false at c.eat.ensures.reads) in
    let pushed : length c.push.new.self ≡ length c.parts.found + 1 = ap length c.in_ok-push.ensures.ok ∙ length-append c.parts.found (c.in_ok-item.item ∷ []) in
    let turns : length c.args.tokens.now.rest.now - length c.push.new.self ≡ (length c.args.tokens.now.rest.now - length c.parts.found) - 1 = omega arith in
    record {
      turns = omega (arith, c.in_ok-item.ensures.left);
      so_far = rw (turns, c.in_ok-push.ensures.ok) (c.parts.invariant.so_far ∙ separated_by-more w.Dot option_part _ _ _ _ c.in_ok-item.item c.parts.found (omega arith) c.in_ok-item.ensures.reads (rw c.if-not-eat.false at c.eat.ensures.reads));
    }
