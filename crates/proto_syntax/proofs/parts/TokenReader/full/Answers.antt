use Rattle.std.proofs.Common.{◌≡◌, ◌<◌, ◌+◌, ◌-◌, length, suc, [], ◌∷◌, Some, ap, sym, ◌∙◌, arith, length-append}
use Rattle.proto_tree.specs.declared.lexeme.Terminal.TheVariants as w
use Rattle.proto_tree.specs.Parts.{identifier}
use Rattle.proto_tree.proofs.PartLemmas.{separated_by-more, separated_by-end, eat-shorter, one-shorter, full-is}
use Rattle.proto_syntax.proofs.parts.TokenReader.full.Goals as goal

pub parts-init : goal.parts-init
parts-init c = rw c.in_ok-found.ensures (record { turns = omega arith; so_far = full-is c.args.self.now.rest.now })

pub returns-then-not-eat-clause-reads : goal.returns-then-not-eat-clause-reads
returns-then-not-eat-clause-reads c =
    let one : length c.parts.self.rest.now ≡ suc (length c.identifier.new.self.rest.now) = one-shorter _ _ _ _ c.in_ok-name.ensures.reads in
    c.parts.invariant.so_far ∙ separated_by-end w.Dot identifier _ _ _ _ c.in_ok-name.name c.parts.found (omega arith) c.in_ok-name.ensures.reads (rw c.if-not-eat.true at c.eat.ensures.reads)
    ∙ ap (λ l. Some (l, c.eat.new.self.rest.now)) (sym c.in_ok-push.ensures.ok)

pub parts-smaller : goal.parts-smaller
parts-smaller c =
    let one : length c.parts.self.rest.now ≡ suc (length c.identifier.new.self.rest.now) = one-shorter _ _ _ _ c.in_ok-name.ensures.reads in
    omega (arith, eat-shorter w.Dot c.identifier.new.self.rest.now c.eat.new.self.rest.now (rw c.if-not-eat.false at c.eat.ensures.reads))

pub parts-preserved : goal.parts-preserved
parts-preserved c =
    let one : length c.parts.self.rest.now ≡ suc (length c.identifier.new.self.rest.now) = one-shorter _ _ _ _ c.in_ok-name.ensures.reads in
    let two : length c.eat.new.self.rest.now < length c.identifier.new.self.rest.now = eat-shorter w.Dot c.identifier.new.self.rest.now c.eat.new.self.rest.now (rw c.if-not-eat.false at c.eat.ensures.reads) in
    let pushed : length c.push.new.self ≡ length c.parts.found + 1 = ap length c.in_ok-push.ensures.ok ∙ length-append c.parts.found (c.in_ok-name.name ∷ []) in
    let turns : length c.args.self.now.rest.now - length c.push.new.self ≡ (length c.args.self.now.rest.now - length c.parts.found) - 1 = omega arith in
    record {
      turns = omega arith;
      so_far = rw (turns, c.in_ok-push.ensures.ok) (c.parts.invariant.so_far ∙ separated_by-more w.Dot identifier _ _ _ _ c.in_ok-name.name c.parts.found (omega arith) c.in_ok-name.ensures.reads (rw c.if-not-eat.false at c.eat.ensures.reads));
    }
