use Rattle.std.proofs.Common.{◌≡◌, ◌-◌, ◌+◌, ◌≤◌, length}
use Rattle.proto_tree.specs.declared.lexeme.Terminal.TheVariants as w
use Rattle.proto_tree.specs.Parts.{full, separated_by, identifier}
use Rattle.proto_tree.proofs.PartLemmas.{with_front}
use Rattle.proto_syntax.proofs.parts.TokenReader.full.Given as goal

abbrev pub invariant-parts : goal.invariant-parts
invariant-parts l = record {
  turns : length l.self.rest.now + length l.found ≤ length l.fn.self.rest.now;
  so_far : full l.fn.self.rest.now ≡ with_front l.found (separated_by w.Dot identifier (length l.fn.self.rest.now - length l.found) l.self.rest.now);
}

abbrev pub decreases-parts : goal.decreases-parts
decreases-parts l = length l.self.rest.now
