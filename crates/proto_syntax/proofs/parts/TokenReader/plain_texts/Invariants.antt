use Rattle.std.proofs.Common.{◌≡◌, ◌≤◌, ◌++◌, length}
use Rattle.proto_tree.specs.Parts.{texts}
use Rattle.proto_syntax.proofs.parts.TokenReader.plain_texts.Given as goal

abbrev pub invariant-texts : goal.invariant-texts
invariant-texts l = record {
  left : length l.self.rest.now ≤ length l.fn.self.rest.now;
  so_far : texts l.fn.self.rest.now ≡ (l.found ++ (texts l.self.rest.now).0, (texts l.self.rest.now).1);
}

abbrev pub decreases-texts : goal.decreases-texts
decreases-texts l = length l.self.rest.now
