use Rattle.std.proofs.Common.{◌≡◌, ◌++◌, length}
use Rattle.proto_tree.specs.Others.{kept}
use Rattle.proto_syntax.proofs.others.kept.Given as goal

abbrev pub invariant-lexemes : goal.invariant-lexemes
invariant-lexemes l = l.found.items ++ kept l.rest ≡ kept l.lexemes

abbrev pub decreases-lexemes : goal.decreases-lexemes
decreases-lexemes l = length l.rest
