use Rattle.std.proofs.Common.{◌≡◌, ◌++◌, drop, map}
use Rattle.proto_tree.specs.Others.{other_lexeme}
use Rattle.proto_syntax.proofs.others.with_other_words.Given as goal

abbrev pub invariant-lexemes : goal.invariant-lexemes
invariant-lexemes l = l.found.items ++ map (other_lexeme l.text) (drop l.lexeme-index l.lexeme-items) ≡ map (other_lexeme l.text) l.lexeme-items
