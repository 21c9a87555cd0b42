use Rattle.std.proofs.Common.{◌≡◌, ◌≤◌, ◌-◌, ◌++◌, length}
use Rattle.proto_lex.specs.Rest.{tokens_after}
use Rattle.proto_lex.specs.Tokens.{tokens}
use Rattle.proto_tree.specs.Lexeme.{lexemes}
use Rattle.proto_tree.specs.Read.{bad_tokens}
use Rattle.proto_syntax.proofs.scan.text_lexemes.Given as goal

abbrev pub invariant-loop-token : goal.invariant-loop-token
invariant-loop-token l = record {
  in_range : l.at ≤ length l.text;
  lexemes : l.found.items ++ lexemes l.text (tokens_after l.text l.at) ≡ lexemes l.text (tokens l.text);
  faults : l.faults ++ bad_tokens (tokens_after l.text l.at) ≡ l.fn.faults ++ bad_tokens (tokens l.text);
}

abbrev pub decreases-loop-token : goal.decreases-loop-token
decreases-loop-token l = length l.text - l.at
