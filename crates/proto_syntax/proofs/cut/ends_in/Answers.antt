use Rattle.std.proofs.Common.{ap, sym, ◌∙◌}
use Rattle.proto_tree.specs.Lexeme.{is}
use Rattle.proto_syntax.proofs.CutLemmas.{ends_in-last}
use Rattle.proto_syntax.proofs.cut.ends_in.Goals as goal

pub returns-in-Some : goal.returns-in-Some
returns-in-Some c =
    c.is.ensures ∙ ap (is c.args.terminal) c.in-Some.ensures.item.1 ∙ sym (ends_in-last c.args.terminal c.args.item.now c.in-Some.last.now c.in-Some.ensures.item.3.0)
