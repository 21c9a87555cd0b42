use Rattle.std.proofs.Common.{sym}
use Rattle.proto_tree.proofs.SuffixLemmas.{behind_header}
use Rattle.proto_syntax.proofs.read.header_and_inside.Goals as goal

pub overflow_sub-item : goal.overflow_sub-item
overflow_sub-item c = (behind_header c.args.item.tokens.now c.in-Some.header c.in-Some.rest.now (sym (rw c.in-Some.is at c.in_ok-header_and_rest.ensures))).0

pub returns-in-Some : goal.returns-in-Some
returns-in-Some c =
    let same = behind_header c.args.item.tokens.now c.in-Some.header c.in-Some.rest.now (sym (rw c.in-Some.is at c.in_ok-header_and_rest.ensures)) in
    rw (c.split_at.ensures.others, same.1) (rw c.in-Some.is at c.in_ok-header_and_rest.ensures)
