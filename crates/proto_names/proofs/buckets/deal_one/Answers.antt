use Rattle.std.proofs.Common.{◌≡◌, ◌%◌, ◌∙◌, ap, length, arith}
use Rattle.proto_names.proofs.Dealing.{one_pushed}
use Rattle.proto_names.proofs.buckets.deal_one.Goals as goal

pub returns : goal.returns
returns c =
    let many : c.len.result ≡ length c.args.lists.now.items = omega arith in
    one_pushed (λ list. list.items) c.args.lists.now.items c.args.entry c.bucket_of-number.result c.index_mut.result.now c.push.new.self
    (c.bucket_of-number.ensures.value ∙ ap (λ m. c.args.entry.hash % m) many) (omega arith) c.index_mut.ensures.value c.in_ok-push.ensures.items
