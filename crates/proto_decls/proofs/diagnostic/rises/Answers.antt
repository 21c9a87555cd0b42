use Rattle.std.proofs.Common.{rules}
use Rattle.std.specs.Ordering.{is_lt}
use Rattle.proto_decls.proofs.DiagOrder.{derived_order, ascending}
use Rattle.std.proofs.lemmas.List.Sorted.{answers_always}
use Rattle.proto_decls.proofs.diagnostic.rises.Goals as goal

pub returns : goal.returns
returns c = ascending c.args.diags.now c.is_sorted_by.result (c.is_sorted_by.ensures.cases (λ a b. is_lt (derived_order a b)) (answers_always _ _ _ (λ f a r g k. search rules)))
