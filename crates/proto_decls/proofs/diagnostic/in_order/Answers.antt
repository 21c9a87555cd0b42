use Rattle.std.proofs.Common.{◌∙◌, subst}
use Rattle.std.specs.Cmp.{IsEquivalence}
use Rattle.std.specs.List.Sorted.{IsSorted}
use Rattle.std.specs.declared.cmp.Ordering.{Ordering}
use Rattle.std.proofs.lemmas.List.Filters.{dedup_is}
use Rattle.std.proofs.lemmas.List.Kept.{Contains-dedup, Contains-from_dedup, IsStrictlySortedBy-dedup}
use Rattle.std.proofs.lemmas.List.Sorted.{Contains-permutation, IsPermutation-sym}
use Rattle.proto_decls.specs.Order.{order}
use Rattle.proto_decls.specs.declared.diagnostic.Diag.{Diag}
use Rattle.proto_decls.specs.contracts.diagnostic.DiagEq.TheImpl.Laws.{laws-law}
use Rattle.proto_decls.proofs.DiagOrder.{derived_order, order-is, order_total, same_diag, diag_ties, same_diags, only_list}
use Rattle.proto_decls.proofs.diagnostic.in_order.Goals as goal

diag_equiv : IsEquivalence same_diag
diag_equiv = laws-law

pub returns : goal.returns
returns c =
    let by_variants : IsSorted derived_order c.sort.new.self.items = c.in_ok-sort.ensures.sorted in
    let sorted : IsSorted order c.sort.new.self.items = subst (λ (R : Diag → Diag → Ordering). IsSorted R c.sort.new.self.items) order-is by_variants in
    let is = c.from_vec.ensures ∙ dedup_is _ _ _ c.dedup.ensures.filtered in
    let moved = c.sort.ensures.permutation in
    let from = c.in_ok-diags.ensures.items in
    only_list c.args.found.now _ (record {
      ordered = rw is (IsStrictlySortedBy-dedup order_total diag_ties _ sorted);
      listed = λ x h. rw is (Contains-dedup diag_equiv same_diags _ x (Contains-permutation _ _ x moved (rw from h)));
      no_other = λ x h. rw (← from) (Contains-permutation _ _ x (IsPermutation-sym _ _ moved) (Contains-from_dedup _ _ x (rw is at h)));
    })
