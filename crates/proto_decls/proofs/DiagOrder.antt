-- The order of diagnostics is total, and a list in that order is the only one.
use Rattle.std.proofs.Common.{◌≡◌, ◌∙◌, ◌==◌, ◌&&◌, Bool, true, false, true≢false, ap, refl, sym, subst, List, [], ◌∷◌, rules, arith}
use Rattle.std.specs.Cmp.{IsTotalOrder}
use Rattle.std.specs.Prelude.{IsTrue}
use Rattle.std.specs.List.{IsAllAdjacentAnswer}
use Rattle.std.specs.List.Sorted.{IsStrictlySortedBy}
use Rattle.std.specs.declared.cmp.Ordering.{Ordering}
use Rattle.std.specs.declared.cmp.Ordering.TheVariants.{Less, Equal, Greater}
use Rattle.std.specs.Ordering.{eq_by_cmp, is_eq, is_lt, nat_cmp, ordering_then}
use Rattle.std.proofs.lemmas.Grind.{common_steps}
use Rattle.std.proofs.lemmas.Bool.Decides.{nat_tests}
use Rattle.std.proofs.lemmas.Map.Keys.{sorted_from_all_adjacent}
use Rattle.proto_decls.specs.Problems.{variant_order}
use Rattle.proto_decls.specs.Order.{order, in_order, IsListOf}
use Rattle.proto_decls.specs.declared.diagnostic.Diag.{Diag}
use Rattle.proto_decls.specs.contracts.diagnostic.DiagOrd.TheImpl.Laws.{total-law, matches_eq-law}
use Rattle.proto_decls.specs.contracts.problem.Problem.{the_type}
use denote.Enum.Bare.{sameb, same_true}
use Rattle.proto_decls.proofs.ProblemOrder.{problem_order-is}
use Rattle.proto_decls.proofs.Ordered.{Among-from, Contains-from, one_list, sorted-each_once, among-each_once, among-from_each_once}

-- the order that the code sorts by
abbrev pub derived_order : Diag → Diag → Ordering
derived_order a b = ordering_then (nat_cmp a.start b.start) (ordering_then (nat_cmp a.end b.end) (variant_order a.message b.message))

pub order-is : derived_order ≡ order
order-is = λ i a b. ordering_then (nat_cmp a.start b.start) (ordering_then (nat_cmp a.end b.end) (problem_order-is a.message b.message i))

derived_total : IsTotalOrder derived_order
derived_total = total-law

pub order_total : IsTotalOrder order
order_total = subst IsTotalOrder order-is derived_total

abbrev pub same_diag : Diag → Diag → Bool
same_diag a b = (a.start == b.start) && ((a.end == b.end) && sameb the_type a.message b.message)

pub derived_ties : (x y : Diag) → same_diag x y ≡ eq_by_cmp derived_order x y
derived_ties = matches_eq-law

pub diag_ties : (x y : Diag) → same_diag x y ≡ eq_by_cmp order x y
diag_ties = subst (λ (R : Diag → Diag → Ordering). (x y : Diag) → same_diag x y ≡ eq_by_cmp R x y) order-is derived_ties

pub same_diags : (x y : Diag) → same_diag x y ≡ true → x ≡ y
same_diags x y e =
    let m : sameb the_type x.message y.message ≡ true → x.message ≡ y.message = same_true the_type (search rules) x.message y.message in
    grind (arith, nat_tests, common_steps, m)

pub tied : (x y : Diag) → order x y ≡ Equal → x ≡ y
tied x y e = same_diags x y (diag_ties x y ∙ ap is_eq e)

pub in_order-is_list : (all : List Diag) → IsListOf all (in_order all)
in_order-is_list all = record {
  ordered = sorted-each_once order_total tied all;
  listed = λ d h. Contains-from (in_order all) d (among-each_once order_total tied all d (Among-from all d h));
  no_other = λ d h. Contains-from all d (among-from_each_once order_total tied all d (Among-from (in_order all) d h));
}

pub only_list : (all diags : List Diag) → IsListOf all diags → diags ≡ in_order all
only_list all diags is =
    let own = in_order-is_list all in
    one_list order_total tied diags (in_order all) is.ordered own.ordered
    (λ z h. Among-from (in_order all) z (own.listed z (is.no_other z (Contains-from diags z h))))
    (λ z h. Among-from diags z (is.listed z (own.no_other z (Contains-from (in_order all) z h))))

less : (r : Ordering) → is_lt r ≡ true → r ≡ Less
less Less e = refl
less Equal e = absurd (true≢false (sym e))
less Greater e = absurd (true≢false (sym e))

-- a list in which each diagnostic comes before the next one
pub ascending : (ds : List Diag) (r : Bool) → IsAllAdjacentAnswer (λ x y b. b ≡ is_lt (derived_order x y)) ds r → IsTrue r → IsStrictlySortedBy order ds
unfolding IsStrictlySortedBy
ascending [] r ascends rises = tt
ascending (d ∷ ds) false ascends rises = absurd (true≢false (sym rises))
ascending (d ∷ ds) true ascends rises =
    subst (λ R. IsStrictlySortedBy R (d ∷ ds)) order-is
    (sorted_from_all_adjacent derived_total (d ∷ ds) d (λ k lt. less _ (sym (ascends k d lt))))

-- which is the list in order already
pub risen : (ds : List Diag) → IsStrictlySortedBy order ds → ds ≡ in_order ds
risen ds up = only_list ds ds (record { ordered = up; listed = λ d h. h; no_other = λ d h. h })
