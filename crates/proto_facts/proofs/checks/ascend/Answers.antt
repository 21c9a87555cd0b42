use Rattle.std.proofs.Common.{◌≤◌, [], false, None, refl, sym, ap, ◌||◌, take, get_or, arith}
use Rattle.proto_decls.specs.Checks.{number_used, is_value, diag_if, used_twice}
use Rattle.proto_facts.specs.Seen.{Rises}
use Rattle.proto_facts.proofs.Places.{no_member, any-next, diags-next, judged-end}
use Rattle.proto_facts.proofs.checks.ascend.Goals as goal

pub members-init : goal.members-init
members-init c = record { below = λ q ge. refl; none = λ n. refl }

pub members-preserved : goal.members-preserved
members-preserved c =
    let l = c.members in
    let xs = c.args.members.now in
    let i = l.member-index in
    let x = get_or xs i no_member in
    let up : Rises l.least x.value c.in-Some.next = c.in-Some.ensures in
    record {
      below = λ q ge.
          let from : l.least ≤ q = omega (arith, up.no_less, ge) in
          sym (any-next (λ e. is_value q e.value) xs i no_member _ _ c.members-test.true (sym (ap (λ b. b || false) (up.is_below q ge))) (sym (l.invariant.below q from)));
      none = λ n. diags-next (number_used n) xs i no_member [] _ [] None c.members-test.true (l.invariant.none n) refl
          (sym (ap (λ b. diag_if b (used_twice n) x.number) (up.is_new (take i xs) l.invariant.below)));
    }

pub returns : goal.returns
returns c = λ _ n. sym (judged-end (number_used n) c.args.members.now c.members.member-index [] _ c.members-test.false (c.members.invariant.none n))
