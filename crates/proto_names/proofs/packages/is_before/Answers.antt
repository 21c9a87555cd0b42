use Rattle.std.proofs.Common.{◌≡◌, ◌∙◌, sym, ap, [], ◌∷◌, ◌++◌, take, drop, length, arith}
use Rattle.std.specs.Cmp.Lexicographic.{slice_cmp}
use Rattle.std.specs.Ordering.{nat_cmp, is_lt, ordering_then}
use Rattle.std.specs.declared.cmp.Ordering.TheVariants.{Equal}
use Rattle.proto_decls.proofs.ApartNames.{decided}
use Rattle.proto_names.proofs.Apart.{dotted, dotted_alone}
use Rattle.proto_names.proofs.Prefixes.{cmp_short, cmp_long}
use Rattle.proto_names.proofs.packages.is_before.Goals as goal

pub returns-then-is_empty : goal.returns-then-is_empty
returns-then-is_empty c = rw (dotted_alone c.args.name.scope.now c.args.name.last.now (sym c.is_empty.ensures ∙ c.if-is_empty.true)) c.is_before_dotted.ensures

pub returns-then-text-scope : goal.returns-then-text-scope
returns-then-text-scope c =
    let s = c.args.name.scope.now in
    let l = c.args.name.last.now in
    rw (dotted s l (sym c.is_empty.ensures ∙ c.if-is_empty.false))
    (c.is_lt.ensures ∙ ap is_lt (c.cmp.ensures ∙ sym (cmp_short c.args.text.now s (46 ∷ (l ++ 46 ∷ [])) (omega (arith, c.if-text-scope.true)))))

pub returns-in-Equal : goal.returns-in-Equal
returns-in-Equal c =
    let s = c.args.name.scope.now in
    let l = c.args.name.last.now in
    let tied : Equal ≡ slice_cmp nat_cmp (take (length s) c.args.text.now) s = rw c.split_at.ensures.front at c.in-Equal.ensures in
    let whole = cmp_long c.args.text.now s (46 ∷ (l ++ 46 ∷ [])) (omega (arith, c.if-text-scope.false)) in
    rw (dotted s l (sym c.is_empty.ensures ∙ c.if-is_empty.false))
    (c.is_before_inner.ensures
    ∙ ap is_lt (ap (λ p. slice_cmp nat_cmp p (46 ∷ (l ++ 46 ∷ []))) c.split_at.ensures.back ∙ sym (whole ∙ ap (λ o. ordering_then o (slice_cmp nat_cmp (drop (length s) c.args.text.now) (46 ∷ (l ++ 46 ∷ [])))) (sym tied))))

pub returns-in_default : goal.returns-in_default
returns-in_default c =
    let s = c.args.name.scope.now in
    let l = c.args.name.last.now in
    let apart : c.cmp-2.result ≡ slice_cmp nat_cmp (take (length s) c.args.text.now) s = rw c.split_at.ensures.front at c.cmp-2.ensures in
    let rest = slice_cmp nat_cmp (drop (length s) c.args.text.now) (46 ∷ (l ++ 46 ∷ [])) in
    let whole = cmp_long c.args.text.now s (46 ∷ (l ++ 46 ∷ [])) (omega (arith, c.if-text-scope.false)) in
    rw (dotted s l (sym c.is_empty.ensures ∙ c.if-is_empty.false))
    (c.is_lt-in_default.ensures ∙ ap is_lt (sym (whole ∙ ap (λ o. ordering_then o rest) (sym apart) ∙ decided c.cmp-2.result rest c.in_default.not-Equal)))
