use Rattle.std.proofs.Common.{◌≡◌, ◌∙◌, ◌+◌, ◌-◌, List, [], ◌∷◌, ◌++◌, ap, map, sym, arith}
use Rattle.std.specs.List.{range_with_len}
use Rattle.std.proofs.lemmas.List.FromFn.{map-range_with_len_more}
use Rattle.proto_names.specs.declared.decl_ref.DeclRef.{DeclRef}
use Rattle.proto_names.proofs.decls.decls_between.Goals as goal

pub loop-number-preserved : goal.loop-number-preserved
loop-number-preserved c =
    let long : c.loop-number.number + 1 - c.args.start ≡ c.loop-number.number - c.args.start + 1 = omega arith in
    c.in_ok-push.ensures.items ∙ ap (λ (rs : List DeclRef). rs ++ record { file = c.args.file; number = c.loop-number.number } ∷ []) c.loop-number.invariant
    ∙ sym (map-range_with_len_more (λ n. record { file = c.args.file; number = n }) c.args.start (c.loop-number.number - c.args.start) c.loop-number.number (omega arith))
    ∙ ap (λ k. map (λ n. record { file = c.args.file; number = n }) (range_with_len c.args.start k)) (sym long)
