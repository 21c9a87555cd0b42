use Rattle.std.proofs.Common.{◌∙◌, sym, ap, get_or, bytes_eq, arith, rules}
use Rattle.std.specs.Cmp.Lexicographic.{slice_cmp}
use Rattle.std.specs.Ordering.{nat_cmp, is_eq}
use Rattle.std.proofs.lemmas.Cmp.{nat_list_cmp_total}
use Rattle.std.proofs.lemmas.Fn.{always_returns_same}
use Rattle.std.proofs.lemmas.List.Folds.{list_any_at}
use Rattle.std.proofs.lemmas.List.Sorted.{searchable_from_sorted}
use Rattle.std.proofs.lemmas.Map.Text.{is_eq-slice_cmp}
use Rattle.proto_names.specs.declared.decl_ref.DeclRef.{DeclRef}
use Rattle.proto_names.specs.Files.{name_at}
use Rattle.proto_decls.specs.FullNames.{scope_of}
use Rattle.proto_names.proofs.Fronts.{no_front, not_there}
use Rattle.proto_names.proofs.holders.bound_of.Goals as goal

pub returns-in-Ok-clause-there : goal.returns-in-Ok-clause-there
returns-in-Ok-clause-there c = λ none.
    let found = c.in-Ok.ensures.position (λ r. slice_cmp nat_cmp (scope_of (name_at c.args.files.now r)) c.args.scope.now) (always_returns_same _ _ _ (λ a r f k. search rules)) in
    let nothing : DeclRef = record { file = 0; number = 0 } in
    list_any_at (λ r. bytes_eq (scope_of (name_at c.args.files.now r)) c.args.scope.now) c.args.decls.now c.in-Ok.field-0 nothing c.in-Ok.ensures.bound
    (sym (is_eq-slice_cmp (scope_of (name_at c.args.files.now (get_or c.args.decls.now c.in-Ok.field-0 nothing))) c.args.scope.now) ∙ ap is_eq (found nothing))

pub returns-then-place-eq0-clause-bound : goal.returns-then-place-eq0-clause-bound
returns-then-place-eq0-clause-bound c =
    let nothing : DeclRef = record { file = 0; number = 0 } in
    let parted = c.in-Err.ensures.position (λ r. slice_cmp nat_cmp (scope_of (name_at c.args.files.now r)) c.args.scope.now) (always_returns_same _ _ _ (λ a r f k. search rules)) in
    let parts = parted (searchable_from_sorted nat_list_cmp_total (λ r. scope_of (name_at c.args.files.now r)) c.args.decls.now c.args.scope.now c.requires) in (
      not_there (λ r. scope_of (name_at c.args.files.now r)) c.args.decls.now c.args.scope.now c.requires c.in-Err.place parts nothing,
      λ l from le. no_front (λ r. scope_of (name_at c.args.files.now r)) c.args.decls.now c.args.scope.now c.requires c.in-Err.place parts nothing l
          (λ some. absurd (omega (arith, some, c.if-place-eq0.true))) c.in-Err.ensures.bound,
    )

pub returns-else-place-eq0-clause-bound : goal.returns-else-place-eq0-clause-bound
returns-else-place-eq0-clause-bound c =
    let nothing : DeclRef = record { file = 0; number = 0 } in
    let parted = c.in-Err.ensures.position (λ r. slice_cmp nat_cmp (scope_of (name_at c.args.files.now r)) c.args.scope.now) (always_returns_same _ _ _ (λ a r f k. search rules)) in
    let parts = parted (searchable_from_sorted nat_list_cmp_total (λ r. scope_of (name_at c.args.files.now r)) c.args.decls.now c.args.scope.now c.requires) in (
      not_there (λ r. scope_of (name_at c.args.files.now r)) c.args.decls.now c.args.scope.now c.requires c.in-Err.place parts nothing,
      λ l from le. no_front (λ r. scope_of (name_at c.args.files.now r)) c.args.decls.now c.args.scope.now c.requires c.in-Err.place parts nothing l
          (λ some. rw c.scope_at-before.ensures at (c.common_len.ensures.common l (omega (arith, from)) le)) c.in-Err.ensures.bound,
    )
