use Rattle.std.proofs.Common.{◌≡◌, ◌∙◌, sym, ap, ap₂, ◌∷◌, ◌++◌, ◌==◌, length, take, drop}
use Rattle.proto_decls.specs.Text.{joined}
use Rattle.proto_decls.proofs.ApartNames.{found_first, found_nowhere, found_parts, joined_some, last_joined, scope_joined}
use Rattle.proto_decls.proofs.full_name.FullName.of.Goals as goal
use Rattle.proto_decls.proofs.full_name.FullName.of.Goals.{in_default-via-in-Some+else-not-is_empty, in_default-via-in_default}

pub of_parts-requires-clause-scope : goal.of_parts-requires-clause-scope
of_parts-requires-clause-scope c =
    let split = c.in-Some.ensures.cases in
    let parts = found_parts c.args.text.now split.0 split.1 split.2 in
    rw (split.3, split.4) (scope_joined (take split.0 c.args.text.now) (drop split.1 c.args.text.now) parts.0)

pub of_parts-requires-clause-last : goal.of_parts-requires-clause-last
of_parts-requires-clause-last c =
    let split = c.in-Some.ensures.cases in
    let parts = found_parts c.args.text.now split.0 split.1 split.2 in
    rw (split.3, split.4) (last_joined (take split.0 c.args.text.now) (drop split.1 c.args.text.now) parts.0)

pub of_parts-requires-in_default-clause-scope : goal.of_parts-requires-in_default-clause-scope
of_parts-requires-in_default-clause-scope c = elim c.in_default.branch [
  | in_default-via-in-Some+else-not-is_empty w ↦
      let split = w.in-Some.ensures.cases in
      (found_first c.args.text.now split.0 split.1 split.2 (ap (λ t. length t == 0) (sym split.3) ∙ sym w.is_empty.ensures ∙ w.if-not-is_empty.false)).0
  | in_default-via-in_default w ↦ (found_nowhere c.args.text.now w.in_default.ensures.cases).0
]

pub of_parts-requires-in_default-clause-last : goal.of_parts-requires-in_default-clause-last
of_parts-requires-in_default-clause-last c = elim c.in_default.branch [
  | in_default-via-in-Some+else-not-is_empty w ↦
      let split = w.in-Some.ensures.cases in
      (found_first c.args.text.now split.0 split.1 split.2 (ap (λ t. length t == 0) (sym split.3) ∙ sym w.is_empty.ensures ∙ w.if-not-is_empty.false)).1
  | in_default-via-in_default w ↦ (found_nowhere c.args.text.now w.in_default.ensures.cases).1
]

pub returns-in-Some : goal.returns-in-Some
returns-in-Some c =
    let split = c.in-Some.ensures.cases in
    let parts = found_parts c.args.text.now split.0 split.1 split.2 in
    let whole : joined c.in-Some.scope.now c.in-Some.last.now ≡ c.args.text.now =
    joined_some c.in-Some.scope.now c.in-Some.last.now (sym c.is_empty.ensures ∙ c.if-not-is_empty.true)
    ∙ ap₂ (λ s l. s ++ 46 ∷ l) split.3 split.4 ∙ sym parts.1 in
    rw whole at c.of_parts.ensures
