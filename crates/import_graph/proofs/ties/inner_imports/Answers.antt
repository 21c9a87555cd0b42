use Rattle.std.proofs.Common.{◌≡◌, ◌==◌, ◌∷◌, ◌++◌, [], List, ℕ, length, get_or, filter, ap, ◌∙◌, refl, arith}
use Rattle.std.proofs.lemmas.List.{get_or_default}
use Rattle.import_graph.proofs.Mutual.{IsInner-push}
use Rattle.import_graph.proofs.ties.inner_imports.Goals as goal

pub loop-file-preserved : goal.loop-file-preserved
loop-file-preserved c =
    let at : length c.loop-file.rows.items ≡ c.loop-file.file = omega (arith, c.loop-file.invariant.length_is, c.loop-file.rows.ok) in
    let row : c.as_slice.result.now ≡ get_or c.args.imports.now (length c.loop-file.rows.items) [] =
    rw at (c.as_slice.ensures ∙ (c.index-imports-file.is ∙ get_or_default c.args.imports.now c.loop-file.file _ [] c.loop-file-test.true)) in
    let filtered : c.in_ok-with_number.field-0 ≡ filter (λ g. get_or c.args.numbers.now g 0 == get_or c.args.numbers.now c.loop-file.file 0) (get_or c.args.imports.now (length c.loop-file.rows.items) []) =
    rw row at c.in_ok-with_number.ensures in
    let number = get_or c.args.numbers.now c.loop-file.file 0 in
    let pushed : c.push.new.self.items ≡ c.loop-file.rows.items ++ filter (λ g. get_or c.args.numbers.now g 0 == get_or c.args.numbers.now c.loop-file.file 0) (get_or c.args.imports.now (length c.loop-file.rows.items) []) ∷ [] =
    c.in_ok-push.ensures.items ∙ ap (λ (r : List ℕ). c.loop-file.rows.items ++ r ∷ []) filtered in
    record {
      length_is = omega (arith, c.loop-file.invariant.length_is, c.in_ok-push.ensures.len);
      inner = rw pushed (IsInner-push c.args.imports.now c.args.numbers.now c.loop-file.rows.items number c.loop-file.invariant.inner (rw at refl));
    }
