use Rattle.proto_decls.proofs.ApartNames.{pairs_joined}
use Rattle.proto_decls.proofs.byte_pairs.BytePairs.add_name.Goals as goal

pub returns-then-not-is_empty-clause-added : goal.returns-then-not-is_empty-clause-added
returns-then-not-is_empty-clause-added c =
    let s = c.args.name.scope.now in
    let l = c.args.name.last.now in
    pairs_joined c.add_dot.new.self s l (c.add_dot.ensures.kept s (c.add_text.ensures.kept s c.add_scope.ensures.added)) (c.add_dot.ensures.kept l c.add_text.ensures.added)
    (λ some. c.add_dot.ensures.end) (λ some some'. c.add_dot.ensures.start some')
