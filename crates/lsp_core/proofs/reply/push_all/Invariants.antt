use Rattle.std.proofs.Common.{◌≡◌, ◌++◌, map}
use Rattle.std.specs.Vec.Iter.{into_iter_items}
use Rattle.lsp_core.proofs.reply.push_all.Given as goal

-- with those that are left they are all
abbrev pub invariant-loop-body : goal.invariant-loop-body
invariant-loop-body l = l.replies.items ++ map (λ body. body.items) (into_iter_items l.body-iterator) ≡ l.initial.replies.items ++ map (λ body. body.items) l.fn.bodies.items
