use Rattle.proto_syntax.proofs.SkipLemmas.{each, all, skips-take, skips-drop, take-known, drop-known}
use Rattle.proto_syntax.proofs.skips.Matched.split_at.Goals as goal

pub invariant_of-result : goal.invariant_of-result
invariant_of-result c = record {
  matched = rw (c.split_at.ensures.front, c.split_at-2.ensures.front, take-known c.args.len _ c.args.self.skips.now c.min.ensures) (all _ _ (skips-take c.args.len c.args.self.tokens.now c.args.self.skips.now (each _ _ c.args.self.matched)));
}

pub invariant_of-result-2 : goal.invariant_of-result-2
invariant_of-result-2 c = record {
  matched = rw (c.split_at.ensures.back, c.split_at-2.ensures.back, drop-known c.args.len _ c.args.self.skips.now c.min.ensures) (all _ _ (skips-drop c.args.len c.args.self.tokens.now c.args.self.skips.now (each _ _ c.args.self.matched)));
}
