use Rattle.std.proofs.Common.{◌≡◌, ◌≤◌, ◌-◌, drop, find, length}
use Rattle.proto_resolve.specs.Names.{settles_at}
use Rattle.proto_resolve.proofs.resolver.Resolver.scope_of.Given as goal

-- the scope lies ahead
abbrev pub invariant-loop-number : goal.invariant-loop-number
invariant-loop-number g l =
    (l.number ≤ length l.site.scopes)
    × (find (settles_at (g.I.Index.files l.self.index.now) l.self.view.now.file l.self.view.now.files l.site) l.site.scopes
    ≡ find (settles_at (g.I.Index.files l.self.index.now) l.self.view.now.file l.self.view.now.files l.site) (drop l.number l.site.scopes))

abbrev pub decreases-loop-number : goal.decreases-loop-number
decreases-loop-number g l = length l.site.scopes - l.number
