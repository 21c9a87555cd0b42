use Rattle.std.proofs.Common.{◌≡◌, ◌++◌, drop, string_bytes}
use Rattle.proto_resolve.specs.Uses.{uses_in}
use Rattle.proto_resolve.proofs.resolver.Resolver.push_uses_before.Given as goal

-- what is left goes behind what there is
abbrev pub invariant-loop-component : goal.invariant-loop-component
invariant-loop-component g l =
    l.uses ++ uses_in (g.I.Index.files l.self.index.now) l.self.view.now.file l.self.view.now.files l.name.number (string_bytes l.full_name) (drop l.component-index l.name.components.now)
    ≡ l.fn.uses ++ uses_in (g.I.Index.files l.self.index.now) l.self.view.now.file l.self.view.now.files l.name.number l.name.scope.now l.name.components.now
