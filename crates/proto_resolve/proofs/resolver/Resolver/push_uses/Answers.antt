use Rattle.std.proofs.Common.{◌<◌, rules, length}
use Rattle.proto_resolve.proofs.LastUse.{used}
use Rattle.proto_resolve.proofs.resolver.Resolver.push_uses.Goals as goal

pub returns : goal.returns
returns g c =
    let some : 0 < length c.args.name.components.now = search rules in
    let whole = used (g.I.Index.files c.args.self.now.index.now) c.args.self.now.view.now.file c.args.self.now.view.now.files c.args.name.number c.args.name.scope.now c.args.name.components.now c.index-components-last.result c.args.target c.args.uses.now c.push_uses_before.new.uses
    some c.requires c.in_ok-push_uses_before.ensures in
    rw (← whole) c.push.ensures.ok
