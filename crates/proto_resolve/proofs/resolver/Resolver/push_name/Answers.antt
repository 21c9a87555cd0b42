use Rattle.std.proofs.Common.{rules, ◌≡◌, ◌++◌}
use Rattle.proto_resolve.specs.ViewDiagnostics.{name_diagnostics}
use Rattle.proto_resolve.specs.Names.{meaning}
use Rattle.proto_resolve.proofs.resolver.Resolver.push_name.Goals as goal

pub returns-in-Some-Some-clause-diagnostics : goal.returns-in-Some-Some-clause-diagnostics
returns-in-Some-Some-clause-diagnostics g c =
    let means : c.in_ok-target.target ≡ meaning (g.I.Index.files c.args.self.now.index.now) c.args.self.now.view.now.file c.args.self.now.view.now.files c.args.site.now = rw (← c.in_ok-settled.ensures.scope) c.in_ok-target.ensures.value in
    let here : c.push_name_diagnostic.new.found ≡ c.args.names.now.diagnostics ++ name_diagnostics (g.I.Index.files c.args.self.now.index.now) c.args.self.now.view.now.file c.args.self.now.view.now.files c.args.site.now =
    rw (← means) (c.in_ok-push_name_diagnostic.ensures c.args.self.now.view.now.file c.args.self.now.view.now.files) in
    search (rules, here)

pub returns-in_default-clause-diagnostics : goal.returns-in_default-clause-diagnostics
returns-in_default-clause-diagnostics g c =
    let means : c.in_ok-target.target ≡ meaning (g.I.Index.files c.args.self.now.index.now) c.args.self.now.view.now.file c.args.self.now.view.now.files c.args.site.now = rw (← c.in_ok-settled.ensures.scope) c.in_ok-target.ensures.value in
    rw (← means) (c.in_ok-push_name_diagnostic.ensures c.args.self.now.view.now.file c.args.self.now.view.now.files)
