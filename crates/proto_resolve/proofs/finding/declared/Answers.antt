use Rattle.std.proofs.Common.{◌≡◌, ◌∙◌, sym, ap, refl, Option, Some, None, ◌<◌, length}
use Rattle.std.specs.Prelude.{IfSome}
use Rattle.proto_names.specs.declared.decl_ref.DeclRef.{DeclRef}
use Rattle.proto_names.specs.Files.{all_named}
use Rattle.proto_resolve.specs.Names.{first_declared}
use Rattle.proto_resolve.proofs.Within.{first_within}
use Rattle.proto_names.proofs.Order.{named_by_file}
use Rattle.proto_resolve.proofs.finding.declared.Goals as goal

if_some : (P : DeclRef → Type 0) (o : Option DeclRef) → ((r : DeclRef) → o ≡ Some r → P r) → IfSome o P
if_some P None holds = tt
if_some P (Some r) holds = holds r refl

pub first_declared-requires : goal.first_declared-requires
first_declared-requires g c = rw c.named.ensures (named_by_file (g.I.Index.files c.args.index.now) c.args.name.now)

pub returns-clause-within : goal.returns-clause-within
returns-clause-within g c =
    let is : c.first_declared.result ≡ first_declared c.args.view.now.file c.args.view.now.files (all_named (g.I.Index.files c.args.index.now) c.args.name.now) =
    c.first_declared.ensures ∙ ap (first_declared c.args.view.now.file c.args.view.now.files) c.named.ensures in
    if_some (λ r. r.file < length (g.I.Index.files c.args.index.now)) c.first_declared.result
    (λ r e. first_within (g.I.Index.files c.args.index.now) c.args.view.now.file c.args.view.now.files c.args.name.now r (sym is ∙ e))
