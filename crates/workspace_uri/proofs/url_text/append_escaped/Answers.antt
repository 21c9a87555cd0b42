use Rattle.std.proofs.Common.{rules, ◌<◌, arith}
use Rattle.std.proofs.lemmas.List.Elements.{All-from_get_or}
use Rattle.workspace_uri.proofs.StandardFacts.{encoded}
use Rattle.workspace_uri.proofs.url_text.append_escaped.Goals as goal

pub returns : goal.returns
returns c =
    let small = All-from_get_or (λ b. b < 256) c.args.path.now 0 (λ i within. omega (arith, c.type_inv.path i)) in
    let same = encoded c.args.path.now small in
    search (rules, same)
