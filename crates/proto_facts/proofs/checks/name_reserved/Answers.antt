use Rattle.std.proofs.Common.{ap, ◌∙◌}
use Rattle.proto_decls.specs.Checks.{diag_if}
use Rattle.std.specs.List.{list_any}
use Rattle.std.specs.Str.{bytes_eq}
use Rattle.proto_decls.specs.declared.problem.Problem.TheVariants as m
use Rattle.proto_facts.proofs.checks.name_reserved.Goals as goal

pub returns : goal.returns
returns c = λ names met. c.diag_if.ensures ∙ ap (λ b. diag_if b m.NameReserved c.args.member.name) (c.contains.ensures ∙ met c.text_at.result.now ∙ ap (λ t. list_any (λ r. bytes_eq r.text t) names) c.text_at.ensures)
