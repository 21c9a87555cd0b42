use Rattle.std.proofs.Common.{option_map, ap, ◌∙◌}
use Rattle.serde_json.specs.View.{view, members_view}
use Rattle.serde_json.specs.Find.{get_member}
use Rattle.serde_json.proofs.Views.{view-lookup}
use Rattle.lsp_rpc.proofs.ParamsLemmas.{get_member-remove_entry}
use Rattle.lsp_rpc.proofs.params.remove.Goals as goal

pub returns-clause-removed : goal.returns-clause-removed
returns-clause-removed c = ap (option_map view) c.remove.ensures.value ∙ view-lookup c.args.name.now c.args.members.now.entries

pub returns-clause-others : goal.returns-clause-others
returns-clause-others c = λ other apart. ap (λ es. get_member other (members_view es)) c.remove.ensures.entries ∙ get_member-remove_entry other c.args.name.now c.args.members.now.entries apart
