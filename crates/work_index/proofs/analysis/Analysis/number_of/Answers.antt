use Rattle.std.proofs.Common.{ap, sym, ◌∙◌}
use Rattle.std.specs.Prelude.{bytes_eq, position}
use Rattle.proto_decls.specs.declared.named_facts.NamedFacts.{NamedFacts}
use Rattle.work_index.specs.Workspace.{AnalysisData}
use Rattle.work_index.proofs.ByFile.{position_mapped}
use Rattle.work_index.proofs.analysis.Analysis.number_of.Goals as goal

pub returns : goal.returns
returns c =
    let path = c.args.path.now in
    c.number_of.ensures
    ∙ sym (position_mapped (λ q. bytes_eq q path) (λ (f : NamedFacts). f.path) c.self.inside.table)
    ∙ ap (position (λ q. bytes_eq q path)) (sym c.self.invariant.3 ∙ ap (λ (a : AnalysisData). a.paths) c.self.view_is)
