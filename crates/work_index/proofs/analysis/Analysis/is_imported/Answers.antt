use Rattle.std.proofs.Common.{◌≡◌, List, map, ap, sym, subst, ◌∙◌}
use Rattle.std.specs.Prelude.{bytes_eq, position}
use Rattle.proto_decls.specs.declared.fact.FileFacts.{FileFacts}
use Rattle.proto_decls.specs.declared.named_facts.NamedFacts.{NamedFacts}
use Rattle.work_index.specs.Workspace.{AnalysisData, NoneImports}
use Rattle.work_index.proofs.ByFile.{nobody_imports, none_imports, position_mapped}
use Rattle.work_index.proofs.analysis.Analysis.is_imported.Goals as goal

pub is_imported-requires : goal.is_imported-requires
is_imported-requires c =
    let path = c.args.path.now in
    sym (position_mapped (λ q. bytes_eq q path) (λ (f : NamedFacts). f.path) c.self.inside.table)
    ∙ ap (position (λ q. bytes_eq q path)) (sym c.self.invariant.3 ∙ ap (λ (a : AnalysisData). a.paths) c.self.view_is)
    ∙ c.requires

pub returns : goal.returns
returns c =
    let path = c.args.path.now in
    let table = c.self.inside.table in
    let facts : map (λ f. f.facts) table ≡ c.args.self.now.facts = ap (λ (a : AnalysisData). a.facts) c.self.view_is in (
      (λ no. subst (λ (fs : List FileFacts). NoneImports fs path) facts (none_imports table path (c.is_imported.ensures.0 no))),
      (λ none. c.is_imported.ensures.1 (nobody_imports table path (subst (λ (fs : List FileFacts). NoneImports fs path) (sym facts) none))),
    )
