use Rattle.std.proofs.Common.{◌≡◌, ◌<◌, List, Bool, length, map, get_or, true, ap, ◌∙◌}
use Rattle.std.proofs.lemmas.List.{get_or_default, length-map}
use Rattle.import_graph.specs.declared.imports.FileImports.{FileImports}
use Rattle.import_graph.specs.Imports.{is_complete_in}
use Rattle.import_graph.proofs.ImportEdges.{complete_at}
use Rattle.import_graph.proofs.graph.Graph.is_complete.Goals as goal

pub returns : goal.returns
returns c =
    let flags : c.self.inside.complete.items ≡ map (is_complete_in c.args.self.now) c.args.self.now = c.self.invariant.complete ∙ ap (λ (g : List FileImports). map (is_complete_in g) g) c.self.view_is in
    let there : c.args.file < length c.self.inside.complete.items = rw (flags, length-map) c.requires in
    c.index.ensures ∙ (get_or_default c.self.inside.complete.items c.args.file _ true there ∙ (ap (λ (x : List Bool). get_or x c.args.file true) flags ∙ complete_at c.args.self.now c.args.self.now c.args.file true c.requires))
