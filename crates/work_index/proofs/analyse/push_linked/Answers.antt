use Rattle.std.proofs.Common.{◌≡◌, ◌∙◌, ◌++◌, ◌∷◌, [], ap}
use Rattle.std.proofs.lemmas.Result.{on_ok_weaker}
use Rattle.proto_decls.specs.Facts.{facts_of}
use Rattle.proto_resolve.specs.declared.resolve.Links.{Links}
use Rattle.work_index.specs.Pieces.{source_of}
use Rattle.work_index.specs.Workspace.{merged, resolution_of}
use Rattle.work_index.proofs.analyse.push_linked.Goals as goal

pub returns-clause-links : goal.returns-clause-links
returns-clause-links c = λ w reads_others is.
    let before = c.args.resolutions.now.links.items in
    let after = c.push_found.new.resolutions.links.items in
    let here = resolution_of w (c.args.file, source_of reads_others c.args.piece.now) in
    let weaker : (after ≡ before ++ c.in_ok-found.found ∷ []) → (after ≡ before ++ here ∷ []) = λ pushed. pushed ∙ ap (λ (links : Links). before ++ links ∷ []) (c.in_ok-found.ensures w reads_others is) in
    on_ok_weaker c.push_found.result weaker c.push_found.ensures.links

pub returns-clause-diagnostics : goal.returns-clause-diagnostics
returns-clause-diagnostics c = λ w reads_others is.
    let before = c.args.resolutions.now.diagnostics.items in
    let after = c.push_found.new.resolutions.diagnostics.items in
    let own = facts_of c.args.piece.now.text in
    let here = resolution_of w (c.args.file, source_of reads_others c.args.piece.now) in
    let weaker : (after ≡ before ++ merged own c.in_ok-found.found ∷ []) → (after ≡ before ++ merged own here ∷ []) =
    λ pushed. pushed ∙ ap (λ (links : Links). before ++ merged own links ∷ []) (c.in_ok-found.ensures w reads_others is) in
    on_ok_weaker c.push_found.result weaker c.push_found.ensures.diagnostics
