use Rattle.std.proofs.Common.{◌∙◌, ◌++◌, ◌∷◌, [], ap, refl}
use Rattle.proto_decls.specs.declared.named_facts.NamedFacts.{NamedFacts}
use Rattle.work_index.specs.Pieces.{source_of, workspace_of}
use Rattle.work_index.specs.Workspace.{all_facts, named_facts}
use Rattle.work_index.proofs.Steps.{one_further}
use Rattle.work_index.proofs.file_tables.all_facts.Goals as goal

pub loop-piece-preserved : goal.loop-piece-preserved
loop-piece-preserved c =
    let r = c.args.reads_others in
    one_further (λ ts. all_facts (workspace_of r ts)) (λ t. named_facts (source_of r t)) (λ t ts. refl) c.loop-piece.piece-index c.args.pieces.now c.piece-item.result _ _ _ c.loop-piece-test.true c.piece-item.is
    (c.in_ok-push.ensures.items ∙ ap (λ (file : NamedFacts). c.loop-piece.files.items ++ file ∷ []) c.in_ok-named_facts.ensures) c.loop-piece.invariant
