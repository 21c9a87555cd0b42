use Rattle.std.proofs.Common.{◌≡◌, ◌∙◌, ℕ, List, refl}
use Rattle.std.proofs.lemmas.Result.{IfOk-weaker}
use Rattle.proto_decls.specs.declared.named_facts.NamedFacts.{NamedFacts}
use Rattle.proto_resolve.specs.declared.resolve.Links.{Links}
use Rattle.proto_resolve.specs.Resolved.{resolved}
use Rattle.proto_tree.specs.declared.node.FileTree.{FileTree}
use Rattle.work_index.specs.Pieces.{source_of}
use Rattle.work_index.specs.Workspace.{resolution_of}
use Rattle.work_index.proofs.analyse.resolution_of.Goals as goal

same : (files all : List NamedFacts) (file : ℕ) (text its : List ℕ) (tree of_it : FileTree) → files ≡ all → text ≡ its → tree ≡ of_it → resolved files file text tree ≡ resolved all file its of_it
same files all file text its tree of_it a b d = rw (a, b, d) refl

pub returns : goal.returns
returns c = λ w reads_others is.
    let found : c.in_ok-found.found ≡ resolution_of w (c.args.file, source_of reads_others c.args.piece.now) =
    c.in_ok-found.ensures ∙ same _ _ c.args.file _ _ _ _ is c.text.ensures c.tree_in.ensures in
    IfOk-weaker c.of.result (λ (links : Links). links ≡ c.in_ok-found.found) (λ (links : Links). links ≡ resolution_of w (c.args.file, source_of reads_others c.args.piece.now)) (λ links shared. shared ∙ found) c.of.ensures
