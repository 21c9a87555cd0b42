use Rattle.std.proofs.Common.{ℕ, List, [], ◌∷◌, ◌++◌, false, get_or, sym, ap, ◌∙◌}
use Rattle.import_graph.proofs.Flagged.{passes_too, does_not_pass}
use Rattle.import_graph.proofs.file_search.flagged.Goals.{then-is_flagged+in_ok-push, else-is_flagged}
use Rattle.import_graph.proofs.file_search.flagged.Goals as goal

pub loop-file-preserved : goal.loop-file-preserved
loop-file-preserved c = elim c.if-is_flagged.branch [
  | then-is_flagged+in_ok-push w ↦ rw w.files-is
      (w.in_ok-push.ensures.items ∙ (ap (λ (xs : List ℕ). xs ++ c.loop-file.file ∷ []) c.loop-file.invariant ∙ sym (passes_too (λ g. get_or c.args.flags.now g false) c.loop-file.file w.if-is_flagged.true)))
  | else-is_flagged w ↦ rw w.files-is (c.loop-file.invariant ∙ sym (does_not_pass (λ g. get_or c.args.flags.now g false) c.loop-file.file w.if-is_flagged.false))
]
