use Rattle.std.proofs.Common.{ℕ, List, [], ◌∷◌, ◌++◌, not, ap, sym, ◌∙◌}
use Rattle.import_graph.specs.Closures.{is_complete}
use Rattle.import_graph.proofs.Flagged.{passes_too, does_not_pass}
use Rattle.import_graph.proofs.graph.Graph.incomplete.Goals.{then-not-is_complete+in_ok-push, else-not-is_complete}
use Rattle.import_graph.proofs.graph.Graph.incomplete.Goals as goal

pub loop-file-preserved : goal.loop-file-preserved
loop-file-preserved c =
    let is = c.is_complete.ensures in
    elim c.if-not-is_complete.branch [
      | then-not-is_complete+in_ok-push w ↦ rw w.found-is
          (w.in_ok-push.ensures.items ∙ (ap (λ (xs : List ℕ). xs ++ c.loop-file.file ∷ []) c.loop-file.invariant
          ∙ sym (passes_too (λ g. not (is_complete c.args.self.now g)) c.loop-file.file (ap not (sym is ∙ w.if-not-is_complete.true)))))
      | else-not-is_complete w ↦ rw w.found-is
          (c.loop-file.invariant ∙ sym (does_not_pass (λ g. not (is_complete c.args.self.now g)) c.loop-file.file (ap not (sym is ∙ w.if-not-is_complete.false))))
    ]
