use Rattle.std.proofs.Common.{◌≡◌, true, subst}
use Rattle.work_links.specs.Asked.{has_all}
use Rattle.work_index.specs.Workspace.{SourceAt, asked_of}
use Rattle.work_index.proofs.source_file.SourceFile.asked.Goals as goal

pub returns : goal.returns
returns c = subst (λ (file : SourceAt). has_all c.deref.result.now (asked_of file.1) ≡ true) c.self.view_is (rw c.deref.ensures c.self.invariant.has)
