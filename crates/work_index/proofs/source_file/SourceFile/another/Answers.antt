use Rattle.std.proofs.Common.{◌∙◌, ap, sym}
use Rattle.work_index.specs.Workspace.{source_facts}
use Rattle.work_index.proofs.source_file.SourceFile.another.Goals as goal

pub invariant_of-result : goal.invariant_of-result
invariant_of-result c =
    let own = c.self.invariant in
    let known = c.in_ok-known.ensures in record {
      facts_are = known.facts ∙ own.facts_are ∙ ap (λ text. source_facts (record { text = text; reads_others = c.self.inside.reads_others })) (sym c.in_ok-text.ensures);
      has = rw (known.asked, c.in_ok-text.ensures) own.has;
    }
