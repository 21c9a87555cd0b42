use Rattle.std.proofs.Common.{◌≡◌, ◌∙◌, ℕ, List, sym, subst}
use Rattle.work_index.specs.declared.file_work.KnownText.{KnownText}
use Rattle.work_index.specs.Products.{IsKnownOf}
use Rattle.work_index.proofs.source_file.SourceFile.with_text.Goals as goal

pub invariant_of-result : goal.invariant_of-result
invariant_of-result c =
    let r = c.self.inside.reads_others in
    let same : c.as_str.result.now ≡ c.in_ok-text.text = c.as_str.ensures.value ∙ sym c.in_ok-text.ensures in
    let read = subst (λ (k : KnownText). IsKnownOf (record { text = c.as_str.result.now; reads_others = r }) k) (sym c.known.ensures) (c.in_ok-out.ensures.known r) in
    let own = subst (λ (text : List ℕ). IsKnownOf (record { text = text; reads_others = r }) c.known.result.now) same read in
    let known = c.in_ok-known.ensures in record {
      facts_are = known.facts ∙ own.facts_are;
      has = rw known.asked own.has;
    }
