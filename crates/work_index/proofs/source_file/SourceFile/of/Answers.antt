use Rattle.std.proofs.Common.{◌∙◌, ap, sym}
use Rattle.proto_decls.specs.Facts.{facts_by}
use Rattle.work_index.proofs.source_file.SourceFile.of.Goals as goal

pub invariant_of-result : goal.invariant_of-result
invariant_of-result c =
    let known = c.in_ok-known.ensures in
    let own = c.known_in.ensures in record {
      facts_are = known.facts ∙ own.facts ∙ ap (facts_by c.args.reads_others) (sym c.in_ok-text.ensures);
      has = rw (known.asked, c.in_ok-text.ensures) own.asked;
    }
