use Rattle.std.proofs.Common.{sym, arith}
use Rattle.std.proofs.lemmas.Option.{slice_get_past}
use Rattle.work_index.proofs.Known.{links-long}
use Rattle.lsp_queries.proofs.files.links_in.Goals as goal

pub returns-else-file-file_count : goal.returns-else-file-file_count
returns-else-file-file_count c =
    let a = c.args.analysis.now in
    sym (slice_get_past a.links c.args.file (omega (arith, c.if-file-file_count.false, c.file_count.ensures, links-long a c.known.ensures)))
