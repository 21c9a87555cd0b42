use Rattle.std.proofs.Common.{◌≡◌, vec_len}
use Rattle.lsp_queries.specs.Searching.{LeavesOut}
use Rattle.lsp_queries.proofs.searching.searched_files.Given as goal

abbrev pub invariant-loop-file : goal.invariant-loop-file
invariant-loop-file l = record { long : vec_len l.searched ≡ l.file; out : LeavesOut l.analysis l.query l.searched.items }
