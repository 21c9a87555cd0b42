use Rattle.lsp_frame.proofs.Grammar.{header_lines-header_of, headers_are_found, only_headers_are_found}
use Rattle.lsp_frame.proofs.laws.header_is_lines.Goals as goal

pub returns-clause-lines : goal.returns-clause-lines
returns-clause-lines c = header_lines-header_of

pub returns-clause-found : goal.returns-clause-found
returns-clause-found c = headers_are_found

pub returns-clause-only : goal.returns-clause-only
returns-clause-only c = only_headers_are_found
