use Rattle.lsp_renames.proofs.RenamedLemmas.{refused-for_meaning, renames-keep_meaning}
use Rattle.lsp_renames.proofs.laws.meaning_law.Goals as goal

pub returns-clause-keeps : goal.returns-clause-keeps
returns-clause-keeps c = renames-keep_meaning

pub returns-clause-refused : goal.returns-clause-refused
returns-clause-refused c = refused-for_meaning
