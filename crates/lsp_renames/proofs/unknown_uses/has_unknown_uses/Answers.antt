use Rattle.std.proofs.Common.{sym}
use Rattle.lsp_renames.proofs.UnknownUses.{none-unknown}
use Rattle.lsp_renames.proofs.unknown_uses.has_unknown_uses.Goals as goal

pub returns-then-not-has_others-clause-value : goal.returns-then-not-has_others-clause-value
returns-then-not-has_others-clause-value c = sym (none-unknown c.args.analysis.now c.known.ensures (sym c.if-not-has_others.ensures) c.args.file)
