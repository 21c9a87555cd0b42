use Rattle.std.proofs.Common.{◌<◌, ◌≤◌, ◌+◌, ◌∙◌, ℕ, List, Bool, drop, length, sym, ap, arith}
use Rattle.std.specs.Prelude.{◌||◌}
use Rattle.std.specs.List.{enumerate_from, list_any}
use Rattle.lsp_queries.proofs.NextFile.{next_file, no_more}
use Rattle.lsp_renames.specs.UnknownUses.{is_of_other}
use Rattle.lsp_renames.proofs.unknown_uses.has_others.Goals as goal

pub loop-file-preserved : goal.loop-file-preserved
loop-file-preserved c =
    let a = c.args.analysis.now in
    let n = c.loop-file.file in
    let is_so : ℕ × List ℕ → Bool = λ e. is_of_other a e.0 in
    let there : n < length a.paths = omega (arith, c.loop-file-test.true, c.file_count-file-end.ensures) in
    let rest = list_any is_so (enumerate_from (n + 1) (drop (n + 1) a.paths)) in
    sym (ap (λ (b : Bool). b || rest) (sym c.is_of_other.ensures ∙ c.if-is_of_other.false)) ∙ ap (list_any is_so) (sym (next_file a.paths n there)) ∙ c.loop-file.invariant

pub returns-then-is_of_other : goal.returns-then-is_of_other
returns-then-is_of_other c =
    let a = c.args.analysis.now in
    let n = c.loop-file.file in
    let is_so : ℕ × List ℕ → Bool = λ e. is_of_other a e.0 in
    let there : n < length a.paths = omega (arith, c.loop-file-test.true, c.file_count-file-end.ensures) in
    let rest = list_any is_so (enumerate_from (n + 1) (drop (n + 1) a.paths)) in
    sym (ap (λ (b : Bool). b || rest) (sym c.is_of_other.ensures ∙ c.if-is_of_other.true)) ∙ ap (list_any is_so) (sym (next_file a.paths n there)) ∙ c.loop-file.invariant

pub returns : goal.returns
returns c =
    let a = c.args.analysis.now in
    let n = c.loop-file.file in
    let is_so : ℕ × List ℕ → Bool = λ e. is_of_other a e.0 in
    let past : length a.paths ≤ n = omega (arith, c.loop-file-test.false, c.file_count-file-end.ensures) in
    ap (list_any is_so) (sym (no_more a.paths n past)) ∙ c.loop-file.invariant
