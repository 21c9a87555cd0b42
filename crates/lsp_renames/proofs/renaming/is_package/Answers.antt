use Rattle.std.proofs.Common.{◌<◌, ◌≤◌, ◌+◌, ◌∙◌, ℕ, List, Bool, drop, length, sym, ap, arith}
use Rattle.std.specs.Prelude.{◌||◌}
use Rattle.std.specs.List.{enumerate_from, list_any}
use Rattle.proto_names.specs.Files.{is_within}
use Rattle.lsp_queries.specs.Files.{package_in}
use Rattle.lsp_queries.proofs.NextFile.{next_file, no_more}
use Rattle.lsp_renames.proofs.renaming.is_package.Goals as goal

pub loop-file-preserved : goal.loop-file-preserved
loop-file-preserved c =
    let a = c.args.analysis.now in
    let n = c.loop-file.file in
    let has : ℕ × List ℕ → Bool = λ e. is_within c.args.full_name.now (package_in a e.0) in
    let there : n < length a.paths = omega (arith, c.loop-file-test.true, c.file_count-file-end.ensures) in
    let rest = list_any has (enumerate_from (n + 1) (drop (n + 1) a.paths)) in
    sym (ap (λ (b : Bool). b || rest) (sym c.has_package.ensures ∙ c.if-has_package.false)) ∙ ap (list_any has) (sym (next_file a.paths n there)) ∙ c.loop-file.invariant

pub returns-then-has_package : goal.returns-then-has_package
returns-then-has_package c =
    let a = c.args.analysis.now in
    let n = c.loop-file.file in
    let has : ℕ × List ℕ → Bool = λ e. is_within c.args.full_name.now (package_in a e.0) in
    let there : n < length a.paths = omega (arith, c.loop-file-test.true, c.file_count-file-end.ensures) in
    let rest = list_any has (enumerate_from (n + 1) (drop (n + 1) a.paths)) in
    sym (ap (λ (b : Bool). b || rest) (sym c.has_package.ensures ∙ c.if-has_package.true)) ∙ ap (list_any has) (sym (next_file a.paths n there)) ∙ c.loop-file.invariant

pub returns : goal.returns
returns c =
    let a = c.args.analysis.now in
    let n = c.loop-file.file in
    let has : ℕ × List ℕ → Bool = λ e. is_within c.args.full_name.now (package_in a e.0) in
    let past : length a.paths ≤ n = omega (arith, c.loop-file-test.false, c.file_count-file-end.ensures) in
    ap (list_any has) (sym (no_more a.paths n past)) ∙ c.loop-file.invariant
