-- What is written as SARIF.
use Rattle.std.proofs.Common.{◌≡◌, ℕ, List, Option, ap, ◌∙◌, flat_map}
use Rattle.std.specs.List.{enumerate_from}
use Rattle.proto_decls.specs.declared.diagnostic.Diag.{Diag}
use Rattle.check_lines.specs.Lines.{ListedFileData, line_as, document}
use Rattle.check_lines.specs.declared.format.Format.TheVariants.{Sarif}
use Rattle.check_lines.proofs.SarifLemmas.{behind_comma, all-results, document-results, written-results}
use Rattle.work_config.specs.Configuration.{files_of}
use Rattle.work_index.specs.Workspace.{SourceAt, AnalysisData, analysis}
use Rattle.work_check.specs.Listing.{file_lines, file_roots, listed_file, lines_with, sources_in, wanted_diags}
use Rattle.work_check.specs.Sarif.{SarifIsOneValue, file_results, results}
use Rattle.work_check.specs.declared.wanted.Listing.{Listing}

-- the lines of a file are its results
file-results : (how : Listing) (roots : List (Option ℕ)) (a : AnalysisData) → how.format ≡ Sarif → (file : ℕ × SourceAt)
    → file_lines how roots a file ≡ flat_map behind_comma (file_results how roots a file)
file-results how roots a is file =
    let it : ListedFileData = listed_file how roots file in
    let ds : List Diag = wanted_diags how a file in
    ap (λ f. flat_map (line_as f it) ds) is ∙ written-results it ds

pub sarif_is_one_value : SarifIsOneValue
sarif_is_one_value how config is =
    let w = sources_in config in
    let roots = file_roots (files_of config) in
    ap (λ f. document f (lines_with how roots w)) is
    ∙ ap (document Sarif) (all-results (file_lines how roots (analysis w)) (file_results how roots (analysis w)) (file-results how roots (analysis w) is) (enumerate_from 0 w))
    ∙ document-results (results how config)
