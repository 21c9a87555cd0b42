-- A document of SARIF is one JSON value, with a result for each diagnostic of the files that are asked for.
use Rattle.std.specs.Prelude.{◌≡◌, ℕ, List, ◌++◌, Option, map, codes}
use Rattle.std.specs.List.{enumerate_from, flat_map}
use Rattle.serde_json.specs.Data.{Data}
use Rattle.serde_json.specs.Written.{compact_text}
use Rattle.check_lines.specs.Sarif.{result_of, document_value}
use Rattle.check_lines.specs.declared.format.Format.TheVariants.{Sarif}
use Rattle.work_config.specs.Configuration.{Configuration, files_of}
use Rattle.work_index.specs.Workspace.{SourceAt, AnalysisData, analysis}
use Rattle.work_check.specs.Listing.{listed_file, wanted_diags, file_roots, listed, sources_in}
use Rattle.work_check.specs.declared.wanted.Listing.{Listing}

abbrev pub file_results : Listing → List (Option ℕ) → AnalysisData → ℕ × SourceAt → List Data
file_results how roots a file = map (result_of (listed_file how roots file)) (wanted_diags how a file)

-- the results, by path
abbrev pub results : Listing → Configuration → List Data
results how config = flat_map (file_results how (file_roots (files_of config)) (analysis (sources_in config))) (enumerate_from 0 (sources_in config))

-- what is written is the compact text of the document with these results, and a line feed
abbrev pub SarifIsOneValue : Type 0
SarifIsOneValue = (how : Listing) (config : Configuration) → how.format ≡ Sarif → listed how config ≡ compact_text (document_value (results how config)) ++ codes "\n"
