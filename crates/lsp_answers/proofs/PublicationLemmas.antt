-- The publications of some files, one after the other, and beside the reports of all files.
use Rattle.std.proofs.Common.{◌≡◌, ℕ, List, [], ◌∷◌, ◌++◌, Bool, true, false, cond, Option, Some, None, option_map, map, refl, sym, ap, subst, ◌∙◌}
use Rattle.std.specs.Prelude.{filter, is_some, unwrap_or, option_and_then, if◌then◌else◌}
use Rattle.std.specs.List.{filter_map, cons_option, enumerate_from}
use Rattle.std.proofs.lemmas.List.{map-append}
use Rattle.std.proofs.lemmas.List.Elements.{filter-append}
use Rattle.serde_json.specs.Data.{Data}
use Rattle.serde_json.specs.Written.{compact_text}
use Rattle.proto_decls.specs.declared.diagnostic.Diag.{Diag}
use Rattle.lsp_rpc.specs.Notification.{publication_value}
use Rattle.lsp_rpc.specs.Workspace.{DocumentData}
use Rattle.work_files.specs.Files.{OpenDocument, File, Files, file_at, text_of, workspace}
use Rattle.work_files.proofs.WorkspaceOrder.{ascend-texts}
use Rattle.work_update.specs.Updates.{IsInOrder}
use Rattle.work_update.proofs.ByPath.{sources-ascend}
use Rattle.work_index.specs.Workspace.{SourceAt, analysis, diags_at, sources_of}
use Rattle.lsp_answers.specs.Context.{Context}
use Rattle.lsp_answers.specs.Diagnostics.{placed}
use Rattle.lsp_answers.specs.Reports.{uri_of, version_of, report_of, workspace_reports, open_files, published_report, publications_in, PublicationsAgreeWithReports}
use Rattle.lsp_answers.proofs.ReportsLemmas.{by_path, own-values}

-- those of a file stand before those of the files behind it
pub publications-more : (c : Context) (file : List ℕ × File) (files : Files)
    → map compact_text (publications_in c (file ∷ files)) ≡ map compact_text (publications_in c (file ∷ [])) ++ map compact_text (publications_in c files)
publications-more c file files =
    let is_open : List ℕ × File → _ = λ f. is_some f.1.document in
    let published : List ℕ × File → Data = λ f. publication_value (published_report c f) in
    ap (λ fs. map compact_text (map published fs)) (filter-append is_open (file ∷ []) files)
    ∙ ap (map compact_text) (map-append published (open_files (file ∷ [])) (open_files files))
    ∙ map-append compact_text (publications_in c (file ∷ [])) (publications_in c files)

-- ---- beside the reports

abbrev has_version : DocumentData → Bool
has_version report = is_some report.version

-- whether a file's document is open, the report of the file if it has a text, and what is published of it
record Said : Type 0 where
  is_open : Bool
  report : Option DocumentData
  published : DocumentData

published_of : Said → Option DocumentData
published_of s = if s.is_open then Some s.published else None

module _ (c : Context) where
  abbrev diags_of : List ℕ → List Diag
  diags_of path = diags_at (analysis c.workspace) path

  -- the report of a file with a text, where this is found at its path
  abbrev report_by : List ℕ → Option File → List ℕ → DocumentData
  report_by path found text = record { diagnostics = placed c.encoding text (diags_of path); uri = uri_of c.roots path found; version = version_of found }

  -- what is said of a file where this is found at its path
  abbrev said : List ℕ × File → Option File → Said
  said e found = record {
    is_open = is_some e.1.document;
    report = option_map (report_by e.0 found) (text_of e.1);
    published = record { diagnostics = placed c.encoding (unwrap_or (option_and_then text_of found) []) (diags_of e.0); uri = uri_of c.roots e.0 (Some e.1); version = version_of (Some e.1) };
  }

  abbrev found_said : List ℕ × File → Said
  found_said e = said e (file_at e.0 c.files)

  abbrev own_said : List ℕ × File → Said
  own_said e = said e (Some e.1)

  -- the reports of the files that have a text
  abbrev report_at : SourceAt → DocumentData
  report_at file = report_by file.0 (file_at file.0 c.files) file.1.text

  reports-said : (reads_others : Bool) (files : Files) → map report_at (sources_of reads_others (workspace files)) ≡ filter_map (λ (s : Said). s.report) (map found_said files)
  reports-said reads_others [] = refl
  reports-said reads_others (e ∷ files) = by (text_of e.1) ∙ ap (cons_option (option_map (report_by e.0 (file_at e.0 c.files)) (text_of e.1))) (reports-said reads_others files)
    where
      by : (text : Option (List ℕ)) → map report_at (sources_of reads_others (cons_option (option_map (λ t. (e.0, t)) text) (workspace files)))
          ≡ cons_option (option_map (report_by e.0 (file_at e.0 c.files)) text) (map report_at (sources_of reads_others (workspace files)))
      by None = refl
      by (Some t) = refl

  published-said : (files : Files) → map (published_report c) (open_files files) ≡ filter_map published_of (map found_said files)
  unfolding published_of
  published-said [] = refl
  published-said (e ∷ files) = by (is_some e.1.document) ∙ ap (cons_option (published_of (found_said e))) (published-said files)
    where
      by : (b : Bool) → map (published_report c) (cond b (e ∷ open_files files) (open_files files)) ≡ cons_option (if b then Some (published_report c e) else None) (map (published_report c) (open_files files))
      by true = refl
      by false = refl

  -- where each file is found at its own path
  own-agree : (files : Files) → filter_map published_of (map own_said files) ≡ filter has_version (filter_map (λ (s : Said). s.report) (map own_said files))
  unfolding published_of
  own-agree [] = refl
  own-agree (e ∷ files) = by e.1.document e.1.kept refl refl (own-agree files)
    where
      by : (d : Option OpenDocument) (k : Option (List ℕ)) → e.1.document ≡ d → e.1.kept ≡ k → filter_map published_of (map own_said files) ≡ filter has_version (filter_map (λ (s : Said). s.report) (map own_said files))
          → filter_map published_of (map own_said (e ∷ files)) ≡ filter has_version (filter_map (λ (s : Said). s.report) (map own_said (e ∷ files)))
      by None None no_document no_text others = rw (no_document, no_text) others
      by None (Some t) no_document a_text others = rw (no_document, a_text) others
      by (Some d) k a_document a_text others = rw a_document (ap (λ l. report_by e.0 (Some (record e.1 { document = Some d })) d.text ∷ l) others)

pub publications_are_reports : PublicationsAgreeWithReports
publications_are_reports reads_others c order is =
    let w = c.workspace in
    let ascend : IsInOrder w = subst IsInOrder (sym is) (sources-ascend reads_others (workspace c.files) (ascend-texts c.files order)) in
    let reports : workspace_reports c ≡ map (report_at c) w = by_path (λ diags file. report_of c diags (file.0, file.1.text)) (analysis w) w refl ascend in
    let own : map (found_said c) c.files ≡ map (own_said c) c.files = own-values (said c) c.files order in
    published-said c c.files ∙ ap (filter_map published_of) own ∙ own-agree c c.files
    ∙ ap (λ l. filter has_version (filter_map (λ (s : Said). s.report) l)) (sym own)
    ∙ ap (filter has_version) (sym (reports ∙ ap (map (report_at c)) is ∙ reports-said c reads_others c.files))
