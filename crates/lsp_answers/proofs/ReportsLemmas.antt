-- The reports of all files beside what is said of each document.
use Rattle.std.proofs.Common.{◌≡◌, ℕ, zero, suc, ◌+◌, ◌<◌, List, [], ◌∷◌, ◌++◌, Bool, true, false, cond, Option, Some, length, map, option_map, take, nat_cmp, Less, Greater, refl, sym, ap, ap₂, subst, ◌∙◌, arith}
use Rattle.std.specs.Prelude.{slice_index_or, bytes_eq, unwrap_or}
use Rattle.std.specs.BTreeMap.{is_at}
use Rattle.std.specs.List.{enumerate_from, position_from}
use Rattle.std.specs.List.Sorted.{IsStrictlySortedBy}
use Rattle.std.specs.Map.{lookup}
use Rattle.std.specs.Option.{option_map_or}
use Rattle.std.specs.Ordering.{is_eq, ordering_reverse}
use Rattle.std.specs.Cmp.Lexicographic.{slice_cmp, bytes_decides}
use Rattle.std.proofs.lemmas.Cmp.{nat_list_cmp_total}
use Rattle.std.proofs.lemmas.Iterator.Adapters.{position_from-zero}
use Rattle.std.proofs.lemmas.List.{map-append}
use Rattle.std.proofs.lemmas.Map.Text.{is_eq-slice_cmp}
use Rattle.std.proofs.lemmas.Simd.{map-map}
use Rattle.proto_decls.specs.declared.diagnostic.Diag.{Diag}
use Rattle.lsp_rpc.specs.Diagnostic.{DiagnosticData}
use Rattle.lsp_rpc.specs.Workspace.{DocumentData}
use Rattle.work_files.specs.Files.{text_at, workspace}
use Rattle.work_files.proofs.PathOrder.{order-apart}
use Rattle.work_files.proofs.WorkspaceOrder.{ascend-texts}
use Rattle.work_update.specs.Updates.{IsInOrder}
use Rattle.work_update.proofs.ByPath.{AreBehind, paths, sources-ascend}
use Rattle.work_files.proofs.WorkspaceLemmas.{text_of_workspace}
use Rattle.work_index.specs.Workspace.{Source, SourceAt, Workspace, AnalysisData, analysis, diags_at, no_file, sources_of}
use Rattle.lsp_answers.specs.Diagnostics.{placed}
use Rattle.lsp_answers.specs.Reports.{ReportsAgreeWithDocuments, numbered_report}

another_path : (p q : List ℕ) → slice_cmp nat_cmp p q ≡ Less → bytes_eq p q ≡ false
another_path p q less = sym (is_eq-slice_cmp p q) ∙ ap is_eq less

-- ---- what is wrong in each file, by its number and by its path

module _ {X : Type 0} (of : List Diag → SourceAt → X) (diags : List (List Diag)) where
  -- what is made of a file with a path among these, of which the first has the number n
  abbrev found_from : ℕ → List (List ℕ) → SourceAt → X
  found_from n ps file = of (option_map_or (λ number. slice_index_or diags number []) (position_from (λ p. bytes_eq p file.0) n ps) []) file

  -- the same, given its number
  abbrev found_at : ℕ × SourceAt → X
  found_at file = of (slice_index_or diags file.0 []) file.1

  -- a path before those of the files is no file's
  pass-one : (n : ℕ) (p : List ℕ) (ps : List (List ℕ)) (w : Workspace) → AreBehind p (paths w) → map (found_from n (p ∷ ps)) w ≡ map (found_from (n + 1) ps) w
  pass-one n p ps [] all = refl
  pass-one n p ps (file ∷ w) all = rw (another_path p file.0 all.0) (ap (λ l. found_from (n + 1) ps file ∷ l) (pass-one n p ps w all.1))

  found-all : (n : ℕ) (w : Workspace) → IsInOrder w → map found_at (enumerate_from n w) ≡ map (found_from n (paths w)) w
  unfolding IsStrictlySortedBy
  found-all n [] order = refl
  found-all n (file ∷ w) order =
      rw ((bytes_decides file.0 file.0).1 refl) (ap (λ l. found_at (n, file) ∷ l) (found-all (n + 1) w order.1 ∙ sym (pass-one n file.0 (paths w) w order.0)))

-- what is made of each file by what an analysis says of its path
pub by_path : {X : Type 0} (of : List Diag → SourceAt → X) (a : AnalysisData) (w : Workspace) → a.paths ≡ paths w → IsInOrder w
    → map (found_at of a.diagnostics) (enumerate_from 0 w) ≡ map (λ file. of (diags_at a file.0) file) w
by_path of a w same ascend =
    found-all of a.diagnostics 0 w ascend
    ∙ ap (λ ps. map (found_from of a.diagnostics 0 ps) w) (sym same)
    ∙ ap (λ f. map f w) (λ i file. of (option_map_or (λ number. slice_index_or a.diagnostics number []) (sym (position_from-zero (λ p. bytes_eq p file.0) a.paths) i) []) file)

-- ---- what stands at each path is found there

abbrev pub value_in : {V : Type 0} → List (List ℕ × V) → List ℕ → Option V
value_in es path = lookup (is_at (slice_cmp nat_cmp path)) es

module _ {V X : Type 0} (of : List ℕ × V → Option V → X) where
  -- an entry before others isn't found at their paths
  pass-value : (first : List ℕ × V) (v w : List (List ℕ × V)) → AreBehind first.0 (map (λ e. e.0) v) → map (λ e. of e (value_in (first ∷ w) e.0)) v ≡ map (λ e. of e (value_in w e.0)) v
  pass-value first [] w all = refl
  pass-value first (e ∷ v) w all =
      let after : slice_cmp nat_cmp e.0 first.0 ≡ Greater = nat_list_cmp_total.antisymm e.0 first.0 ∙ ap ordering_reverse all.0 in
      ap₂ ◌∷◌ (ap (λ o. of e (cond (is_eq o) (Some first.1) (value_in w e.0))) after) (pass-value first v w all.1)

  pub own-values : (w : List (List ℕ × V)) → IsStrictlySortedBy (slice_cmp nat_cmp) (map (λ e. e.0) w) → map (λ e. of e (value_in w e.0)) w ≡ map (λ e. of e (Some e.1)) w
  unfolding IsStrictlySortedBy
  own-values [] order = refl
  own-values (e ∷ w) order =
      let own = is_eq-slice_cmp e.0 e.0 ∙ (bytes_decides e.0 e.0).1 refl in
      ap₂ ◌∷◌ (ap (λ b. of e (cond b (Some e.1) (value_in w e.0))) own) (pass-value e w w order.0 ∙ own-values w order.1)

-- the text of a source is what stands at its path
abbrev text_in : Option Source → Option (List ℕ)
text_in source = option_map (λ (s : Source). s.text) source

texts-in-sources : (reads_others : Bool) (path : List ℕ) (files : List (List ℕ × List ℕ)) → text_in (value_in (sources_of reads_others files) path) ≡ value_in files path
texts-in-sources reads_others path [] = refl
texts-in-sources reads_others path (file ∷ files) = by (is_at (slice_cmp nat_cmp path) file.0) (texts-in-sources reads_others path files)
  where
    by : (here : Bool) → text_in (value_in (sources_of reads_others files) path) ≡ value_in files path
        → text_in (cond here (Some (record { text = file.1; reads_others = reads_others })) (value_in (sources_of reads_others files) path)) ≡ cond here (Some file.1) (value_in files path)
    by true rest = refl
    by false rest = rest

pub reports_of_documents : ReportsAgreeWithDocuments
reports_of_documents reads_others c order is =
    let e = c.encoding in
    let w = c.workspace in
    let a = analysis w in
    let ascend : IsInOrder w = subst IsInOrder (sym is) (sources-ascend reads_others (workspace c.files) (ascend-texts c.files order)) in
    let said : List Diag → SourceAt → List DiagnosticData = λ diags file. placed e file.1.text diags in
    let of : SourceAt → Option (List ℕ) → List DiagnosticData = λ file text. placed e (unwrap_or text []) (diags_at a file.0) in
    let text : (path : List ℕ) → text_in (value_in w path) ≡ text_at path c.files =
    λ path. ap (λ v. text_in (value_in v path)) is ∙ texts-in-sources reads_others path (workspace c.files) ∙ text_of_workspace path c.files (order-apart c.files order) in
    map-map (λ (report : DocumentData). report.diagnostics) (numbered_report c) (enumerate_from 0 w) ∙ by_path said a w refl ascend
    ∙ sym (own-values (λ file source. of file (text_in source)) w ascend) ∙ ap (λ f. map f w) (λ i file. of file (text file.0 i))

-- ---- one report more

enumerate-more : (n : ℕ) (w : Workspace) (i : ℕ) → i < length w → enumerate_from n (take (suc i) w) ≡ enumerate_from n (take i w) ++ (n + i, slice_index_or w i no_file) ∷ []
enumerate-more n [] i there = absurd (omega (arith, there))
enumerate-more n (file ∷ w) zero there = let same : n ≡ n + 0 = omega arith in ap (λ m. (m, file) ∷ []) same
enumerate-more n (file ∷ w) (suc i) there =
    let same : n + 1 + i ≡ n + suc i = omega arith in
    ap (λ l. (n, file) ∷ l) (enumerate-more (n + 1) w i (omega (arith, there)) ∙ ap (λ m. enumerate_from (n + 1) (take i w) ++ (m, slice_index_or w i no_file) ∷ []) same)

pub reports-more : {X : Type 0} (f : ℕ × SourceAt → X) (w : Workspace) (i : ℕ) → i < length w → map f (enumerate_from 0 (take (i + 1) w)) ≡ map f (enumerate_from 0 (take i w)) ++ f (i, slice_index_or w i no_file) ∷ []
reports-more f w i there =
    let count : i + 1 ≡ suc i = omega arith in
    let number : 0 + i ≡ i = omega arith in
    let first = enumerate_from 0 (take i w) in
    let file = slice_index_or w i no_file in
    ap (λ k. map f (enumerate_from 0 (take k w))) count ∙ ap (map f) (enumerate-more 0 w i there ∙ ap (λ k. first ++ (k, file) ∷ []) number) ∙ map-append f first ((i, file) ∷ [])
