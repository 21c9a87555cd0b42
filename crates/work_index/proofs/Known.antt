-- An analysis is that of its own workspace, and so are its parts.
use Rattle.std.proofs.Common.{◌≡◌, ◌∙◌, List, [], ◌∷◌, length, map, refl, sym, ap, ap₂, subst}
use Rattle.std.specs.List.{zip}
use Rattle.std.proofs.lemmas.List.{length-map}
use Rattle.std.proofs.lemmas.Simd.{map-map}
use Rattle.proto_decls.specs.declared.diagnostic.Diag.{Diag}
use Rattle.proto_decls.specs.declared.named_facts.NamedFacts.{NamedFacts}
use Rattle.proto_names.specs.Files.{all_decls}
use Rattle.proto_resolve.specs.declared.resolve.Links.{Links}
use Rattle.work_index.specs.declared.analysis.AnalysisParts.{AnalysisParts}
use Rattle.work_index.specs.AnalysisParts.{AreParts}
use Rattle.work_index.specs.Known.{HoldTogether, analysis_with}
use Rattle.work_index.specs.Workspace.{AnalysisData, IsKnown, Workspace, all_facts, analysis, diagnostics_of, named_facts, resolution_of, source_facts, workspace_in}
use Rattle.work_index.proofs.Numbered.{made, made_length}

pub zipped : (w : Workspace) → zip (map (λ f. f.0) w) (map (λ f. f.1) w) ≡ w
zipped [] = refl
zipped (f ∷ w) = ap (λ rest. f ∷ rest) (zipped w)

-- the workspace of the analysis of a workspace is that one
pub known_workspace : (w : Workspace) → workspace_in (analysis w) ≡ w
known_workspace w = zipped w

pub is_known : (a : AnalysisData) (w : Workspace) → a ≡ analysis w → IsKnown a
is_known a w is = record { is = is ∙ ap analysis (sym (ap workspace_in is ∙ known_workspace w)) }

-- it has as many of each as files
module _ (a : AnalysisData) (known : IsKnown a) where
  pub paths-long : length a.paths ≡ length (workspace_in a)
  paths-long = ap (λ (x : AnalysisData). length x.paths) known.is ∙ length-map (workspace_in a) (λ file. file.0)

  pub facts-long : length a.facts ≡ length a.paths
  facts-long = ap (λ (x : AnalysisData). length x.facts) known.is ∙ length-map (workspace_in a) (λ file. source_facts file.1) ∙ sym paths-long

  pub links-long : length a.links ≡ length a.paths
  links-long = let w = workspace_in a in ap (λ (x : AnalysisData). length x.links) known.is ∙ made_length (resolution_of w) w ∙ sym paths-long

-- ---- taken apart

pub same_files : (files : List NamedFacts) (w : Workspace) → map (λ f. f.path) files ≡ map (λ f. f.0) w → map (λ f. f.facts) files ≡ map (λ f. source_facts f.1) w → files ≡ all_facts w
same_files [] [] paths facts = refl
same_files [] (y ∷ w) paths facts = absurd (cc)
same_files (x ∷ files) [] paths facts = absurd (cc)
same_files (x ∷ files) (y ∷ w) paths facts =
    let path : x.path ≡ y.0 = cc in
    let said : x.facts ≡ source_facts y.1 = cc in
    let paths' : map (λ f. f.path) files ≡ map (λ f. f.0) w = cc in
    let facts' : map (λ f. f.facts) files ≡ map (λ f. source_facts f.1) w = cc in
    let head : x ≡ named_facts y = ap₂ (λ p fs. record { path = p; facts = fs }) path said in
    ap₂ (λ a as'. a ∷ as') head (same_files files w paths' facts')

-- the parts of what holds together are those of its own workspace
pub own_parts : (a : AnalysisData) (parts : AnalysisParts)
    → HoldTogether parts.table parts.files.items parts.resolutions.links.items parts.resolutions.diagnostics.items → analysis_with parts.table parts.files.items parts.resolutions.links.items parts.resolutions.diagnostics.items ≡ a → AreParts (workspace_in a) parts
own_parts a parts hold is =
    let known : IsKnown a = subst (λ (b : AnalysisData). IsKnown b) is hold.4 in
    let w = workspace_in a in
    let all = is ∙ known.is in
    record {
      table = same_files parts.table w (sym hold.3 ∙ ap (λ (b : AnalysisData). b.paths) all) (ap (λ (b : AnalysisData). b.facts) all);
      files = sym (zipped parts.files.items) ∙ ap (λ (b : AnalysisData). zip b.paths b.sources) is;
      links = ap (λ (b : AnalysisData). b.links) all;
      diagnostics = ap (λ (b : AnalysisData). b.diagnostics) all;
    }

-- ---- put together

module _ (w : Workspace) (table : List NamedFacts) (files : Workspace) (links : List Links) (diagnostics : List (List Diag))
    (all : table ≡ all_facts w) (are : files ≡ w) (linked : links ≡ made (resolution_of w) w) (wrong : diagnostics ≡ made (diagnostics_of w) w) where
  abbrev data_of : Workspace → List NamedFacts → List Links → List (List Diag) → AnalysisData
  data_of fs index ls ds = record { paths = map (λ f. f.0) fs; sources = map (λ f. f.1) fs; facts = map (λ file. file.facts) index; decls = all_decls index; links = ls; diagnostics = ds }

  pub is_analysis : analysis_with table files links diagnostics ≡ analysis w
  is_analysis =
      ap₂ (λ (fs : Workspace) (index : List NamedFacts). data_of fs index links diagnostics) are all
      ∙ ap₂ (λ (ls : List Links) (ds : List (List Diag)). data_of w (all_facts w) ls ds) linked wrong
      ∙ ap (λ fs. record { paths = map (λ f. f.0) w; sources = map (λ f. f.1) w; facts = fs; decls = all_decls (all_facts w); links = made (resolution_of w) w; diagnostics = made (diagnostics_of w) w })
      (map-map (λ file. file.facts) named_facts w)

  pub hold_together : HoldTogether table files links diagnostics
  hold_together =
      let long : length table ≡ length w = ap length all ∙ length-map w named_facts in (
        ap length are ∙ sym long,
        ap length linked ∙ made_length (resolution_of w) w ∙ sym long,
        ap length wrong ∙ made_length (diagnostics_of w) w ∙ sym long,
        ap (map (λ f. f.0)) are ∙ sym (map-map (λ file. file.path) named_facts w) ∙ ap (map (λ file. file.path)) (sym all),
        is_known (analysis_with table files links diagnostics) w is_analysis,
      )
