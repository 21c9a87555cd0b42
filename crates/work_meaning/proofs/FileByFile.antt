-- Two analyses, file by file.
use Rattle.std.proofs.Common.{◌≡◌, ◌↔◌, ◌∙◌, ℕ, zero, suc, ◌<◌, List, [], ◌∷◌, Bool, Some, length, get_or, refl, sym, ap, subst, arith}
use Rattle.std.specs.Prelude.{IsTrue, option_map}
use Rattle.std.specs.List.{enumerate_from, slice_get}
use Rattle.std.proofs.lemmas.List.{length-map}
use Rattle.std.proofs.lemmas.List.FromFn.{length-enumerate_from}
use Rattle.std.proofs.lemmas.Option.{slice_get-get_or, slice_get-map}
use Rattle.proto_decls.specs.declared.diagnostic.Diag.{Diag}
use Rattle.proto_resolve.specs.declared.resolve.Links.{Links}
use Rattle.work_index.proofs.Numbered.{made, made_at, made_length}
use Rattle.work_index.specs.Workspace.{AnalysisData, IsKnown, SourceAt, Workspace, analysis, diagnostics_of, no_file, resolution_of, workspace_in}
use Rattle.work_index.proofs.Known.{is_known, links-long, paths-long}
use Rattle.work_meaning.specs.Bindings.{Means, SameInFile, SameMeaning, bindings, bindings_in, codes, codes_in}

-- lists that have the same at each number are one
all-same : {Y : Type 0} (xs ys : List Y) → length xs ≡ length ys → ((k : ℕ) → k < length xs → slice_get xs k ≡ slice_get ys k) → xs ≡ ys
all-same [] [] long same = λ i. []
all-same [] (y ∷ ys) long same = absurd (omega (arith, long))
all-same (x ∷ xs) [] long same = absurd (omega (arith, long))
all-same (x ∷ xs) (y ∷ ys) long same =
    let first : Some x ≡ Some y = same zero (omega arith) in
    let rest : xs ≡ ys = all-same xs ys (omega (arith, long)) (λ k lt. same (suc k) (omega (arith, lt))) in
    cc (first, rest)

module _ (a : AnalysisData) (known : IsKnown a) where
  bindings-long : length (bindings a) ≡ length a.paths
  bindings-long = length-map a.links bindings_in ∙ links-long a known

  codes-long : length (codes a) ≡ length a.paths
  codes-long =
      let w = workspace_in a in
      length-map a.diagnostics codes_in ∙ ap (λ (x : AnalysisData). length x.diagnostics) known.is ∙ length-map (enumerate_from 0 w) (diagnostics_of w) ∙ length-enumerate_from 0 w ∙ sym (paths-long a known)

module _ (a b : AnalysisData) (first : IsKnown a) (second : IsKnown b) where
  -- where the meaning is the same in each of as many files it is the same
  pub files-same : length a.paths ≡ length b.paths → ((k : ℕ) → k < length a.paths → SameInFile a b k) → SameMeaning a b
  files-same long same = record {
    bindings_are = all-same (bindings a) (bindings b) (bindings-long a first ∙ long ∙ sym (bindings-long b second)) (λ k lt. (same k (omega (arith, bindings-long a first, lt))).bindings_are);
    codes_are = all-same (codes a) (codes b) (codes-long a first ∙ long ∙ sym (codes-long b second)) (λ k lt. (same k (omega (arith, codes-long a first, lt))).codes_are);
  }

  -- and then there are as many
  pub as_many-same : SameMeaning a b → length a.paths ≡ length b.paths
  as_many-same same = sym (bindings-long a first) ∙ ap length same.bindings_are ∙ bindings-long b second

pub same-in : (a b : AnalysisData) (file : ℕ) → SameMeaning a b → SameInFile a b file
same-in a b file same = record { bindings_are = ap (λ l. slice_get l file) same.bindings_are; codes_are = ap (λ l. slice_get l file) same.codes_are }

-- ---- what links and diagnostics say

-- equal ones say the same
pub means-by : (a : AnalysisData) (file : ℕ) (links links' : Links) (diagnostics diagnostics' : List Diag) (b : Bool) → links ≡ links' → diagnostics ≡ diagnostics' → (IsTrue b ↔ Means a file links diagnostics)
    → IsTrue b ↔ Means a file links' diagnostics'
means-by a file links links' diagnostics diagnostics' b linked wrong is =
    subst (λ (l : Links). IsTrue b ↔ Means a file l diagnostics') linked (subst (λ (ds : List Diag). IsTrue b ↔ Means a file links ds) wrong is)

-- where they are those of a file of another analysis, the two mean the same there
module _ (a b : AnalysisData) (file : ℕ) (links : Links) (diagnostics : List Diag) (linked : slice_get b.links file ≡ Some links) (wrong : slice_get b.diagnostics file ≡ Some diagnostics) where
  bound : slice_get (bindings b) file ≡ Some (bindings_in links)
  bound = slice_get-map bindings_in b.links file ∙ ap (option_map bindings_in) linked

  numbered : slice_get (codes b) file ≡ Some (codes_in diagnostics)
  numbered = slice_get-map codes_in b.diagnostics file ∙ ap (option_map codes_in) wrong

  pub means-same : Means a file links diagnostics → SameInFile a b file
  means-same means = record { bindings_are = means.bindings_are ∙ sym bound; codes_are = means.codes_are ∙ sym numbered }

  pub same-means : SameInFile a b file → Means a file links diagnostics
  same-means same = record { bindings_are = same.bindings_are ∙ bound; codes_are = same.codes_are ∙ numbered }

-- ---- the analysis of a workspace

-- what is made of a file is there
made-get : {X : Type 0} (f : ℕ × SourceAt → X) (w : Workspace) (n : ℕ) (source : SourceAt) → n < length w → source ≡ get_or w n no_file → slice_get (made f w) n ≡ Some (f (n, source))
made-get f w n source there is =
    let d = f (0, no_file) in
    slice_get-get_or (made f w) n d (omega (arith, there, made_length f w)) ∙ ap (λ x. Some x) (made_at f w n d there ∙ ap (λ s. f (n, s)) (sym is))

-- a file, with what is said of it where these are all files
module _ (a : AnalysisData) (w : Workspace) (file : ℕ) (source : SourceAt) (there : file < length w) (is : source ≡ get_or w file no_file) where
  pub kept-same : Means a file (resolution_of w (file, source)) (diagnostics_of w (file, source)) → SameInFile a (analysis w) file
  kept-same = means-same a (analysis w) file (resolution_of w (file, source)) (diagnostics_of w (file, source)) (made-get (resolution_of w) w file source there is) (made-get (diagnostics_of w) w file source there is)

  pub same-kept : SameInFile a (analysis w) file → Means a file (resolution_of w (file, source)) (diagnostics_of w (file, source))
  same-kept = same-means a (analysis w) file (resolution_of w (file, source)) (diagnostics_of w (file, source)) (made-get (resolution_of w) w file source there is) (made-get (diagnostics_of w) w file source there is)

-- where each file keeps what it meant, all meaning is kept
pub all-kept : (a : AnalysisData) (w : Workspace) → IsKnown a → length a.paths ≡ length w → ((k : ℕ) → k < length w → SameInFile a (analysis w) k) → SameMeaning a (analysis w)
all-kept a w known long same =
    files-same a (analysis w) known (is_known (analysis w) w refl) (long ∙ sym (length-map w (λ f. f.0))) (λ k lt. same k (omega (arith, lt, long)))
