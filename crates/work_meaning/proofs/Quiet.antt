-- Other texts of files, of which most say to other files what the texts before them said.
use Rattle.std.proofs.Common.{◌≡◌, ◌≢◌, ◌↔◌, ◌<◌, ◌==◌, ◌&&◌, ◌+◌, ℕ, zero, suc, List, [], ◌∷◌, Bool, true, false, cond, Option, None, length, get_or, map, refl, sym, ap, ap₂, subst, ◌∙◌, arith, below_more}
use Rattle.std.specs.Prelude.{IsSomeAnd, IsTrue, slice_index_or, unwrap_or}
use Rattle.std.proofs.lemmas.Bool.{and_from, and_parts, false≢true}
use Rattle.std.proofs.lemmas.Bool.Decides.{nat_tests}
use Rattle.std.proofs.lemmas.List.{length-map, length-set}
use Rattle.proto_tree.specs.Read.{value_tree}
use Rattle.proto_decls.specs.declared.fact.FileFacts.{FileFacts}
use Rattle.proto_decls.specs.declared.named_facts.NamedFacts.{NamedFacts}
use Rattle.proto_decls.specs.Facts.{facts_of}
use Rattle.import_graph.specs.Closures.{view_of}
use Rattle.import_graph.specs.Imports.{graph_of}
use Rattle.import_graph.specs.Outlooks.{outlook}
use Rattle.proto_names.specs.Files.{facts_at}
use Rattle.proto_names.specs.Outlines.{exports, with_facts}
use Rattle.proto_resolve.specs.Seen.{SeenLaw, SeesTheSame}
use Rattle.proto_resolve.specs.declared.resolve.Links.{Links}
use Rattle.proto_resolve.proofs.Outlines.{asking, asks_alike, same_graph}
use Rattle.work_index.proofs.Numbered.{made_at}
use Rattle.work_index.specs.Workspace.{AnalysisData, IsKnown, Source, SourceAt, Workspace, all_facts, analysis, merged, named_facts, no_file, resolution_of, source_facts}
use Rattle.work_meaning.specs.Bindings.{Means, SameInFile, SameMeaning}
use Rattle.work_changes.specs.Changes.{file_source}
use Rattle.work_meaning.specs.Edited.{text_after, with_text, with_texts}
use Rattle.work_meaning.specs.Quiet.{AreTexts, HasOthers, HasTexts, IsQuiet, KeepsWith, SaysSomethingElse, is_own, links_with, other_text, own_text}
use Rattle.work_changes.proofs.Changed.{is_put, others_stay}
use Rattle.work_meaning.proofs.FileByFile.{all-kept, kept-same, same-in, same-kept}
use Rattle.work_meaning.proofs.OtherTexts as other
use Rattle.work_changes.proofs.LinkedAgain.{facts_in}

-- ---- facts that are put and put back

pub put-same : (files : List NamedFacts) (n : ℕ) → n < length files → with_facts files n (facts_at files n) ≡ files
put-same [] n there = absurd (omega (arith, there))
put-same (x ∷ files) zero there = refl
put-same (x ∷ files) (suc n) there = ap (λ fs. x ∷ fs) (put-same files n (omega (arith, there)))

pub put-back : (files : List NamedFacts) (n : ℕ) (facts : FileFacts) → n < length files → with_facts (with_facts files n facts) n (facts_at files n) ≡ files
put-back [] n facts there = absurd (omega (arith, there))
put-back (x ∷ files) zero facts there = refl
put-back (x ∷ files) (suc n) facts there = ap (λ fs. x ∷ fs) (put-back files n facts (omega (arith, there)))

-- ---- texts that say the same to other files and of imports

abbrev AreQuiet : Workspace → Workspace → Type 0
AreQuiet w after = (n : ℕ) → n < length w → IsQuiet (facts_at (all_facts w) n) (source_facts (file_source after n))

abbrev paths_of : Workspace → List (List ℕ)
paths_of w = map (λ f. f.0) w

asks : (w after : Workspace) → paths_of after ≡ paths_of w → AreQuiet w after → map asking (all_facts w) ≡ map asking (all_facts after)
asks [] [] paths quiet = refl
asks [] (y ∷ after) paths quiet = absurd (cc (paths))
asks (x ∷ w) [] paths quiet = absurd (cc (paths))
asks (x ∷ w) (y ∷ after) paths quiet =
    let first : y.0 ≡ x.0 = cc (paths) in
    let rest : paths_of after ≡ paths_of w = cc (paths) in
    let here = quiet zero (omega arith) in
    ap₂ (λ (a : List ℕ × (Bool × List (List ℕ × Bool))) as'. a ∷ as') (ap₂ (λ p o. (p, o)) (sym first) (sym here.imports_are)) (asks w after rest (λ n lt. quiet (suc n) (omega (arith, lt))))

tells : (w after : Workspace) → paths_of after ≡ paths_of w → AreQuiet w after → (n : ℕ) → exports (facts_at (all_facts after) n) ≡ exports (facts_at (all_facts w) n)
tells [] [] paths quiet n = refl
tells [] (y ∷ after) paths quiet n = absurd (cc (paths))
tells (x ∷ w) [] paths quiet n = absurd (cc (paths))
tells (x ∷ w) (y ∷ after) paths quiet zero = (quiet zero (omega arith)).exports_are
tells (x ∷ w) (y ∷ after) paths quiet (suc n) = let rest : paths_of after ≡ paths_of w = cc (paths) in tells w after rest (λ k lt. quiet (suc k) (omega (arith, lt))) n

-- one file with its other text among those of the workspace before sees what it sees in the one after
module _ (w after : Workspace) (paths : paths_of after ≡ paths_of w) (quiet : AreQuiet w after) (n : ℕ) (there : n < length w) where
  abbrev before : List NamedFacts
  before = all_facts w

  abbrev later : List NamedFacts
  later = all_facts after

  abbrev facts : FileFacts
  facts = source_facts (file_source after n)

  long : length after ≡ length w
  long = sym (length-map after (λ f. f.0)) ∙ ap length paths ∙ length-map w (λ f. f.0)

  within : n < length before
  within = omega (arith, there, length-map w named_facts)

  within_after : n < length after
  within_after = omega (arith, there, long)

  equal : (g : ℕ) → (g == n) ≡ true → g ≡ n
  equal g is = grind (arith, nat_tests)

  apart : (g : ℕ) → (g == n) ≡ false → g ≢ n
  apart g is same = false≢true (sym is ∙ (let at : (g == n) ≡ true = grind (arith, nat_tests) in at))

  own : facts_at (with_facts before n facts) n ≡ facts_at later n
  own = is_put before n facts within ∙ sym (facts_in after n within_after)

  seen : (g : ℕ) (b : Bool) → (g == n) ≡ b → exports (facts_at (with_facts before n facts) g) ≡ exports (facts_at later g)
  seen g true is = let same = equal g is in ap (λ k. exports (facts_at (with_facts before n facts) k)) same ∙ ap exports own ∙ ap (λ k. exports (facts_at later k)) (sym same)
  seen g false is = ap exports (others_stay before n g facts (apart g is)) ∙ sym (tells w after paths quiet g)

  sees : SeesTheSame (with_facts before n facts) later n
  sees = record {
    files = length-set before n _ ∙ length-map w named_facts ∙ sym long ∙ sym (length-map after named_facts);
    imports = ap (λ graph. outlook graph n)
        (sym (same_graph before (with_facts before n facts) (asks_alike before n facts within (quiet n there).imports_are)) ∙ same_graph before later (asks w after paths quiet));
    own = own;
    seen = λ k d lt. let g = get_or (view_of (graph_of later) n) k d in seen g (g == n) refl;
  }

  links-are : SeenLaw → links_with before n (file_source after n) ≡ resolution_of after (n, get_or after n no_file)
  links-are law = let text = (file_source after n).text in law (with_facts before n facts) later n (omega (arith, within_after, length-map after named_facts)) sees text (value_tree text)

  abbrev Keeps : AnalysisData → Links → Type 0
  Keeps a links = Means a n links (merged (facts_of (file_source after n).text) links)

  pub with-same : SeenLaw → (a : AnalysisData) → KeepsWith before n (file_source after n) a → SameInFile a (analysis after) n
  with-same law a keeps = kept-same a after n (get_or after n no_file) within_after refl (subst (Keeps a) (links-are law) keeps)

  pub same-with : SeenLaw → (a : AnalysisData) → SameInFile a (analysis after) n → KeepsWith before n (file_source after n) a
  same-with law a same = subst (Keeps a) (sym (links-are law)) (same-kept a after n (get_or after n no_file) within_after refl same)

-- ---- the files of a workspace, one after the other

-- the text of each file with the texts that aren't taken first
abbrev pub source-of : Option ℕ → List (Option (List ℕ)) → Workspace → ℕ → Source
source-of own texts w n = let s = file_source w n in with_text s (unwrap_or (other_text own texts n) s.text)

-- the first k files are quiet, and the flag says whether they keep what they meant
pub record AreCompared (a : AnalysisData) (own : Option ℕ) (texts : List (Option (List ℕ))) (w : Workspace) (k : ℕ) (keep : Bool) : Type 0 where
  pub quiet : (n : ℕ) → n < k → IsQuiet (facts_at (all_facts w) n) (source_facts (source-of own texts w n))
  pub keeps : IsTrue keep ↔ ((n : ℕ) → n < k → KeepsWith (all_facts w) n (source-of own texts w n) a)

pub none-compared : (a : AnalysisData) (own : Option ℕ) (texts : List (Option (List ℕ))) (w : Workspace) → AreCompared a own texts w 0 true
none-compared a own texts w = record {
  quiet = λ n lt. absurd (omega (arith, lt));
  keeps = (λ is n lt. absurd (omega (arith, lt)), λ all. refl);
}

module _ (a : AnalysisData) (own : Option ℕ) (texts : List (Option (List ℕ))) (w : Workspace) (k : ℕ) (keep : Bool) (so_far : AreCompared a own texts w k keep) where
  pub one-compared : (keeps : Bool) (both : Bool) → both ≡ (keep && keeps) → IsQuiet (facts_at (all_facts w) k) (source_facts (source-of own texts w k)) → (IsTrue keeps ↔ KeepsWith (all_facts w) k (source-of own texts w k) a)
      → AreCompared a own texts w (k + 1) both
  one-compared keeps both is quiet here = record {
    quiet = below_more (λ n. IsQuiet (facts_at (all_facts w) n) (source_facts (source-of own texts w n))) k so_far.quiet quiet;
    keeps = (
      λ yes. let parts = and_parts keep keeps (sym is ∙ yes) in below_more (λ n. KeepsWith (all_facts w) n (source-of own texts w n) a) k (so_far.keeps.0 parts.0) (here.0 parts.1),
      λ all. is ∙ and_from keep keeps (so_far.keeps.1 (λ n lt. all n (omega (arith, lt)))) (here.1 (all k (omega arith))),
    );
  }

  -- in the end the flag says it of all
  pub all-compared : SeenLaw → (after : Workspace) → HasOthers own texts w after → IsKnown a → length a.paths ≡ length w → k ≡ length w → IsTrue keep ↔ SameMeaning a (analysis after)
  all-compared law after has known long end' = (
    λ is. all-kept a after known (long ∙ sym same_long) (λ n lt.
        let there : n < length w = omega (arith, lt, same_long) in
        with-same w after has.paths quiet n there law a (subst (λ s. KeepsWith (all_facts w) n s a) (sym (has.each n there)) (so_far.keeps.0 is n (omega (arith, there, end'))))),
    λ same. so_far.keeps.1 (λ n lt.
        let there : n < length w = omega (arith, lt, end') in
        subst (λ s. KeepsWith (all_facts w) n s a) (has.each n there) (same-with w after has.paths quiet n there law a (same-in a (analysis after) n same))),
  )
    where
      same_long : length after ≡ length w
      same_long = sym (length-map after (λ f. f.0)) ∙ ap length has.paths ∙ length-map w (λ f. f.0)

      quiet : (n : ℕ) → n < length w → IsQuiet (facts_at (all_facts w) n) (source_facts (file_source after n))
      quiet n lt = subst (λ s. IsQuiet (facts_at (all_facts w) n) (source_facts s)) (sym (has.each n lt)) (so_far.quiet n (omega (arith, lt, end')))

-- ---- the texts that are taken first, and the others

pub source-with : (edits : List (ℕ × List ℕ)) (w : Workspace) (n : ℕ) → n < length w → file_source (with_texts edits w) n ≡ (let s = file_source w n in with_text s (text_after edits n s.text))
source-with edits w n there = ap (λ (f : SourceAt). f.1) (made_at (λ e. (e.1.0, with_text e.1.1 (text_after edits e.0 e.1.1.text))) w n no_file there)

own-then-others : (own : Option ℕ) (texts : List (Option (List ℕ))) (n : ℕ) (t : List ℕ) → unwrap_or (slice_index_or texts n None) t ≡ unwrap_or (other_text own texts n) (own_text own texts n t)
own-then-others own texts n t = by (is_own own n)
  where
    by : (b : Bool) → unwrap_or (slice_index_or texts n None) t ≡ unwrap_or (cond {A = Option (List ℕ)} b None (slice_index_or texts n None)) (cond {A = List ℕ} b (unwrap_or (slice_index_or texts n None) t) t)
    by true = refl
    by false = refl

-- a workspace with all texts has the others beside one with those that are taken first
pub has-others : (own : Option ℕ) (texts : List (Option (List ℕ))) (edits : List (ℕ × List ℕ)) (w first after : Workspace)
    → first ≡ with_texts edits w → ((n : ℕ) (t : List ℕ) → n < length w → text_after edits n t ≡ own_text own texts n t) → HasTexts texts w after → HasOthers own texts first after
has-others own texts edits w first after are own_texts has = let stays = other.others_stay edits w in record {
  paths = has.paths ∙ stays.paths ∙ ap paths_of (sym are);
  each = λ n lt.
      let there : n < length w = omega (arith, lt, ap length are, other.as_many_files edits w) in
      let s = file_source w n in
      has.each n there ∙ ap (with_text s) (own-then-others own texts n s.text)
      ∙ ap (λ (s : Source). with_text s (unwrap_or (other_text own texts n) s.text))
      (ap (with_text s) (sym (own_texts n s.text there)) ∙ sym (source-with edits w n there) ∙ ap (λ (v : Workspace). file_source v n) (sym are));
}

-- a file whose other text isn't taken first has its text till then
not-first : (own : Option ℕ) (texts : List (Option (List ℕ))) (n : ℕ) (t : List ℕ) (P : List ℕ → Type 0) → IsSomeAnd (other_text own texts n) P → own_text own texts n t ≡ t
not-first own texts n t P = by (is_own own n)
  where
    by : (b : Bool) → IsSomeAnd (cond {A = Option (List ℕ)} b None (slice_index_or texts n None)) P → cond {A = List ℕ} b (unwrap_or (slice_index_or texts n None) t) t ≡ t
    by true h = absurd h
    by false h = refl

-- what says something else than the text before it does so beside the text before all
pub says-else : (own : Option ℕ) (texts : List (Option (List ℕ))) (edits : List (ℕ × List ℕ)) (w first : Workspace)
    → first ≡ with_texts edits w → ((n : ℕ) (t : List ℕ) → n < length w → text_after edits n t ≡ own_text own texts n t) → SaysSomethingElse own texts first → SaysSomethingElse own texts w
says-else own texts edits w first are own_texts says =
    let n = says.file in
    let there : n < length w = omega (arith, says.within, ap length are, other.as_many_files edits w) in
    let s = file_source w n in
    let same : file_source first n ≡ s =
    ap (λ (v : Workspace). file_source v n) are ∙ source-with edits w n there ∙ ap (with_text s) (own_texts n s.text there ∙ not-first own texts n s.text _ says.differs) in
    record { file = n; within = there; differs = subst (λ s. IsSomeAnd (other_text own texts n) (λ text. ¬ IsQuiet (source_facts s) (source_facts (with_text s text)))) same says.differs }

pub has-texts : (texts : List (Option (List ℕ))) (edits : List (ℕ × List ℕ)) (w : Workspace) (count : ℕ) → count ≡ length w → AreTexts count edits texts → HasTexts texts w (with_texts edits w)
has-texts texts edits w count long are = let stays = other.others_stay edits w in record {
  paths = sym stays.paths;
  each = λ n lt. let s = file_source w n in source-with edits w n lt ∙ ap (with_text s) (sym (are.each n s.text (omega (arith, lt, long))));
}
