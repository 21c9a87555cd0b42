-- Which uses are known.
use Rattle.std.proofs.Common.{◌≡◌, ◌⊎◌, ◌∙◌, inl, inr, ℕ, ◌+◌, ◌<◌, ◌≤◌, Bool, true, false, List, [], ◌∷◌, Option, Some, None, length, refl, ap, sym, arith, lt-ltb, zero-add}
use Rattle.std.specs.Prelude.{Contains, ◌&&◌, ◌||◌, nat_lt}
use Rattle.std.specs.List.{list_any, range_with_len}
use Rattle.std.specs.Option.{option_map_or}
use Rattle.std.proofs.lemmas.Bool.{and_from, and_parts, cases_lt, false_from_ne_true, false≢true}
use Rattle.std.proofs.lemmas.List.{length-map}
use Rattle.std.proofs.lemmas.List.FromFn.{get_or-range_with_len, length-range_with_len}
use Rattle.std.proofs.lemmas.Option.{slice_get_past, slice_get_within}
use Rattle.proto_decls.specs.declared.fact.FileFacts.{FileFacts}
use Rattle.proto_decls.specs.declared.fact.SyntaxFact.{SyntaxFact}
use Rattle.proto_decls.specs.declared.fact.SyntaxFact.TheVariants.{Proto3, Other, Opaque}
use Rattle.proto_laws.proofs.Lists.{filter-has, in_filter, list_any-has, list_any-is}
use Rattle.import_graph.specs.declared.imports.FileImports.{FileImports}
use Rattle.import_graph.specs.Closures.{sees}
use Rattle.import_graph.specs.Imports.{graph_of, imports_of}
use Rattle.import_graph.proofs.ImportEdges.{graph_within}
use Rattle.import_graph.proofs.SeesTest.{sees_is}
use Rattle.work_index.specs.Workspace.{AnalysisData, IsKnown, all_facts, named_facts, workspace_in}
use Rattle.work_index.proofs.Known.{facts-long, paths-long}
use Rattle.lsp_queries.specs.Files.{facts_in}
use Rattle.lsp_renames.specs.RenamingLaws.{IsSeenByOther, UnknownUsesLaw}
use Rattle.lsp_renames.specs.UnknownUses.{has_others, has_unknown_uses, is_of_other, is_other_language, seers_in}
use Rattle.lsp_renames.proofs.TakenLemmas.{number-any}

-- a test that no element passes
none-any : (p : ℕ → Bool) → ((n : ℕ) → p n ≡ false) → (xs : List ℕ) → list_any p xs ≡ false
none-any p none [] = refl
none-any p none (x ∷ xs) = ap (λ b. b || list_any p xs) (none x) ∙ none-any p none xs

module _ (a : AnalysisData) (known : IsKnown a) where
  none-other : has_others a ≡ false → (file : ℕ) → is_of_other a file ≡ false
  none-other none file = by (cases_lt file (length a.paths))
    where
      by : (file < length a.paths) ⊎ (length a.paths ≤ file) → is_of_other a file ≡ false
      by (inl there) =
          let same : 0 + file ≡ file = omega arith in
          false_from_ne_true (is_of_other a file) (λ is. false≢true (sym none ∙ number-any (is_of_other a) 0 a.paths file there (ap (is_of_other a) same ∙ is)))
      by (inr past) = ap (λ o. option_map_or (λ facts. is_other_language facts.syntax) o false) (slice_get_past a.facts file (omega (arith, past, facts-long a known)))

  pub none-unknown : has_others a ≡ false → (file : ℕ) → has_unknown_uses a file ≡ false
  none-unknown none file = by (nat_lt file (length a.paths))
    where
      by : (b : Bool) → (b && list_any (is_of_other a) (seers_in a file)) ≡ false
      by true = none-any (is_of_other a) (none-other none) (seers_in a file)
      by false = refl

-- ---- the same said by what a file sees

is_other-said : (syntax : SyntaxFact) → is_other_language syntax ≡ true → syntax ≡ Other
is_other-said Proto3 is = absurd (cc (is))
is_other-said Other is = refl
is_other-said Opaque is = absurd (cc (is))

-- each number below n
in_range : (n k : ℕ) → k < n → Contains (range_with_len 0 n) k
in_range n k lt = (k, omega (arith, lt, length-range_with_len 0 n), get_or-range_with_len 0 n k k lt ∙ zero-add k)

module _ (a : AnalysisData) (known : IsKnown a) (file : ℕ) where
  abbrev graph : List FileImports
  graph = graph_of (all_facts (workspace_in a))

  as-long : length graph ≡ length a.paths
  as-long =
      let files = all_facts (workspace_in a) in
      length-map files (λ f. imports_of files f.facts) ∙ length-map (workspace_in a) named_facts ∙ sym (paths-long a known)

  sees-other : (seer : ℕ) → is_of_other a seer ≡ true → sees graph seer file ≡ true → IsSeenByOther a file
  sees-other seer is seen = by (facts_in a seer) refl is
    where
      by : (o : Option FileFacts) → facts_in a seer ≡ o → option_map_or (λ facts. is_other_language facts.syntax) o false ≡ true → IsSeenByOther a file
      by None there is = absurd (cc (is))
      by (Some facts) there is =
          record { seer = seer; facts = facts; there = there; language = is_other-said facts.syntax is; sees = (sees_is graph (graph_within (all_facts (workspace_in a))) seer file).0 seen }

  unknown-said : has_unknown_uses a file ≡ true → IsSeenByOther a file
  unknown-said unknown =
      let parts = and_parts (nat_lt file (length a.paths)) (list_any (is_of_other a) (seers_in a file)) unknown in
      let found = list_any-has (is_of_other a) (seers_in a file) parts.1 in
      let seen = filter-has (λ g. sees graph g file) (range_with_len 0 (length graph)) found.0 found.1 in
      sees-other found.0 found.2 seen.1

  said-unknown : file < length a.paths → IsSeenByOther a file → has_unknown_uses a file ≡ true
  said-unknown there said =
      let seer = said.seer in
      let within : seer < length graph = let lt = slice_get_within a.facts seer said.facts said.there in omega (arith, lt, as-long, facts-long a known) in
      let is : is_of_other a seer ≡ true = ap (λ o. option_map_or (λ facts. is_other_language facts.syntax) o false) said.there ∙ ap is_other_language said.language in
      let seen = (sees_is graph (graph_within (all_facts (workspace_in a))) seer file).1 said.sees in
      let listed : Contains (seers_in a file) seer = in_filter (λ g. sees graph g file) (range_with_len 0 (length graph)) seer (in_range (length graph) seer within) seen in
      and_from (nat_lt file (length a.paths)) (list_any (is_of_other a) (seers_in a file)) (lt-ltb file (length a.paths) there) (list_any-is (is_of_other a) (seers_in a file) seer listed is)

pub unknown-uses-law : UnknownUsesLaw
unknown-uses-law a file known there = (unknown-said a known file, said-unknown a known file there)
