-- The analysis of a workspace to which a file comes that none of its files imports, and its parts with that file.
use Rattle.std.proofs.Common.{◌≡◌, ◌<◌, ◌≤◌, ◌+◌, ℕ, List, true, false, cond, Option, Some, None, unwrap_or, inl, inr, length, get_or, map, nat_lt, arith, refl, sym, ap, ◌∙◌, subst}
use Rattle.std.specs.Cmp.Lexicographic.{slice_cmp}
use Rattle.std.specs.Ordering.{nat_cmp}
use Rattle.std.specs.List.{insert}
use Rattle.std.specs.List.Sorted.{IsStrictlySortedBy}
use Rattle.std.proofs.Math.Path.{fun_ext}
use Rattle.std.proofs.lemmas.Bool.{cases_lt}
use Rattle.std.proofs.lemmas.Bool.Decides.{nat_tests}
use Rattle.std.proofs.lemmas.List.{length-map, map-id, get_or_past}
use Rattle.std.proofs.lemmas.List.Edits.{get_or-insert_at, get_or-insert_below, get_or-insert_above, length-insert}
use Rattle.std.proofs.lemmas.List.FromFn.{length-map-range_with_len, get_or-map-range_with_len}
use Rattle.std.proofs.lemmas.Option.{same_Some}
use Rattle.proto_decls.specs.declared.fact.FileFacts.{FileFacts}
use Rattle.proto_decls.specs.declared.named_facts.NamedFacts.{NamedFacts}
use Rattle.import_graph.specs.Arrivals.{ArrivalLaw, NobodyImports}
use Rattle.import_graph.specs.Moves.{place}
use Rattle.import_graph.specs.Paths.{IsInPathOrder}
use Rattle.import_graph.proofs.FileInserted.{map_insert}
use Rattle.proto_resolve.specs.declared.resolve.Links.{Links}
use Rattle.proto_names.specs.declared.decl_ref.DeclRef.{DeclRef}
use Rattle.proto_resolve.specs.declared.target.Target.{Target}
use Rattle.proto_resolve.specs.declared.target.Target.TheVariants.{Declared, Package}
use Rattle.proto_resolve.specs.declared.uses.NameUse.{NameUse}
use Rattle.work_links.specs.Laws.{MovedLaw, decl_moved}
use Rattle.work_links.specs.Touched.{links_after, target_after, use_after}
use Rattle.work_index.proofs.ByFile.{nobody_imports}
use Rattle.work_index.proofs.Known.{known_workspace}
use Rattle.std.proofs.lemmas.Simd.{map-map}
use Rattle.work_index.specs.declared.analysis.AnalysisParts.{AnalysisParts}
use Rattle.work_index.specs.AnalysisParts.{AreParts}
use Rattle.work_index.specs.Workspace.{SourceAt, Workspace, AnalysisData, NoneImports, all_facts, named_facts, no_file, workspace_in}
use Rattle.work_index.proofs.Ascending.{ordered_files}
use Rattle.work_update.specs.Arrivals.{Arrives, TakesIn, numbers_with}
use Rattle.work_update.specs.FilesMoves.{HasCome}
use Rattle.work_update.specs.Stayed.{Stay}
use Rattle.work_update.proofs.Unimported.{ComesUnimported, with_it}

-- ---- the numbers of files

pub lower : (a b : ℕ) → a < b → nat_lt a b ≡ true
lower a b lt = grind (arith, nat_tests)

pub higher : (a b : ℕ) → b ≤ a → nat_lt a b ≡ false
higher a b le = grind (arith, nat_tests)

abbrev pub number : ℕ → ℕ → Option ℕ
number at g = Some (cond (nat_lt g at) g (g + 1))

module _ (at count : ℕ) where
  numbered : (g : ℕ) → g < count → place (numbers_with at count) g ≡ number at g
  numbered g less = get_or-map-range_with_len (number at) 0 count g g None less (omega arith)

  as_many : length (numbers_with at count) ≡ count
  as_many = length-map-range_with_len (number at) 0 count

  unnumbered : (g : ℕ) → count ≤ g → place (numbers_with at count) g ≡ None
  unnumbered g past = get_or_past (numbers_with at count) g None (omega (arith, past, as_many))

  front : (g : ℕ) → g < count → g < at → place (numbers_with at count) g ≡ Some g
  front g less before = numbered g less ∙ ap (λ b. Some (cond b g (g + 1))) (lower g at before)

  behind : (g : ℕ) → g < count → at ≤ g → place (numbers_with at count) g ≡ Some (g + 1)
  behind g less from = numbered g less ∙ ap (λ b. Some (cond b g (g + 1))) (higher g at from)

  pub come : at ≤ count → HasCome (numbers_with at count) count (count + 1) at
  come within = record {
    files = sym as_many;
    count = refl;
    within = within;
    front = λ g before. front g (omega (arith, before, within)) before;
    behind = λ g from less. behind g less from;
  }

-- ---- where the file comes behind all others

module _ (at count : ℕ) (last : count ≤ at) where
  decl_stays : (r : DeclRef) → decl_moved (numbers_with at count) r ≡ r
  decl_stays r = elim (cases_lt r.file count) [
    | inl less ↦ ap (λ o. record { file = unwrap_or o r.file; number = r.number }) (front at count r.file less (omega (arith, less, last)))
    | inr past ↦ ap (λ o. record { file = unwrap_or o r.file; number = r.number }) (unnumbered at count r.file past)
  ]

  moves_none : decl_moved (numbers_with at count) ≡ (λ (r : DeclRef). r)
  moves_none = fun_ext decl_stays

  pub all_stay : (links : List Links) → links ≡ map (links_after (decl_moved (numbers_with at count))) links
  all_stay links = sym (ap (λ (move : DeclRef → DeclRef). map (links_after move) links) moves_none ∙ ap (λ (f : Links → Links). map f links) (fun_ext links_same) ∙ map-id links)
    where
      target_same : (t : Target) → target_after (λ r. r) t ≡ t
      target_same (Declared r) = refl
      target_same (Package name) = refl

      use_same : (u : NameUse) → use_after (λ r. r) u ≡ u
      use_same u = ap (λ (t : Target). record { span = u.span; name = u.name; target = t }) (target_same u.target)

      links_same : (l : Links) → links_after (λ r. r) l ≡ l
      links_same l = ap (λ (us : List NameUse). record { uses = us; diags = l.diags }) (ap (λ (f : NameUse → NameUse). map f l.uses) (fun_ext use_same) ∙ map-id l.uses)

-- ---- the workspace with the file

module _ (old : Workspace) (at : ℕ) (file : SourceAt) (within : at ≤ length old) where
  abbrev w : Workspace
  w = insert old at file

  longer : length w ≡ length old + 1
  longer = length-insert old at file within

  stay : Stay old w (numbers_with at (length old))
  stay g n moves = elim (cases_lt g (length old)) [
    | inr past ↦ let no : None ≡ Some n = sym (unnumbered at (length old) g past) ∙ moves in absurd (cc)
    | inl less ↦ elim (cases_lt g at) [
      | inl before ↦
          let is : n ≡ g = same_Some n g (sym moves ∙ front at (length old) g less before) in record {
            there = less;
            here = omega (arith, less, is, longer);
            same = sym (ap (λ m. get_or w m no_file) is ∙ get_or-insert_below old at file no_file g before within);
          }
      | inr from ↦
          let is : n ≡ g + 1 = same_Some n (g + 1) (sym moves ∙ behind at (length old) g less from) in record {
            there = less;
            here = omega (arith, less, is, longer);
            same = sym (ap (λ m. get_or w m no_file) is ∙ get_or-insert_above old at file no_file g from within);
          }
    ]
  ]

  comes : NobodyImports (all_facts old) file.0 → ComesUnimported (all_facts old) w (numbers_with at (length old)) at
  comes nobody = record {
    came = subst (λ n. HasCome (numbers_with at (length old)) n (length w) at) (sym (length-map old named_facts)) (subst (λ n. HasCome (numbers_with at (length old)) (length old) n at) (sym longer) (come at (length old) within));
    nobody = subst (λ (f : SourceAt). NobodyImports (all_facts old) f.0) (sym (get_or-insert_at old at file no_file within)) nobody;
  }

  -- its facts are put among those of the others in the order of the paths
  in_order : IsStrictlySortedBy (slice_cmp nat_cmp) (map (λ f. f.0) w) → IsInPathOrder (insert (all_facts old) at (named_facts file))
  in_order ordered = subst (λ (files : List NamedFacts). IsInPathOrder files) (map_insert named_facts old at file) (ordered_files w ordered)

-- the parts of the analysis with the file, which gets the number at which its path goes among those of the files
pub arrived : (a : AnalysisData) (file : SourceAt) (arrives : Arrives a file) (k : ℕ) (parts : AnalysisParts) → AreParts (workspace_in a) parts
    → ((at : ℕ) (f : NamedFacts) → f.path ≡ file.0 → at ≤ length parts.table → IsInPathOrder (insert parts.table at f) → k ≡ at) → MovedLaw → ArrivalLaw
    → TakesIn (insert arrives.old arrives.at file) (numbers_with k (length parts.files.items)) k file parts
arrived a file arrives k parts are placed moved_law arrival_law =
    let old = arrives.old in
    let of : AreParts old parts = subst (λ (w : Workspace). AreParts w parts) (ap workspace_in arrives.is ∙ known_workspace old) are in
    let many : length parts.files.items ≡ length old = ap length of.files in
    let facts : a.facts ≡ map (λ (f : NamedFacts). f.facts) (all_facts old) = ap (λ (b : AnalysisData). b.facts) arrives.is ∙ sym (map-map (λ (f : NamedFacts). f.facts) named_facts old) in
    let nobody : NobodyImports (all_facts old) file.0 = nobody_imports (all_facts old) file.0 (subst (λ (facts : List FileFacts). NoneImports facts file.0) facts arrives.nobody) in
    let ordered : IsInPathOrder (insert parts.table arrives.at (named_facts file)) =
    subst (λ (files : List NamedFacts). IsInPathOrder (insert files arrives.at (named_facts file))) (sym of.table) (in_order old arrives.at file arrives.within arrives.ordered) in
    let here : k ≡ arrives.at = placed arrives.at (named_facts file) refl (omega (arith, arrives.within, ap length of.table, length-map old named_facts)) ordered in
    subst (λ k. TakesIn (insert old arrives.at file) (numbers_with k (length parts.files.items)) k file parts) (sym here)
    (subst (λ n. TakesIn (insert old arrives.at file) (numbers_with arrives.at n) arrives.at file parts) (sym many)
    (with_it old (insert old arrives.at file) (numbers_with arrives.at (length old)) arrives.at file parts of ordered (stay old arrives.at file arrives.within)
    (comes old arrives.at file arrives.within nobody) (get_or-insert_at old arrives.at file no_file arrives.within) moved_law arrival_law))
