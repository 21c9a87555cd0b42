-- What is known of files while changes are noted.
use Rattle.std.proofs.Common.{◌≡◌, ◌<◌, ◌||◌, ℕ, zero, suc, List, [], ◌∷◌, ◌++◌, Bool, true, false, cond, Option, Some, None, String, get_or, map, option_map, refl, sym, ap, subst, ◌∙◌, arith}
use Rattle.std.specs.Prelude.{Contains, IfSome, bytes_eq, string_bytes}
use Rattle.std.specs.Cmp.Lexicographic.{bytes_decides}
use Rattle.std.specs.List.{list_any}
use Rattle.std.specs.declared.alloc.Global.{Global}
use Rattle.std.proofs.lemmas.Bool.{false≢true}
use Rattle.std.proofs.lemmas.List.{map_push}
use Rattle.std.proofs.lemmas.List.Elements.{Contains-append_left, Contains-push}
use Rattle.collector_laws.proofs.Lists.{one_list}
use Rattle.work_index.specs.Workspace.{AnalysisData, IsKnown, Source, Workspace, analysis, sources_of, workspace_in}
use Rattle.work_index.proofs.Known.{known_workspace}
use Rattle.work_update.specs.Updates.{IsInOrder, NameAllChanges, sources_by_path}
use Rattle.work_files.specs.Files.{Files, AreInPathOrder, text_at, workspace}
use Rattle.work_space.specs.Kept.{AreNoted, IsOf, source_at}
use Rattle.work_files.specs.Texts.{TextsChangeAt}
use Rattle.work_space.specs.declared.last_analysis.LastAnalysis.{LastAnalysis}
use Rattle.work_update.proofs.ByPath.{sources-ascend}
use Rattle.work_update.proofs.Updates.{read_as}
use Rattle.work_space.proofs.Held.{source_in_workspace}
use Rattle.work_files.proofs.WorkspaceOrder.{ascend-texts}

-- ---- one more path

-- a path that is found among some is one of them
pub found_path : (paths : List (String Global)) (path : List ℕ) → list_any (λ own. bytes_eq (string_bytes own) path) paths ≡ true → Contains (map string_bytes paths) path
found_path [] path is = absurd (false≢true is)
found_path (own ∷ paths) path is = by (bytes_eq (string_bytes own) path) refl is (λ rest. found_path paths path rest)
  where
    by : (b : Bool) → bytes_eq (string_bytes own) path ≡ b → b || list_any (λ own. bytes_eq (string_bytes own) path) paths ≡ true
        → (list_any (λ own. bytes_eq (string_bytes own) path) paths ≡ true → Contains (map string_bytes paths) path) → Contains (string_bytes own ∷ map string_bytes paths) path
    by true same is next = (0, omega arith, (bytes_decides (string_bytes own) path).0 same)
    by false other is next = let rest = next is in (suc rest.0, omega (arith, rest.1), rest.2)

-- where it is there, nothing has to be added
pub noted_before : (paths : List (List ℕ)) (path : List ℕ) → Contains paths path → AreNoted path paths paths
noted_before paths path has = record { noted = has; kept = λ q there. there }

pub noted_now : (paths later : List (String Global)) (path : String Global) → later ≡ paths ++ path ∷ [] → AreNoted (string_bytes path) (map string_bytes paths) (map string_bytes later)
noted_now paths later path added =
    let are : map string_bytes later ≡ map string_bytes paths ++ string_bytes path ∷ [] = ap (map string_bytes) added ∙ map_push string_bytes paths path in
    subst (λ ps. AreNoted (string_bytes path) (map string_bytes paths) ps) (sym are) (record {
      noted = Contains-push (map string_bytes paths) (string_bytes path);
      kept = λ q there. Contains-append_left (map string_bytes paths) (string_bytes path ∷ []) q there;
    })

-- a path is the only one of a list of one
only : (p q : List ℕ) (k : ℕ) → k < 1 → get_or (p ∷ []) k q ≡ q → p ≡ q
only p q zero there same = same
only p q (suc k) there same = absurd (omega (arith, there))

pub known_noted : (path : List ℕ) (known : LastAnalysis) (r : Option LastAnalysis) (before after : List ℕ → Option Source) → NameAllChanges (path ∷ []) before after → IsOf known before
    → IfSome r (λ k. k.analysis ≡ known.analysis) → IfSome r (λ k. AreNoted path (map string_bytes known.changes.items) (map string_bytes k.changes.items)) → IfSome r (λ k. IsOf k after)
known_noted path known None before after change of same more = tt
known_noted path known (Some k) before after change of same more = record {
  is = subst (λ (a : AnalysisData). IsKnown a) (sym same) of.is;
  ordered = subst (λ (a : AnalysisData). IsInOrder (workspace_in a)) (sym same) of.ordered;
  changes = λ q out.
      change q (λ has. out (subst (Contains (map string_bytes k.changes.items)) (only path q has.0 has.1 has.2) more.noted))
      ∙ of.changes q (λ has. out (more.kept q has))
      ∙ ap (λ (a : AnalysisData). sources_by_path (workspace_in a) q) (sym same);
}

-- where the text at one path changes, that path names all changes
pub one_change : (reads_others : Bool) (path : List ℕ) (text : Option (List ℕ)) (old new : Files) → TextsChangeAt path text old new → NameAllChanges (path ∷ []) (source_at reads_others old) (source_at reads_others new)
one_change reads_others path text old new changes q out = ap (option_map (read_as reads_others)) (changes q ∙ by (bytes_eq path q) refl)
  where
    by : (b : Bool) → bytes_eq path q ≡ b → cond b text (text_at q old) ≡ text_at q old
    by false is = refl
    by true is = absurd (out (0, omega arith, (bytes_decides path q).0 is))

-- ---- the files as they are

module _ (reads_others : Bool) (files : Files) (now : LastAnalysis) (order : AreInPathOrder files) where
  abbrev own : Workspace
  own = sources_of reads_others (workspace files)

  -- an analysis of them
  pub known_fresh : now.analysis ≡ analysis own → now.changes.items ≡ [] → IsOf now (source_at reads_others files)
  known_fresh is none =
      let same : workspace_in now.analysis ≡ own = ap workspace_in is ∙ known_workspace own in record {
        is = record { is = is ∙ ap analysis (sym same) };
        ordered = subst IsInOrder (sym same) (sources-ascend reads_others (workspace files) (ascend-texts files order));
        changes = λ q out. sym (ap (λ w. sources_by_path w q) same ∙ source_in_workspace reads_others files order q);
      }

  -- where no change is noted, it is that of the files
  pub known_still : IsOf now (source_at reads_others files) → now.changes.items ≡ [] → now.analysis ≡ analysis own
  known_still of none =
      let known = workspace_in now.analysis in
      let named : NameAllChanges [] (sources_by_path known) (source_at reads_others files) =
      subst (λ (paths : List (String Global)). NameAllChanges (map string_bytes paths) (sources_by_path known) (source_at reads_others files)) none of.changes in
      let is = of.is in
      is.is ∙ ap analysis (one_list known own of.ordered (sources-ascend reads_others (workspace files) (ascend-texts files order)) (λ q. sym (named q (λ has. absurd (omega (arith, has.1)))) ∙ sym (source_in_workspace reads_others files order q)))
