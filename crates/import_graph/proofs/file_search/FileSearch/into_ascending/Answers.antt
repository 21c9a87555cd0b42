use Rattle.std.proofs.Common.{◌≡◌, ◌↔◌, ℕ}
use Rattle.std.specs.Prelude.{Contains}
use Rattle.std.specs.List.Sorted.{IsStrictlyIncreasing}
use Rattle.std.proofs.lemmas.Result.{IfOk-weaker}
use Rattle.import_graph.specs.FileSearches.{IsSeen, flagged}
use Rattle.import_graph.proofs.Flagged.{flagged_rises, flagged_has}
use Rattle.import_graph.proofs.file_search.FileSearch.into_ascending.Goals as goal

pub returns-then-len-clause-exact : goal.returns-then-len-clause-exact
returns-then-len-clause-exact c g = let has = c.ascending.ensures.exact g in (λ in_list. (c.requires g).1 (has.0 in_list), λ seen. has.1 ((c.requires g).0 seen))

pub returns-clause-ascending : goal.returns-clause-ascending
returns-clause-ascending c =
    IfOk-weaker c.flagged.result (λ v. v.items ≡ flagged c.as_slice.result.now) (λ v. IsStrictlyIncreasing v.items) (λ v is. rw is (flagged_rises c.as_slice.result.now)) c.flagged.ensures

pub returns-clause-exact : goal.returns-clause-exact
returns-clause-exact c =
    IfOk-weaker c.flagged.result (λ v. v.items ≡ flagged c.as_slice.result.now) (λ v. (g : ℕ) → Contains v.items g ↔ IsSeen c.args.self g)
    (λ v is g. rw (is, c.as_slice.ensures.value) (flagged_has c.args.self.seen.items g)) c.flagged.ensures
