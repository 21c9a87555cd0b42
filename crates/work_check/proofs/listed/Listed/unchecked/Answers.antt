use Rattle.std.proofs.Common.{◌≡◌, ◌<◌, ◌∙◌, ap, filter, get_or, length, List, ℕ, subst, sym}
use Rattle.std.specs.Prelude.{All}
use Rattle.std.proofs.lemmas.List.{length-map}
use Rattle.std.proofs.lemmas.List.Elements.{All-filter}
use Rattle.work_shares.specs.Unchecked.{unchecked}
use Rattle.work_index.specs.Workspace.{named_facts, no_file}
use Rattle.work_shares.specs.Diagnosis.{DiagnosisData}
use Rattle.work_check.specs.Listing.{is_wanted}
use Rattle.work_check.proofs.listed.Listed.unchecked.Goals as goal

pub returns-clause-value : goal.returns-clause-value
returns-clause-value c =
    let l = c.args.self.now in
    c.in_ok-wanted.ensures ∙ ap (filter (λ n. is_wanted l.how (get_or l.files n no_file).0)) (c.as_slice.ensures.value ∙ (c.in_ok-all.ensures.value ∙ ap (λ (d : DiagnosisData). unchecked d.files) c.diagnosis.ensures))

pub returns-clause-within : goal.returns-clause-within
returns-clause-within c =
    let l = c.args.self.now in
    let long : length (let d = c.diagnosis.result.now in d.files) ≡ length l.files = ap (λ (d : DiagnosisData). length d.files) c.diagnosis.ensures ∙ length-map l.files named_facts in
    let all : All (λ n. n < length l.files) c.in_ok-all.all.items = subst (λ (k : ℕ). All (λ n. n < k) c.in_ok-all.all.items) long c.in_ok-all.ensures.within in
    let found = c.in_ok-wanted.ensures ∙ ap (filter (λ n. is_wanted l.how (get_or l.files n no_file).0)) c.as_slice.ensures.value in
    subst (λ (xs : List ℕ). All (λ n. n < length l.files) xs) (sym found) (All-filter (λ n. is_wanted l.how (get_or l.files n no_file).0) (λ n. n < length l.files) c.in_ok-all.all.items all)
