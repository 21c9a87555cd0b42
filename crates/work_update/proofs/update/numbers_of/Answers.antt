use Rattle.std.proofs.Common.{◌∙◌, ◌++◌, List, ℕ, None, Some, String, Vec, ap, map, string_bytes, sym}
use Rattle.std.specs.Prelude.{bytes_eq, position}
use Rattle.std.specs.declared.alloc.Global.{Global}
use Rattle.std.proofs.lemmas.List.{append-nil, drop_all}
use Rattle.work_update.specs.Updates.{numbers_of}
use Rattle.work_update.proofs.Updates.{one_more_number}
use Rattle.work_update.proofs.update.numbers_of.Goals.{in-Some+in_ok-push, in_default}
use Rattle.work_update.proofs.update.numbers_of.Goals as goal

pub loop-path-preserved : goal.loop-path-preserved
loop-path-preserved c =
    let ps = c.args.earlier.now.paths in
    let changes : List (String Global) = c.args.changes.now in
    let found = c.number_of.ensures ∙ ap (λ p. position (λ q. bytes_eq q p) ps) (c.as_str.ensures.value ∙ ap string_bytes c.path-item.is) in
    elim c.match-number_of.branch [
      | in-Some+in_ok-push w ↦
          one_more_number ps changes c.loop-path.path-index c.path-item.result c.loop-path.numbers.items c.match-number_of.numbers.items (numbers_of ps (map string_bytes changes)) (Some w.in-Some.file) c.loop-path-test.true
          (sym w.in-Some.is ∙ found) (ap (λ (v : Vec ℕ Global). v.items) w.numbers-is ∙ w.in_ok-push.ensures.items) c.loop-path.invariant
      | in_default w ↦
          one_more_number ps changes c.loop-path.path-index c.path-item.result c.loop-path.numbers.items c.match-number_of.numbers.items (numbers_of ps (map string_bytes changes)) None c.loop-path-test.true
          (sym w.in_default.is ∙ found) (ap (λ (v : Vec ℕ Global). v.items) w.numbers-is ∙ sym (append-nil c.loop-path.numbers.items)) c.loop-path.invariant
    ]

pub returns : goal.returns
returns c =
    let ps = c.args.earlier.now.paths in
    let changes : List (String Global) = c.args.changes.now in
    sym (append-nil c.loop-path.numbers.items) ∙ ap (λ (rest : List (String Global)). c.loop-path.numbers.items ++ numbers_of ps (map string_bytes rest)) (sym (drop_all c.loop-path.path-index changes c.loop-path-test.false)) ∙ c.loop-path.invariant
