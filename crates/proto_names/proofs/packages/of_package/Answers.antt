use Rattle.std.proofs.Common.{◌∙◌, sym, ◌++◌, [], ◌∷◌, List, ℕ, drop, arith, rules}
use Rattle.std.specs.Prelude.{nat_eq}
use Rattle.std.specs.List.{starts_with}
use Rattle.std.specs.Cmp.Lexicographic.{slice_cmp}
use Rattle.std.specs.Ordering.{nat_cmp, is_lt}
use Rattle.std.proofs.lemmas.List.Sorted.{IsPartitionPoint-from_clause}
use Rattle.proto_names.specs.declared.packages.PackagedFile.{PackagedFile}
use Rattle.proto_decls.specs.FullNames.{dot}
use Rattle.proto_decls.specs.Text.{joined}
use Rattle.proto_names.proofs.PackageFronts.{to_end}
use Rattle.proto_names.proofs.Prefixes.{parted, begin_first, none_at, none_past, run_is}
use Rattle.proto_names.proofs.Apart.{both_no_longer}
use Rattle.proto_names.proofs.Packaged.{too_long}
use Rattle.proto_names.proofs.packages.of_package.Goals as goal
use Rattle.proto_names.proofs.packages.of_package.Goals.{then-start-files-via-then-start-files, then-start-files-via-else-start-files+then-not-begins_dotted}

pub returns-then-name-saturating_sub : goal.returns-then-name-saturating_sub
returns-then-name-saturating_sub c = λ test.
    let s = c.args.name.scope.now in
    let l = c.args.name.last.now in
    sym (too_long (joined s l) c.args.longest c.args.files.now test c.requires.longest (omega (arith, c.if-name-saturating_sub.true, both_no_longer s l, c.saturating_sub.ensures)))

pub returns-then-start-files : goal.returns-then-start-files
returns-then-start-files c = λ test.
    let key : List ℕ = joined c.args.name.scope.now c.args.name.last.now ++ dot ∷ [] in
    let bytes : PackagedFile → List ℕ = λ p. p.name in
    let start = IsPartitionPoint-from_clause (λ p. is_lt (slice_cmp nat_cmp (bytes p) key)) c.args.files.now c.partition_point-start.result
    c.partition_point-start.ensures.partitioned (parted bytes c.args.files.now key c.requires.by_package) (λ a r q k. search rules) in
    elim c.then-start-files.branch [
      | then-start-files-via-then-start-files w ↦ sym (none_past bytes c.args.files.now key c.requires.by_package c.partition_point-start.result start test (omega (arith, w.if-start-files.true)))
      | then-start-files-via-else-start-files+then-not-begins_dotted w ↦
          let fails = rw (w.as_bytes.ensures.value, w.as_str.ensures) at (sym w.begins_dotted.ensures ∙ w.if-not-begins_dotted.true) in
          sym (none_at bytes c.args.files.now key c.requires.by_package c.partition_point-start.result start w.index-files-start.result test fails)
    ]

pub returns : goal.returns
returns c = λ test.
    let key : List ℕ = joined c.args.name.scope.now c.args.name.last.now ++ dot ∷ [] in
    let bytes : PackagedFile → List ℕ = λ p. p.name in
    let start = IsPartitionPoint-from_clause (λ p. is_lt (slice_cmp nat_cmp (bytes p) key)) c.args.files.now c.partition_point-start.result
    c.partition_point-start.ensures.partitioned (parted bytes c.args.files.now key c.requires.by_package) (λ a r q k. search rules) in
    let first = begin_first bytes c.args.files.now key c.requires.by_package c.partition_point-start.result start in
    let whole = to_end c.partition_point-start.result c.args.files.now in
    let end = IsPartitionPoint-from_clause (λ p. starts_with nat_eq (bytes p) key) (drop c.partition_point-start.result c.args.files.now) c.partition_point-count.result
    (rw whole at c.partition_point-count.ensures.partitioned) first (λ a r q k. search rules) in
    rw whole (run_is bytes c.args.files.now key c.requires.by_package c.partition_point-start.result start c.partition_point-count.result end test)
