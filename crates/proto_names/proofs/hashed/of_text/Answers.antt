use Rattle.std.proofs.Common.{◌≡◌, ◌<◌, ◌∙◌, sym, subst, true, drop, get_or, length, bytes_eq, rules}
use Rattle.std.specs.Cmp.Lexicographic.{slice_cmp}
use Rattle.std.specs.Ordering.{nat_cmp, is_lt}
use Rattle.std.proofs.lemmas.List.Sorted.{IsPartitionPoint-from_clause}
use Rattle.proto_names.specs.declared.decl_ref.DeclRef.{DeclRef}
use Rattle.proto_decls.specs.Text.{joined}
use Rattle.proto_names.proofs.Hashes.{all_of_text, some_there, text_first, of_one_text}
use Rattle.proto_names.proofs.PackageFronts.{to_end}
use Rattle.proto_names.proofs.Prefixes.{parted}
use Rattle.proto_names.proofs.hashed.of_text.Goals as goal
use Rattle.proto_names.proofs.hashed.of_text.Goals.{then-last-eq0, else-last-eq0}

pub returns-then-has_text-2 : goal.returns-then-has_text-2
returns-then-has_text-2 g c =
    let nothing : DeclRef = record { file = 0; number = 0 } in
    let some : 0 < length c.args.decls.now = some_there (length c.args.decls.now) (sym c.if-is_empty.ensures) in
    elim c.if-last-eq0.branch [
      | then-last-eq0 w ↦
          all_of_text (g.N.Naming.part c.args.files.now) c.args.decls.now (joined c.args.text.scope.now c.args.text.last.now) c.requires.sorted nothing (sym c.if-has_text.ensures)
          (subst (λ k. bytes_eq (g.N.Naming.part c.args.files.now (get_or c.args.decls.now k nothing)) (joined c.args.text.scope.now c.args.text.last.now) ≡ true) (sym w.if-last-eq0.true) (sym c.if-has_text.ensures)) some
      | else-last-eq0 w ↦
          all_of_text (g.N.Naming.part c.args.files.now) c.args.decls.now (joined c.args.text.scope.now c.args.text.last.now) c.requires.sorted nothing (sym c.if-has_text.ensures)
          (sym w.has_text-else-last-eq0.ensures ∙ sym w.value-is ∙ c.if-has_text-2.true) some
    ]

pub returns : goal.returns
returns g c =
    let whole = to_end c.partition_point-start.result c.args.decls.now in
    let start = IsPartitionPoint-from_clause (λ r. is_lt (slice_cmp nat_cmp (g.N.Naming.part c.args.files.now r) (joined c.args.text.scope.now c.args.text.last.now))) c.args.decls.now c.partition_point-start.result
    c.partition_point-start.ensures.partitioned (parted (g.N.Naming.part c.args.files.now) c.args.decls.now (joined c.args.text.scope.now c.args.text.last.now) c.requires.sorted) (λ a r q k. search rules) in
    let end = IsPartitionPoint-from_clause (λ r. bytes_eq (g.N.Naming.part c.args.files.now r) (joined c.args.text.scope.now c.args.text.last.now)) (drop c.partition_point-start.result c.args.decls.now) c.partition_point-count.result
    (rw whole at c.partition_point-count.ensures.partitioned) (text_first (g.N.Naming.part c.args.files.now) c.args.decls.now (joined c.args.text.scope.now c.args.text.last.now) c.requires.sorted c.partition_point-start.result start) (λ a r q k. search rules) in
    rw whole (of_one_text (g.N.Naming.part c.args.files.now) c.args.decls.now (joined c.args.text.scope.now c.args.text.last.now) c.requires.sorted c.partition_point-start.result c.partition_point-count.result start end)
