-- The order of files without one of them, and of those that another one comes to.
use Rattle.std.proofs.Common.{◌≡◌, ◌∙◌, ◌<◌, ◌≤◌, ◌+◌, ℕ, List, None, Err, get_or, length, sym, ap, ap₂, arith}
use Rattle.std.specs.Prelude.{bytes_eq, position}
use Rattle.std.specs.Cmp.Lexicographic.{slice_cmp}
use Rattle.std.specs.List.{insert, remove}
use Rattle.std.specs.Ordering.{nat_cmp, ordering_reverse}
use Rattle.std.specs.declared.cmp.Ordering.{Ordering}
use Rattle.std.specs.declared.cmp.Ordering.TheVariants.{Less, Greater}
use Rattle.std.proofs.lemmas.Cmp.{nat_list_cmp_total}
use Rattle.std.proofs.lemmas.List.Edits.{get_or-insert_above, get_or-insert_at, get_or-insert_below, length-insert, length-remove}
use Rattle.proto_decls.specs.declared.named_facts.NamedFacts.{NamedFacts}
use Rattle.import_graph.specs.Paths.{IsInPathOrder}
use Rattle.import_graph.proofs.ByPath.{searched}
use Rattle.proto_names.specs.declared.moving.Change.TheVariants.{Comes}
use Rattle.proto_names.specs.Moved.{number_after}
use Rattle.proto_names.proofs.MovedFiles.{one_more_at_most, rises, nobody, put_back, read_moved}

-- ---- files without one of them

others_in_order : (files : List NamedFacts) (at : ℕ) (file : NamedFacts) → at ≤ length files → IsInPathOrder (insert files at file) → IsInPathOrder files
others_in_order files at file within ordered i j other before there =
    let most = one_more_at_most at j in
    let long = length-insert files at file within in
    rw (← read_moved files at file i other within, ← read_moved files at file j other within)
    (ordered (number_after Comes at i) (number_after Comes at j) other (rises at i j before) (omega (arith, most, long, there)))

pub rest_in_order : (files : List NamedFacts) (at : ℕ) → at < length files → IsInPathOrder files → IsInPathOrder (remove files at)
rest_in_order files at there ordered =
    let fewer = length-remove files at there in
    others_in_order (remove files at) at (get_or files at nobody) (omega (arith, fewer, there)) (rw (put_back files at nobody there) ordered)

-- ---- a file that comes

abbrev compared : NamedFacts → NamedFacts → Ordering
compared a b = slice_cmp nat_cmp a.path b.path

module _ (files : List NamedFacts) (at : ℕ) (file : NamedFacts) (within : at ≤ length files) (ordered : IsInPathOrder (insert files at file)) where
  long : length (insert files at file) ≡ length files + 1
  long = length-insert files at file within

  lower : (k : ℕ) (d : NamedFacts) → k < at → compared (get_or files k d) file ≡ Less
  lower k d before =
      sym (ap₂ compared (get_or-insert_below files at file d k before within) (get_or-insert_at files at file d within))
      ∙ ordered k at d before (omega (arith, within, long))

  higher : (k : ℕ) (d : NamedFacts) → at ≤ k → k < length files → compared (get_or files k d) file ≡ Greater
  higher k d from there =
      let less = ap₂ compared (get_or-insert_at files at file d within) (get_or-insert_above files at file d k from within) in
      nat_list_cmp_total.antisymm (let a = get_or files k d in a.path) file.path
      ∙ ap ordering_reverse (sym less ∙ ordered at (k + 1) d (omega (arith, from)) (omega (arith, there, long)))

  -- none of the others has its path
  pub new_path : position (λ f. bytes_eq f.path file.path) files ≡ None
  new_path = sym (searched files (others_in_order files at file within ordered) file.path (Err at) within (λ rises. (λ k d from before. lower k d before, higher)))
