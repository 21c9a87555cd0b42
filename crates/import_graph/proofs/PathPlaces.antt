-- The place of a file among those that it comes to, in the order of their paths.
use Rattle.std.proofs.Common.{◌≡◌, ◌∙◌, inl, inr, ap, ap₂, sym, ℕ, ◌+◌, ◌<◌, ◌≤◌, List, Bool, true, false, length, get_or, arith}
use Rattle.std.specs.List.{insert}
use Rattle.std.specs.List.Sorted.{IsPartitionedBy, IsPartitionPoint}
use Rattle.std.specs.Cmp.Lexicographic.{slice_cmp}
use Rattle.std.specs.Ordering.{nat_cmp, is_lt, ordering_reverse}
use Rattle.std.specs.declared.cmp.Ordering.{Ordering}
use Rattle.std.specs.declared.cmp.Ordering.TheVariants.{Less, Greater}
use Rattle.std.proofs.lemmas.Bool.{cases_eq, cases_lt}
use Rattle.std.proofs.lemmas.Cmp.{nat_list_cmp_total}
use Rattle.std.proofs.lemmas.List.Edits.{get_or-insert_above, get_or-insert_at, get_or-insert_below, length-insert}
use Rattle.import_graph.specs.Paths.{IsInPathOrder}
use Rattle.proto_decls.specs.declared.named_facts.NamedFacts.{NamedFacts}

-- whether a file's path is before a text
abbrev pub is_before : List ℕ → NamedFacts → Bool
is_before path f = is_lt (slice_cmp nat_cmp f.path path)

abbrev compared : NamedFacts → NamedFacts → Ordering
compared a b = slice_cmp nat_cmp a.path b.path

module _ (files : List NamedFacts) (at : ℕ) (file : NamedFacts) (room : at ≤ length files) (ordered : IsInPathOrder (insert files at file)) where
  long : length (insert files at file) ≡ length files + 1
  long = length-insert files at file room

  lower : (i : ℕ) (d : NamedFacts) → i < at → is_before file.path (get_or files i d) ≡ true
  lower i d lt =
      let less : compared (get_or (insert files at file) i d) (get_or (insert files at file) at d) ≡ Less = ordered i at d lt (omega (arith, room, long)) in
      let same = ap₂ (λ (a b : NamedFacts). compared a b) (get_or-insert_below files at file d i lt room) (get_or-insert_at files at file d room) in
      ap is_lt (sym same ∙ less)

  higher : (i : ℕ) (d : NamedFacts) → at ≤ i → i < length files → is_before file.path (get_or files i d) ≡ false
  higher i d le lt =
      let less : compared (get_or (insert files at file) at d) (get_or (insert files at file) (i + 1) d) ≡ Less = ordered at (i + 1) d (omega (arith, le)) (omega (arith, lt, long)) in
      let same = ap₂ (λ (a b : NamedFacts). compared a b) (get_or-insert_at files at file d room) (get_or-insert_above files at file d i le room) in
      let more : compared (get_or files i d) file ≡ Greater =
      nat_list_cmp_total.antisymm (let a = get_or files i d in a.path) file.path ∙ ap ordering_reverse (sym same ∙ less) in
      ap is_lt more

  pub turns_once : IsPartitionedBy (is_before file.path) files
  turns_once i j d le lt e = elim (cases_lt i at) [
    | inl before ↦ lower i d before
    | inr behind ↦ absurd (cc (e, higher j d (omega (arith, behind, le)) lt))
  ]

  pub turns_there : (i : ℕ) → i ≤ length files → IsPartitionPoint (λ f. is_before file.path f ≡ true) (λ f. is_before file.path f ≡ false) files i → i ≡ at
  turns_there i within point = elim (cases_eq i at) [
    | inl same ↦ same
    | inr other ↦ elim (cases_lt i at) [
      | inl before ↦ absurd (cc (lower i file before, point.1 i file (omega arith) (omega (arith, before, room))))
      | inr behind ↦ absurd (cc (higher at file (omega arith) (omega (arith, behind, other, within)), point.0 at file (omega arith) (omega (arith, behind, other))))
    ]
  ]
