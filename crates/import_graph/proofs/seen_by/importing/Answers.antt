use Rattle.std.proofs.Common.{◌≡◌, ℕ, List, [], ◌∷◌, ◌++◌, inl, ◌<◌, true, false, length, get_or, filter, sym, ap, subst, ◌∙◌, arith}
use Rattle.std.specs.List.{range_with_len}
use Rattle.std.specs.List.Sorted.{IsStrictlyIncreasing}
use Rattle.std.proofs.lemmas.List.{get_or_default}
use Rattle.import_graph.proofs.Closures.{or_right}
use Rattle.import_graph.proofs.Flagged.{passes_too, does_not_pass}
use Rattle.import_graph.proofs.Seers.{is_importing, is_one_seen, importing_is, importing_rises, importing_has}
use Rattle.import_graph.proofs.seen_by.importing.Goals.{then-has_seen+in_ok-push, then-has_seen-via-then-has_seen, then-has_seen-via-else-has_seen+then-has_seen_one, else-has_seen+else-has_seen_one}
use Rattle.import_graph.proofs.seen_by.importing.Goals as goal

-- what a file imports, also where the row is read with another default
row : (imports : List (List ℕ)) (importer : ℕ) (item files : List ℕ) → importer < length imports → item ≡ get_or imports importer item → files ≡ item → files ≡ get_or imports importer []
row imports importer item files lt is same = same ∙ (is ∙ get_or_default imports importer item [] lt)

pub loop-importer-preserved : goal.loop-importer-preserved
loop-importer-preserved c =
    let seen = c.has_seen.ensures in
    elim c.if-has_seen.branch [
      | then-has_seen+in_ok-push w ↦
          let passes : is_importing c.args.imports.now c.args.search.now c.loop-importer.importer ≡ true = elim w.then-has_seen.branch [
            | then-has_seen-via-then-has_seen w' ↦ (importing_is c.args.imports.now c.args.search.now c.loop-importer.importer).1 (inl (sym seen ∙ w'.if-has_seen.true))
            | then-has_seen-via-else-has_seen+then-has_seen_one w' ↦
                or_right (get_or c.args.search.now.seen.items c.loop-importer.importer false) (is_one_seen c.args.search.now (get_or c.args.imports.now c.loop-importer.importer []))
                (ap (is_one_seen c.args.search.now) (sym (row _ _ _ _ c.loop-importer-test.true c.index-imports-importer.is w'.as_slice.ensures)) ∙ (sym w'.has_seen_one.ensures ∙ w'.if-has_seen_one.true))
          ] in
          rw w.found-is (w.in_ok-push.ensures.items ∙ (ap (λ (xs : List ℕ). xs ++ c.loop-importer.importer ∷ []) c.loop-importer.invariant
          ∙ sym (passes_too (is_importing c.args.imports.now c.args.search.now) c.loop-importer.importer passes)))
      | else-has_seen+else-has_seen_one w ↦
          let other : get_or c.args.search.now.seen.items c.loop-importer.importer false ≡ false = sym seen ∙ w.if-has_seen.false in
          let none : is_one_seen c.args.search.now (get_or c.args.imports.now c.loop-importer.importer []) ≡ false =
          ap (is_one_seen c.args.search.now) (sym (row _ _ _ _ c.loop-importer-test.true c.index-imports-importer.is w.as_slice.ensures)) ∙ (sym w.has_seen_one.ensures ∙ w.if-has_seen_one.false) in
          let fails : is_importing c.args.imports.now c.args.search.now c.loop-importer.importer ≡ false = rw other none in
          rw w.found-is (c.loop-importer.invariant ∙ sym (does_not_pass (is_importing c.args.imports.now c.args.search.now) c.loop-importer.importer fails))
    ]

-- what was found of all importers
whole : (c : goal.After-loop-importer) → c.loop-importer.found.items ≡ filter (is_importing c.args.imports.now c.args.search.now) (range_with_len 0 (length c.args.imports.now))
whole c =
    let all : c.loop-importer.importer ≡ length c.args.imports.now = omega arith in
    c.loop-importer.invariant ∙ ap (λ (n : ℕ). filter (is_importing c.args.imports.now c.args.search.now) (range_with_len 0 n)) all

pub returns-clause-ascending : goal.returns-clause-ascending
returns-clause-ascending c = subst (λ (v : List ℕ). IsStrictlyIncreasing v) (sym (whole c)) (importing_rises c.args.imports.now c.args.search.now)

pub returns-clause-exact : goal.returns-clause-exact
returns-clause-exact c g =
    let long : length c.args.search.now.seen.items ≡ length c.args.imports.now = omega (arith, c.requires.count, c.args.search.now.seen.ok) in
    rw (whole c) (importing_has c.args.imports.now c.args.search.now long g)
