use Rattle.std.proofs.Common.{◌≡◌, ℕ, List, length, map, ◌∙◌, ap, refl, subst, sym, arith}
use Rattle.std.specs.Prelude.{All}
use Rattle.std.proofs.lemmas.List.{take_all, length-map}
use Rattle.import_graph.specs.Imports.{graph_of, imports_of, targets, public_targets}
use Rattle.import_graph.specs.Walks.{AllWithin}
use Rattle.import_graph.specs.declared.imports.FileImports.{FileImports}
use Rattle.proto_decls.specs.declared.named_facts.NamedFacts.{NamedFacts}
use Rattle.import_graph.proofs.ImportEdges.{graph_within}
use Rattle.import_graph.proofs.Views.{imports_within, public_within}
use Rattle.import_graph.proofs.graph.Graph.of.Goals as goal

pub condensed_steps-requires : goal.condensed_steps-requires
condensed_steps-requires c =
    let whole : c.loop-file.file_imports.items ≡ graph_of c.args.files.now = c.loop-file.invariant.file_imports
    ∙ ap (λ (fs : List NamedFacts). map (λ f. imports_of c.args.files.now f.facts) fs) (take_all _ c.args.files.now c.loop-file-test.false) in
    let listed : c.as_slice-2.result.now ≡ map public_targets (graph_of c.args.files.now) = c.as_slice-2.ensures.value ∙ (c.loop-file.invariant.public ∙ ap (λ (g : List FileImports). map public_targets g) whole) in
    rw listed (public_within (graph_of c.args.files.now) (graph_within c.args.files.now))

pub components_of-requires : goal.components_of-requires
components_of-requires c =
    let whole : c.loop-file.file_imports.items ≡ graph_of c.args.files.now = c.loop-file.invariant.file_imports
    ∙ ap (λ (fs : List NamedFacts). map (λ f. imports_of c.args.files.now f.facts) fs) (take_all _ c.args.files.now c.loop-file-test.false) in
    let listed : c.as_slice-3.result.now ≡ map targets (graph_of c.args.files.now) = c.as_slice-3.ensures.value ∙ (c.loop-file.invariant.imports ∙ ap (λ (g : List FileImports). map targets g) whole) in
    rw listed (imports_within (graph_of c.args.files.now) (graph_within c.args.files.now))

-- there are as many steps as files
steps_counted : (c : goal.After-as_slice-5) → length c.in_ok-steps.steps.items ≡ length c.loop-file.file_imports.items
steps_counted c =
    let named : c.as_slice-2.result.now ≡ map public_targets c.loop-file.file_imports.items = c.as_slice-2.ensures.value ∙ c.loop-file.invariant.public in
    let many : length c.as_slice-2.result.now ≡ length c.loop-file.file_imports.items = rw (named, length-map) refl in
    omega (arith, many, c.in_ok-steps.ensures.length, c.in_ok-steps.steps.ok)

pub shared_lists-requires-clause-steps : goal.shared_lists-requires-clause-steps
shared_lists-requires-clause-steps c =
    let long : length c.in_ok-steps.steps.items ≡ length c.as_slice-2.result.now = omega (arith, c.in_ok-steps.ensures.length, c.in_ok-steps.steps.ok) in
    rw c.as_slice-4.ensures.value (subst (λ (n : ℕ). All (AllWithin n) c.in_ok-steps.steps.items) (sym long) c.in_ok-steps.ensures.within)

pub shared_lists-requires-clause-imports : goal.shared_lists-requires-clause-imports
shared_lists-requires-clause-imports c =
    let whole : c.loop-file.file_imports.items ≡ graph_of c.args.files.now = c.loop-file.invariant.file_imports
    ∙ ap (λ (fs : List NamedFacts). map (λ f. imports_of c.args.files.now f.facts) fs) (take_all _ c.args.files.now c.loop-file-test.false) in
    let listed : c.as_slice-5.result.now ≡ map targets (graph_of c.args.files.now) = c.as_slice-5.ensures.value ∙ (c.loop-file.invariant.imports ∙ ap (λ (g : List FileImports). map targets g) whole) in
    let counted : length c.as_slice-4.result.now ≡ length (map targets (graph_of c.args.files.now)) =
    ap length c.as_slice-4.ensures.value ∙ (steps_counted c ∙ (ap length whole ∙ sym (length-map (graph_of c.args.files.now) targets))) in
    rw (counted, listed) (imports_within (graph_of c.args.files.now) (graph_within c.args.files.now))

pub shared_lists-requires-clause-count : goal.shared_lists-requires-clause-count
shared_lists-requires-clause-count c =
    let listed : length c.loop-file.imports.items ≡ length c.loop-file.file_imports.items = rw (c.loop-file.invariant.imports, length-map) refl in
    ap length c.as_slice-5.ensures.value ∙ (listed ∙ (sym (steps_counted c) ∙ sym (ap length c.as_slice-4.ensures.value)))

pub invariant_of-result : goal.invariant_of-result
invariant_of-result c =
    let whole : c.loop-file.file_imports.items ≡ graph_of c.args.files.now = c.loop-file.invariant.file_imports
    ∙ ap (λ (fs : List NamedFacts). map (λ f. imports_of c.args.files.now f.facts) fs) (take_all _ c.args.files.now c.loop-file-test.false) in
    let listed : c.as_slice-3.result.now ≡ map targets c.loop-file.file_imports.items = c.as_slice-3.ensures.value ∙ c.loop-file.invariant.imports in
    let long : length c.as_slice-3.result.now ≡ length c.loop-file.file_imports.items = rw (listed, length-map) refl in
    let named : c.as_slice-2.result.now ≡ map public_targets c.loop-file.file_imports.items = c.as_slice-2.ensures.value ∙ c.loop-file.invariant.public in
    let many : length c.as_slice-2.result.now ≡ length c.loop-file.file_imports.items = rw (named, length-map) refl in
    record {
      within = rw whole (graph_within c.args.files.now);
      complete = rw c.as_slice.ensures.value at c.in_ok-complete.ensures;
      imports = c.loop-file.invariant.imports;
      counted = omega (arith, many, c.in_ok-steps.ensures.length, c.in_ok-steps.steps.ok);
      stay = rw many at c.in_ok-steps.ensures.within;
      public = rw named at c.in_ok-steps.ensures.alike;
      numbered = omega (arith, long, c.in_ok-components.ensures.numbered);
      flagged = omega (arith, long, c.in_ok-components.ensures.flagged);
      tied = rw listed at c.in_ok-components.ensures.tied;
      descends = rw listed at c.in_ok-components.ensures.descends;
      lists = rw (c.as_slice-4.ensures.value, c.as_slice-5.ensures.value) at c.in_ok-shared.ensures;
    }
