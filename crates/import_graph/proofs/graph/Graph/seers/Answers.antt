use Rattle.std.proofs.Common.{◌≡◌, ◌⊎◌, ◌↔◌, ℕ, List, length, ap, map, subst, sym, ◌∙◌}
use Rattle.std.specs.Prelude.{Contains, All}
use Rattle.std.proofs.lemmas.List.{length-map}
use Rattle.import_graph.specs.declared.imports.FileImports.{FileImports}
use Rattle.import_graph.specs.Condensed.{LeadAlike, LeadsToOne}
use Rattle.import_graph.specs.FileSearches.{IsSeen, ImportsSeen}
use Rattle.import_graph.specs.Imports.{targets, public_targets}
use Rattle.import_graph.specs.Walks.{AllWithin}
use Rattle.import_graph.proofs.Seers.{seers_by_search}
use Rattle.import_graph.proofs.Views.{Within, imports_within}
use Rattle.import_graph.proofs.graph.Graph.seers.Goals as goal

pub leading_to-requires-clause-files : goal.leading_to-requires-clause-files
leading_to-requires-clause-files c =
    let steps : length c.as_slice-steps.result.now ≡ length c.args.self.now = ap length c.as_slice-steps.ensures.value ∙ (c.self.invariant.counted ∙ ap length c.self.view_is) in
    subst (λ (n : ℕ). AllWithin n c.args.files.now) (sym steps) c.requires

pub importing-requires-clause-imports : goal.importing-requires-clause-imports
importing-requires-clause-imports c =
    let within : Within c.args.self.now = rw c.self.view_is at c.self.invariant.within in
    let imports : c.as_slice.result.now ≡ map targets c.args.self.now = c.as_slice.ensures.value ∙ (c.self.invariant.imports ∙ ap (λ (g : List FileImports). map targets g) c.self.view_is) in
    let steps : length c.as_slice-steps.result.now ≡ length (map targets c.args.self.now) =
    ap length c.as_slice-steps.ensures.value ∙ (c.self.invariant.counted ∙ (ap length c.self.view_is ∙ sym (length-map c.args.self.now targets))) in
    rw imports (subst (λ (n : ℕ). All (AllWithin n) (map targets c.args.self.now)) (sym (c.in_ok-leading.ensures.count ∙ steps)) (imports_within c.args.self.now within))

pub importing-requires-clause-count : goal.importing-requires-clause-count
importing-requires-clause-count c =
    let imports : c.as_slice.result.now ≡ map targets c.args.self.now = c.as_slice.ensures.value ∙ (c.self.invariant.imports ∙ ap (λ (g : List FileImports). map targets g) c.self.view_is) in
    let steps : length c.as_slice-steps.result.now ≡ length (map targets c.args.self.now) =
    ap length c.as_slice-steps.ensures.value ∙ (c.self.invariant.counted ∙ (ap length c.self.view_is ∙ sym (length-map c.args.self.now targets))) in
    c.in_ok-leading.ensures.count ∙ (steps ∙ sym (ap length imports))

pub returns-clause-exact : goal.returns-clause-exact
returns-clause-exact c g =
    let imports : c.as_slice.result.now ≡ map targets c.args.self.now = c.as_slice.ensures.value ∙ (c.self.invariant.imports ∙ ap (λ (g : List FileImports). map targets g) c.self.view_is) in
    let alike : LeadAlike c.self.inside.steps.items (map public_targets c.args.self.now) = rw c.self.view_is at c.self.invariant.public in
    let found : (h : ℕ) → IsSeen c.in_ok-leading.leading h ↔ LeadsToOne c.self.inside.steps.items c.args.files.now h = rw c.as_slice-steps.ensures.value at c.in_ok-leading.ensures.exact in
    let sees = seers_by_search c.args.self.now c.self.inside.steps.items alike c.args.files.now c.in_ok-leading.leading found g in
    let has : Contains c.in_ok-seers.seers.items g ↔ IsSeen c.in_ok-leading.leading g ⊎ ImportsSeen (map targets c.args.self.now) c.in_ok-leading.leading g = rw imports at c.in_ok-seers.ensures.exact g in
    (λ in_list. sees.0 (has.0 in_list), λ s. has.1 (sees.1 s))
