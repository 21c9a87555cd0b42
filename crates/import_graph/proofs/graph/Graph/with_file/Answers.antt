use Rattle.std.proofs.Common.{◌≡◌, ◌∙◌, ◌+◌, ap, sym, subst, ℕ, List, length, get_or, map, arith}
use Rattle.std.specs.Prelude.{All, vec_len}
use Rattle.std.specs.List.{insert}
use Rattle.std.proofs.lemmas.List.{length-map}
use Rattle.import_graph.specs.declared.imports.FileImports.{FileImports}
use Rattle.import_graph.specs.Arrivals.{HasArrived}
use Rattle.import_graph.specs.Coming.{HasNumber, rows_with}
use Rattle.import_graph.specs.Imports.{is_complete_in, public_targets, targets}
use Rattle.import_graph.specs.Walks.{AllWithin}
use Rattle.import_graph.proofs.GraphInserted.{own_there, with_own}
use Rattle.import_graph.proofs.GraphWithFile.{graph_is, is_graph, new_within, own_of, own_within, room}
use Rattle.import_graph.proofs.Views.{imports_within}
use Rattle.import_graph.proofs.graph.Graph.with_file.Goals as goal

pub components_with-requires-clause-own : goal.components_with-requires-clause-own
components_with-requires-clause-own c =
    let files = c.args.files.now in
    let old : List FileImports = c.self.inside.files.items in
    let at = c.args.at in
    let arrived : HasArrived files at old = subst (λ (g : List FileImports). HasArrived files at g) (sym c.self.view_is) c.requires.arrived in
    let own : FileImports = own_of files at old arrived in
    let le = room files at old arrived in
    let new_is : c.in_ok-graph.graph.items ≡ with_own old at own le = c.in_ok-graph.ensures ∙ graph_is files at old arrived in
    let row_is : c.as_slice-2.result.now ≡ targets own = c.as_slice-2.ensures ∙ c.in_ok-own.ensures ∙ ap targets (c.index.ensures ∙ ap (λ (graph : List FileImports). get_or graph at c.index.result.now) new_is ∙ own_there old at own le c.index.result.now) in
    let many : length old + 1 ≡ vec_len c.self.inside.components.numbers + 1 = omega (arith, c.self.invariant.numbered) in
    rw row_is (subst (λ n. AllWithin n (targets own)) many (own_within old at own le (new_within files at old arrived)))

pub rows_with-requires-clause-small : goal.rows_with-requires-clause-small
rows_with-requires-clause-small c =
    let old : List FileImports = c.self.inside.files.items in
    let stay : All (AllWithin (length (map targets old))) (map targets old) = imports_within old c.self.invariant.within in
    rw c.self.invariant.imports stay

pub rows_with-requires-2-clause-small : goal.rows_with-requires-2-clause-small
rows_with-requires-2-clause-small c =
    let steps : List (List ℕ) = c.self.inside.steps.items in
    subst (λ (n : ℕ). All (AllWithin n) steps) (sym c.self.invariant.counted) c.self.invariant.stay

pub with_file-requires-clause-small : goal.with_file-requires-clause-small
with_file-requires-clause-small c =
    let steps : List (List ℕ) = c.self.inside.steps.items in
    let lists : List (List ℕ) = c.self.inside.shared.lists.items in
    let rows : length c.self.inside.imports.items ≡ length c.self.inside.files.items = ap length c.self.invariant.imports ∙ length-map c.self.inside.files.items targets in
    let as_many : length steps ≡ vec_len c.self.inside.shared.numbers = omega (arith, c.self.invariant.counted, c.self.invariant.lists.as_many, c.self.inside.shared.numbers.ok.0, rows) in
    subst (λ (n : ℕ). All (AllWithin n) lists) as_many c.self.invariant.lists.listed

pub invariant_of-result : goal.invariant_of-result
invariant_of-result c =
    let files = c.args.files.now in
    let old : List FileImports = c.self.inside.files.items in
    let at = c.args.at in
    let arrived : HasArrived files at old = subst (λ (g : List FileImports). HasArrived files at g) (sym c.self.view_is) c.requires.arrived in
    let own : FileImports = own_of files at old arrived in
    let le = room files at old arrived in
    let new_is : c.in_ok-graph.graph.items ≡ with_own old at own le = c.in_ok-graph.ensures ∙ graph_is files at old arrived in
    let row_is : c.in_ok-own.own ≡ targets own =
    c.in_ok-own.ensures ∙ ap targets (c.index.ensures ∙ ap (λ (graph : List FileImports). get_or graph at c.index.result.now) new_is ∙ own_there old at own le c.index.result.now) in
    let public_is : c.in_ok-public.public ≡ public_targets own =
    c.in_ok-public.ensures ∙ ap public_targets (c.index-2.ensures ∙ ap (λ (graph : List FileImports). get_or graph at c.index-2.result.now) new_is ∙ own_there old at own le c.index-2.result.now) in
    let imports_are : c.in_ok-rows_with.field-0.items ≡ rows_with at (targets own) c.self.inside.imports.items =
    c.in_ok-rows_with.ensures ∙ ap (λ (row : List ℕ). rows_with at row c.self.inside.imports.items) row_is in
    let steps_are : c.in_ok-rows_with-2.field-0.items ≡ rows_with at (public_targets own) c.self.inside.steps.items =
    c.in_ok-rows_with-2.ensures ∙ ap (λ (row : List ℕ). rows_with at row c.self.inside.steps.items) public_is in
    let listed : c.as_slice.result.now ≡ with_own old at own le = c.as_slice.ensures.value ∙ new_is in
    let flags_are : c.in_ok-complete.complete.items ≡ insert c.self.inside.complete.items at (is_complete_in (with_own old at own le) own) =
    c.in_ok-complete.ensures own
    ∙ ap (λ (graph : List FileImports). insert c.self.inside.complete.items at (is_complete_in graph (get_or graph at own))) listed
    ∙ ap (λ (file : FileImports). insert c.self.inside.complete.items at (is_complete_in (with_own old at own le) file)) (own_there old at own le own) in
    let numbered : HasNumber at (targets own) c.self.inside.components c.in_ok-components.components =
    subst (λ (row : List ℕ). HasNumber at row c.self.inside.components c.in_ok-components.components) (c.as_slice-2.ensures ∙ row_is) c.in_ok-components.ensures in
    rw (new_is, imports_are, steps_are, flags_are)
    (is_graph old at own c.self.inside.imports.items c.self.inside.steps.items c.self.inside.complete.items c.self.inside.components c.in_ok-components.components
    c.self.inside.shared _ le c.self.invariant (new_within files at old arrived) numbered c.in_ok-with_file.ensures)
