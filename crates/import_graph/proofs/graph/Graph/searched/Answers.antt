use Rattle.std.proofs.Common.{◌≡◌, ◌↔◌, ℕ, ◌<◌, [], List, length, get_or, ap, map, sym, subst, ◌∙◌, arith}
use Rattle.std.specs.Prelude.{Contains, All}
use Rattle.std.proofs.lemmas.List.{get_or_default, length-map}
use Rattle.std.proofs.lemmas.List.Elements.{All-weaker, All-contains_itself}
use Rattle.std.proofs.lemmas.Result.{IfOk-weaker}
use Rattle.import_graph.specs.declared.imports.FileImports.{FileImports}
use Rattle.import_graph.specs.Condensed.{LeadAlike}
use Rattle.import_graph.specs.FileSearches.{IsSeen}
use Rattle.import_graph.specs.Imports.{targets, public_targets}
use Rattle.import_graph.specs.Views.{Sees}
use Rattle.import_graph.specs.Walks.{AllWithin, ReachedFrom}
use Rattle.import_graph.proofs.OneView.{sees_within}
use Rattle.import_graph.proofs.Representatives.{reached_alike}
use Rattle.import_graph.proofs.Steps.{one_seen, one_listed}
use Rattle.import_graph.proofs.Views.{Within, start_within, sees_by_search}
use Rattle.import_graph.proofs.graph.Graph.searched.Goals as goal

pub reached-requires-clause-next : goal.reached-requires-clause-next
reached-requires-clause-next c = rw c.as_slice.ensures.value (subst (λ (n : ℕ). All (AllWithin n) c.self.inside.steps.items) (sym c.self.invariant.counted) c.self.invariant.stay)

pub reached-requires-clause-start : goal.reached-requires-clause-start
reached-requires-clause-start c =
    let within : Within c.args.self.now = rw c.self.view_is at c.self.invariant.within in
    let imports : c.self.inside.imports.items ≡ map targets c.args.self.now = c.self.invariant.imports ∙ ap (λ (g : List FileImports). map targets g) c.self.view_is in
    let in_imports : c.args.file < length c.self.inside.imports.items = rw (imports, length-map) c.requires in
    let row : c.as_slice-2.result.now ≡ get_or (map targets c.args.self.now) c.args.file [] =
    c.as_slice-2.ensures ∙ (c.index.ensures ∙ (get_or_default c.self.inside.imports.items c.args.file _ [] in_imports ∙ ap (λ (x : List (List ℕ)). get_or x c.args.file []) imports)) in
    let long : length c.as_slice.result.now ≡ length c.args.self.now = ap length c.as_slice.ensures.value ∙ (c.self.invariant.counted ∙ ap length c.self.view_is) in
    rw (long, row) (start_within c.args.self.now within c.args.file c.requires)

pub into_ascending-requires : goal.into_ascending-requires
into_ascending-requires c =
    let long : length c.as_slice.result.now ≡ length c.args.self.now = ap length c.as_slice.ensures.value ∙ (c.self.invariant.counted ∙ ap length c.self.view_is) in
    let there : c.args.file < length c.in_ok-search.search.seen.items = omega (arith, c.requires, long, c.in_ok-search.ensures.count, c.in_ok-search.search.seen.ok) in
    one_listed c.in_ok-search.search c.visit.new.self c.args.file c.in_ok-visit.ensures there c.in_ok-search.ensures.listed

-- a list of what was seen has what the file sees
listed : (c : goal.After-into_ascending) (v : List ℕ) → ((g : ℕ) → Contains v g ↔ IsSeen c.visit.new.self g) → (g : ℕ) → Contains v g ↔ Sees c.args.self.now c.args.file g
listed c v exact g =
    let imports : c.self.inside.imports.items ≡ map targets c.args.self.now = c.self.invariant.imports ∙ ap (λ (g : List FileImports). map targets g) c.self.view_is in
    let in_imports : c.args.file < length c.self.inside.imports.items = rw (imports, length-map) c.requires in
    let row : c.as_slice-2.result.now ≡ get_or (map targets c.args.self.now) c.args.file [] =
    c.as_slice-2.ensures ∙ (c.index.ensures ∙ (get_or_default c.self.inside.imports.items c.args.file _ [] in_imports ∙ ap (λ (x : List (List ℕ)). get_or x c.args.file []) imports)) in
    let long : length c.as_slice.result.now ≡ length c.args.self.now = ap length c.as_slice.ensures.value ∙ (c.self.invariant.counted ∙ ap length c.self.view_is) in
    let there : c.args.file < length c.in_ok-search.search.seen.items = omega (arith, c.requires, long, c.in_ok-search.ensures.count, c.in_ok-search.search.seen.ok) in
    let alike : LeadAlike c.self.inside.steps.items (map public_targets c.args.self.now) = rw c.self.view_is at c.self.invariant.public in
    let by_steps : (g : ℕ) → IsSeen c.in_ok-search.search g ↔ ReachedFrom c.self.inside.steps.items (get_or (map targets c.args.self.now) c.args.file []) g =
    rw (c.as_slice.ensures.value, row) at c.in_ok-search.ensures.exact in
    let found : (g : ℕ) → IsSeen c.in_ok-search.search g ↔ ReachedFrom (map public_targets c.args.self.now) (get_or (map targets c.args.self.now) c.args.file []) g =
    λ g. let same = reached_alike c.self.inside.steps.items (map public_targets c.args.self.now) alike (get_or (map targets c.args.self.now) c.args.file []) g in
    (λ s. same.0 ((by_steps g).0 s), λ r. (by_steps g).1 (same.1 r)) in
    let sees = sees_by_search c.args.self.now c.args.file (λ g. IsSeen c.in_ok-search.search g) found g in
    let added = one_seen c.in_ok-search.search c.visit.new.self c.args.file c.in_ok-visit.ensures there g in
    let has = exact g in
    (λ in_list. sees.0 (added.0 (has.0 in_list)), λ s. has.1 (added.1 (sees.1 s)))

pub returns-clause-within : goal.returns-clause-within
returns-clause-within c =
    let within : Within c.args.self.now = rw c.self.view_is at c.self.invariant.within in
    IfOk-weaker c.into_ascending.result
    (λ v. (g : ℕ) → Contains v.items g ↔ IsSeen c.visit.new.self g)
    (λ v. All (λ g. g < length c.args.self.now) v.items)
    (λ v exact. All-weaker (Contains v.items) (λ g. g < length c.args.self.now) (λ g has. sees_within c.args.self.now within c.args.file c.requires g ((listed c v.items exact g).0 has))
    v.items (All-contains_itself v.items))
    c.into_ascending.ensures.exact

pub returns-clause-exact : goal.returns-clause-exact
returns-clause-exact c =
    IfOk-weaker c.into_ascending.result
    (λ v. (g : ℕ) → Contains v.items g ↔ IsSeen c.visit.new.self g)
    (λ v. (g : ℕ) → Contains v.items g ↔ Sees c.args.self.now c.args.file g)
    (λ v exact. listed c v.items exact)
    c.into_ascending.ensures.exact
