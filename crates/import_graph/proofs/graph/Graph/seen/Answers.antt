use Rattle.std.proofs.Common.{◌≡◌, ⊎_elim, inr, ◌↔◌, ℕ, ◌<◌, [], List, length, get_or, ap, map, subst, sym, ◌∙◌}
use Rattle.std.specs.Prelude.{Contains, All}
use Rattle.std.specs.List.Sorted.{IsStrictlyIncreasing}
use Rattle.std.proofs.lemmas.List.Elements.{All-weaker, All-contains_itself}
use Rattle.std.proofs.lemmas.Result.{IfOk-weaker}
use Rattle.import_graph.specs.declared.imports.FileImports.{FileImports}
use Rattle.import_graph.specs.Condensed.{LeadAlike}
use Rattle.import_graph.specs.Imports.{targets, public_targets}
use Rattle.import_graph.specs.Shared.{IsOwnList}
use Rattle.import_graph.specs.Views.{Sees}
use Rattle.import_graph.specs.Walks.{ReachedFrom}
use Rattle.import_graph.proofs.OneView.{sees_within}
use Rattle.import_graph.proofs.Representatives.{reached_alike}
use Rattle.import_graph.proofs.Views.{Within, sees_by_search}
use Rattle.import_graph.proofs.graph.Graph.seen.Goals as goal

own : (c : goal.After-from_slice) → IsOwnList c.self.inside.steps.items c.self.inside.imports.items c.args.file c.in-Some.list.now
own c =
    let has = c.in-Some.ensures in
    subst (λ l. IsOwnList c.self.inside.steps.items c.self.inside.imports.items c.args.file l) (sym has.2) (c.self.invariant.lists.own c.args.file has.0 has.1)

sees : (c : goal.After-from_slice) (g : ℕ) → Contains c.in-Some.list.now g ↔ Sees c.args.self.now c.args.file g
sees c g =
    let list = own c in
    let imports : c.self.inside.imports.items ≡ map targets c.args.self.now = c.self.invariant.imports ∙ ap (λ (g : List FileImports). map targets g) c.self.view_is in
    let row : get_or c.self.inside.imports.items c.args.file [] ≡ get_or (map targets c.args.self.now) c.args.file [] = ap (λ (x : List (List ℕ)). get_or x c.args.file []) imports in
    let alike : LeadAlike c.self.inside.steps.items (map public_targets c.args.self.now) = rw c.self.view_is at c.self.invariant.public in
    let by_steps : (g : ℕ) → Contains c.in-Some.list.now g ↔ ReachedFrom c.self.inside.steps.items (get_or (map targets c.args.self.now) c.args.file []) g = rw row at list.exact in
    let found : (g : ℕ) → Contains c.in-Some.list.now g ↔ ReachedFrom (map public_targets c.args.self.now) (get_or (map targets c.args.self.now) c.args.file []) g =
    λ g. let same = reached_alike c.self.inside.steps.items (map public_targets c.args.self.now) alike (get_or (map targets c.args.self.now) c.args.file []) g in
    (λ s. same.0 ((by_steps g).0 s), λ r. (by_steps g).1 (same.1 r)) in
    let by = sees_by_search c.args.self.now c.args.file (Contains c.in-Some.list.now) found g in (
      λ has. by.0 (inr has),
      λ seen. ⊎_elim (λ is. subst (λ x. Contains c.in-Some.list.now x) (sym is) list.own) (λ has. has) (by.1 seen),
    )

pub returns-in-Some-clause-ascending : goal.returns-in-Some-clause-ascending
returns-in-Some-clause-ascending c =
    IfOk-weaker c.from_slice.result (λ v. v.items ≡ c.in-Some.list.now) (λ v. IsStrictlyIncreasing v.items) (λ v is. rw is (own c).ascending) c.from_slice.ensures.items

pub returns-in-Some-clause-within : goal.returns-in-Some-clause-within
returns-in-Some-clause-within c =
    let within : Within c.args.self.now = rw c.self.view_is at c.self.invariant.within in
    IfOk-weaker c.from_slice.result (λ v. v.items ≡ c.in-Some.list.now) (λ v. All (λ g. g < length c.args.self.now) v.items)
    (λ v is. rw is (All-weaker (Contains c.in-Some.list.now) (λ g. g < length c.args.self.now) (λ g has. sees_within c.args.self.now within c.args.file c.requires g ((sees c g).0 has))
    c.in-Some.list.now (All-contains_itself c.in-Some.list.now)))
    c.from_slice.ensures.items

pub returns-in-Some-clause-exact : goal.returns-in-Some-clause-exact
returns-in-Some-clause-exact c =
    IfOk-weaker c.from_slice.result (λ v. v.items ≡ c.in-Some.list.now) (λ v. (g : ℕ) → Contains v.items g ↔ Sees c.args.self.now c.args.file g)
    (λ v is g. rw is (sees c g)) c.from_slice.ensures.items
