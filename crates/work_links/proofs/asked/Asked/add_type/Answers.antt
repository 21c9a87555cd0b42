use Rattle.std.proofs.Common.{◌≡◌, ◌++◌, ap, refl, ◌∙◌, ℕ, List, [], ◌∷◌, map, take}
use Rattle.std.proofs.lemmas.List.{take_all}
use Rattle.proto_tree.specs.declared.node.Span.{Span}
use Rattle.proto_resolve.specs.Sites.{component, site}
use Rattle.work_links.specs.Keys.{last_key}
use Rattle.work_links.proofs.AskedNames.{grows, has_all-asked_by, has_keys-all, has_keys-append, uses_all-keys}
use Rattle.work_links.proofs.asked.Asked.add_type.Goals as goal

no_span : (text : List ℕ) (spans : List Span) → map (component text) spans ≡ [] → spans ≡ []
no_span text [] none = refl
no_span text (s ∷ ss) none = absurd (cc (none))

pub returns-clause-all : goal.returns-clause-all
returns-clause-all c = λ needs scopes.
    let spans = c.as_slice-components.result.now in
    let whole : take c.components.component-index spans ≡ c.args.name.now.components = take_all c.components.component-index spans c.components-test.false ∙ c.as_slice-components.ensures in
    has_all-asked_by c.components.self (site c.args.text.now needs c.args.name.now scopes)
    (λ none. c.components.invariant.empty (c.as_slice-components.ensures ∙ no_span c.args.text.now c.args.name.now.components none))
    (uses_all-keys c.components.self c.args.self.now.uses.items (map (λ c. c.text) (map (component c.args.text.now) c.args.name.now.components))
    (c.components.invariant.pushed ∙ ap (λ s. c.args.self.now.uses.items ++ map last_key (map (λ c. c.text) (map (component c.args.text.now) s))) whole))

pub returns-clause-kept : goal.returns-clause-kept
returns-clause-kept c =
    grows c.args.self.now c.components.self c.components.invariant.kept (has_keys-append c.args.self.now.uses.items c.components.self.uses.items _ c.components.invariant.pushed)
    (rw c.components.invariant.same (has_keys-all c.args.self.now.declares.items))
