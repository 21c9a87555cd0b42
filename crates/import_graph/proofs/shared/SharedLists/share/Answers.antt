use Rattle.std.proofs.Common.{◌≡◌, ◌↔◌, ◌+◌, ◌<◌, ℕ, [], List, get_or, length, map, refl, sym, ap, ◌∙◌, arith}
use Rattle.std.specs.Prelude.{Contains}
use Rattle.std.proofs.lemmas.List.{get_or_push, length_push}
use Rattle.std.proofs.lemmas.List.Elements.{All-contains_itself, All-weaker}
use Rattle.import_graph.specs.Shared.{list_at}
use Rattle.import_graph.specs.Walks.{AllWithin, ReachedFrom}
use Rattle.import_graph.specs.declared.shared.SharedLists.{SharedLists}
use Rattle.import_graph.proofs.Search.{seen_within}
use Rattle.import_graph.proofs.Sharing.{AreShared-push, AreShared-fill, own_list}
use Rattle.import_graph.proofs.shared.SharedLists.share.Goals as goal

pub returns : goal.returns
returns c = λ imports are leads.
    let steps = c.args.steps.now in
    let old : SharedLists = c.args.self.now in
    let number : ℕ = c.len-number.result in
    let list : List ℕ = c.in_ok-list.list.items in
    let mid : SharedLists = record { numbers = old.numbers; lists = c.push.new.self } in
    let is_last : number ≡ length old.lists.items = omega (arith, c.len-number.ensures, old.lists.ok) in
    let longer : length mid.lists.items ≡ length old.lists.items + 1 = ap length c.in_ok-push.ensures.items ∙ length_push old.lists.items _ in
    let row : list_at mid number ≡ list = ap (λ ls. get_or ls number []) c.in_ok-push.ensures.items ∙ (get_or_push old.lists.items _ [] number (sym is_last) ∙ c.from_vec.ensures) in
    let exact : (g : ℕ) → Contains list g ↔ ReachedFrom steps c.args.first.now g = λ g. (
      λ has. (c.in_ok-reached.ensures.exact g).0 ((c.in_ok-list.ensures.exact g).0 has),
      λ led. (c.in_ok-list.ensures.exact g).1 ((c.in_ok-reached.ensures.exact g).1 led),
    ) in
    let within : AllWithin (length steps) list = All-weaker (Contains list) (λ g. g < length steps)
    (λ g has. let lt = seen_within c.in_ok-reached.field-0 g ((c.in_ok-list.ensures.exact g).0 has) in omega (arith, lt, c.in_ok-reached.ensures.count, c.in_ok-reached.field-0.seen.ok.0))
    list (All-contains_itself list) in
    AreShared-fill steps imports number mid c.fill.new.self (map (λ s. s.file) c.args.run.now) (omega (arith, is_last, longer)) c.fill.ensures
    (λ f there has. rw row (own_list steps imports c.args.first.now list c.args.run.now leads c.requires.alike c.in_ok-list.ensures.ascending exact f there (rw row at has)))
    (AreShared-push steps imports old mid _ refl c.in_ok-push.ensures.items (rw c.from_vec.ensures within) are)
