use Rattle.std.proofs.Common.{◌≡◌, ◌<◌, ◌+◌, ◌++◌, ◌∷◌, [], length, map, take, vec_len, sym, subst, ap, ◌∙◌, arith}
use Rattle.std.proofs.lemmas.List.{take_more}
use Rattle.import_graph.proofs.Sharing.{Fills-none, Fills-push, map_push}
use Rattle.import_graph.proofs.shared.SharedLists.fill.Goals as goal

pub loop-start-init : goal.loop-start-init
loop-start-init c = Fills-none c.args.number _

pub loop-start-preserved : goal.loop-start-preserved
loop-start-preserved c =
    let more : map (λ s. s.file) (take (c.loop-start.start-index + 1) c.args.run.now) ≡ map (λ s. s.file) (take c.loop-start.start-index c.args.run.now) ++ c.start-item.result.file ∷ [] =
    ap (map (λ s. s.file)) (take_more c.args.run.now c.loop-start.start-index c.start-item.result c.loop-start-test.true)
    ∙ (map_push (λ s. s.file) (take c.loop-start.start-index c.args.run.now) _
    ∙ ap (λ s. map (λ s. s.file) (take c.loop-start.start-index c.args.run.now) ++ s.file ∷ []) (sym c.start-item.is)) in
    let it : c.start-item.result.file < vec_len c.args.self.now.numbers =
    subst (λ s. s.file < vec_len c.args.self.now.numbers) (sym c.start-item.is) (c.requires.run c.loop-start.start-index c.start-item.result c.loop-start-test.true) in
    let there : c.start-item.result.file < length c.loop-start.self.numbers.items = omega (arith, it, c.loop-start.invariant.as_many, c.loop-start.self.numbers.ok, c.args.self.now.numbers.ok) in
    rw more
    (Fills-push c.args.number c.args.self.now c.loop-start.self c.place.new.self (map (λ s. s.file) (take c.loop-start.start-index c.args.run.now)) c.start-item.result.file there
    c.loop-start.invariant c.place.ensures.lists c.place.ensures.numbers)

pub place-requires-clause-file : goal.place-requires-clause-file
place-requires-clause-file c =
    let it : c.start-item.result.file < vec_len c.args.self.now.numbers =
    subst (λ s. s.file < vec_len c.args.self.now.numbers) (sym c.start-item.is) (c.requires.run c.loop-start.start-index c.start-item.result c.loop-start-test.true) in
    omega (arith, it, c.loop-start.invariant.as_many, c.loop-start.self.numbers.ok, c.args.self.now.numbers.ok)

pub place-requires-clause-number : goal.place-requires-clause-number
place-requires-clause-number c = omega (arith, c.requires.number, ap length c.loop-start.invariant.lists, c.loop-start.self.lists.ok, c.args.self.now.lists.ok)
