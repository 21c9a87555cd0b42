use denote.Param.Send.{IsSend, IsSync, sendable, param_send, arg_send, shr_send}
use denote.Exit.{yes}
use denote.Param.{param}
use contract.Lifetimes.{Lfts}
use Rattle.std.proofs.Crossing.{crosses}
use Rattle.std.proofs.Common.{rules, ◌≡◌, ◌∙◌, ap, map, sym}
use Rattle.std.proofs.lemmas.Iterator.Consumers.{YieldsList-end}
use Rattle.std.proofs.lemmas.Iterator.Adapters.{YieldsList-from_vec}
use Rattle.std.proofs.lemmas.List.{map-id}
use Rattle.work_shares.proofs.Crossing.{four_send, heap_send, share_send, table_sync, linked_send}
use Rattle.work_shares.proofs.Promised.{all_linked}
use Rattle.work_shares.proofs.in_shares.fn.link_all.scope.Lts as lts
use Rattle.work_shares.proofs.in_shares.fn.link_all.scope.Goals as goal
use Rattle.work_shares.proofs.in_shares.fn.link_all.scope.Given as given

-- what the closure of a thread takes with it: the allocator, its share, and references to the table and to the gate
closure_send : (g : given.Over) (κs : Lfts 8) → IsSync (param 1 g.row.G) → IsSend (lts.arg-5-2 g.row.R g.row.G g.R.laws g.G.laws g.R.Threads-dict g.R.Wait-dict g.G.Gate-dict g.G.Destruct-dict κs)
closure_send g κs sync = arg_send _ yes _ (four_send _ _ _ _ _ heap_send share_send (shr_send _ _ _ table_sync) (shr_send _ _ _ sync))

pub spawn_with-requires-send-F : goal.spawn_with-requires-send-F
spawn_with-requires-send-F g c κs within = param_send 2 _ (closure_send g κs c.requires.gate)

pub spawn_with-requires-send-T : goal.spawn_with-requires-send-T
spawn_with-requires-send-T g c κs within = search (sendable, crosses, linked_send) depth 40

pub returns : goal.returns
returns g c =
    let whole : c.loop-share.yielded ≡ c.captures.shares.items =
    sym (map-id _)
    ∙ (YieldsList-end (YieldsList-from_vec c.captures.shares.items c.into_iter-share-iterator.ensures.into_iter_gives.0 (search rules)) c.loop-share.yielded _ c.loop-share.yielded_by _ c.next.new.self c.in-None.is c.next.ensures.steps).0 in
    record {
      answers = all_linked _ (λ p r k. k) _ _ _ _ _
          (c.loop-share.invariant.shares ∙ ap (map (λ s. s)) whole)
          (c.loop-share.invariant.tables ∙ ap (map (λ s. c.captures.table.now)) whole)
          (search rules)
          (search rules)
          c.in_ok-answers.ensures.each;
      threads = search rules;
    }
