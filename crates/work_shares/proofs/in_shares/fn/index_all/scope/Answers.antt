use denote.Param.Send.{IsSend, sendable, param_send, arg_send}
use denote.Exit.{yes}
use contract.Lifetimes.{Lfts}
use Rattle.std.proofs.Crossing.{crosses}
use Rattle.std.proofs.Common.{rules, ◌≡◌, ◌∙◌, ap, map, sym}
use Rattle.std.proofs.lemmas.Iterator.Consumers.{YieldsList-end}
use Rattle.std.proofs.lemmas.Iterator.Adapters.{YieldsList-from_vec}
use Rattle.std.proofs.lemmas.List.{map-id}
use Rattle.work_shares.proofs.Crossing.{two_send, heap_send, share_send, indexed_send}
use Rattle.work_shares.proofs.Taken.{all_indexed}
use Rattle.work_shares.proofs.in_shares.fn.index_all.scope.Lts as lts
use Rattle.work_shares.proofs.in_shares.fn.index_all.scope.Goals as goal
use Rattle.work_shares.proofs.in_shares.fn.index_all.scope.Given as given

-- what the closure of a thread takes with it: the allocator and its share
closure_send : (g : given.Over) (κs : Lfts 6) → IsSend (lts.arg-4-2 g.row.R g.R.laws g.R.Threads-dict g.R.Wait-dict κs)
closure_send g κs = arg_send _ yes _ (two_send _ _ _ heap_send share_send)

pub spawn_with-requires-send-F : goal.spawn_with-requires-send-F
spawn_with-requires-send-F g c κs = param_send 2 _ (closure_send g κs)

pub spawn_with-requires-send-T : goal.spawn_with-requires-send-T
spawn_with-requires-send-T g c κs = search (sendable, crosses, indexed_send) depth 40

pub returns : goal.returns
returns g c =
    let whole : c.loop-share.yielded ≡ c.captures.shares.items =
    sym (map-id _)
    ∙ (YieldsList-end (YieldsList-from_vec c.captures.shares.items c.into_iter-share-iterator.ensures.into_iter_gives.0 (search rules)) c.loop-share.yielded _ c.loop-share.yielded_by _ c.next.new.self c.in-None.is c.next.ensures.steps).0 in
    record {
      answers = all_indexed _ (λ p r k. k) _ _ _ _
          (c.loop-share.invariant ∙ ap (map (λ s. s)) whole)
          (search rules)
          (search rules)
          c.in_ok-answers.ensures.each;
      threads = search rules;
    }
