use denote.Param.Send.{IsSend, sendable, param_send, arg_send, shr_send}
use denote.Exit.{yes}
use denote.Struct.Field.{u64-field}
use contract.Lifetimes.{Lfts}
use Rattle.std.proofs.Common.{rules, ◌≡◌, ◌++◌, ◌∷◌, [], sym, subst}
use Rattle.work_shares.proofs.Crossing.{four_send, heap_send}
use Rattle.work_check.proofs.Crossing.{listed_sync}
use Rattle.work_check.proofs.ListedShares.{AreConsecutive, all_answered, one_more}
use Rattle.work_check.proofs.shares.fn.list_shares.scope.Goals as goal
use Rattle.work_check.proofs.shares.fn.list_shares.scope.Given as given
use Rattle.work_check.proofs.shares.fn.list_shares.scope.Lts as lts

number_send : IsSend (u64-field).row
number_send = search sendable depth 20

-- what the closure of a thread takes with it: the allocator, a reference to the files, and two numbers
closure_send : (g : given.Over) (κs : Lfts 6) → IsSend (lts.arg-4-2 g.row.R g.R.laws g.R.Threads-dict g.R.Wait-dict κs)
closure_send g κs = arg_send _ yes _ (four_send _ _ _ _ _ heap_send (shr_send _ _ _ listed_sync) number_send number_send)

pub spawn_with-requires-send-F : goal.spawn_with-requires-send-F
spawn_with-requires-send-F g c κs = param_send 2 _ (closure_send g κs)

pub spawn_with-requires-clause-keeps : goal.spawn_with-requires-clause-keeps
spawn_with-requires-clause-keeps g c κs = λ r k. rw (sym c.of.ensures) at k

pub shares-preserved : goal.shares-preserved
shares-preserved g c =
    let w = c.captures.listed.now in
    let h = c.in-Ok.handle in
    let first : h.promise.first ≡ c.shares.first = search rules in
    let end : h.promise.end ≡ c.end_of_share-end.result = search rules in
    let files : h.promise.listed.value ≡ w = search rules in
    let more : AreConsecutive 0 h.promise.end w (c.shares.handles.items ++ h ∷ []) = one_more 0 c.shares.first w c.shares.handles.items h c.shares.invariant.promised first files in
    record {
      within = c.end_of_share-end.ensures.within;
      promised = subst (λ hs. AreConsecutive 0 c.end_of_share-end.result w hs) (sym c.in_ok-push.ensures.items) (subst (λ m. AreConsecutive 0 m w (c.shares.handles.items ++ h ∷ [])) end more);
    }

pub returns : goal.returns
returns g c =
    all_answered _ (λ p r k. k) c.shares.first c.captures.listed.now _ _ _ c.shares.invariant.promised (search rules) (search rules) (search rules) c.in_ok-answers.ensures.each
