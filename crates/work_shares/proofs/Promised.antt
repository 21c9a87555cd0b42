-- What the threads of all shares promised.
use Rattle.std.proofs.Common.{◌≡◌, ℕ, List, map, length, ap, subst, arith, Ok, Result, IfOk}
use Rattle.std.proofs.lemmas.List.{length-map}
use Rattle.std.specs.declared.thread.PromisedHandle.{PromisedHandle}
use Rattle.std.specs.declared.thread.Promise as Promise
use Rattle.std.specs.PromisedHandle.{KeepsEach}
use Rattle.std.specs.declared.alloc.AllocError.{AllocError}
use Rattle.proto_decls.specs.declared.named_facts.NamedFacts.{NamedFacts}
use Rattle.work_shares.specs.declared.shares.Share.{Share}
use Rattle.work_shares.specs.declared.linked.LinkedShare.{LinkedShare}
use Rattle.work_shares.specs.declared.in_shares.ShareLinked.{ShareLinked}
use Rattle.work_shares.specs.Shares.{IsLinkedBy, AreLinkedBy}
use Rattle.work_shares.proofs.Kept.{same_at, kept_at}

abbrev pub Answer : Type 0
Answer = Result LinkedShare AllocError

abbrev pub share_of : PromisedHandle Answer ShareLinked → Share
share_of h = h.promise.share.value

abbrev pub table_of : PromisedHandle Answer ShareLinked → List NamedFacts
table_of h = h.promise.table.value

-- what the joined threads promised is what is asked of the answers
pub all_linked : (g : Promise.Ghosts ShareLinked Answer)
    → ((p : ShareLinked) (r : Answer) → g.kept_by p r → IfOk r (IsLinkedBy p.table.value p.share.value))
    → (files : List NamedFacts) (shares : List Share) (handles : List (PromisedHandle Answer ShareLinked)) (rs : List Answer) (n : ℕ)
    → map share_of handles ≡ map (λ (s : Share). s) shares → map table_of handles ≡ map (λ (s : Share). files) shares
    → n ≡ length handles → length rs ≡ n → KeepsEach g n handles rs → AreLinkedBy files shares rs
all_linked g keep files shares handles rs n same tables count len keeps =
    record {
      len = omega (arith, count, len, ap length same, length-map handles share_of, length-map shares (λ (s : Share). s));
      each = λ i s r at_s at_r.
          let k = kept_at g handles rs n count len keeps i (Ok r) at_r in
          let linked : IsLinkedBy (table_of k.handle) (share_of k.handle) r = keep k.handle.promise (Ok r) k.kept in
          let P : Share → Type 0 = λ t. IsLinkedBy files t r in
          let Q : List NamedFacts → Type 0 = λ xs. IsLinkedBy xs (share_of k.handle) r in
          subst P (same_at share_of (λ (s : Share). s) handles shares i k.handle s same k.stands at_s)
          (subst Q (same_at table_of (λ (s : Share). files) handles shares i k.handle s tables k.stands at_s) linked);
    }
