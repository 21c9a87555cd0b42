-- What the threads that make the tables of all shares promised, and what these tables cover.
use Rattle.std.proofs.Common.{◌≡◌, ◌∙◌, sym, ap, ap₂, subst, refl, ◌+◌, ℕ, suc, Bool, List, [], ◌∷◌, ◌++◌, map, flat_map, length, arith, Ok, Result, IfOk}
use Rattle.std.proofs.lemmas.List.{length-map, map-append}
use Rattle.std.proofs.lemmas.List.Elements.{All-head, All-tail}
use Rattle.std.proofs.lemmas.List.Sorted.{IsPermutation-refl}
use Rattle.std.specs.declared.alloc.AllocError.{AllocError}
use Rattle.std.specs.declared.thread.PromisedHandle.{PromisedHandle}
use Rattle.std.specs.declared.thread.Promise as Promise
use Rattle.std.specs.PromisedHandle.{KeepsEach}
use Rattle.proto_decls.specs.declared.named_facts.NamedFacts.{NamedFacts}
use Rattle.work_shares.specs.declared.in_shares.ShareIndexed.{ShareIndexed}
use Rattle.work_shares.specs.declared.indexed.IndexedShare.{IndexedShare}
use Rattle.work_shares.specs.declared.indexed.IndexedShares.{IndexedShares}
use Rattle.work_shares.specs.declared.shares.Share.{Share}
use Rattle.work_shares.specs.Parts.{part_of, IsIndexed, AreIndexed, AreTaken}
use Rattle.work_index.specs.Pieces.{source_of, workspace_of}
use Rattle.work_shares.specs.Shares.{pieces_in, AreConsecutive, AreRead}
use Rattle.work_shares.specs.Stretches.{PartData, Cover, FollowFrom}
use Rattle.work_index.specs.Workspace.{all_facts, named_facts}
use Rattle.work_shares.proofs.Kept.{same_at, kept_at}

abbrev pub Answer : Type 0
Answer = Result IndexedShare AllocError

abbrev pub share_of : PromisedHandle Answer ShareIndexed → Share
share_of h = h.promise.share.value

-- what the joined threads promised is what is asked of the answers
pub all_indexed : (g : Promise.Ghosts ShareIndexed Answer) → ((p : ShareIndexed) (r : Answer) → g.kept_by p r → IfOk r (IsIndexed p.share.value))
    → (shares : List Share) (handles : List (PromisedHandle Answer ShareIndexed)) (rs : List Answer) (n : ℕ)
    → map share_of handles ≡ map (λ (s : Share). s) shares → n ≡ length handles → length rs ≡ n → KeepsEach g n handles rs → AreIndexed shares rs
all_indexed g keep shares handles rs n same count len keeps =
    record {
      len = omega (arith, count, len, ap length same, length-map handles share_of, length-map shares (λ (s : Share). s));
      each = λ i s r at_s at_r.
          let k = kept_at g handles rs n count len keeps i (Ok r) at_r in
          let named : IsIndexed (share_of k.handle) r = keep k.handle.promise (Ok r) k.kept in
          let P : Share → Type 0 = λ t. IsIndexed t r in
          subst P (same_at share_of (λ (s : Share). s) handles shares i k.handle s same k.stands at_s) named;
    }

-- ---- taken apart

both_taken : (ss : List Share) (ns : List IndexedShare) → AreIndexed ss (map Ok ns) → (map (λ (n : IndexedShare). n.share) ns ≡ ss) × (map (λ (n : IndexedShare). n.part) ns ≡ map part_of ss)
both_taken [] [] are = (refl, refl)
both_taken [] (n ∷ ns) are = absurd (omega (arith, are.len))
both_taken (s ∷ ss) [] are = absurd (omega (arith, are.len))
both_taken (s ∷ ss) (n ∷ ns) are =
    let here : IsIndexed s n = are.each 0 s n refl refl in
    let rest = both_taken ss ns (record { len = omega (arith, are.len); each = λ i t m x y. are.each (suc i) t m x y }) in
    (ap₂ (λ (x : Share) (xs : List Share). x ∷ xs) here.share_is rest.0, ap₂ (λ (x : PartData) (xs : List PartData). x ∷ xs) here.part_is rest.1)

-- the shares, and the tables of their files
pub taken : (ss : List Share) (answers : List Answer) (r : IndexedShares) → AreIndexed ss answers → AreTaken answers r → (r.shares.items ≡ ss) × (r.parts.items ≡ map part_of ss)
taken ss answers r named t =
    let P : List Answer → Type 0 = λ xs. AreIndexed ss xs in
    let both = both_taken ss t.all (subst P t.none_refused named) in
    (t.shares ∙ both.0, t.parts ∙ both.1)

-- ---- what they cover

long : (s : Share) → length (let p = part_of s in p.files) ≡ length s.pieces.items
long s = length-map (workspace_of s.reads_others s.pieces.items) named_facts ∙ length-map s.pieces.items (source_of s.reads_others)

follow : (n : ℕ) (ss : List Share) → AreConsecutive n ss → FollowFrom n (map part_of ss)
follow n [] c = tt
follow n (s ∷ ss) c = (c.0, subst (λ m. FollowFrom m (map part_of ss)) (ap (λ k. n + k) (sym (long s))) (follow (n + length s.pieces.items) ss c.1))

whole : (r : Bool) (ss : List Share) → AreRead r ss → flat_map (λ (p : PartData). p.files) (map part_of ss) ≡ all_facts (workspace_of r (pieces_in ss))
whole r [] read = refl
whole r (s ∷ ss) read =
    ap₂ (λ (q : Bool) (fs : List NamedFacts). all_facts (workspace_of q s.pieces.items) ++ fs) (All-head (λ (s : Share). s.reads_others ≡ r) s ss read) (whole r ss (All-tail (λ (s : Share). s.reads_others ≡ r) s ss read))
    ∙ sym (map-append named_facts (workspace_of r s.pieces.items) (workspace_of r (pieces_in ss)))
    ∙ ap (map named_facts) (sym (map-append (source_of r) s.pieces.items (pieces_in ss)))

-- the tables of all shares cover all files
pub shares_cover : (r : Bool) (ss : List Share) → AreRead r ss → AreConsecutive 0 ss → Cover (all_facts (workspace_of r (pieces_in ss))) (map part_of ss)
shares_cover r ss read c = record {
  ordered = map part_of ss;
  same = IsPermutation-refl (map part_of ss);
  follow = follow 0 ss c;
  whole = whole r ss read;
}
