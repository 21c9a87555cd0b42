-- Shares of which the same is kept, and whose texts are read alike.
use Rattle.std.proofs.Common.{◌≡◌, zero, suc, List, [], ◌∷◌, ◌++◌, Bool, All, arith, sym, subst}
use Rattle.std.proofs.lemmas.List.Elements.{All-append}
use Rattle.work_shares.specs.declared.shares.Share.{Share}

one : (P : Share → Type 0) (s : Share) → P s → All P (s ∷ [])
one P s p zero d low = p
one P s p (suc k) d low = absurd (omega (arith, low))

-- one more share like those before
pub all_alike : (f : Share → Bool) (b : Bool) (old new : List Share) (s : Share) → new ≡ old ++ s ∷ [] → All (λ (x : Share). f x ≡ b) old → f s ≡ b → All (λ (x : Share). f x ≡ b) new
all_alike f b old new s added all here =
    let P : Share → Type 0 = λ x. f x ≡ b in
    subst (λ ss. All P ss) (sym added) (All-append P old (s ∷ []) all (one P s here))
