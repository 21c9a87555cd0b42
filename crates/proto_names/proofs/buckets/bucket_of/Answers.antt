use Rattle.std.proofs.Common.{◌∙◌, ◌-◌, ◌%◌, ℕ, ap, bit_and, sym}
use Rattle.std.proofs.lemmas.Nat.{and_mask, one_shl}
use Rattle.proto_names.proofs.buckets.bucket_of.Goals as goal

pub returns-then-power-count-clause-value : goal.returns-then-power-count-clause-value
returns-then-power-count-clause-value c =
    let shifted = one_shl c.ilog2.result 64 c.ilog2.ensures.bound in
    ap (λ (power : ℕ). bit_and c.args.hash (power - 1)) shifted ∙ and_mask c.args.hash c.ilog2.result ∙ ap (λ (power : ℕ). c.args.hash % power) (sym shifted ∙ c.if-power-count.true)
