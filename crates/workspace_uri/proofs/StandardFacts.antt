-- The bytes that the URI of a file escapes, beside the definition.
use Rattle.std.proofs.Common.{◌≡◌, ℕ, List, [], ◌∷◌, ◌++◌, ◌<◌, Bool, true, false, not, cond, All, refl, ap, ◌∙◌, suc, arith}
use Rattle.std.specs.List.{flat_map}
use Rattle.std.proofs.lemmas.Bool.{agree_below, agree_below_at}
use Rattle.percent_encoding.specs.AsciiSet.{should_percent_encode}
use Rattle.percent_encoding.specs.Percent.{encode_byte, percent_encode, percent_encode_byte}
use Rattle.workspace_uri.specs.Uri.{is_kept, escaped_byte, escaped}
use Rattle.workspace_uri.specs.declared.url_text.TheConstants.{ESCAPED}

escaped_below : agree_below (should_percent_encode ESCAPED) (λ b. not (is_kept b)) 256 ≡ true
unfolding should_percent_encode
escaped_below = refl

turned : (kept : Bool) (b : ℕ) → cond (not kept) (percent_encode_byte b) (b ∷ []) ≡ cond kept (b ∷ []) (percent_encode_byte b)
turned true b = refl
turned false b = refl

same_byte : (b : ℕ) → b < 256 → encode_byte ESCAPED b ≡ escaped_byte b
same_byte b small = ap (λ (e : Bool). cond e (percent_encode_byte b) (b ∷ [])) (agree_below_at (should_percent_encode ESCAPED) (λ b. not (is_kept b)) 256 b escaped_below small) ∙ turned (is_kept b) b

-- the constant escapes what the definition does
pub encoded : (path : List ℕ) → All (λ b. b < 256) path → percent_encode ESCAPED path ≡ escaped path
unfolding percent_encode
encoded [] small = refl
encoded (b ∷ path) small = ap (λ l. l ++ flat_map (encode_byte ESCAPED) path) (same_byte b (small 0 0 (omega arith))) ∙ ap (λ l. escaped_byte b ++ l) (encoded path (λ k d lt. small (suc k) d (omega (arith, lt))))
