-- The text of what a writer wrote.
use Rattle.std.proofs.Common.{◌≡◌, [], ◌∷◌, ◌++◌, ap, append_assoc, codes}
use Rattle.json.specs.Print.{print}
use Rattle.json.specs.Token.{Token}
use Rattle.json.specs.Tree.{json_tokens}
use Rattle.json.specs.Written.{Written}
use Rattle.serde_json.specs.Data.{Data}
use Rattle.serde_json.specs.Written.{outline, compact_text}
use Rattle.serde_json.proofs.Texts.{print-outline}
use Rattle.lsp_rpc.specs.Message.{IdData}
use Rattle.lsp_rpc.specs.Reply.{id_value, result_reply, tokens_to_result}
use Rattle.lsp_rpc.specs.Writing.{empty, Appends}

-- a new text that holds one value
pub whole : {new : Written} (d : Data) → Appends empty (json_tokens (outline d)) new → new.before ++ print new.tokens ≡ compact_text d
whole d w = rw (w.before, w.tokens) (print-outline d)

tokens_of_result : (id : IdData) (d : Data) → tokens_to_result id ++ (json_tokens (outline d) ++ Token.end_object ∷ []) ≡ json_tokens (outline (result_reply id d))
tokens_of_result id d =
    ap (λ ts. Token.begin_object ∷ Token.key (codes "id") ∷ ts) (append_assoc (json_tokens (outline (id_value id))) _ _)

-- a reply whose result was written after what stands before it
pub whole_result : {new : Written} (id : IdData) (d : Data) → Appends empty (tokens_to_result id ++ (json_tokens (outline d) ++ Token.end_object ∷ [])) new → new.before ++ print new.tokens ≡ compact_text (result_reply id d)
whole_result id d w = whole (result_reply id d) (rw (tokens_of_result id d) at w)
