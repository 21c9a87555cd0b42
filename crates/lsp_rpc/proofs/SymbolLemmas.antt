-- The tokens of a declaration.
use Rattle.std.proofs.Common.{◌≡◌, ◌==◌, List, [], ◌∷◌, ◌++◌, ℕ, false, length, codes, refl, ap, sym, ◌∙◌}
use Rattle.std.proofs.lemmas.Bool.{false≢true}
use Rattle.json.specs.Token.{Token}
use Rattle.json.specs.Tree.{members_tokens}
use Rattle.json.specs.Written.{Written}
use Rattle.serde_json.specs.Data.{Members}
use Rattle.serde_json.specs.Written.{members_outline}
use Rattle.lsp_rpc.specs.Symbol.{with_container, container_tokens}
use Rattle.lsp_rpc.specs.Writing.{Appends}

abbrev pub tokens_of : Members → List Token
tokens_of ms = members_tokens (members_outline ms)

contained : (container : List ℕ) (ms : Members) → container_tokens container ++ tokens_of ms ≡ tokens_of (with_container container ms)
contained [] ms = refl
contained (c ∷ cs) ms = refl

-- the scope's member, and then the others
pub with_container-written : {a b : Written} (container : List ℕ) (ms : Members) → Appends a (container_tokens container ++ tokens_of ms) b → Appends a (tokens_of (with_container container ms)) b
with_container-written {a} container ms w = record { before = w.before; tokens = w.tokens ∙ ap (λ ts. a.tokens ++ ts) (contained container ms) }

-- a scope that isn't empty
pub container-full : (container : List ℕ) → (length container == 0) ≡ false → Token.key (codes "containerName") ∷ Token.string container ∷ [] ≡ container_tokens container
container-full [] none = absurd (false≢true (sym none))
container-full (c ∷ cs) none = refl
