-- The tree of a text that is too long to be analysed.
use Rattle.std.proofs.Common.{◌≡◌, ℕ, ◌<◌, ◌≤◌, Bool, List, [], length, refl, ap, ◌∙◌, cond}
use Rattle.std.proofs.lemmas.Bool.{lt-ltb, le-ltb}
use Rattle.proto_lex.specs.Tokens.{tokens}
use Rattle.proto_tree.specs.Cut.{items_from}
use Rattle.proto_tree.specs.Read.{empty_tree, body_tree, tree_of, read, value_tree}

pub nothing_read : read [] ≡ empty_tree
unfolding read tree_of tokens body_tree items_from
nothing_read = refl

pub too_long : (text : List ℕ) → 16777216 < length text → value_tree text ≡ empty_tree
unfolding value_tree
too_long text h = ap (λ (b : Bool). cond b (read []) (read text)) (lt-ltb 16777216 (length text) h) ∙ nothing_read

pub short_enough : (text : List ℕ) → length text ≤ 16777216 → value_tree text ≡ read text
unfolding value_tree
short_enough text h = ap (λ (b : Bool). cond b (read []) (read text)) (le-ltb 16777216 (length text) h)
