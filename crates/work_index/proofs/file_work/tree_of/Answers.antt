use Rattle.std.proofs.Common.{◌≡◌, ℕ, List, [], true, false, sym, refl, ◌∙◌}
use Rattle.std.proofs.lemmas.Result.{IfOk-weaker}
use Rattle.proto_tree.specs.Read.{is_too_long, read, value_tree}
use Rattle.work_index.proofs.file_work.tree_of.Goals as goal

tree-long : (text : List ℕ) → is_too_long text ≡ true → value_tree text ≡ read []
unfolding value_tree
tree-long text long = rw long refl

tree-short : (text : List ℕ) → is_too_long text ≡ false → value_tree text ≡ read text
unfolding value_tree
tree-short text short = rw short refl

pub returns-then-is_too_long : goal.returns-then-is_too_long
returns-then-is_too_long c = IfOk-weaker c.parse_text.result _ _ (λ tree is. is ∙ sym (tree-long c.args.text.now (sym c.is_too_long.ensures ∙ c.if-is_too_long.true))) c.parse_text.ensures

pub returns-else-is_too_long : goal.returns-else-is_too_long
returns-else-is_too_long c =
    IfOk-weaker c.parse_text-else-is_too_long.result _ _ (λ tree is. is ∙ sym (tree-short c.args.text.now (sym c.is_too_long.ensures ∙ c.if-is_too_long.false))) c.parse_text-else-is_too_long.ensures
