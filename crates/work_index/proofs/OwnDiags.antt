-- What is wrong in a file by itself is in order already.
use Rattle.std.proofs.Common.{◌≡◌, ◌∙◌, ℕ, Bool, true, false, ◌&&◌, if◌then◌else◌, List, [], ◌++◌, Option, Some, None, refl, ap, sym, append-nil}
use Rattle.proto_tree.specs.declared.node.FileTree.{FileTree}
use Rattle.proto_tree.specs.Read.{value_tree}
use Rattle.proto_decls.specs.declared.diagnostic.Diag.{Diag}
use Rattle.proto_decls.specs.declared.stated.StatedSyntax.{StatedSyntax}
use Rattle.proto_decls.specs.Facts.{diags_of, packages, imports, decls, opaque, stated, facts_at, facts_of, is_other, other_facts}
use Rattle.proto_decls.specs.Order.{in_order}
use Rattle.proto_decls.proofs.DiagOrder.{in_order-is_list, only_list}
use Rattle.proto_resolve.specs.declared.resolve.Links.{Links}
use Rattle.work_index.specs.Workspace.{Source, merged, source_facts}

once : (all : List Diag) → in_order (in_order all) ≡ in_order all
once all = sym (only_list (in_order all) (in_order all) (record { ordered = (in_order-is_list all).ordered; listed = λ d h. h; no_other = λ d h. h }))

at : (o : Option Diag) (syntaxes : List StatedSyntax) (text : List ℕ) (tree : FileTree) → in_order (let f = facts_at o syntaxes text tree in f.diags) ≡ (let f = facts_at o syntaxes text tree in f.diags)
at None syntaxes text tree = once (diags_of text tree syntaxes (packages text tree.nodes) (imports text tree.nodes) (decls text tree.nodes))
at (Some d) syntaxes text tree = refl

-- they are the same however the text is read
pub same_diags : (s : Source) → (let f = source_facts s in f.diags) ≡ (let f = facts_of s.text in f.diags)
same_diags s = go (s.reads_others && is_other s.text)
  where
    go : (b : Bool) → (let f = if b then other_facts s.text else facts_of s.text in f.diags) ≡ (let f = facts_of s.text in f.diags)
    go true = refl
    go false = refl

-- with nothing wrong by what is seen, they are all
pub own-merged : (s : Source) (links : Links) → links.diags ≡ [] → (let f = source_facts s in f.diags) ≡ merged (facts_of s.text) links
own-merged s links none =
    same_diags s ∙
    let text = s.text in
    let tree = value_tree text in
    let own : List Diag = (let f = facts_of text in f.diags) in
    sym (ap in_order (ap (λ l. own ++ l) none ∙ append-nil own) ∙ at (opaque text (stated text tree.nodes)) (stated text tree.nodes) text tree)
