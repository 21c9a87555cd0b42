-- Lemmas on reading items.
use Rattle.std.proofs.Common.{◌≡◌, ℕ, zero, suc, ◌<◌, ◌-◌, true, List, [], ◌∷◌, ◌++◌, length, get_or, refl, sym, ap, ◌∙◌, arith, eqb, append-nil}
use borrow.Author.Tests.{eqb-true}
use Rattle.proto_tree.specs.declared.lexeme.Lexeme.{Lexeme}
use Rattle.proto_tree.specs.Parts.{between, last_span, span_of}
use Rattle.proto_tree.specs.declared.lexeme.Body.{Body}
use Rattle.proto_tree.specs.declared.node.FileTree.{FileTree}
use Rattle.proto_tree.specs.declared.node.Node.{Node}
use Rattle.proto_tree.specs.declared.node.Fault.{Fault}
use Rattle.proto_tree.specs.Cut.{items_from}
use Rattle.proto_tree.specs.Read.{body_tree, body_with, finished_tree, deepest_tree, form_tree}

last_span-at : (t : Lexeme) (ts : List Lexeme) (d : Lexeme) → last_span t ts ≡ (get_or (t ∷ ts) (length ts) d).span
last_span-at t [] d = refl
last_span-at t (u ∷ ts) d = last_span-at u ts d

-- The whole span of an item is from its first token to its last.
pub span_of-ends : (ts : List Lexeme) (last d : Lexeme) → 0 < length ts → last ≡ get_or ts (length ts - 1) last → span_of ts ≡ between (get_or ts 0 d).span last.span
span_of-ends [] last d h f = absurd (omega arith)
span_of-ends (t ∷ ts) last d h f =
    let n : length (t ∷ ts) - 1 ≡ length ts = omega arith in
    ap (between t.span) (last_span-at t ts last ∙ ap (λ i. (get_or (t ∷ ts) i last).span) (sym n) ∙ ap (λ (x : Lexeme). x.span) (sym f))

pub body_tree-is : (blocks : ℕ) (body : Body) (ts : List Lexeme) → body_tree blocks body ts ≡ body_with (finished_tree blocks body) body ts
unfolding body_tree finished_tree
body_tree-is zero body ts = refl
body_tree-is (suc blocks) body ts = refl

pub finished_tree-none : (blocks : ℕ) (body : Body) (item : List Lexeme) → blocks ≡ 0 → finished_tree blocks body item ≡ deepest_tree body item
unfolding finished_tree
finished_tree-none blocks body item e = ap (λ n. finished_tree n body item) e

pub finished_tree-some : (blocks : ℕ) (body : Body) (item : List Lexeme) → 0 < blocks → finished_tree blocks body item ≡ form_tree (body_tree (blocks - 1)) body item
unfolding finished_tree
finished_tree-some blocks body item h = let e : blocks ≡ suc (blocks - 1) = omega arith in ap (λ n. finished_tree n body item) e

-- at the end of a body nothing is left to read
pub nodes-end : (read : List Lexeme → FileTree) (body : Body) (rest : List Lexeme) (xs ys : List Node) → eqb (length rest) 0 ≡ true → xs ++ (body_with read body rest).nodes ≡ ys → xs ≡ ys
unfolding items_from
nodes-end read body [] xs ys e h = sym (append-nil xs) ∙ h
nodes-end read body (t ∷ ts) xs ys e h = absurd (omega (arith, eqb-true (length (t ∷ ts)) 0 e))

pub faults-end : (read : List Lexeme → FileTree) (body : Body) (rest : List Lexeme) (xs ys : List Fault) → eqb (length rest) 0 ≡ true → xs ++ (body_with read body rest).faults ≡ ys → xs ≡ ys
unfolding items_from
faults-end read body [] xs ys e h = sym (append-nil xs) ∙ h
faults-end read body (t ∷ ts) xs ys e h = absurd (omega (arith, eqb-true (length (t ∷ ts)) 0 e))
