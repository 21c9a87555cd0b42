-- What is taken from the statements of a tree is spelled by the tokens, one behind the other.
use Rattle.std.proofs.Common.{◌≡◌, ℕ, zero, suc, Bool, true, false, List, [], ◌∷◌, ◌++◌, map, Option, Some, None, refl, sym, ap, subst, ◌∙◌, cond, append_assoc, append-nil}
use Rattle.proto_tree.specs.declared.lexeme.Lexeme.{Lexeme}
use Rattle.proto_tree.specs.declared.lexeme.Body.{Body}
use Rattle.proto_tree.specs.declared.lexeme.Terminal.{Terminal}
use Rattle.proto_tree.specs.declared.lexeme.Terminal.TheVariants as w
use Rattle.proto_tree.specs.declared.node.FileTree.{FileTree}
use Rattle.proto_tree.specs.declared.node.Header.{Header}
use Rattle.proto_tree.specs.declared.node.Node.{Node, roll-Node, map-Node}
use Rattle.proto_tree.specs.declared.node.Node.TheOpen.{Node-F}
use Rattle.proto_tree.specs.declared.node.Node.TheFolds.{fold-Node, fold-roll-Node}
use Rattle.proto_tree.specs.declared.node.SyntaxProblem.TheVariants.{NotUnderstood, TooDeep, Unfinished}
use Rattle.proto_tree.specs.declared.node.Span.{Span}
use Rattle.proto_tree.specs.Cut.{items, AreItems, ends_in, is_stray, is_finished}
use Rattle.proto_tree.specs.Parts.{but_last, span_of}
use Rattle.proto_tree.specs.Forms.{statement, header_and_rest, block_node, body_of}
use Rattle.proto_tree.specs.Grammar.{◌⊳◌, IsTerminal, IsHeader, Spells}
use Rattle.proto_tree.specs.Names.{joined}
use Rattle.proto_tree.specs.Read.{bad, statement_tree, block_tree, opened_tree, may_open, form_tree, nests, deepest_tree, item_tree, all_items, body_with, body_tree}
use Rattle.proto_laws.proofs.GrammarLemmas.{gives-header, last_token, statement_spelled}
use Rattle.proto_laws.proofs.ItemsLaw.{are_items}
use Rattle.proto_laws.proofs.Spelled.{Spell, spell-later, spell-joined, spell-sooner}

-- the tokens of each statement without a block spell what is taken from it
abbrev pub StatementsSpell : {X : Type 0} → (X → List Lexeme → Type 0) → (Node → List X) → Type 0
StatementsSpell P of = (body : Body) (first : Terminal) (span : Span) (n : Node) (ts : List Lexeme) → Spells body first span n ts → Spell P ts (of n)

-- the tokens of each block do, where those between its braces spell what is taken from the statements inside
abbrev pub BlocksSpell : {X : Type 0} → (X → List Lexeme → Type 0) → (Node → List X) → Type 0
BlocksSpell P of = (span : Span) (head : Header) (nodes : List Node) (front behind : List Lexeme) → IsHeader head front → Spell P behind (joined (map of nodes)) → Spell P (front ++ behind) (of (block_node span head nodes))

-- what is taken from a statement, by its own level
pub by_level : {X : Type 0} (P : X → List Lexeme → Type 0) (step : Node-F (List X) → List X) (ts : List Lexeme) (y : Node-F Node) (n : Node) → roll-Node y ≡ n
    → Spell P ts (step (map-Node Node (List X) (fold-Node (List X) step) y)) → Spell P ts (fold-Node (List X) step n)
by_level {X} P step ts y n same h = subst (λ m. Spell P ts (fold-Node (List X) step m)) same (subst (Spell P ts) (sym (fold-roll-Node (List X) step y)) h)

module _ {X : Type 0} (P : X → List Lexeme → Type 0) (of : Node → List X) (statements : StatementsSpell P of) (blocks : BlocksSpell P of) where
  abbrev all_of : List Node → List X
  all_of nodes = joined (map of nodes)

  -- the tree of a statement: its node's, or none
  statement-spells : (body : Body) (item : List Lexeme) → Spell P item (all_of (statement_tree item (statement body item)).nodes)
  unfolding statement
  statement-spells body [] = tt
  statement-spells body (t ∷ ts) = by (statement body (t ∷ ts)) refl
    where
      by : (o : Option Node) → statement body (t ∷ ts) ≡ o → Spell P (t ∷ ts) (all_of (statement_tree (t ∷ ts) o).nodes)
      by None e = tt
      by (Some n) e = subst (Spell P (t ∷ ts)) (sym (append-nil (of n))) (statements body t.terminal (span_of (t ∷ ts)) n (t ∷ ts) (statement_spelled body t ts n e))

  -- what the tokens but the last spell, all of them do
  but_last-spells : (ts : List Lexeme) (xs : List X) → ends_in w.CloseBrace ts ≡ true → Spell P (but_last 1 ts) xs → Spell P ts xs
  but_last-spells ts xs closed p =
      let end = last_token w.CloseBrace ts closed in
      subst (λ l. Spell P l xs) (sym end.1) (spell-sooner P (but_last 1 ts) (end.0 ∷ []) xs p)

  -- a header and its brace, and the body behind it
  headed-spells : (span : Span) (head : Header) (nodes : List Node) (front behind : List Lexeme) → (IsHeader head ⊳ IsTerminal w.OpenBrace) front → Spell P behind (all_of nodes) → Spell P (front ++ behind) (of (block_node span head nodes))
  headed-spells span head nodes front behind h q =
      let xs = of (block_node span head nodes) in
      let braced : Spell P (h.1 ++ behind) (all_of nodes) = spell-later P h.1 behind (all_of nodes) q in
      subst (λ l. Spell P (l ++ behind) xs) (sym h.2) (subst (λ l. Spell P l xs) (sym (append_assoc h.0 h.1 behind)) (blocks span head nodes h.0 (h.1 ++ behind) h.3 braced))

  module _ (inner : Body → List Lexeme → FileTree) (inner-spells : (body : Body) (ts : List Lexeme) → Spell P ts (all_of (inner body ts).nodes)) where
    block_tree-spells : (item : List Lexeme) (head : Header) (ts : List Lexeme) → header_and_rest item ≡ Some (head, ts) → Spell P item (all_of (block_tree inner item head ts).nodes)
    block_tree-spells item head ts read = by (ends_in w.CloseBrace ts) refl
      where
        nodes : List Node
        nodes = (inner (body_of head) (but_last 1 ts)).nodes

        by : (closed : Bool) → ends_in w.CloseBrace ts ≡ closed → Spell P item (all_of (cond {A = FileTree} closed (record { nodes = block_node (span_of item) head nodes ∷ []; faults = (inner (body_of head) (but_last 1 ts)).faults }) (bad NotUnderstood item)).nodes)
        by false e = tt
        by true e =
            let h = gives-header item head ts read in
            let xs = of (block_node (span_of item) head nodes) in
            let body : Spell P ts (all_of nodes) = but_last-spells ts (all_of nodes) e (inner-spells (body_of head) (but_last 1 ts)) in
            subst (Spell P item) (sym (append-nil xs)) (subst (λ l. Spell P l xs) (sym h.1) (headed-spells (span_of item) head nodes h.0 ts h.2 body))

    opened-spells : (body : Body) (item : List Lexeme) (o : Option (Header × List Lexeme)) → header_and_rest item ≡ o → Spell P item (all_of (opened_tree inner body item o).nodes)
    opened-spells body item None e = statement-spells body item
    opened-spells body item (Some p) e = block_tree-spells item p.0 p.1 e

    form-spells : (body : Body) (item : List Lexeme) → Spell P item (all_of (form_tree inner body item).nodes)
    form-spells body item = by (may_open body item)
      where
        by : (b : Bool) → Spell P item (all_of (cond {A = FileTree} b (opened_tree inner body item (header_and_rest item)) (statement_tree item (statement body item))).nodes)
        by true = opened-spells body item (header_and_rest item) refl
        by false = statement-spells body item

  deepest-spells : (body : Body) (item : List Lexeme) → Spell P item (all_of (deepest_tree body item).nodes)
  deepest-spells body item = by (nests item)
    where
      by : (b : Bool) → Spell P item (all_of (cond {A = FileTree} b (bad TooDeep item) (statement_tree item (statement body item))).nodes)
      by true = tt
      by false = statement-spells body item

  -- ---- bodies

  -- an item, of which a finished one is read so
  item-spells : (finished : List Lexeme → FileTree) (body : Body) (item : List Lexeme) → Spell P item (all_of (finished item).nodes) → Spell P item (all_of (item_tree finished body item).nodes)
  item-spells finished body item p = by (is_stray body item) (is_finished body item)
    where
      by : (a b : Bool) → Spell P item (all_of (cond {A = FileTree} a (bad NotUnderstood item) (cond {A = FileTree} b (finished item) (bad Unfinished item))).nodes)
      by true b = tt
      by false true = p
      by false false = tt

  all_of-append : (ns ms : List Node) → all_of (ns ++ ms) ≡ all_of ns ++ all_of ms
  all_of-append [] ms = refl
  all_of-append (n ∷ ns) ms = ap (λ l. of n ++ l) (all_of-append ns ms) ∙ sym (append_assoc (of n) (all_of ns) (all_of ms))

  -- items in turn
  all-spell : (read : List Lexeme → FileTree) (body : Body) (ts : List Lexeme) (all : List (List Lexeme)) → AreItems body ts all → ((item : List Lexeme) → Spell P item (all_of (read item).nodes)) → Spell P ts (all_of (all_items read all).nodes)
  all-spell read body ts [] are each = tt
  all-spell read body ts (item ∷ more) are each =
      let first = (read item).nodes in
      let rest = (all_items read more).nodes in
      let behind : Spell P are.0 (all_of rest) = all-spell read body are.0 more are.3 each in
      subst (Spell P ts) (sym (all_of-append first rest))
      (subst (λ l. Spell P l (all_of first ++ all_of rest)) (sym are.1) (spell-joined P item are.0 (all_of first) (all_of rest) (each item) behind))

  body_with-spells : (finished : List Lexeme → FileTree) (body : Body) (ts : List Lexeme) → ((item : List Lexeme) → Spell P item (all_of (finished item).nodes)) → Spell P ts (all_of (body_with finished body ts).nodes)
  body_with-spells finished body ts each = all-spell (item_tree finished body) body ts (items body ts) (are_items body ts) (λ item. item-spells finished body item (each item))

  -- the tokens of a body spell what is taken from its tree
  pub body-spells : (limit : ℕ) (body : Body) (ts : List Lexeme) → Spell P ts (all_of (body_tree limit body ts).nodes)
  unfolding body_tree
  body-spells zero body ts = body_with-spells (deepest_tree body) body ts (deepest-spells body)
  body-spells (suc limit) body ts = body_with-spells (form_tree (body_tree limit) body) body ts (form-spells (body_tree limit) (body-spells limit) body)
