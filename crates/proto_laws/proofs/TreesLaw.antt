-- The tree of a text is the one that the relation has, and no other.
use Rattle.std.proofs.Common.{◌≡◌, ℕ, zero, suc, Bool, true, false, List, [], ◌∷◌, ◌++◌, Option, Some, None, refl, sym, ap, subst, ◌∙◌, arith}
use Rattle.std.specs.Prelude.{◌&&◌}
use Rattle.std.proofs.lemmas.Bool.{false≢true, eqb-true}
use denote.Enum.Bare.{same_true}
use Rattle.proto_tree.specs.contracts.lexeme.Terminal.{the_type}
use Rattle.proto_lex.specs.declared.token.Token.{Token}
use Rattle.proto_lex.specs.Tokens.{AreTokens, tokens}
use Rattle.proto_tree.specs.declared.node.FileTree.{FileTree}
use Rattle.proto_tree.specs.declared.node.Header.{Header}
use Rattle.proto_tree.specs.declared.node.Node.{Node}
use Rattle.proto_tree.specs.declared.node.SyntaxProblem.TheVariants.{TooDeep}
use Rattle.proto_tree.specs.declared.lexeme.Lexeme.{Lexeme}
use Rattle.proto_tree.specs.declared.lexeme.Body.{Body}
use Rattle.proto_tree.specs.declared.lexeme.Body.TheVariants as b
use Rattle.proto_tree.specs.declared.lexeme.Terminal.{Terminal}
use Rattle.proto_tree.specs.declared.lexeme.Terminal.TheVariants as w
use Rattle.proto_tree.specs.Lexeme.{is, lexemes}
use Rattle.proto_tree.specs.Cut.{AreItems, IsFirstItem, ends_in, has_block_words, is_at_depth_0, is_file, is_finished, is_stray, items}
use Rattle.proto_tree.specs.Parts.{but_last, span_of}
use Rattle.proto_tree.specs.Forms.{block_node, body_of, header_and_rest, opens, statement}
use Rattle.proto_tree.specs.Grammar.{Spells}
use Rattle.proto_tree.specs.Read.{all_items, bad, bad_tokens, body_tree, body_with, deepest_tree, finished_tree, form_tree, is_nesting_word, is_some_header, item_tree, join, max_blocks, may_open, nests, one_node, read, statement_tree, tree_of}
use Rattle.proto_laws.specs.Trees.{BeginsWith, HasNoHeader, IsTreeOf, Reads, ReadsBody, ReadsInTurn, SpellsNone, first_terminal, is_block, is_not_understood, is_statement, is_stray_brace, is_too_deep, is_unfinished, no_more, one_more}
use Rattle.proto_laws.proofs.BlockEnds.{blocks_end, closed-yes, opened-no}
use Rattle.proto_laws.proofs.GrammarLemmas.{gives-header, last_token, statement_spelled}
use Rattle.proto_laws.proofs.ItemsLaw.{are_items, only}
use Rattle.proto_laws.proofs.PartsRead.{differs, is_terminal, starts_turn}
use Rattle.proto_laws.proofs.StatementsRead.{but_last_one, ends_in_last, headers_are_read, starts_header, statements_are_read}

-- ---- finished items

and_false : (x : Bool) → (x && false) ≡ false
and_false true = refl
and_false false = refl

left_true : (x y : Bool) → (x && y) ≡ true → x ≡ true
left_true true y e = refl
left_true false y e = absurd (false≢true e)

right_true : (x y : Bool) → (x && y) ≡ true → y ≡ true
right_true true y e = e
right_true false y e = absurd (false≢true e)

and_true : (x y : Bool) → x ≡ true → y ≡ true → (x && y) ≡ true
and_true x y e f = rw (e, f) refl

-- a lone `}` isn't finished
not_stray : (body : Body) (item : List Lexeme) → is_finished body item ≡ true → is_stray body item ≡ false
not_stray body [] e = refl
not_stray body (t ∷ u ∷ ts) e = refl
not_stray body (t ∷ []) e = by (is w.CloseBrace t) refl
  where
    by : (c : Bool) → is w.CloseBrace t ≡ c → (is_file body && is w.CloseBrace t) ≡ false
    by false f = ap (λ c. is_file body && c) f ∙ and_false (is_file body)
    by true f =
        let none = opened-no t (differs (is_terminal w.CloseBrace) t.terminal w.OpenBrace f refl) in
        absurd (omega (arith, none, closed-yes t f, eqb-true _ _ (left_true (is_at_depth_0 (t ∷ [])) _ e)))

finished_is : (finished : List Lexeme → FileTree) (body : Body) (item : List Lexeme) (tree : FileTree) → is_finished body item ≡ true → finished item ≡ tree → item_tree finished body item ≡ tree
finished_is finished body item tree e f = rw (not_stray body item e, e) f

body-is : (blocks : ℕ) (body : Body) (ts : List Lexeme) → body_tree blocks body ts ≡ body_with (finished_tree blocks body) body ts
unfolding body_tree finished_tree
body-is zero body ts = refl
body-is (suc blocks) body ts = refl

-- ---- headers

-- the first token of what begins with a header
first_token : (head : Header) (behind item : List Lexeme) → BeginsWith head behind item → (t : Lexeme) × (ts : List Lexeme) × (item ≡ t ∷ ts) × (t.terminal ≡ first_terminal head)
first_token head behind item h =
    let s = starts_turn _ _ (starts_header head) h.2 in
    (s.first, s.more ++ behind, h.1 ∙ ap (λ l. l ++ behind) s.whole, same_true the_type (search refl) s.first.terminal (first_terminal head) s.passes)

header_is : (head : Header) (behind item : List Lexeme) → BeginsWith head behind item → header_and_rest item ≡ Some (head, behind)
header_is head behind item h = ap header_and_rest h.1 ∙ headers_are_read head h.0 behind h.2

begins_so : (item : List Lexeme) (head : Header) (behind : List Lexeme) → header_and_rest item ≡ Some (head, behind) → BeginsWith head behind item
begins_so item head behind e = gives-header item head behind e

nests_is : (head : Header) (behind item : List Lexeme) → BeginsWith head behind item → is_nesting_word (first_terminal head) ≡ true → nests item ≡ true
nests_is head behind item h nesting =
    let t = first_token head behind item h in
    ap nests t.2 ∙ and_true (is_nesting_word t.0.terminal) (is_some_header (header_and_rest (t.0 ∷ t.1))) (ap is_nesting_word t.3 ∙ nesting) (ap (λ l. is_some_header (header_and_rest l)) (sym t.2) ∙ ap is_some_header (header_is head behind item h))

may_open_is : (body : Body) (head : Header) (behind item : List Lexeme) → BeginsWith head behind item → may_open body item ≡ opens body (first_terminal head)
may_open_is body head behind item h = let t = first_token head behind item h in ap (may_open body) t.2 ∙ ap (opens body) t.3

-- what is read where no header decides
no_header : (blocks : ℕ) (body : Body) (item : List Lexeme) → HasNoHeader blocks body item → finished_tree blocks body item ≡ statement_tree item (statement body item)
unfolding finished_tree
no_header zero body [] none = refl
no_header zero body (t ∷ ts) none = by (is_nesting_word t.terminal) refl (header_and_rest (t ∷ ts)) refl
  where
    by : (c : Bool) → is_nesting_word t.terminal ≡ c → (o : Option (Header × List Lexeme)) → header_and_rest (t ∷ ts) ≡ o → deepest_tree body (t ∷ ts) ≡ statement_tree (t ∷ ts) (statement body (t ∷ ts))
    by false e o f = rw e refl
    by true e None f = rw (e, f) refl
    by true e (Some p) f =
        let begins = begins_so (t ∷ ts) p.0 p.1 f in
        let first = first_token p.0 p.1 (t ∷ ts) begins in
        let same : t ≡ first.0 = cc (first.2) in
        absurd (none p.0 p.1 (sym (ap is_nesting_word (ap (λ (x : Lexeme). x.terminal) same ∙ first.3)) ∙ e) begins)
no_header (suc blocks) body item none = by (may_open body item) refl (header_and_rest item) refl
  where
    by : (c : Bool) → may_open body item ≡ c → (o : Option (Header × List Lexeme)) → header_and_rest item ≡ o → form_tree (body_tree blocks) body item ≡ statement_tree item (statement body item)
    by false e o f = rw e refl
    by true e None f = rw (e, f) refl
    by true e (Some p) f =
        let begins = begins_so item p.0 p.1 f in
        absurd (none p.0 p.1 (sym (may_open_is body p.0 p.1 item begins) ∙ e) begins)

-- a statement that is spelled, or none
none_read : (body : Body) (item : List Lexeme) → SpellsNone body item → statement body item ≡ None
unfolding statement
none_read body [] none = refl
none_read body (t ∷ ts) none = by (statement body (t ∷ ts)) refl
  where
    by : (o : Option Node) → statement body (t ∷ ts) ≡ o → statement body (t ∷ ts) ≡ None
    by None e = e
    by (Some n) e = absurd (none t ts n refl (statement_spelled body t ts n e))

spelled_read : (body : Body) (item : List Lexeme) (t : Lexeme) (ts : List Lexeme) (n : Node) → item ≡ t ∷ ts → Spells body t.terminal (span_of item) n item → statement body item ≡ Some n
spelled_read body item t ts n e h = ap (statement body) e ∙ statements_are_read body t ts n (subst (λ l. Spells body t.terminal (span_of l) n l) e h)

-- ---- no other tree

deep_is : (body : Body) (item : List Lexeme) → nests item ≡ true → finished_tree zero body item ≡ bad TooDeep item
unfolding finished_tree
deep_is body item e = rw e refl

-- a block, where its body is read so
block_is : (blocks : ℕ) (body : Body) (item : List Lexeme) (head : Header) (inside : List Lexeme) (last : Lexeme) (its : FileTree) → opens body (first_terminal head) ≡ true → BeginsWith head (inside ++ last ∷ []) item → last.terminal ≡ w.CloseBrace
    → its ≡ body_tree blocks (body_of head) inside → finished_tree (suc blocks) body item ≡ record { nodes = block_node (span_of item) head its.nodes ∷ []; faults = its.faults }
unfolding finished_tree
block_is blocks body item head inside last its may begins close same =
    let opened : may_open body item ≡ true = may_open_is body head (inside ++ last ∷ []) item begins ∙ may in
    let ends : ends_in w.CloseBrace (inside ++ last ∷ []) ≡ true = ends_in_last w.CloseBrace inside last close in
    rw (opened, header_is head (inside ++ last ∷ []) item begins, ends)
    (ap made (ap (body_tree blocks (body_of head)) (but_last_one inside last) ∙ sym same))
  where
    made : FileTree → FileTree
    made t = record { nodes = block_node (span_of item) head t.nodes ∷ []; faults = t.faults }

mutual
  only-item : {blocks : ℕ} {body : Body} {item : List Lexeme} {tree : FileTree} → Reads blocks body item tree → tree ≡ item_tree (finished_tree blocks body) body item
  only-item (is_stray_brace {blocks} {body} {item} e) = rw e refl
  only-item (is_unfinished {blocks} {body} {item} e f) = rw (e, f) refl
  only-item (is_too_deep {body} {item} head behind e nesting begins) = sym (finished_is (finished_tree zero body) body item _ e (deep_is body item (nests_is head behind item begins nesting)))
  only-item (is_block {blocks} {body} {item} {its} head inside last items e may begins close are turn) =
      sym (finished_is (finished_tree (suc blocks) body) body item _ e (block_is blocks body item head inside last its may begins close
      (only-turn turn ∙ ap (all_items (item_tree (finished_tree blocks (body_of head)) (body_of head))) (only (body_of head) inside items are) ∙ sym (body-is blocks (body_of head) inside))))
  only-item (is_statement {blocks} {body} {item} {n} t ts e none same h) = sym (finished_is (finished_tree blocks body) body item _ e (no_header blocks body item none ∙ ap (statement_tree item) (spelled_read body item t ts n same h)))
  only-item (is_not_understood {blocks} {body} {item} e none h) = sym (finished_is (finished_tree blocks body) body item _ e (no_header blocks body item none ∙ ap (statement_tree item) (none_read body item h)))

  only-turn : {blocks : ℕ} {body : Body} {all : List (List Lexeme)} {tree : FileTree} → ReadsInTurn blocks body all tree → tree ≡ all_items (item_tree (finished_tree blocks body) body) all
  only-turn no_more = refl
  only-turn (one_more {blocks} {body} {item} {more} {its} {others} h g) = ap (λ (t : FileTree). join t others) (only-item h) ∙ ap (join (item_tree (finished_tree blocks body) body item)) (only-turn g)

-- ---- there is one

spelled_item : (blocks : ℕ) (body : Body) (item : List Lexeme) (n : Node) → is_finished body item ≡ true → HasNoHeader blocks body item → statement body item ≡ Some n → Reads blocks body item (one_node n)
unfolding statement
spelled_item blocks body [] n e none f = cc
spelled_item blocks body (t ∷ ts) n e none f = is_statement t ts e none refl (statement_spelled body t ts n f)

-- where no header decides
has_statement : (blocks : ℕ) (body : Body) (item : List Lexeme) → is_finished body item ≡ true → HasNoHeader blocks body item → Reads blocks body item (finished_tree blocks body item)
has_statement blocks body item e none = subst (Reads blocks body item) (sym (no_header blocks body item none)) (by (statement body item) refl)
  where
    never : (n : Node) → ◌≡◌ {A = Option Node} (Some n) None → ⊥
    never n e = cc

    by : (o : Option Node) → statement body item ≡ o → Reads blocks body item (statement_tree item o)
    by None f = is_not_understood e none (λ t ts n same h. never n (sym (spelled_read body item t ts n same h) ∙ f))
    by (Some n) f = spelled_item blocks body item n e none f

block_words : (body : Body) (it : Terminal) → opens body it ≡ true → has_block_words body ≡ true
block_words b.Enum it e = absurd (false≢true e)
block_words _ it e = refl

-- a finished item is read, if the bodies inside it are
has_finished : (blocks : ℕ) (body : Body) (item rest : List Lexeme) → ((less : ℕ) → suc less ≡ blocks → (inner : Body) (ts : List Lexeme) → ReadsBody less inner ts (body_tree less inner ts)) → IsFirstItem body item rest → is_finished body item ≡ true
    → Reads blocks body item (finished_tree blocks body item)
has_finished zero body item rest inner first e = by (nests item) refl
  where
    headed : (item : List Lexeme) → is_finished body item ≡ true → nests item ≡ true → Reads zero body item (finished_tree zero body item)
    headed [] e f = absurd (false≢true f)
    headed (t ∷ ts) e f = decided (header_and_rest (t ∷ ts)) refl (right_true (is_nesting_word t.terminal) (is_some_header (header_and_rest (t ∷ ts))) f)
      where
        decided : (o : Option (Header × List Lexeme)) → header_and_rest (t ∷ ts) ≡ o → is_some_header (header_and_rest (t ∷ ts)) ≡ true → Reads zero body (t ∷ ts) (finished_tree zero body (t ∷ ts))
        decided None g h = absurd (false≢true (sym (ap is_some_header g) ∙ h))
        decided (Some p) g h =
            let begins = begins_so (t ∷ ts) p.0 p.1 g in
            let its = first_token p.0 p.1 (t ∷ ts) begins in
            let same : t ≡ its.0 = cc (its.2) in
            let nesting : is_nesting_word (first_terminal p.0) ≡ true = sym (ap is_nesting_word (ap (λ (x : Lexeme). x.terminal) same ∙ its.3)) ∙ left_true (is_nesting_word t.terminal) (is_some_header (header_and_rest (t ∷ ts))) f in
            subst (Reads zero body (t ∷ ts)) (sym (deep_is body (t ∷ ts) f)) (is_too_deep p.0 p.1 e nesting begins)

    by : (c : Bool) → nests item ≡ c → Reads zero body item (finished_tree zero body item)
    by true f = headed item e f
    by false f = has_statement zero body item e (λ head behind nesting begins. false≢true (sym f ∙ nests_is head behind item begins nesting))
has_finished (suc blocks) body item rest inner first e = by (may_open body item) refl (header_and_rest item) refl
  where
    block : (head : Header) (behind : List Lexeme) → BeginsWith head behind item → opens body (first_terminal head) ≡ true → Reads (suc blocks) body item (finished_tree (suc blocks) body item)
    block head behind begins may =
        let ends = blocks_end body item rest head behind (block_words body (first_terminal head) may) first e begins in
        let last = last_token w.CloseBrace behind ends in
        let inside = but_last 1 behind in
        let its = inner blocks refl (body_of head) inside in
        let begins_inside : BeginsWith head (inside ++ last.0 ∷ []) item = subst (λ l. BeginsWith head l item) last.1 begins in
        subst (Reads (suc blocks) body item) (sym (block_is blocks body item head inside last.0 (body_tree blocks (body_of head) inside) may begins_inside last.2 refl))
        (is_block head inside last.0 its.0 e may begins_inside last.2 its.1 its.2)

    by : (c : Bool) → may_open body item ≡ c → (o : Option (Header × List Lexeme)) → header_and_rest item ≡ o → Reads (suc blocks) body item (finished_tree (suc blocks) body item)
    by false f o g = has_statement (suc blocks) body item e (λ head behind may begins. false≢true (sym f ∙ may_open_is body head behind item begins ∙ may))
    by true f None g = has_statement (suc blocks) body item e (λ head behind may begins. nothing head behind (sym g ∙ header_is head behind item begins))
      where
        nothing : (head : Header) (behind : List Lexeme) → ◌≡◌ {A = Option (Header × List Lexeme)} None (Some (head, behind)) → ⊥
        nothing head behind e = cc
    by true f (Some p) g = let begins = begins_so item p.0 p.1 g in block p.0 p.1 begins (sym (may_open_is body p.0 p.1 item begins) ∙ f)

has_item : (blocks : ℕ) (body : Body) (item : List Lexeme) → (is_finished body item ≡ true → Reads blocks body item (finished_tree blocks body item)) → Reads blocks body item (item_tree (finished_tree blocks body) body item)
has_item blocks body item finished = by (is_stray body item) refl (is_finished body item) refl
  where
    by : (c : Bool) → is_stray body item ≡ c → (d : Bool) → is_finished body item ≡ d → Reads blocks body item (item_tree (finished_tree blocks body) body item)
    by true e d f = rw e (is_stray_brace e)
    by false e false f = rw (e, f) (is_unfinished e f)
    by false e true f = rw (e, f) (finished f)

has_turn : (blocks : ℕ) (body : Body) (ts : List Lexeme) (all : List (List Lexeme)) → AreItems body ts all
    → ((item rest : List Lexeme) → IsFirstItem body item rest → Reads blocks body item (item_tree (finished_tree blocks body) body item)) → ReadsInTurn blocks body all (all_items (item_tree (finished_tree blocks body) body) all)
has_turn blocks body ts [] are each = no_more
has_turn blocks body ts (item ∷ more) are each = one_more (each item are.0 are.2) (has_turn blocks body are.0 more are.3 each)

has_body : (blocks : ℕ) (body : Body) (ts : List Lexeme) → ((less : ℕ) → suc less ≡ blocks → (inner : Body) (ts : List Lexeme) → ReadsBody less inner ts (body_tree less inner ts)) → ReadsBody blocks body ts (body_tree blocks body ts)
has_body blocks body ts inner =
    let are = are_items body ts in
    let turn = has_turn blocks body ts (items body ts) are (λ item rest first. has_item blocks body item (has_finished blocks body item rest inner first)) in
    (items body ts, are, subst (ReadsInTurn blocks body (items body ts)) (sym (body-is blocks body ts)) turn)

pub body_reads : (blocks : ℕ) (body : Body) (ts : List Lexeme) → ReadsBody blocks body ts (body_tree blocks body ts)
body_reads zero body ts = has_body zero body ts (λ less e. absurd (omega (arith, e)))
body_reads (suc blocks) body ts = has_body (suc blocks) body ts (λ less e inner its. let same : blocks ≡ less = omega (arith, e) in subst (λ n. ReadsBody n inner its (body_tree n inner its)) same (body_reads blocks inner its))

pub body_only : (blocks : ℕ) (body : Body) (ts : List Lexeme) (tree : FileTree) → ReadsBody blocks body ts tree → tree ≡ body_tree blocks body ts
body_only blocks body ts tree h = only-turn h.2 ∙ ap (all_items (item_tree (finished_tree blocks body) body)) (only body ts h.0 h.1) ∙ sym (body-is blocks body ts)

-- ---- texts

pub text_has : ((text : List ℕ) → AreTokens text (tokens text)) → (text : List ℕ) → IsTreeOf text (read text)
unfolding read tree_of
text_has are text = (tokens text, body_tree max_blocks b.File (lexemes text (tokens text)), are text, body_reads max_blocks b.File (lexemes text (tokens text)), refl)

pub text_only : ((text : List ℕ) (ts : List Token) → AreTokens text ts → ts ≡ tokens text) → (text : List ℕ) (tree : FileTree) → IsTreeOf text tree → tree ≡ read text
unfolding read tree_of
text_only unique text tree h =
    h.4 ∙ ap (join (record { nodes = []; faults = bad_tokens h.0 })) (body_only max_blocks b.File (lexemes text h.0) h.1 h.3)
    ∙ ap (λ (ts : List Token). join (record { nodes = []; faults = bad_tokens ts }) (body_tree max_blocks b.File (lexemes text ts))) (unique text h.0 h.2)
