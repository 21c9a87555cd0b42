-- A text that isn't proto3 has the one tree that the relation says.
use Rattle.std.proofs.Common.{◌≡◌, ◌⊎◌, inl, inr, ℕ, Bool, true, false, List, [], ◌∷◌, map, Some, None, refl, sym, ap, ap₂, subst, ◌∙◌, cond}
use Rattle.std.specs.Prelude.{◌&&◌, ◌||◌, not, codes, slice_range, unwrap_or, if◌then◌else◌}
use Rattle.std.specs.Str.{bytes_eq}
use Rattle.std.proofs.lemmas.Bool.{false≢true}
use Rattle.std.proofs.lemmas.Slice.Eq.{bytes_eq-Decides}
use denote.Enum.Bare.{same_true}
use Rattle.proto_lex.specs.Tokens.{AreTokens, tokens}
use Rattle.proto_lex.specs.declared.token.Token.{Token}
use Rattle.proto_tree.specs.contracts.lexeme.Terminal.{the_type}
use Rattle.proto_tree.specs.declared.lexeme.Body.TheVariants as b
use Rattle.proto_tree.specs.declared.lexeme.Lexeme.{Lexeme}
use Rattle.proto_tree.specs.declared.lexeme.Terminal.{Terminal}
use Rattle.proto_tree.specs.declared.lexeme.Terminal.TheVariants as w
use Rattle.proto_tree.specs.declared.node.FileTree.{FileTree}
use Rattle.proto_tree.specs.Forms.{is_label}
use Rattle.proto_tree.specs.Lexeme.{is, is_identifier, lexemes}
use Rattle.proto_tree.specs.Others.{begins_group, begins_named, is_left_out, kept, other_lexeme, other_lexemes, other_terminal, other_tree, other_word}
use Rattle.proto_tree.specs.Read.{bad_tokens, body_tree, join, max_blocks}
use Rattle.proto_laws.specs.OtherTrees.{AreRead, AreTold, BeginsGroup, BeginsNamed, IsNamed, IsOtherTreeOf, IsToken, SaysNothing, a_name, as_it_is, as_name, export, group, left_out, local, no_more, no_name, no_word, none, one_more, required}
use Rattle.proto_laws.proofs.PartsRead.{is_same, is_terminal}
use Rattle.proto_laws.proofs.TreesLaw.{body_only, body_reads}

-- ---- words

same_word : (name word : List ℕ) → bytes_eq name word ≡ true → name ≡ word
same_word name word e = (bytes_eq-Decides name word).0 e

other_name : (name word : List ℕ) → bytes_eq name word ≡ false → ¬ (name ≡ word)
other_name name word e same = false≢true (sym e ∙ (bytes_eq-Decides name word).1 same)

-- the definition gives each name what it is
named : (name : List ℕ) → IsNamed name (other_word name)
unfolding other_word
named name = by (bytes_eq name (codes "required")) (bytes_eq name (codes "group")) (bytes_eq name (codes "export")) (bytes_eq name (codes "local")) refl refl refl refl
  where
    by : (r g x l : Bool) → bytes_eq name (codes "required") ≡ r → bytes_eq name (codes "group") ≡ g → bytes_eq name (codes "export") ≡ x → bytes_eq name (codes "local") ≡ l
        → IsNamed name (unwrap_or (cond r (Some w.Optional) (cond g (Some w.Group) (cond x (Some w.Visibility) (cond l (Some w.Visibility) None)))) w.Name)
    by true g x l er eg ex el = required (same_word name (codes "required") er)
    by false true x l er eg ex el = group (same_word name (codes "group") eg)
    by false false true l er eg ex el = export (same_word name (codes "export") ex)
    by false false false true er eg ex el = local (same_word name (codes "local") el)
    by false false false false er eg ex el = no_word (other_name name (codes "required") er) (other_name name (codes "group") eg) (other_name name (codes "export") ex) (other_name name (codes "local") el)

-- and nothing else
named_only : (name : List ℕ) (it : Terminal) → IsNamed name it → it ≡ other_word name
unfolding other_word
named_only name it (required e) = rw e refl
named_only name it (group e) = rw e refl
named_only name it (export e) = rw e refl
named_only name it (local e) = rw e refl
named_only name it (no_word r g x l) = by (named name) refl
  where
    by : {found : Terminal} → IsNamed name found → found ≡ other_word name → w.Name ≡ other_word name
    by (required e) f = absurd (r e)
    by (group e) f = absurd (g e)
    by (export e) f = absurd (x e)
    by (local e) f = absurd (l e)
    by (no_word p q s t) f = f

module _ (text : List ℕ) where
  abbrev spelled : Lexeme → List ℕ
  spelled t = slice_range text t.span.start t.span.«end»

  told_here : (t : Lexeme) → IsToken text t (other_lexeme text t)
  told_here t = by t.terminal refl
    where
      by : (it : Terminal) → t.terminal ≡ it → IsToken text t (record { terminal = other_terminal it (spelled t); span = t.span })
      by w.Name e = a_name e (named (spelled t))
      by _ e = subst (λ (l : Lexeme). IsToken text t l) (ap (λ (it : Terminal). record { terminal = it; span = t.span }) e) (no_name (λ named. absurd (cc (e, named))))

  pub told : (ts : List Lexeme) → AreTold text ts (map (other_lexeme text) ts)
  told [] = none
  told (t ∷ ts) = one_more (told_here t) (told ts)

  told_here_only : (t u : Lexeme) → IsToken text t u → u ≡ other_lexeme text t
  told_here_only t u (a_name {it} e named) =
      ap (λ (it : Terminal). record { terminal = it; span = t.span }) (named_only (spelled t) it named ∙ ap (λ (it : Terminal). other_terminal it (spelled t)) (sym e))
  told_here_only t u (no_name other) = by t.terminal refl
    where
      by : (it : Terminal) → t.terminal ≡ it → t ≡ record { terminal = other_terminal it (spelled t); span = t.span }
      by w.Name e = absurd (other e)
      by _ e = ap (λ (it : Terminal). record { terminal = it; span = t.span }) e

  pub told_only : (ts us : List Lexeme) → AreTold text ts us → us ≡ map (other_lexeme text) ts
  told_only all are none = refl
  told_only all are (one_more {t} {u} {ts} {us} here rest) = ap₂ (λ (l : Lexeme) (ls : List Lexeme). l ∷ ls) (told_here_only t u here) (told_only ts us rest)

-- ---- groups, and what is visible

is_it : (it : Terminal) (t : Lexeme) → is it t ≡ true → t.terminal ≡ it
is_it it t e = same_true the_type (search refl) t.terminal it e

it_is : (it : Terminal) (t : Lexeme) → t.terminal ≡ it → is it t ≡ true
it_is it t e = ap (is_terminal it) e ∙ is_same it

left_true : (x y : Bool) → (x && y) ≡ true → x ≡ true
left_true true y e = refl
left_true false y e = absurd (false≢true e)

right_true : (x y : Bool) → (x && y) ≡ true → y ≡ true
right_true true y e = e
right_true false y e = absurd (false≢true e)

and_true : (x y : Bool) → x ≡ true → y ≡ true → (x && y) ≡ true
and_true x y e f = rw (e, f) refl

group_from : (ts : List Lexeme) → begins_group ts ≡ true → BeginsGroup ts
group_from [] e = absurd (false≢true e)
group_from (t ∷ []) e = absurd (false≢true e)
group_from (t ∷ u ∷ []) e = absurd (false≢true e)
group_from (t ∷ u ∷ v ∷ ts) e =
    let rest = right_true (is w.Group t) (is_identifier u.terminal && is w.Equals v) e in record {
      word = t;
      name = u;
      equals = v;
      behind = ts;
      tokens_are = refl;
      word_is = is_it w.Group t (left_true (is w.Group t) (is_identifier u.terminal && is w.Equals v) e);
      name_is = left_true (is_identifier u.terminal) (is w.Equals v) rest;
      equals_is = is_it w.Equals v (right_true (is_identifier u.terminal) (is w.Equals v) rest);
    }

group_to : (ts : List Lexeme) → BeginsGroup ts → begins_group ts ≡ true
group_to ts g =
    let t = g.word in
    let u = g.name in
    let v = g.equals in
    ap begins_group g.tokens_are ∙ and_true (is w.Group t) (is_identifier u.terminal && is w.Equals v) (it_is w.Group t g.word_is) (and_true (is_identifier u.terminal) (is w.Equals v) g.name_is (it_is w.Equals v g.equals_is))

either : (x y : Bool) → (x || y) ≡ true → (x ≡ true) ⊎ (y ≡ true)
either true y e = inl refl
either false y e = inr e

named_from : (ts : List Lexeme) → begins_named ts ≡ true → BeginsNamed ts
named_from [] e = absurd (false≢true e)
named_from (t ∷ []) e = absurd (false≢true e)
named_from (t ∷ u ∷ ts) e = record {
  word = t;
  name = u;
  behind = ts;
  tokens_are = refl;
  word_is = by (either (is w.Message t) (is w.Enum t) (left_true (is w.Message t || is w.Enum t) (is_identifier u.terminal) e));
  name_is = right_true (is w.Message t || is w.Enum t) (is_identifier u.terminal) e;
}
  where
    by : (is w.Message t ≡ true) ⊎ (is w.Enum t ≡ true) → (t.terminal ≡ w.Message) ⊎ (t.terminal ≡ w.Enum)
    by (inl e) = inl (is_it w.Message t e)
    by (inr e) = inr (is_it w.Enum t e)

named_to : (ts : List Lexeme) → BeginsNamed ts → begins_named ts ≡ true
named_to ts g =
    let t = g.word in
    let u = g.name in
    ap begins_named g.tokens_are ∙ and_true (is w.Message t || is w.Enum t) (is_identifier u.terminal) (by t g.word_is) g.name_is
  where
    by : (t : Lexeme) → (t.terminal ≡ w.Message) ⊎ (t.terminal ≡ w.Enum) → (is w.Message t || is w.Enum t) ≡ true
    by t (inl e) = rw e refl
    by t (inr e) = rw e refl

nothing_from : (t : Lexeme) (ts : List Lexeme) → is_left_out t ts ≡ true → SaysNothing t ts
nothing_from t ts e = by (either (is_label t.terminal && begins_group ts) (is w.Visibility t && begins_named ts) e)
  where
    by : ((is_label t.terminal && begins_group ts) ≡ true) ⊎ ((is w.Visibility t && begins_named ts) ≡ true) → SaysNothing t ts
    by (inl f) = inl (left_true (is_label t.terminal) (begins_group ts) f, group_from ts (right_true (is_label t.terminal) (begins_group ts) f))
    by (inr f) = inr (is_it w.Visibility t (left_true (is w.Visibility t) (begins_named ts) f), named_from ts (right_true (is w.Visibility t) (begins_named ts) f))

or_left : (x y : Bool) → x ≡ true → (x || y) ≡ true
or_left x y e = rw e refl

or_right : (x y : Bool) → y ≡ true → (x || y) ≡ true
or_right true y e = refl
or_right false y e = e

nothing_to : (t : Lexeme) (ts : List Lexeme) → SaysNothing t ts → is_left_out t ts ≡ true
nothing_to t ts (inl h) = or_left (is_label t.terminal && begins_group ts) (is w.Visibility t && begins_named ts) (and_true (is_label t.terminal) (begins_group ts) h.0 (group_to ts h.1))
nothing_to t ts (inr h) = or_right (is_label t.terminal && begins_group ts) (is w.Visibility t && begins_named ts) (and_true (is w.Visibility t) (begins_named ts) (it_is w.Visibility t h.0) (named_to ts h.1))

-- ---- the tokens that are read

-- a token that isn't left out, as it is read
abbrev read_as : Bool → Lexeme → Lexeme
read_as names t = record { terminal = if names then w.Name else t.terminal; span = t.span }

not_true : (x : Bool) → not x ≡ true → x ≡ false
not_true true e = absurd (false≢true e)
not_true false e = refl

pub reads : (ts : List Lexeme) → AreRead ts (kept ts)
reads [] = no_more
reads (t ∷ ts) = by (reads ts) (is_left_out t ts) (is w.Group t && not (begins_group (t ∷ ts))) refl refl
  where
    group_begins : (is w.Group t && not (begins_group (t ∷ ts))) ≡ false → t.terminal ≡ w.Group → BeginsGroup (t ∷ ts)
    group_begins names_not is_group = go (begins_group (t ∷ ts)) refl
      where
        go : (b : Bool) → begins_group (t ∷ ts) ≡ b → BeginsGroup (t ∷ ts)
        go true e = group_from (t ∷ ts) e
        go false e = absurd (false≢true (sym names_not ∙ and_true (is w.Group t) (not (begins_group (t ∷ ts))) (it_is w.Group t is_group) (ap not e)))

    by : AreRead ts (kept ts) → (o n : Bool) → is_left_out t ts ≡ o → (is w.Group t && not (begins_group (t ∷ ts))) ≡ n → AreRead (t ∷ ts) (cond {A = List Lexeme} o (kept ts) (read_as n t ∷ kept ts))
    by rest true n e f = left_out (nothing_from t ts e) rest
    by rest false true e f =
        as_name (is_it w.Group t (left_true (is w.Group t) (not (begins_group (t ∷ ts))) f))
        (λ g. false≢true (sym (not_true (begins_group (t ∷ ts)) (right_true (is w.Group t) (not (begins_group (t ∷ ts))) f)) ∙ group_to (t ∷ ts) g)) rest
    by rest false false e f = as_it_is (λ says. false≢true (sym e ∙ nothing_to t ts says)) (group_begins f) rest

not_left_out : (t : Lexeme) (ts : List Lexeme) → ¬ SaysNothing t ts → is_left_out t ts ≡ false
not_left_out t ts says_not = by (is_left_out t ts) refl
  where
    by : (b : Bool) → is_left_out t ts ≡ b → is_left_out t ts ≡ false
    by true e = absurd (says_not (nothing_from t ts e))
    by false e = e

no_group : (ts : List Lexeme) → ¬ BeginsGroup ts → begins_group ts ≡ false
no_group ts begins_not = by (begins_group ts) refl
  where
    by : (b : Bool) → begins_group ts ≡ b → begins_group ts ≡ false
    by true e = absurd (begins_not (group_from ts e))
    by false e = e

-- the word `group` is never left out
group_stays : (t : Lexeme) (ts : List Lexeme) → t.terminal ≡ w.Group → is_left_out t ts ≡ false
group_stays t ts e = rw e refl

names_it : (t : Lexeme) (ts : List Lexeme) → (t.terminal ≡ w.Group → BeginsGroup (t ∷ ts)) → (is w.Group t && not (begins_group (t ∷ ts))) ≡ false
names_it t ts begins = by (is w.Group t) refl
  where
    by : (b : Bool) → is w.Group t ≡ b → (b && not (begins_group (t ∷ ts))) ≡ false
    by true e = ap not (group_to (t ∷ ts) (begins (is_it w.Group t e)))
    by false e = refl

kept_here : (t : Lexeme) (ts : List Lexeme) (n : Bool) → is_left_out t ts ≡ false → (is w.Group t && not (begins_group (t ∷ ts))) ≡ n → read_as n t ∷ kept ts ≡ kept (t ∷ ts)
kept_here t ts n stays names = rw (stays, names) refl

pub reads_only : (ts us : List Lexeme) → AreRead ts us → us ≡ kept ts
reads_only all are no_more = refl
reads_only all are (left_out {t} {ts} {us} says rest) = reads_only ts us rest ∙ rw (nothing_to t ts says) refl
reads_only all are (as_name {t} {ts} {us} is_group begins rest) =
    ap (λ (ls : List Lexeme). read_as true t ∷ ls) (reads_only ts us rest)
    ∙ kept_here t ts true (group_stays t ts is_group) (and_true (is w.Group t) (not (begins_group (t ∷ ts))) (it_is w.Group t is_group) (ap not (no_group (t ∷ ts) begins)))
reads_only all are (as_it_is {t} {ts} {us} says begins rest) =
    ap (λ (ls : List Lexeme). read_as false t ∷ ls) (reads_only ts us rest) ∙ kept_here t ts false (not_left_out t ts says) (names_it t ts begins)

-- ---- texts

pub has_tree : (exist : (text : List ℕ) → AreTokens text (tokens text)) (text : List ℕ) → IsOtherTreeOf text (other_tree text)
unfolding other_tree
has_tree exist text = record {
  tokens = tokens text;
  told = map (other_lexeme text) (lexemes text (tokens text));
  read = other_lexemes text;
  its = body_tree max_blocks b.File (other_lexemes text);
  tokens_are = exist text;
  told_are = told text (lexemes text (tokens text));
  read_are = reads (map (other_lexeme text) (lexemes text (tokens text)));
  body = body_reads max_blocks b.File (other_lexemes text);
  tree_is = refl;
}

pub one_tree : (unique : (text : List ℕ) (ts : List Token) → AreTokens text ts → ts ≡ tokens text) (text : List ℕ) (tree : FileTree) → IsOtherTreeOf text tree → tree ≡ other_tree text
unfolding other_tree
one_tree unique text tree h =
    let ts = unique text h.tokens h.tokens_are in
    let us = told_only text (lexemes text h.tokens) h.told h.told_are ∙ ap (λ (l : List Token). map (other_lexeme text) (lexemes text l)) ts in
    let read = reads_only h.told h.read h.read_are ∙ ap kept us in
    let its = body_only max_blocks b.File h.read h.its h.body ∙ ap (body_tree max_blocks b.File) read in
    h.tree_is ∙ ap₂ (λ (l : List Token) (t : FileTree). join (record { nodes = []; faults = bad_tokens l }) t) ts its
