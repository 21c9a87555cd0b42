-- An item that begins with a header and its `{` ends with the `}` that closes it.
use Rattle.std.proofs.Common.{◌≡◌, ◌⊎◌, inl, inr, ℕ, zero, suc, ◌+◌, ◌<◌, ◌≤◌, Bool, true, false, List, [], ◌∷◌, ◌++◌, refl, sym, ap, subst, ◌∙◌, arith, cond, append_assoc, append-nil}
use Rattle.std.specs.Prelude.{IsTrue, ◌&&◌, ◌||◌, count_by}
use Rattle.std.proofs.lemmas.Bool.{eq-eqb, eqb-true, false≢true}
use Rattle.std.proofs.lemmas.List.Sums.{sum_by-append}
use denote.Enum.Bare.{same_true}
use Rattle.proto_tree.specs.contracts.lexeme.Terminal.{the_type}
use Rattle.proto_tree.specs.declared.lexeme.Lexeme.{Lexeme}
use Rattle.proto_tree.specs.declared.lexeme.Body.{Body}
use Rattle.proto_tree.specs.declared.lexeme.Terminal.{Terminal}
use Rattle.proto_tree.specs.declared.lexeme.Terminal.TheVariants as w
use Rattle.proto_tree.specs.declared.node.Header.{Header}
use Rattle.proto_tree.specs.declared.node.Header.TheVariants as header
use Rattle.proto_tree.specs.declared.node.Span.{Span}
use Rattle.proto_tree.specs.declared.node.TypeName.{TypeName}
use Rattle.proto_tree.specs.Lexeme.{is, is_block_word, is_identifier, same_terminal}
use Rattle.proto_tree.specs.Cut.{begins_block, ends_in, has_block_words, is_at_depth_0, is_finished, is_stray}
use Rattle.proto_tree.specs.Grammar.{◌⊳◌, IsTerminal, IsIdent, IsFlag, IsFull, IsType, IsInParentheses, IsHeader}
use Rattle.proto_tree.specs.Cut.{begins}
use Rattle.proto_laws.specs.Trees.{BlocksEnd, first_terminal}
use Rattle.proto_laws.proofs.PartsRead.{differs, is_terminal, is_same, starts_turn}
use Rattle.proto_laws.proofs.StatementsRead.{starts_header}

-- ---- counts of braces

abbrev opened : List Lexeme → ℕ
opened ts = count_by (is w.OpenBrace) ts

abbrev closed : List Lexeme → ℕ
closed ts = count_by (is w.CloseBrace) ts

closed-append : (xs ys : List Lexeme) → closed (xs ++ ys) ≡ closed xs + closed ys
closed-append xs ys = sum_by-append (λ x. cond (is w.CloseBrace x) 1 0) xs ys

opened-append : (xs ys : List Lexeme) → opened (xs ++ ys) ≡ opened xs + opened ys
opened-append xs ys = sum_by-append (λ x. cond (is w.OpenBrace x) 1 0) xs ys

-- of one token
closed-no : (t : Lexeme) → is w.CloseBrace t ≡ false → closed (t ∷ []) ≡ 0
closed-no t e = let one : cond {A = ℕ} (is w.CloseBrace t) 1 0 ≡ 0 = ap (λ b. cond {A = ℕ} b 1 0) e in omega (arith, one)

pub closed-yes : (t : Lexeme) → is w.CloseBrace t ≡ true → closed (t ∷ []) ≡ 1
closed-yes t e = let one : cond {A = ℕ} (is w.CloseBrace t) 1 0 ≡ 1 = ap (λ b. cond {A = ℕ} b 1 0) e in omega (arith, one)

pub opened-no : (t : Lexeme) → is w.OpenBrace t ≡ false → opened (t ∷ []) ≡ 0
opened-no t e = let one : cond {A = ℕ} (is w.OpenBrace t) 1 0 ≡ 0 = ap (λ b. cond {A = ℕ} b 1 0) e in omega (arith, one)

opened-yes : (t : Lexeme) → is w.OpenBrace t ≡ true → opened (t ∷ []) ≡ 1
opened-yes t e = let one : cond {A = ℕ} (is w.OpenBrace t) 1 0 ≡ 1 = ap (λ b. cond {A = ℕ} b 1 0) e in omega (arith, one)

-- ---- no `}` stands in a header

abbrev NoClose : List Lexeme → Type 0
NoClose ts = closed ts ≡ 0

close-turn : (P Q : List Lexeme → Type 0) (ts : List Lexeme) → ((front : List Lexeme) → P front → NoClose front) → ((back : List Lexeme) → Q back → NoClose back) → (P ⊳ Q) ts → NoClose ts
close-turn P Q ts p q h = omega (arith, ap closed h.2, closed-append h.0 h.1, p h.0 h.3, q h.1 h.4)

close-terminal : (it : Terminal) → same_terminal it w.CloseBrace ≡ false → (ts : List Lexeme) → IsTerminal it ts → NoClose ts
close-terminal it e ts h = ap closed h.1 ∙ closed-no h.0 (ap (λ x. same_terminal x w.CloseBrace) h.2 ∙ e)

close-ident : (name : Span) (ts : List Lexeme) → IsIdent name ts → NoClose ts
close-ident name ts h = ap closed h.1 ∙ closed-no h.0 (differs is_identifier h.0.terminal w.CloseBrace h.2 refl)

close-flag : (it : Terminal) → same_terminal it w.CloseBrace ≡ false → (flag : Bool) (ts : List Lexeme) → IsFlag it flag ts → NoClose ts
close-flag it e true ts h = close-terminal it e ts h
close-flag it e false ts h = ap closed h

close-full : (names : List Span) (ts : List Lexeme) → IsFull names ts → NoClose ts
close-full [] ts h = absurd h
close-full (x ∷ []) ts h = close-ident x ts h
close-full (x ∷ y ∷ more) ts h = omega (arith, ap closed h.2, closed-append h.0 h.1, close-ident x h.0 h.3, ap closed h.4.2, closed-append h.4.0 h.4.1, close-terminal w.Dot refl h.4.0 h.4.3, close-full (y ∷ more) h.4.1 h.4.4)

close-type : (name : TypeName) (ts : List Lexeme) → IsType name ts → NoClose ts
close-type name ts h = close-turn (IsFlag w.Dot name.is_absolute) (IsFull name.components) ts (close-flag w.Dot refl name.is_absolute) (close-full name.components) h.0

close-parentheses : (name : TypeName) (ts : List Lexeme) → IsInParentheses name ts → NoClose ts
close-parentheses name ts h =
    close-turn (IsTerminal w.OpenParen) (λ inside. (IsFlag w.Stream (begins w.Stream inside) ⊳ (IsType name ⊳ IsTerminal w.CloseParen)) inside) ts (close-terminal w.OpenParen refl)
    (λ inside p. close-turn (IsFlag w.Stream (begins w.Stream inside)) (IsType name ⊳ IsTerminal w.CloseParen) inside (close-flag w.Stream refl (begins w.Stream inside)) (λ back q. close-turn (IsType name) (IsTerminal w.CloseParen) back (close-type name) (close-terminal w.CloseParen refl) q) p) h

close-named : (it : Terminal) (name : Span) → same_terminal it w.CloseBrace ≡ false → (ts : List Lexeme) → (IsTerminal it ⊳ IsIdent name) ts → NoClose ts
close-named it name e ts h = close-turn (IsTerminal it) (IsIdent name) ts (close-terminal it e) (close-ident name) h

close-header : (head : Header) (ts : List Lexeme) → IsHeader head ts → NoClose ts
close-header (header.Message name) ts h = close-named w.Message name refl ts h
close-header (header.Enum name) ts h = close-named w.Enum name refl ts h
close-header (header.Service name) ts h = close-named w.Service name refl ts h
close-header (header.Oneof name) ts h = close-named w.Oneof name refl ts h
close-header (header.Extend target) ts h = close-turn (IsTerminal w.Extend) (IsType target) ts (close-terminal w.Extend refl) (close-type target) h
close-header (header.Group name) ts h =
    close-turn (IsTerminal w.Group) (IsIdent name ⊳ (IsTerminal w.Equals ⊳ IsTerminal w.Int)) ts (close-terminal w.Group refl)
    (λ t1 h1. close-turn (IsIdent name) (IsTerminal w.Equals ⊳ IsTerminal w.Int) t1 (close-ident name)
    (λ t2 h2. close-turn (IsTerminal w.Equals) (IsTerminal w.Int) t2 (close-terminal w.Equals refl) (close-terminal w.Int refl) h2) h1) h
close-header (header.Rpc name request response) ts h =
    close-turn (IsTerminal w.Rpc) (IsIdent name ⊳ (IsInParentheses request ⊳ (IsTerminal w.Returns ⊳ IsInParentheses response))) ts (close-terminal w.Rpc refl)
    (λ t1 h1. close-turn (IsIdent name) (IsInParentheses request ⊳ (IsTerminal w.Returns ⊳ IsInParentheses response)) t1 (close-ident name)
    (λ t2 h2. close-turn (IsInParentheses request) (IsTerminal w.Returns ⊳ IsInParentheses response) t2 (close-parentheses request)
    (λ t3 h3. close-turn (IsTerminal w.Returns) (IsInParentheses response) t3 (close-terminal w.Returns refl) (close-parentheses response) h3) h2) h1) h

-- behind a header and its `{` a brace is open
one_open : (head : Header) (front : List Lexeme) → (IsHeader head ⊳ IsTerminal w.OpenBrace) front → closed front < opened front
one_open head front h =
    let brace = h.4 in
    let shut : closed front ≡ 0 = close-turn (IsHeader head) (IsTerminal w.OpenBrace) front (close-header head) (close-terminal w.OpenBrace refl) h in
    let open_one : opened h.1 ≡ 1 = ap opened brace.1 ∙ opened-yes brace.0 (ap (is_terminal w.OpenBrace) brace.2 ∙ is_same w.OpenBrace) in
    omega (arith, shut, open_one, ap opened h.2, opened-append h.0 h.1)

-- ---- where the depth is 0 again

begins-longer : (body : Body) (ts more : List Lexeme) → begins_block body ts ≡ true → begins_block body (ts ++ more) ≡ true
begins-longer body [] more e = absurd (false≢true e)
begins-longer body (t ∷ ts) more e = e

ends_in-snoc : (it : Terminal) (ts : List Lexeme) (t : Lexeme) → ends_in it (ts ++ t ∷ []) ≡ is it t
ends_in-snoc it [] t = refl
ends_in-snoc it (u ∷ []) t = refl
ends_in-snoc it (u ∷ v ∷ ts) t = ends_in-snoc it (v ∷ ts) t

ends_in-behind : (it : Terminal) (front : List Lexeme) (t : Lexeme) (ts : List Lexeme) → ends_in it (front ++ t ∷ ts) ≡ ends_in it (t ∷ ts)
ends_in-behind it [] t ts = refl
ends_in-behind it (u ∷ []) t ts = refl
ends_in-behind it (u ∷ v ∷ front) t ts = ends_in-behind it (v ∷ front) t ts

and_true : (x y : Bool) → x ≡ true → y ≡ true → (x && y) ≡ true
and_true x y e f = rw (e, f) refl

or_true : (x y : Bool) → y ≡ true → (x || y) ≡ true
or_true true y e = refl
or_true false y e = e

either_way : (i j : ℕ) → i < j → (suc i < j) ⊎ (suc i ≡ j)
either_way zero zero lt = absurd (omega (arith, lt))
either_way zero (suc zero) lt = inr refl
either_way zero (suc (suc j)) lt = inl (omega arith)
either_way (suc i) zero lt = absurd (omega (arith, lt))
either_way (suc i) (suc j) lt = by (either_way i j (omega (arith, lt)))
  where
    by : (suc i < j) ⊎ (suc i ≡ j) → (suc (suc i) < suc j) ⊎ (suc (suc i) ≡ suc j)
    by (inl more) = inl (omega (arith, more))
    by (inr same) = inr (ap suc same)

-- a front that is a finished block
abbrev FinishedFront : Body → List Lexeme → Type 0
FinishedFront body item = (front : List Lexeme) × (t : Lexeme) × (more : List Lexeme) × (item ≡ (front ++ t ∷ []) ++ more) × (is_finished body (front ++ t ∷ []) ≡ true) × (is w.CloseBrace t ≡ true)

at_close : (body : Body) (front : List Lexeme) (t : Lexeme) (more : List Lexeme) → begins_block body front ≡ true → is w.CloseBrace t ≡ true → suc (closed front) ≡ opened front → FinishedFront body (front ++ t ∷ more)
at_close body front t more begins_it e same =
    let none : opened (t ∷ []) ≡ 0 = opened-no t (differs (is_terminal w.CloseBrace) t.terminal w.OpenBrace e refl) in
    let counts : opened (front ++ t ∷ []) ≡ closed (front ++ t ∷ []) = omega (arith, none, closed-yes t e, same, opened-append front (t ∷ []), closed-append front (t ∷ [])) in
    let depth : is_at_depth_0 (front ++ t ∷ []) ≡ true = eq-eqb (opened (front ++ t ∷ [])) (closed (front ++ t ∷ [])) counts in
    let block = and_true (begins_block body (front ++ t ∷ [])) (ends_in w.CloseBrace (front ++ t ∷ [])) (begins-longer body front (t ∷ []) begins_it) (ends_in-snoc w.CloseBrace front t ∙ e) in
    (front, t, more, sym (append_assoc front (t ∷ []) more), and_true _ _ depth (or_true (ends_in w.Semicolon (front ++ t ∷ [])) _ block), e)

walk : (body : Body) (front back : List Lexeme) → begins_block body front ≡ true → closed front < opened front → opened (front ++ back) ≡ closed (front ++ back) → FinishedFront body (front ++ back)
walk body front [] begins_it lt same = absurd (omega (arith, lt, same, ap opened (append-nil front), ap closed (append-nil front)))
walk body front (t ∷ back) begins_it lt same =
    by (is w.CloseBrace t) refl (λ more. subst (FinishedFront body) split (walk body (front ++ t ∷ []) back (begins-longer body front (t ∷ []) begins_it) more (ap opened split ∙ same ∙ sym (ap closed split))))
  where
    split : (front ++ t ∷ []) ++ back ≡ front ++ t ∷ back
    split = append_assoc front (t ∷ []) back

    grows : opened front ≤ opened (front ++ t ∷ [])
    grows = omega (arith, opened-append front (t ∷ []))

    by : (c : Bool) → is w.CloseBrace t ≡ c → (closed (front ++ t ∷ []) < opened (front ++ t ∷ []) → FinishedFront body (front ++ t ∷ back)) → FinishedFront body (front ++ t ∷ back)
    by false e more = more (omega (arith, lt, grows, closed-append front (t ∷ []), closed-no t e))
    by true e more = reached (either_way (closed front) (opened front) lt)
      where
        reached : (suc (closed front) < opened front) ⊎ (suc (closed front) ≡ opened front) → FinishedFront body (front ++ t ∷ back)
        reached (inl below) = more (omega (arith, below, grows, closed-append front (t ∷ []), closed-yes t e))
        reached (inr now) = at_close body front t back begins_it e now

-- ---- the law

both : (x y : Bool) → (x && y) ≡ true → (x ≡ true) × (y ≡ true)
both true true e = (refl, refl)
both true false e = absurd (false≢true e)
both false y e = absurd (false≢true e)

block_word : (head : Header) → is_block_word (first_terminal head) ≡ true
block_word (header.Message name) = refl
block_word (header.Enum name) = refl
block_word (header.Service name) = refl
block_word (header.Oneof name) = refl
block_word (header.Extend target) = refl
block_word (header.Group name) = refl
block_word (header.Rpc name request response) = refl

header_begins : (body : Body) (head : Header) (front : List Lexeme) → IsTrue (has_block_words body) → (IsHeader head ⊳ IsTerminal w.OpenBrace) front → begins_block body front ≡ true
header_begins body head front words h =
    let s = starts_turn (IsHeader head) (IsTerminal w.OpenBrace) (starts_header head) h in
    let first = same_true the_type (search refl) s.first.terminal (first_terminal head) s.passes in
    ap (begins_block body) s.whole ∙ and_true (has_block_words body) (is_block_word s.first.terminal) words (ap is_block_word first ∙ block_word head)

or_first : (x y : Bool) → x ≡ true → (x || y) ≡ true
or_first true y e = refl
or_first false y e = absurd (false≢true e)

pub blocks_end : BlocksEnd
blocks_end body item rest head behind words first finished (front, same, h) =
    let depth = both (is_at_depth_0 item) (ends_in w.Semicolon item || (begins_block body item && ends_in w.CloseBrace item)) finished in
    let counts : opened item ≡ closed item = eqb-true (opened item) (closed item) depth.0 in
    let found = walk body front behind (header_begins body head front words h) (one_open head front h) (sym (ap opened same) ∙ counts ∙ ap closed same) in
    last found.0 found.1 found.2 (same ∙ found.3) found.4 found.5 behind same (one_open head front h) counts
  where
    last : (a : List Lexeme) (t : Lexeme) (more : List Lexeme) → item ≡ (a ++ t ∷ []) ++ more → is_finished body (a ++ t ∷ []) ≡ true → is w.CloseBrace t ≡ true → (behind : List Lexeme) → item ≡ front ++ behind → closed front < opened front → opened item ≡ closed item
        → ends_in w.CloseBrace behind ≡ true
    last a t [] e done close [] same lt counts = absurd (omega (arith, lt, counts, ap opened (same ∙ append-nil front), ap closed (same ∙ append-nil front)))
    last a t [] e done close (u ∷ behind) same lt counts = sym (ends_in-behind w.CloseBrace front u behind) ∙ sym (ap (ends_in w.CloseBrace) same) ∙ ap (ends_in w.CloseBrace) (e ∙ append-nil (a ++ t ∷ [])) ∙ ends_in-snoc w.CloseBrace a t ∙ close
    last a t (u ∷ more) e done close behind same lt counts = absurd (first.no_sooner a t u more e (or_first (is_finished body (a ++ t ∷ []) || is_stray body (a ++ t ∷ [])) _ (or_first (is_finished body (a ++ t ∷ [])) _ done)))
