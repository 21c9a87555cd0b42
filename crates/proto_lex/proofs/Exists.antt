-- Each text has tokens: `tokens` finds them.
use Rattle.std.proofs.Common.{◌≡◌, ℕ, suc, zero, ◌+◌, ◌-◌, ◌<◌, ◌≤◌, inl, inr, Bool, true, false, cond, List, [], ◌∷◌, ◌++◌, length, take, drop, refl, ap, sym, subst, arith, length-drop, Some, None, Option}
use Rattle.std.specs.Prelude.{◌==◌, nat_eq, option_map}
use Rattle.std.specs.Char.{is_ascii_digit}
use Rattle.std.specs.List.{position_or_len, starts_with}
use Rattle.std.proofs.lemmas.Bool.{cases_lt}
use Rattle.std.proofs.lemmas.Bool.Decides.{nat_tests, Decides-eqb}
use Rattle.std.proofs.lemmas.Slice.Eq.{starts_is}
use Rattle.proto_lex.specs.declared.bytes.Class.TheVariants as class
use Rattle.proto_lex.specs.declared.token.Kind.{Kind}
use Rattle.proto_lex.specs.declared.token.Token.{Token}
use Rattle.proto_lex.specs.Bytes.{class_of, is_letter, is_quote, is_space, is_symbol}
use Rattle.proto_lex.specs.Forms.{IsCommentRest}
use Rattle.proto_lex.specs.Kinds.{kind_of}
use Rattle.proto_lex.specs.Tokens.{IsToken, IsGap, done, AreTokensFrom, AreTokens, byte_order_mark_len, longest, tokens_from, tokens}
use Rattle.proto_lex.specs.Trivia.{IsTrivia, comment_len, slash_len, trivia_len}
use Rattle.proto_lex.proofs.Bools.{eq_of}
use Rattle.proto_lex.proofs.Comments.{open_not_closed}
use Rattle.proto_lex.proofs.Cuts.{trivia_before, token_before, trivia_within}
use Rattle.proto_lex.proofs.Unique.{one_list, one_trivia}
use Rattle.proto_lex.proofs.KindForms.{kind_form, kind_exact, byte_form, comment_len_closed, comment_len_open}

-- whitespace
space_class : (b : ℕ) → is_space b ≡ true → class_of b ≡ class.Space
unfolding class_of is_letter is_quote is_space
space_class b space = grind (arith, nat_tests)

space_chain : (letter digit quote space symbol : Bool) → cond letter class.Letter (cond digit class.Digit (cond quote class.Quote (cond space class.Space (cond symbol class.Symbol class.Other)))) ≡ class.Space → space ≡ true
space_chain true digit quote space symbol is = cc (is)
space_chain false true quote space symbol is = cc (is)
space_chain false false true space symbol is = cc (is)
space_chain false false false true symbol is = refl
space_chain false false false false true is = cc (is)
space_chain false false false false false is = cc (is)

class_space : (b : ℕ) → class_of b ≡ class.Space → is_space b ≡ true
unfolding class_of
class_space b space = space_chain (is_letter b) (is_ascii_digit b) (is_quote b) (is_space b) (is_symbol b) space

-- the trivia that is found stands there
map_add : (o : Option ℕ) (n : ℕ) → option_map (λ k. 2 + k) o ≡ Some n → (m : ℕ) × (o ≡ Some m) × (2 + m ≡ n)
map_add None n is = cc (is)
map_add (Some m) n is = (m, refl, cc)

map_add_none : (o : Option ℕ) → option_map (λ k. 2 + k) o ≡ None → o ≡ None
map_add_none None is = refl
map_add_none (Some m) is = cc (is)

slash_form : (b c : ℕ) (bs : List ℕ) (n : ℕ) (line block : Bool) → b ≡ 47 → (c == 47) ≡ line → (c == 42) ≡ block
    → cond line (Some (2 + position_or_len (λ x. x == 10) bs)) (cond block (option_map (λ k. 2 + k) (comment_len bs)) None) ≡ Some n → IsTrivia (b ∷ c ∷ bs) n
slash_form b c bs n true block slash is_line is_block is =
    let len : 2 + position_or_len (λ x. x == 10) bs ≡ n = cc in inr (inl (slash, eq_of c 47 is_line, sym len))
slash_form b c bs n false true slash is_line is_block is =
    let found = map_add (comment_len bs) n is in
    let closed = comment_len_closed bs found.0 found.1 in
    inr (inr (slash, eq_of c 42 is_block, found.0, sym found.2, closed.0, closed.1))
slash_form b c bs n false false slash is_line is_block is = cc (is)

trivia_step : (b : ℕ) (bs : List ℕ) (n : ℕ) (space slash : Bool) → is_space b ≡ space → (b == 47) ≡ slash
    → cond space (Some 1) (cond slash (slash_len bs) None) ≡ Some n → IsTrivia (b ∷ bs) n
trivia_step b bs n true slash is_space_byte is_slash is = let one : 1 ≡ n = cc in inl (space_class b is_space_byte, sym one)
trivia_step b [] n false true is_space_byte is_slash is = cc (is)
trivia_step b (c ∷ bs) n false true is_space_byte is_slash is = slash_form b c bs n (c == 47) (c == 42) (eq_of b 47 is_slash) refl refl is
trivia_step b bs n false false is_space_byte is_slash is = cc (is)

trivia_form : (rest : List ℕ) (n : ℕ) → trivia_len rest ≡ Some n → IsTrivia rest n
trivia_form [] n is = cc (is)
trivia_form (b ∷ bs) n is = trivia_step b bs n (is_space b) (b == 47) refl refl is

-- where none is found, there is none
no_slash_space : is_space 47 ≡ false
unfolding is_space
no_slash_space = refl

no_line : (bs : List ℕ) → trivia_len (47 ∷ 47 ∷ bs) ≡ None → ⊥
no_line bs none = let none = rw no_slash_space at none in cc (none)

no_block : (bs : List ℕ) (m : ℕ) → trivia_len (47 ∷ 42 ∷ bs) ≡ None → IsCommentRest true (take m bs) → ⊥
no_block bs m none closed =
    let here = rw no_slash_space at none in
    open_not_closed bs m (comment_len_open bs (map_add_none (comment_len bs) here)) closed

no_trivia_form : (rest : List ℕ) (m : ℕ) → trivia_len rest ≡ None → IsTrivia rest m → ⊥
no_trivia_form [] m none (inl space) = space
no_trivia_form [] m none (inr (inl line)) = line
no_trivia_form [] m none (inr (inr block)) = block
no_trivia_form (b ∷ bs) m none (inl space) = let none = rw (class_space b space.0) at none in cc (none)
no_trivia_form (b ∷ []) m none (inr (inl line)) = line
no_trivia_form (b ∷ []) m none (inr (inr block)) = block
no_trivia_form (b ∷ c ∷ bs) m none (inr (inl line)) =
    no_line bs (subst (λ x. trivia_len (47 ∷ x ∷ bs) ≡ None) line.1 (subst (λ x. trivia_len (x ∷ c ∷ bs) ≡ None) line.0 none))
no_trivia_form (b ∷ c ∷ bs) m none (inr (inr block)) =
    no_block bs block.2 (subst (λ x. trivia_len (47 ∷ x ∷ bs) ≡ None) block.1 (subst (λ x. trivia_len (x ∷ c ∷ bs) ≡ None) block.0 none)) block.5

trivia_found : (rest : List ℕ) (n : ℕ) (o : Option ℕ) → trivia_len rest ≡ o → IsTrivia rest n → o ≡ Some n
trivia_found rest n None is form = absurd (no_trivia_form rest n is form)
trivia_found rest n (Some m) is form = ap Some (one_trivia rest m n (trivia_form rest m is) form)

pub trivia_is_found : (rest : List ℕ) (n : ℕ) → (trivia_len rest ≡ Some n → IsTrivia rest n) × (IsTrivia rest n → trivia_len rest ≡ Some n)
trivia_is_found rest n = (trivia_form rest n, trivia_found rest n (trivia_len rest) refl)

-- the longest front is found
record IsFound (n : ℕ) (rest : List ℕ) (k : Kind) (m : ℕ) : Type 0 where
  some : 0 < m
  in_range : m ≤ n
  kind : kind_of (take m rest) ≡ Some k
  longest : (j : ℕ) → m < j → j ≤ n → kind_of (take j rest) ≡ None

found_more : (n : ℕ) (rest : List ℕ) (k : Kind) (m : ℕ) → IsFound n rest k m → kind_of (take (suc n) rest) ≡ None → (j : ℕ) → m < j → j ≤ suc n → kind_of (take j rest) ≡ None
found_more n rest k m found none j above within =
    elim (cases_lt j (suc n)) [
      | inl less ↦ found.longest j above (omega arith)
      | inr most ↦ let last : suc n ≡ j = omega arith in subst (λ i. kind_of (take i rest) ≡ None) last none
    ]

longest_step : (n : ℕ) (rest : List ℕ) (found : Kind × ℕ) (o : Option Kind) → kind_of (take (suc n) rest) ≡ o → (longest n rest ≡ Some found → IsFound n rest found.0 found.1)
    → elim o as (λ _. Option (Kind × ℕ)) [ Some kind ↦ Some (kind, suc n) | None ↦ longest n rest ] ≡ Some found → IsFound (suc n) rest found.0 found.1
longest_step n rest found (Some k) here before is =
    let same : (k, suc n) ≡ found = cc in
    subst (λ (p : Kind × ℕ). IsFound (suc n) rest p.0 p.1) same (record { some = omega arith; in_range = omega arith; kind = here; longest = λ j above within. absurd (omega arith) })
longest_step n rest found None here before is =
    let shorter = before is in
    record { some = shorter.some; in_range = omega (arith, shorter.in_range); kind = shorter.kind; longest = found_more n rest found.0 found.1 shorter here }

longest_found : (n : ℕ) (rest : List ℕ) (found : Kind × ℕ) → longest n rest ≡ Some found → IsFound n rest found.0 found.1
longest_found zero rest found is = cc (is)
longest_found (suc n) rest found is = longest_step n rest found (kind_of (take (suc n) rest)) refl (longest_found n rest found) is

none_step : (n : ℕ) (rest : List ℕ) (o : Option Kind) → kind_of (take (suc n) rest) ≡ o → (longest n rest ≡ None → (j : ℕ) → 0 < j → j ≤ n → kind_of (take j rest) ≡ None)
    → elim o as (λ _. Option (Kind × ℕ)) [ Some kind ↦ Some (kind, suc n) | None ↦ longest n rest ] ≡ None → (j : ℕ) → 0 < j → j ≤ suc n → kind_of (take j rest) ≡ None
none_step n rest (Some k) here before is j some within = cc (is)
none_step n rest None here before is j some within =
    elim (cases_lt j (suc n)) [
      | inl less ↦ before is j some (omega arith)
      | inr most ↦ let last : suc n ≡ j = omega arith in subst (λ i. kind_of (take i rest) ≡ None) last here
    ]

longest_none : (n : ℕ) (rest : List ℕ) → longest n rest ≡ None → (j : ℕ) → 0 < j → j ≤ n → kind_of (take j rest) ≡ None
longest_none zero rest is j some within = absurd (omega arith)
longest_none (suc n) rest is j some within = none_step n rest (kind_of (take (suc n) rest)) refl (longest_none n rest) is j some within

-- where neither is found, the text ends
nothing_left : (rest : List ℕ) → trivia_len rest ≡ None → longest (length rest) rest ≡ None → length rest ≡ 0
nothing_left [] no_trivia no_form = refl
nothing_left (b ∷ bs) no_trivia no_form =
    absurd (byte_form b (λ space. no_trivia_form (b ∷ bs) 1 no_trivia (inl (space, refl))) (longest_none (length (b ∷ bs)) (b ∷ bs) no_form 1 (omega arith) (omega arith)))

found_token : (rest : List ℕ) (n : ℕ) (k : Kind) (m : ℕ) → n ≡ length rest → trivia_len rest ≡ None → IsFound n rest k m → IsToken rest k m
found_token rest n k m whole no_trivia found = record {
  in_range = omega (arith, found.in_range);
  form = kind_form (take m rest) k found.kind;
  longest = λ l j above within form. let none = found.longest j above (omega arith) in let some = kind_exact (take j rest) l form in cc (none, some);
  no_trivia = λ j. no_trivia_form rest j no_trivia;
}

tokens_step : (text : List ℕ) (n at : ℕ) → at ≤ length text → length text ≤ at + suc n
    → ((next : ℕ) → next ≤ length text → length text ≤ next + n → AreTokensFrom text next (tokens_from text n next))
    → (t : Option ℕ) (f : Option (Kind × ℕ)) → trivia_len (drop at text) ≡ t → longest (length text - at) (drop at text) ≡ f
    → AreTokensFrom text at (elim t as (λ _. List Token) [
      | Some len ↦ tokens_from text n (at + len)
      | None ↦ elim f as (λ _. List Token) [
        | Some found ↦ record { kind = found.0; start = at; «end» = at + found.1 } ∷ tokens_from text n (at + found.1)
        | None ↦ []
      ]
    ])
tokens_step text n at within enough rest (Some len) f is_trivia is_longest =
    let here = trivia_form (drop at text) len is_trivia in
    let inside = trivia_within (drop at text) len here in
    let left = length-drop at text in
    trivia_before text at len (tokens_from text n (at + len)) here (rest (at + len) (omega (arith, inside.1, left)) (omega (arith, inside.0)))
tokens_step text n at within enough rest None (Some found) is_trivia is_longest =
    let here = longest_found (length text - at) (drop at text) found is_longest in
    token_before text at found.1 found.0 (tokens_from text n (at + found.1)) here.some
    (found_token (drop at text) (length text - at) found.0 found.1 (sym (length-drop at text)) is_trivia here)
    (rest (at + found.1) (omega (arith, here.in_range)) (omega (arith, here.some)))
tokens_step text n at within enough rest None None is_trivia is_longest =
    let left = length-drop at text in
    let empty = nothing_left (drop at text) is_trivia (subst (λ m. longest m (drop at text) ≡ None) (sym left) is_longest) in
    let whole : at ≡ length text = omega (arith, left, empty) in
    subst (IsGap text at) whole done

pub tokens_are_from : (text : List ℕ) (n at : ℕ) → at ≤ length text → length text ≤ at + n → AreTokensFrom text at (tokens_from text n at)
tokens_are_from text zero at within enough = let whole : at ≡ length text = omega arith in subst (IsGap text at) whole done
tokens_are_from text (suc n) at within enough =
    tokens_step text n at within enough (tokens_are_from text n) (trivia_len (drop at text)) (longest (length text - at) (drop at text)) refl refl

mark_within : (text : List ℕ) (t : Bool) → t ≡ starts_with nat_eq text (239 ∷ 187 ∷ 191 ∷ []) → cond t 3 0 ≤ length text
mark_within text true found =
    let parts : text ≡ (239 ∷ 187 ∷ 191 ∷ []) ++ drop 3 text = (starts_is Decides-eqb text (239 ∷ 187 ∷ 191 ∷ []) true found).0 refl in
    let size = ap length parts in
    omega (arith, size)
mark_within text false found = omega arith

pub mark_inside : (text : List ℕ) → byte_order_mark_len text ≤ length text
mark_inside text = mark_within text (starts_with nat_eq text (239 ∷ 187 ∷ 191 ∷ [])) refl

pub tokens_exist : (text : List ℕ) → AreTokens text (tokens text)
unfolding tokens
tokens_exist text =
    tokens_are_from text (length text) (byte_order_mark_len text) (mark_inside text) (omega arith)

-- and no others
pub tokens_are_unique : (text : List ℕ) (ts : List Token) → AreTokens text ts → ts ≡ tokens text
tokens_are_unique text ts are = one_list text (byte_order_mark_len text) ts (tokens text) are (tokens_exist text)
