-- A text has one list of tokens.
use Rattle.std.proofs.Common.{◌≡◌, ℕ, suc, zero, ◌+◌, ◌-◌, ◌<◌, ◌≤◌, inl, inr, true, List, [], ◌∷◌, length, take, drop, refl, ap, sym, ◌∙◌, subst, arith, length-drop, ⊎_elim}
use Rattle.std.proofs.Math.Seq.{drop-length}
use Rattle.std.proofs.lemmas.Bool.{cases_lt}
use Rattle.proto_lex.specs.declared.token.Token.{Token}
use Rattle.proto_lex.specs.declared.token.Kind.{Kind}
use Rattle.proto_lex.specs.Bytes.{class_of}
use Rattle.proto_lex.specs.Forms.{IsForm, IsCommentRest}
use Rattle.proto_lex.specs.Tokens.{IsToken, IsGap, done, trivia, IsTokenAt, AreTokensFrom}
use Rattle.proto_lex.specs.Trivia.{IsTrivia}
use Rattle.proto_lex.proofs.Fronts.{slash_is_symbol}
use Rattle.proto_lex.proofs.KindForms.{kind_exact}
use Rattle.proto_lex.proofs.Cuts.{trivia_within}

-- bytes have the form of one kind
one_kind : (k l : Kind) (bs : List ℕ) → IsForm k bs → IsForm l bs → k ≡ l
one_kind k l bs f g =
    let first = kind_exact bs k f in
    let second = kind_exact bs l g in
    cc (first, second)

-- a token ends in one place
one_end : (rest : List ℕ) (k l : Kind) (m n : ℕ) → IsToken rest k m → IsToken rest l n → m ≡ n
one_end rest k l m n f g =
    ⊎_elim (λ less. absurd (f.longest l n less g.in_range g.form))
    (λ most. ⊎_elim (λ less. absurd (g.longest k m less f.in_range f.form)) (λ least. omega arith) (cases_lt n m)) (cases_lt m n)

one_token : (rest : List ℕ) (k l : Kind) (m n : ℕ) → IsToken rest k m → IsToken rest l n → k ≡ l
one_token rest k l m n f g =
    one_kind k l (take m rest) f.form (subst (λ i. IsForm l (take i rest)) (sym (one_end rest k l m n f g)) g.form)

-- a comment closes once
closes_once : (bs : List ℕ) (m n : ℕ) → m < n → n ≤ length bs → IsCommentRest true (take m bs) → IsCommentRest true (take n bs) → ⊥
closes_once bs zero n less within f g = cc (f)
closes_once bs (suc m) zero less within f g = omega arith
closes_once [] (suc m) (suc n) less within f g = omega arith
closes_once (b ∷ []) (suc m) (suc n) less within f g = omega arith
closes_once (b ∷ c ∷ bs) (suc zero) (suc n) less within f g = cc (f)
closes_once (b ∷ c ∷ bs) (suc (suc m)) (suc zero) less within f g = omega arith
closes_once (b ∷ c ∷ []) (suc (suc m)) (suc (suc n)) less within f g = omega arith
closes_once (b ∷ c ∷ d ∷ bs) (suc (suc m)) (suc (suc zero)) less within f g = omega arith
closes_once (b ∷ c ∷ d ∷ bs) (suc (suc m)) (suc (suc (suc n))) less within (inl f) (inl g) = cc (g.3)
closes_once (b ∷ c ∷ d ∷ bs) (suc (suc m)) (suc (suc (suc n))) less within (inl f) (inr g) = g.0 f.0 f.1
closes_once (b ∷ c ∷ d ∷ bs) (suc (suc m)) (suc (suc (suc n))) less within (inr f) (inl g) = f.0 g.0 g.1
closes_once (b ∷ c ∷ d ∷ bs) (suc (suc m)) (suc (suc (suc n))) less within (inr f) (inr g) = closes_once (c ∷ d ∷ bs) (suc m) (suc (suc n)) (omega arith) (omega arith) f.1 g.1

one_comment : (bs : List ℕ) (m n : ℕ) → m ≤ length bs → n ≤ length bs → IsCommentRest true (take m bs) → IsCommentRest true (take n bs) → m ≡ n
one_comment bs m n within also f g =
    ⊎_elim (λ less. absurd (closes_once bs m n less also f g))
    (λ most. ⊎_elim (λ less. absurd (closes_once bs n m less within g f)) (λ least. omega arith) (cases_lt n m)) (cases_lt m n)

-- trivia ends in one place
pub one_trivia : (rest : List ℕ) (m n : ℕ) → IsTrivia rest m → IsTrivia rest n → m ≡ n
one_trivia [] m n (inl f) g = absurd f
one_trivia [] m n (inr (inl f)) g = absurd f
one_trivia [] m n (inr (inr f)) g = absurd f
one_trivia (b ∷ bs) m n (inl f) (inl g) = f.1 ∙ sym g.1
one_trivia (b ∷ []) m n (inl f) (inr (inl g)) = absurd g
one_trivia (b ∷ []) m n (inl f) (inr (inr g)) = absurd g
one_trivia (b ∷ []) m n (inr (inl f)) g = absurd f
one_trivia (b ∷ []) m n (inr (inr f)) g = absurd f
one_trivia (b ∷ c ∷ bs) m n (inl f) (inr (inl g)) = let symbol = ap class_of g.0 ∙ slash_is_symbol in cc (symbol, f.0)
one_trivia (b ∷ c ∷ bs) m n (inl f) (inr (inr g)) = let symbol = ap class_of g.0 ∙ slash_is_symbol in cc (symbol, f.0)
one_trivia (b ∷ c ∷ bs) m n (inr (inl f)) (inl g) = let symbol = ap class_of f.0 ∙ slash_is_symbol in cc (symbol, g.0)
one_trivia (b ∷ c ∷ bs) m n (inr (inr f)) (inl g) = let symbol = ap class_of f.0 ∙ slash_is_symbol in cc (symbol, g.0)
one_trivia (b ∷ c ∷ bs) m n (inr (inl f)) (inr (inl g)) = f.2 ∙ sym g.2
one_trivia (b ∷ c ∷ bs) m n (inr (inl f)) (inr (inr g)) = absurd (omega (arith, f.1, g.1))
one_trivia (b ∷ c ∷ bs) m n (inr (inr f)) (inr (inl g)) = absurd (omega (arith, f.1, g.1))
one_trivia (b ∷ c ∷ bs) m n (inr (inr f)) (inr (inr g)) =
    let same = one_comment bs f.2 g.2 f.4 g.4 f.5 g.5 in
    omega (arith, f.3, g.3, same)

-- no trivia begins at an offset
abbrev NoTrivia : List ℕ → ℕ → Type 0
NoTrivia text at = (m : ℕ) → IsTrivia (drop at text) m → ⊥

-- a gap ends in one place
one_gap : (text : List ℕ) (i j k : ℕ) → IsGap text i j → NoTrivia text j → IsGap text i k → NoTrivia text k → j ≡ k
one_gap text i j k done no_j done no_k = refl
one_gap text i j k done no_j (trivia n is_trivia after) no_k = absurd (no_j n is_trivia)
one_gap text i j k (trivia n is_trivia after) no_j done no_k = absurd (no_k n is_trivia)
one_gap text i j k (trivia m first after) no_j (trivia n second rest) no_k =
    let same = one_trivia (drop i text) m n first second in
    one_gap text (i + m) j k after no_j (subst (λ len. IsGap text (i + len) k) (sym same) rest) no_k

no_trivia_at_end : (text : List ℕ) → NoTrivia text (length text)
no_trivia_at_end text m is_trivia =
    let within = trivia_within [] m (subst (λ l. IsTrivia l m) (drop-length text) is_trivia) in
    omega (arith, within.0, within.1)

-- a token has bytes, so it doesn't begin at the end
not_at_end : (text : List ℕ) (t : Token) → IsTokenAt text t → length text ≡ t.start → ⊥
not_at_end text t at_t is_end = omega (arith, at_t.ordered, at_t.token.in_range, length-drop t.start text, is_end)

one_token_at : (text : List ℕ) (t u : Token) → t.start ≡ u.start → IsTokenAt text t → IsTokenAt text u → t ≡ u
one_token_at text t u start at_t at_u =
    let here : IsToken (drop t.start text) u.kind (u.end - u.start) = subst (λ i. IsToken (drop i text) u.kind (u.end - u.start)) (sym start) at_u.token in
    let kind = one_token (drop t.start text) t.kind u.kind (t.end - t.start) (u.end - u.start) at_t.token here in
    let len = one_end (drop t.start text) t.kind u.kind (t.end - t.start) (u.end - u.start) at_t.token here in
    let stop : t.end ≡ u.end = omega (arith, start, len, at_t.ordered, at_u.ordered) in
    λ i. record { kind = kind i; start = start i; end = stop i }

pub one_list : (text : List ℕ) (at : ℕ) (xs ys : List Token) → AreTokensFrom text at xs → AreTokensFrom text at ys → xs ≡ ys
one_list text at [] [] f g = refl
one_list text at [] (u ∷ ys) f g =
    absurd (not_at_end text u g.1 (one_gap text at (length text) u.start f (no_trivia_at_end text) g.0 g.1.token.no_trivia))
one_list text at (t ∷ xs) [] f g =
    absurd (not_at_end text t f.1 (one_gap text at (length text) t.start g (no_trivia_at_end text) f.0 f.1.token.no_trivia))
one_list text at (t ∷ xs) (u ∷ ys) f g =
    let same = one_token_at text t u (one_gap text at t.start u.start f.0 f.1.token.no_trivia g.0 g.1.token.no_trivia) f.1 g.1 in
    let rest = one_list text t.end xs ys f.2 (subst (λ v. AreTokensFrom text v.end ys) (sym same) g.2) in
    λ i. same i ∷ rest i
