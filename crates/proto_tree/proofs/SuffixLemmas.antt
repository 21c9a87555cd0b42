-- What a reader leaves is the end of the tokens that it was given.
use Rattle.std.proofs.Common.{◌≡◌, ℕ, zero, suc, ◌+◌, ◌-◌, ◌≤◌, Bool, true, false, List, [], ◌∷◌, ◌++◌, length, drop, Option, Some, None, refl, sym, ap, ◌∙◌, arith, cond, append_assoc, length-append}
use Rattle.proto_tree.specs.declared.lexeme.Lexeme.{Lexeme}
use Rattle.proto_tree.specs.declared.lexeme.Terminal.{Terminal}
use Rattle.proto_tree.specs.declared.lexeme.Terminal.TheVariants as w
use Rattle.proto_tree.specs.declared.node.Header.{Header}
use Rattle.proto_tree.specs.declared.node.Span.{Span}
use Rattle.proto_tree.specs.Lexeme.{is}
use Rattle.proto_tree.specs.Parts.{Reader, ◌>>=◌, pure, and_then, one, eat, separated_by, separated, full, type_name}
use Rattle.proto_tree.specs.Forms.{block_name, extend_header, group_header, in_parentheses, rpc_header, header_form, header_and_brace, header_and_rest}
use Rattle.proto_tree.proofs.PartLemmas.{pair_is}

abbrev pub IsSuffix : List Lexeme → List Lexeme → Type 0
IsSuffix rest ts = (front : List Lexeme) × (ts ≡ front ++ rest)

abbrev pub Leaves : {A : Type 0} → Reader A → Type 0
Leaves {A} r = (ts : List Lexeme) (a : A) (rest : List Lexeme) → r ts ≡ Some (a, rest) → IsSuffix rest ts

-- nothing is something
pub never : {A : Type 0} {C : Type 0} {p : A} → ◌≡◌ {A = Option A} None (Some p) → C
never e = absurd (elim_none e)
  where
    elim_none : {A : Type 0} {p : A} → ◌≡◌ {A = Option A} None (Some p) → ⊥
    elim_none e = cc

-- one reader behind another
pub in_turn : {A B : Type 0} (r : Reader A) (f : A → Reader B) → Leaves r → ((a : A) → Leaves (f a)) → Leaves (r >>= f)
in_turn {A} {B} r f p q ts b rest e = at (r ts) refl e
  where
    at : (o : Option (A × List Lexeme)) → r ts ≡ o → and_then o f ≡ Some (b, rest) → IsSuffix rest ts
    at None g h = never h
    at (Some x) g h =
        let first : IsSuffix x.1 ts = p ts x.0 x.1 g in
        let second : IsSuffix rest x.1 = q x.0 x.1 b rest h in
        (first.0 ++ second.0, first.1 ∙ ap (λ l. first.0 ++ l) second.1 ∙ sym (append_assoc first.0 second.0 rest))

leaves-pure : {A : Type 0} (x : A) → Leaves (pure x)
leaves-pure x ts a rest e = ([], (pair_is e).1)

leaves-one : (fits : Terminal → Bool) → Leaves (one fits)
unfolding one
leaves-one fits [] a rest e = never e
leaves-one fits (t ∷ ts) a rest e = by (fits t.terminal) e
  where
    by : (b : Bool) → ◌≡◌ {A = Option (Span × List Lexeme)} (cond {A = Option (Span × List Lexeme)} b (Some (t.span, ts)) None) (Some (a, rest)) → IsSuffix rest (t ∷ ts)
    by true e = (t ∷ [], ap (λ l. t ∷ l) (pair_is e).1)
    by false e = never e

leaves-eat : (it : Terminal) → Leaves (eat it)
unfolding eat
leaves-eat it [] a rest e = ([], (pair_is e).1)
leaves-eat it (t ∷ ts) a rest e = by (is it t) e
  where
    by : (b : Bool) → ◌≡◌ {A = Option (Bool × List Lexeme)} (cond {A = Option (Bool × List Lexeme)} b (Some (true, ts)) (Some (false, t ∷ ts))) (Some (a, rest)) → IsSuffix rest (t ∷ ts)
    by true e = (t ∷ [], ap (λ l. t ∷ l) (pair_is e).1)
    by false e = ([], (pair_is e).1)

leaves-separated_by : {A : Type 0} (separator : Terminal) (item : Reader A) → Leaves item → (n : ℕ) → Leaves (separated_by separator item n)
leaves-separated_by {A} separator item p zero = λ ts a rest e. never e
leaves-separated_by {A} separator item p (suc n) =
    in_turn _ _ p (λ first. in_turn _ _ (leaves-eat separator) (λ again. more first again (leaves-separated_by separator item p n)))
  where
    more : (first : A) (again : Bool) → Leaves (separated_by separator item n) → Leaves (cond {A = Reader (List A)} again (separated_by separator item n >>= (λ more. pure (first ∷ more))) (pure (first ∷ [])))
    more first true behind = in_turn _ _ behind (λ found. leaves-pure (first ∷ found))
    more first false behind = leaves-pure (first ∷ [])

leaves-full : Leaves full
unfolding separated
leaves-full ts = leaves-separated_by w.Dot _ (leaves-one _) (length ts) ts

leaves-type_name : Leaves type_name
unfolding type_name
leaves-type_name [] a rest e = never e
leaves-type_name (t ∷ ts) a rest e = in_turn _ _ (leaves-eat w.Dot) (λ absolute. in_turn _ _ leaves-full (λ components. leaves-pure _)) (t ∷ ts) a rest e

leaves-in_parentheses : Leaves in_parentheses
unfolding in_parentheses
leaves-in_parentheses = in_turn _ _ (leaves-one _) (λ first. in_turn _ _ (leaves-eat w.Stream) (λ flag. in_turn _ _ leaves-type_name (λ name. in_turn _ _ (leaves-one _) (λ close. leaves-pure name))))

leaves-extend_header : Leaves extend_header
unfolding extend_header
leaves-extend_header = in_turn _ _ (leaves-one _) (λ extend. in_turn _ _ leaves-type_name (λ target. leaves-pure _))

leaves-group_header : Leaves group_header
unfolding group_header
leaves-group_header = in_turn _ _ (leaves-one _) (λ group. in_turn _ _ (leaves-one _) (λ name. in_turn _ _ (leaves-one _) (λ equals. in_turn _ _ (leaves-one _) (λ number. leaves-pure _))))

leaves-rpc_header : Leaves rpc_header
unfolding rpc_header
leaves-rpc_header =
    in_turn _ _ (leaves-one _) (λ rpc. in_turn _ _ (leaves-one _) (λ name. in_turn _ _ leaves-in_parentheses (λ request. in_turn _ _ (leaves-one _) (λ returns. in_turn _ _ leaves-in_parentheses (λ response. leaves-pure _)))))

leaves-block_name : (it : Terminal) → Leaves (block_name it)
leaves-block_name it = in_turn _ _ (leaves-one _) (λ terminal. leaves-one _)

leaves-header_form : (it : Terminal) → Leaves (header_form it)
leaves-header_form w.Message = in_turn _ _ (leaves-block_name w.Message) (λ name. leaves-pure _)
leaves-header_form w.Enum = in_turn _ _ (leaves-block_name w.Enum) (λ name. leaves-pure _)
leaves-header_form w.Service = in_turn _ _ (leaves-block_name w.Service) (λ name. leaves-pure _)
leaves-header_form w.Oneof = in_turn _ _ (leaves-block_name w.Oneof) (λ name. leaves-pure _)
leaves-header_form w.Extend = leaves-extend_header
leaves-header_form w.Group = leaves-group_header
leaves-header_form w.Rpc = leaves-rpc_header
leaves-header_form _ = λ ts a rest e. never e

leaves-header_and_brace : Leaves header_and_brace
unfolding header_and_brace
leaves-header_and_brace [] a rest e = never e
leaves-header_and_brace (t ∷ ts) a rest e = in_turn _ _ (leaves-header_form t.terminal) (λ head. in_turn _ _ (leaves-one _) (λ brace. leaves-pure head)) (t ∷ ts) a rest e

drop-front : (front rest : List Lexeme) → drop (length front) (front ++ rest) ≡ rest
drop-front [] rest = refl
drop-front (t ∷ front) rest = drop-front front rest

-- the tokens behind a header are the last ones
pub behind_header : (item : List Lexeme) (head : Header) (rest : List Lexeme) → header_and_rest item ≡ Some (head, rest) → (length rest ≤ length item) × (drop (length item - length rest) item ≡ rest)
behind_header item head rest e =
    let s = leaves-header_and_brace item head rest e in
    let len : length item ≡ length s.0 + length rest = ap length s.1 ∙ length-append s.0 rest in
    let start : length item - length rest ≡ length s.0 = omega (arith, len) in
    (omega (arith, len), ap (λ k. drop k item) start ∙ ap (drop (length s.0)) s.1 ∙ drop-front s.0 rest)
