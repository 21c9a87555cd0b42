-- A letter, and a run of bytes that go on with a name up to the end, are an identifier.
use Rattle.std.proofs.Common.{◌≡◌, ◌↔◌, ℕ, ◌+◌, ◌-◌, ◌<◌, Bool, true, false, List, [], ◌∷◌, length, take, drop, refl, sym, ap, ◌∙◌, arith, cond, IsTrue, nat_eq, slice_index, take_all}
use Rattle.std.specs.List.{AllPass, prefix_len}
use Rattle.std.proofs.lemmas.Bool.{eqb-true, eq-eqb}
use Rattle.std.proofs.lemmas.List.Elements.{All-nil, All-cons, All-head, All-tail}
use Rattle.proto_lex.specs.declared.bytes.Class.TheVariants as class
use Rattle.proto_lex.specs.Bytes.{class_of, is_name_byte}
use Rattle.proto_lex.specs.Forms.{IsIdent}

run_all : (p : ℕ → Bool) (bs : List ℕ) → prefix_len p bs ≡ length bs → AllPass p bs
run_all p [] e = All-nil (λ b. p b ≡ true)
run_all p (b ∷ bs) e = by (p b) refl e (run_all p bs)
  where
    by : (c : Bool) → p b ≡ c → cond {A = ℕ} c (1 + prefix_len p bs) 0 ≡ length (b ∷ bs) → (prefix_len p bs ≡ length bs → AllPass p bs) → AllPass p (b ∷ bs)
    by true f e more = All-cons (λ b. p b ≡ true) b bs f (more (omega (arith, e)))
    by false f e more = absurd (omega (arith, e))

all_run : (p : ℕ → Bool) (bs : List ℕ) → AllPass p bs → prefix_len p bs ≡ length bs
all_run p [] all = refl
all_run p (b ∷ bs) all =
    let first : p b ≡ true = All-head (λ b. p b ≡ true) b bs all in
    let more = all_run p bs (All-tail (λ b. p b ≡ true) b bs all) in
    ap (λ c. cond {A = ℕ} c (1 + prefix_len p bs) 0) first ∙ omega (arith, more)

-- the bytes behind the first one
behind : (b : ℕ) (bs : List ℕ) → take (length (b ∷ bs) - 1) (drop 1 (b ∷ bs)) ≡ bs
behind b bs = let len : length (b ∷ bs) - 1 ≡ length bs = omega arith in ap (λ n. take n bs) len ∙ take_all (length bs) bs (omega arith)

pub is_whole : (bs : List ℕ) (n : ℕ) → 0 < length bs → class_of (slice_index bs 0) ≡ class.Letter → n ≡ prefix_len is_name_byte (take (length bs - 1) (drop 1 bs)) → IsTrue (nat_eq n (length (take (length bs - 1) (drop 1 bs)))) ↔ IsIdent bs
is_whole [] n some letter len = absurd (omega (arith, some))
is_whole (b ∷ bs) n some letter len =
    let rest = behind b bs in
    let run : n ≡ prefix_len is_name_byte bs = len ∙ ap (prefix_len is_name_byte) rest in (
      λ e. (letter, run_all is_name_byte bs (sym run ∙ eqb-true _ _ e ∙ ap length rest)),
      λ h. eq-eqb _ _ (run ∙ all_run is_name_byte bs h.1 ∙ sym (ap length rest)),
    )
