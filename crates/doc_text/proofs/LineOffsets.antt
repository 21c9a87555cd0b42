-- Lines counted in bytes, one byte at the front after the other.
use Rattle.std.proofs.Common.{◌≡◌, ℕ, suc, zero, ◌+◌, ◌-◌, ◌<◌, ◌≤◌, Bool, true, false, cond, List, [], ◌∷◌, ◌++◌, length, get_or, take, drop, refl, ap, sym, ◌∙◌, arith, add-zero, zero-add, add-one, one-add, add_assoc, ⊎_elim, drop-cons}
use Rattle.std.specs.Prelude.{◌==◌, ◌&&◌, ◌||◌, not}
use Rattle.std.specs.List.{concat}
use Rattle.std.specs.Str.{NonePass}
use mir.Val.{bool_byte}
use Rattle.std.proofs.Math.ListN.{drop_of_length-le}
use Rattle.std.proofs.lemmas.Bool.{cases_Bool}
use Rattle.std.proofs.lemmas.List.{get_or-drop, drop-drop, length-drop}
use Rattle.doc_text.specs.Lines.{is_lf_or_cr, ends_line, onto_first}
use Rattle.doc_text.specs.Bytes.{line_end_count, line_offset}
use Rattle.doc_text.proofs.Steps.{plain_goes, lines_ends, lines_goes, some_line}

pub line_offset-none : (bs : List ℕ) → line_offset 0 bs ≡ 0
unfolding line_offset
line_offset-none bs = refl

pub line_offset-nil : (line : ℕ) → line_offset line [] ≡ 0
unfolding line_offset
line_offset-nil zero = refl
line_offset-nil (suc zero) = refl
line_offset-nil (suc (suc line)) = refl

pub line_offset-ends : (line b : ℕ) (bs : List ℕ) → ends_line b bs ≡ true → line_offset (suc line) (b ∷ bs) ≡ 1 + line_offset line bs
unfolding line_offset
line_offset-ends line b bs ends = ap (λ ls. length (concat (take (suc line) ls))) (lines_ends b bs ends) ∙ sym (one-add _)

pub line_offset-goes : (line b : ℕ) (bs : List ℕ) → ends_line b bs ≡ false → line_offset (suc line) (b ∷ bs) ≡ 1 + line_offset (suc line) bs
unfolding line_offset
line_offset-goes line b bs goes =
    let more = some_line bs in
    ap (λ ls. length (concat (take (suc line) ls))) (lines_goes b bs goes ∙ ap (onto_first b) more.is)
    ∙ sym (one-add _)
    ∙ ap (λ ls. 1 + length (concat (take (suc line) ls))) (sym more.is)

-- bytes that end no line
pub line_offset-plain : (line : ℕ) (xs bs : List ℕ) → NonePass is_lf_or_cr xs → line_offset (suc line) (xs ++ bs) ≡ length xs + line_offset (suc line) bs
line_offset-plain line [] bs plain = sym (zero-add _)
line_offset-plain line (x ∷ xs) bs plain =
    let rest = line_offset-plain line xs bs plain.1 in
    let first = line_offset-goes line x (xs ++ bs) (plain_goes x (xs ++ bs) plain.0) in
    omega (arith, first, rest)

-- a block, in which fewer lines end than are left
pub line_end_count-few : (n : ℕ) (bs : List ℕ) → line_end_count n bs ≤ n
unfolding line_end_count
line_end_count-few zero bs = omega arith
line_end_count-few (suc n) [] = omega arith
line_end_count-few (suc n) (b ∷ bs) =
    let few = line_end_count-few n bs in
    ⊎_elim (λ ends. let one = ap (λ t. cond t 1 0 + line_end_count n bs) ends in omega (arith, few, one))
    (λ goes. let none = ap (λ t. cond t 1 0 + line_end_count n bs) goes in omega (arith, few, none))
    (cases_Bool (ends_line b bs))

pub line_offset-block : (n line : ℕ) (bs : List ℕ) → n ≤ length bs → line_offset (line_end_count n bs + suc line) bs ≡ n + line_offset (suc line) (drop n bs)
unfolding line_end_count
line_offset-block zero line bs within = ap (λ k. line_offset k bs) (zero-add (suc line)) ∙ sym (zero-add _)
line_offset-block (suc n) line [] within = absurd (omega arith)
line_offset-block (suc n) line (b ∷ bs) within =
    let rest = line_offset-block n line bs (omega arith) in
    ⊎_elim (λ ends. ap (λ t. line_offset ((cond t 1 0 + line_end_count n bs) + suc line) (b ∷ bs)) ends
    ∙ ap (λ k. line_offset k (b ∷ bs)) (one_more (line_end_count n bs) (suc line))
    ∙ line_offset-ends (line_end_count n bs + suc line) b bs ends
    ∙ ap (λ k. 1 + k) rest ∙ one_in n _)
    (λ goes. ap (λ t. line_offset ((cond t 1 0 + line_end_count n bs) + suc line) (b ∷ bs)) goes
    ∙ ap (λ k. line_offset k (b ∷ bs)) (none_more (line_end_count n bs) line)
    ∙ line_offset-goes (line_end_count n bs + line) b bs goes
    ∙ ap (λ k. 1 + line_offset k bs) (sym (add_suc_in (line_end_count n bs) line))
    ∙ ap (λ k. 1 + k) rest ∙ one_in n _)
    (cases_Bool (ends_line b bs))
  where
    one_more : (a b : ℕ) → (1 + a) + b ≡ suc (a + b)
    one_more a b = omega arith

    none_more : (a b : ℕ) → (0 + a) + suc b ≡ suc (a + b)
    none_more a b = omega arith

    add_suc_in : (a b : ℕ) → a + suc b ≡ suc (a + b)
    add_suc_in a b = omega arith

    one_in : (n m : ℕ) → 1 + (n + m) ≡ suc n + m
    one_in n m = omega arith

-- one byte more in the block
line_end_count-suc : (n : ℕ) (bs : List ℕ) → n < length bs → line_end_count (suc n) bs ≡ line_end_count n bs + cond (ends_line (get_or bs n 0) (drop (suc n) bs)) 1 0
unfolding line_end_count
line_end_count-suc n [] inside = absurd (omega arith)
line_end_count-suc zero (b ∷ bs) inside = add-zero _ ∙ sym (zero-add _)
line_end_count-suc (suc n) (b ∷ bs) inside = ap (λ k. cond (ends_line b bs) 1 0 + k) (line_end_count-suc n bs (omega arith))
    ∙ sym (add_assoc (cond (ends_line b bs) 1 0) (line_end_count n bs) (cond (ends_line (get_or bs n 0) (drop (suc n) bs)) 1 0))

pub line_end_count-more : (n : ℕ) (bs : List ℕ) → n < length bs → line_end_count (n + 1) bs ≡ line_end_count n bs + cond (ends_line (get_or bs n 0) (drop (n + 1) bs)) 1 0
line_end_count-more n bs inside = ap (λ k. line_end_count k bs) (add-one n) ∙ line_end_count-suc n bs inside ∙ ap (λ k. line_end_count n bs + cond (ends_line (get_or bs n 0) (drop k bs)) 1 0) (sym (add-one n))

byte_cond : (b : Bool) → bool_byte b ≡ cond b 1 0
byte_cond true = refl
byte_cond false = refl

pub line_end_count-next : (ends at : ℕ) (block : List ℕ) → at < length block → ends ≡ line_end_count at block
    → ends + bool_byte ((get_or block at 0 == 10) || ((get_or block at 0 == 13) && not (get_or block (at + 1) 0 == 10))) ≡ line_end_count (at + 1) block
line_end_count-next ends at block inside is =
    ap (λ n. ends + n) (byte_cond ((get_or block at 0 == 10) || ((get_or block at 0 == 13) && not (get_or block (at + 1) 0 == 10))))
    ∙ ap (λ n. n + cond ((get_or block at 0 == 10) || ((get_or block at 0 == 13) && not (get_or block (at + 1) 0 == 10))) 1 0) is
    ∙ ap (λ next. line_end_count at block + cond ((get_or block at 0 == 10) || ((get_or block at 0 == 13) && not (next == 10))) 1 0) (sym (get_or-drop (at + 1) block 0 0 ∙ ap (λ i. get_or block i 0) (add-zero (at + 1))))
    ∙ sym (line_end_count-more at block inside)

pub few_more : (ends at : ℕ) (b : Bool) → ends ≤ at → ends + bool_byte b ≤ at + 1
few_more ends at true few = omega arith
few_more ends at false few = omega arith

-- a block says what the text says there
line_end_count-cut : (n : ℕ) (bs : List ℕ) → line_end_count n (take (suc n) bs) ≡ line_end_count n bs
unfolding line_end_count
line_end_count-cut zero bs = refl
line_end_count-cut (suc n) [] = refl
line_end_count-cut (suc n) (b ∷ bs) =
    ap (λ k. cond (ends_line b (take (suc n) bs)) 1 0 + k) (line_end_count-cut n bs) ∙ ap (λ next. cond ((b == 10) || ((b == 13) && not (next == 10))) 1 0 + line_end_count n bs) (first bs)
  where
    first : (bs : List ℕ) → get_or (take (suc n) bs) 0 0 ≡ get_or bs 0 0
    first [] = refl
    first (x ∷ xs) = refl

pub block_on : (text block : List ℕ) (whole at left n size : ℕ) → at + 64 < length text → size ≡ 65 → block ≡ take size (drop at text) → n ≡ line_end_count 64 block → n < left
    → whole ≡ at + line_offset left (drop at text) → whole ≡ (at + 64) + line_offset (left - n) (drop (at + 64) text)
block_on text block whole at left n size inside wide is ends fewer on =
    let rest = drop at text in
    let same : line_end_count 64 rest ≡ n = sym (ends ∙ ap (line_end_count 64) (is ∙ ap (λ k. take k rest) wide) ∙ line_end_count-cut 64 rest) in
    let size = length-drop at text in
    let block_is = line_offset-block 64 (left - n - 1) rest (omega (arith, size)) in
    let all : line_end_count 64 rest + suc (left - n - 1) ≡ left = ap (λ k. k + suc (left - n - 1)) same ∙ back n left fewer in
    let some : suc (left - n - 1) ≡ left - n = omega arith in
    let over : line_offset left rest ≡ 64 + line_offset (left - n) (drop (at + 64) text) =
    ap (λ k. line_offset k rest) (sym all) ∙ block_is ∙ ap (λ k. 64 + line_offset k (drop 64 rest)) some ∙ ap (λ l. 64 + line_offset (left - n) l) (drop-drop 64 at text) in
    omega (arith, on, over)
  where
    back : (n left : ℕ) → n < left → n + suc (left - n - 1) ≡ left
    back n left fewer = omega arith

-- one byte on
pub byte_ends : (text : List ℕ) (whole at left : ℕ) → at < length text → 0 < left → whole ≡ at + line_offset left (drop at text)
    → ends_line (get_or text at 0) (drop (at + 1) text) ≡ true → whole ≡ (at + 1) + line_offset (left - 1) (drop (at + 1) text)
byte_ends text whole at zero inside some on ends = absurd (omega arith)
byte_ends text whole at (suc left) inside some on ends =
    let is : drop at text ≡ get_or text at 0 ∷ drop (at + 1) text = rw (add-one) (drop-cons text at 0 inside) in
    let over = ap (line_offset (suc left)) is ∙ line_offset-ends left (get_or text at 0) (drop (at + 1) text) ends in
    let one : suc left - 1 ≡ left = omega arith in
    let last = ap (λ k. line_offset k (drop (at + 1) text)) one in
    omega (arith, on, over, last)

pub byte_goes : (text : List ℕ) (whole at left : ℕ) → at < length text → 0 < left → whole ≡ at + line_offset left (drop at text)
    → ends_line (get_or text at 0) (drop (at + 1) text) ≡ false → whole ≡ (at + 1) + line_offset left (drop (at + 1) text)
byte_goes text whole at zero inside some on goes = absurd (omega arith)
byte_goes text whole at (suc left) inside some on goes =
    let is : drop at text ≡ get_or text at 0 ∷ drop (at + 1) text = rw (add-one) (drop-cons text at 0 inside) in
    let over = ap (line_offset (suc left)) is ∙ line_offset-goes left (get_or text at 0) (drop (at + 1) text) goes in
    omega (arith, on, over)

pub bytes_out : (text : List ℕ) (whole at left : ℕ) → length text ≤ at → whole ≡ at + line_offset left (drop at text) → at ≡ whole
bytes_out text whole at left past on =
    let none = ap (line_offset left) (drop_of_length-le text past) ∙ line_offset-nil left in omega (arith, on, none)

pub lines_out : (text : List ℕ) (whole at left : ℕ) → left ≤ 0 → whole ≡ at + line_offset left (drop at text) → at ≡ whole
lines_out text whole at zero none on = let here = line_offset-none (drop at text) in omega (arith, on, here)
lines_out text whole at (suc left) none on = absurd (omega arith)
