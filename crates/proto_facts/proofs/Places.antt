-- One more element of a list that is gone through from the front.
use Rattle.std.proofs.Common.{◌≡◌, cond, Bool, true, false, ◌||◌, ℕ, ◌+◌, ◌<◌, ◌≤◌, List, [], ◌∷◌, ◌++◌, Option, Some, None, length, take, drop, get_or, refl, sym, ap, ◌∙◌, arith, append_assoc, append-nil, add-one}
use Rattle.std.specs.List.{enumerate_from, filter_map, cons_option, list_any}
use Rattle.std.specs.Option.{option_to_list}
use Rattle.std.proofs.lemmas.List.FromFn.{length-enumerate_from, get_or-enumerate_from}
use Rattle.std.proofs.lemmas.List.{drop_all, take_more}
use Rattle.std.proofs.lemmas.List.Folds.{list_any-append}
use Rattle.std.proofs.Math.Seq.{drop-cons}
use Rattle.std.specs.BTreeSet.{BTreeSet, contains}
use Rattle.std.specs.Ordering.{nat_cmp}
use Rattle.proto_decls.specs.declared.diagnostic.Diag.{Diag}
use Rattle.proto_decls.specs.declared.part.Member.{Member}
use Rattle.proto_tree.specs.declared.node.Span.{Span}
use Rattle.proto_facts.specs.Seen.{has}
use Rattle.proto_decls.specs.Checks.{judged, judged_at, is_value, has_value, name_diags}

cons : {Y : Type 0} (o : Option Y) (ys : List Y) → cons_option o ys ≡ option_to_list o ++ ys
cons None ys = refl
cons (Some y) ys = refl

pub filter_map-next : {X Y : Type 0} (h : X → Option Y) (xs : List X) (i : ℕ) (d : X) (found whole : List Y) → i < length xs
    → found ++ filter_map h (drop i xs) ≡ whole
    → (found ++ option_to_list (h (get_or xs i d))) ++ filter_map h (drop (i + 1) xs) ≡ whole
filter_map-next h xs i d found whole lt so_far =
    let split : drop i xs ≡ get_or xs i d ∷ drop (i + 1) xs = rw add-one (drop-cons xs i d lt) in
    append_assoc found (option_to_list (h (get_or xs i d))) (filter_map h (drop (i + 1) xs))
    ∙ ap (λ ys. found ++ ys) (sym (cons (h (get_or xs i d)) (filter_map h (drop (i + 1) xs))))
    ∙ ap (λ ys. found ++ filter_map h ys) (sym split)
    ∙ so_far

-- the same of a judgement by those before
pub judged-next : {X : Type 0} (judge : List X → X → Option Diag) (xs : List X) (i : ℕ) (d : X) (found whole : List Diag) → i < length xs
    → found ++ filter_map (judged_at judge xs) (drop i (enumerate_from 0 xs)) ≡ whole
    → (found ++ option_to_list (judge (take i xs) (get_or xs i d))) ++ filter_map (judged_at judge xs) (drop (i + 1) (enumerate_from 0 xs)) ≡ whole
judged-next judge xs i d found whole lt so_far =
    let within : i < length (enumerate_from 0 xs) = rw (length-enumerate_from 0 xs) lt in
    let place : 0 + i ≡ i = omega arith in
    let here : get_or (enumerate_from 0 xs) i (0, d) ≡ (i, get_or xs i d) = get_or-enumerate_from 0 xs i (0, d) lt ∙ ap (λ n. (n, get_or xs i d)) place in
    ap (λ p. (found ++ option_to_list (judged_at judge xs p)) ++ filter_map (judged_at judge xs) (drop (i + 1) (enumerate_from 0 xs))) (sym here)
    ∙ filter_map-next (judged_at judge xs) (enumerate_from 0 xs) i (0, d) found whole within so_far

pub judged-end : {X : Type 0} (judge : List X → X → Option Diag) (xs : List X) (i : ℕ) (found whole : List Diag) → length xs ≤ i
    → found ++ filter_map (judged_at judge xs) (drop i (enumerate_from 0 xs)) ≡ whole → found ≡ whole
judged-end judge xs i found whole past so_far =
    let all : length (enumerate_from 0 xs) ≤ i = rw (length-enumerate_from 0 xs) past in
    sym (append-nil found) ∙ ap (λ ps. found ++ filter_map (judged_at judge xs) ps) (sym (drop_all i (enumerate_from 0 xs) all)) ∙ so_far

turned : (a b : Bool) → (a || (b || false)) ≡ (b || a)
turned true true = refl
turned true false = refl
turned false true = refl
turned false false = refl

-- whether one of the first elements passes, with the next one
pub any-next : {X : Type 0} (test : X → Bool) (xs : List X) (i : ℕ) (d : X) (new old : Bool) → i < length xs
    → new ≡ (test (get_or xs i d) || old) → old ≡ list_any test (take i xs) → new ≡ list_any test (take (i + 1) xs)
any-next test xs i d new old lt now before =
    now ∙ ap (λ b. test (get_or xs i d) || b) before ∙ sym (ap (list_any test) (take_more xs i d lt) ∙ list_any-append test (take i xs) (get_or xs i d ∷ []) ∙ turned (list_any test (take i xs)) (test (get_or xs i d)))

pub or-is : (b x : Bool) → cond b true x ≡ (b || x)
or-is true x = refl
or-is false x = refl

-- a value was met, by the set of those met
pub has-is : (s : BTreeSet ℕ) (before : List Member) (o : Option ℕ) → ((q : ℕ) → contains nat_cmp s q ≡ list_any (λ e. is_value q e.value) before) → has s o ≡ has_value o before
has-is s before None met = refl
has-is s before (Some v) met = met v

-- the same in steps, as a loop's body gives them
pub diags-next : {X : Type 0} (judge : List X → X → Option Diag) (xs : List X) (i : ℕ) (d : X) (found whole new : List Diag) (o : Option Diag) → i < length xs
    → found ++ filter_map (judged_at judge xs) (drop i (enumerate_from 0 xs)) ≡ whole
    → new ≡ found ++ option_to_list o → o ≡ judge (take i xs) (get_or xs i d)
    → new ++ filter_map (judged_at judge xs) (drop (i + 1) (enumerate_from 0 xs)) ≡ whole
diags-next judge xs i d found whole new o lt so_far is judged = rw (is, judged) (judged-next judge xs i d found whole lt so_far)

abbrev pub no_span : Span
no_span = record { start = 0; end = 0 }

abbrev pub no_member : Member
no_member = record { name = no_span; number = no_span; value = None }

-- where no name is reserved, nothing is wrong with names
pub no_names : (text : List ℕ) (members : List Member) → name_diags text members [] ≡ []
no_names text [] = refl
no_names text (m ∷ members) = no_names text members
