-- The variants of problems stand in the order of their numbers and words.
use Rattle.std.proofs.Common.{◌≡◌, ℕ, Bool, true, false, ◌&&◌, ◌<◌, List, [], ◌∷◌, length, get_or, refl, subst, zero, suc, arith}
use Rattle.std.specs.declared.cmp.Ordering.{Ordering}
use Rattle.std.specs.declared.cmp.Ordering.TheVariants.{Less, Equal, Greater}
use Rattle.proto_decls.specs.declared.problem.Problem.{Problem}
use Rattle.proto_decls.specs.declared.problem.Problem.TheVariants as m
use Rattle.proto_decls.specs.Problems.{problem_order, variant_order}

abbrev same : Ordering → Ordering → Bool
same Less Less = true
same Equal Equal = true
same Greater Greater = true
same _ _ = false

same-is : (r s : Ordering) → same r s ≡ true → r ≡ s
same-is Less Less e = refl
same-is Equal Equal e = refl
same-is Greater Greater e = refl
same-is Less Equal e = cc
same-is Less Greater e = cc
same-is Equal Less e = cc
same-is Equal Greater e = cc
same-is Greater Less e = cc
same-is Greater Equal e = cc

abbrev problems : List Problem
problems =
    m.IllegalCharacter ∷ m.MalformedNumber ∷ m.UnfinishedComment ∷ m.UnfinishedString ∷ m.NotUnderstood ∷ m.TooDeep ∷ m.Unfinished ∷ m.NumberOutOfRange ∷ m.NumberKeptFree ∷ m.NumberUsedTwice ∷ m.NumberReserved ∷ m.NameReserved ∷ m.ReservedTwice ∷ m.RangeBackwards ∷ m.FirstNotZero ∷ m.EnumNumberOutOfRange ∷ m.EnumNumberUsedTwice ∷ m.MapKey ∷ m.DeclaredTwice ∷ m.ImportedTwice ∷ m.PackageTwice ∷ m.SyntaxNotFirst ∷ m.TextTooLong ∷ m.NotProto3 ∷ m.LabelNotAllowed ∷ m.Unresolved ∷ m.WrongKind ∷ m.ImportNotFound ∷ m.ImportCycle ∷ m.DeclaredElsewhere ∷ m.NameIsPackage ∷ []

abbrev place : Problem → ℕ
place m.IllegalCharacter = 0
place m.MalformedNumber = 1
place m.UnfinishedComment = 2
place m.UnfinishedString = 3
place m.NotUnderstood = 4
place m.TooDeep = 5
place m.Unfinished = 6
place m.NumberOutOfRange = 7
place m.NumberKeptFree = 8
place m.NumberUsedTwice = 9
place m.NumberReserved = 10
place m.NameReserved = 11
place m.ReservedTwice = 12
place m.RangeBackwards = 13
place m.FirstNotZero = 14
place m.EnumNumberOutOfRange = 15
place m.EnumNumberUsedTwice = 16
place m.MapKey = 17
place m.DeclaredTwice = 18
place m.ImportedTwice = 19
place m.PackageTwice = 20
place m.SyntaxNotFirst = 21
place m.TextTooLong = 22
place m.NotProto3 = 23
place m.LabelNotAllowed = 24
place m.Unresolved = 25
place m.WrongKind = 26
place m.ImportNotFound = 27
place m.ImportCycle = 28
place m.DeclaredElsewhere = 29
place m.NameIsPackage = 30

abbrev all_with : Problem → List Problem → Bool
all_with a [] = true
all_with a (b ∷ bs) = same (variant_order a b) (problem_order a b) && all_with a bs

abbrev all_of : List Problem → Bool
all_of [] = true
all_of (a ∷ more) = all_with a problems && all_of more

checked : all_of problems ≡ true
checked = refl

first_so : (a b : Bool) → (a && b) ≡ true → a ≡ true
first_so true b e = refl
first_so false b e = e

second_so : (a b : Bool) → (a && b) ≡ true → b ≡ true
second_so true b e = e
second_so false b e = cc

with-at : (a : Problem) (bs : List Problem) (i : ℕ) (d : Problem) → i < length bs → all_with a bs ≡ true
    → same (variant_order a (get_or bs i d)) (problem_order a (get_or bs i d)) ≡ true
with-at a [] i d lt e = absurd (omega arith)
with-at a (b ∷ bs) zero d lt e = first_so (same (variant_order a b) (problem_order a b)) (all_with a bs) e
with-at a (b ∷ bs) (suc i) d lt e = with-at a bs i d (omega arith) (second_so (same (variant_order a b) (problem_order a b)) (all_with a bs) e)

of-at : (found : List Problem) (i : ℕ) (d : Problem) → i < length found → all_of found ≡ true → all_with (get_or found i d) problems ≡ true
of-at [] i d lt e = absurd (omega arith)
of-at (a ∷ more) zero d lt e = first_so (all_with a problems) (all_of more) e
of-at (a ∷ more) (suc i) d lt e = of-at more i d (omega arith) (second_so (all_with a problems) (all_of more) e)

placed : (a : Problem) → get_or problems (place a) m.IllegalCharacter ≡ a
placed m.IllegalCharacter = refl
placed m.MalformedNumber = refl
placed m.UnfinishedComment = refl
placed m.UnfinishedString = refl
placed m.NotUnderstood = refl
placed m.TooDeep = refl
placed m.Unfinished = refl
placed m.NumberOutOfRange = refl
placed m.NumberKeptFree = refl
placed m.NumberUsedTwice = refl
placed m.NumberReserved = refl
placed m.NameReserved = refl
placed m.ReservedTwice = refl
placed m.RangeBackwards = refl
placed m.FirstNotZero = refl
placed m.EnumNumberOutOfRange = refl
placed m.EnumNumberUsedTwice = refl
placed m.MapKey = refl
placed m.DeclaredTwice = refl
placed m.ImportedTwice = refl
placed m.PackageTwice = refl
placed m.SyntaxNotFirst = refl
placed m.TextTooLong = refl
placed m.NotProto3 = refl
placed m.LabelNotAllowed = refl
placed m.Unresolved = refl
placed m.WrongKind = refl
placed m.ImportNotFound = refl
placed m.ImportCycle = refl
placed m.DeclaredElsewhere = refl
placed m.NameIsPackage = refl

within : (a : Problem) → place a < length problems
within m.IllegalCharacter = omega arith
within m.MalformedNumber = omega arith
within m.UnfinishedComment = omega arith
within m.UnfinishedString = omega arith
within m.NotUnderstood = omega arith
within m.TooDeep = omega arith
within m.Unfinished = omega arith
within m.NumberOutOfRange = omega arith
within m.NumberKeptFree = omega arith
within m.NumberUsedTwice = omega arith
within m.NumberReserved = omega arith
within m.NameReserved = omega arith
within m.ReservedTwice = omega arith
within m.RangeBackwards = omega arith
within m.FirstNotZero = omega arith
within m.EnumNumberOutOfRange = omega arith
within m.EnumNumberUsedTwice = omega arith
within m.MapKey = omega arith
within m.DeclaredTwice = omega arith
within m.ImportedTwice = omega arith
within m.PackageTwice = omega arith
within m.SyntaxNotFirst = omega arith
within m.TextTooLong = omega arith
within m.NotProto3 = omega arith
within m.LabelNotAllowed = omega arith
within m.Unresolved = omega arith
within m.WrongKind = omega arith
within m.ImportNotFound = omega arith
within m.ImportCycle = omega arith
within m.DeclaredElsewhere = omega arith
within m.NameIsPackage = omega arith

pub problem_order-is : (a b : Problem) → variant_order a b ≡ problem_order a b
problem_order-is a b =
    let d = m.IllegalCharacter in
    let with_a : all_with a problems ≡ true = subst (λ (x : Problem). all_with x problems ≡ true) (placed a) (of-at problems (place a) d (within a) checked) in
    let cell = with-at a problems (place b) d (within b) with_a in
    same-is (variant_order a b) (problem_order a b) (subst (λ (x : Problem). same (variant_order a x) (problem_order a x) ≡ true) (placed b) cell)
