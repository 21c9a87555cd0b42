-- What two graphs say of a file, import by import.
use Rattle.std.proofs.Common.{◌≡◌, ◌+◌, ◌<◌, ℕ, zero, suc, List, [], ◌∷◌, false, None, length, get_or, take, map, refl, sym, ap, ap₂, ◌∙◌, arith, add-one}
use Rattle.import_graph.specs.declared.imports.ImportEdge.{ImportEdge}
use Rattle.import_graph.specs.declared.imports.FileImports.{FileImports}
use Rattle.import_graph.specs.Imports.{edges_at, target_at}
use Rattle.import_graph.specs.Outlooks.{import_outlook, imports_outlook}

more : {X Y Z : Type 0} (k : X → Z) (k' : Y → Z) (a : List X) (b : List Y) (i : ℕ) (d : Z) → i < length a → i < length b
    → map k (take i a) ≡ map k' (take i b) → get_or (map k a) i d ≡ get_or (map k' b) i d → map k (take (suc i) a) ≡ map k' (take (suc i) b)
more k k' [] b i d there there' before here = absurd (omega (arith, there))
more k k' (x ∷ a) [] i d there there' before here = absurd (omega (arith, there'))
more k k' (x ∷ a) (y ∷ b) zero d there there' before here = ap (λ z. z ∷ []) here
more k k' (x ∷ a) (y ∷ b) (suc i) d there there' before here =
    let heads : k x ≡ k' y = cc in
    let tails : map k (take i a) ≡ map k' (take i b) = cc in
    ap₂ (λ z zs. z ∷ zs) heads (more k k' a b i d (omega (arith, there)) (omega (arith, there')) tails here)

-- lists whose first elements say the same, and the next ones too
pub more_alike : {X Y Z : Type 0} (k : X → Z) (k' : Y → Z) (a : List X) (b : List Y) (i : ℕ) (d : Z) → i < length a → i < length b
    → map k (take i a) ≡ map k' (take i b) → get_or (map k a) i d ≡ get_or (map k' b) i d → map k (take (i + 1) a) ≡ map k' (take (i + 1) b)
more_alike k k' a b i d there there' before here = rw (add-one i) (more k k' a b i d there there' before here)

abbrev no_link : ImportEdge
no_link = record { target = None; is_public = false }

get_or-made : {X Y : Type 0} (k : X → Y) (xs : List X) (i : ℕ) (d : X) → get_or (map k xs) i (k d) ≡ k (get_or xs i d)
get_or-made k [] i d = refl
get_or-made k (x ∷ xs) zero d = refl
get_or-made k (x ∷ xs) (suc i) d = get_or-made k xs i d

-- what is said of an import, by its number, also where there is none with that
pub said_at : (graph : List FileImports) (f i : ℕ) → get_or (imports_outlook graph f) i (None, false) ≡ import_outlook graph f (target_at graph f i)
said_at graph f i =
    get_or-made (λ l. import_outlook graph f l.target) (edges_at graph f) i no_link
    ∙ ap (import_outlook graph f) (sym (get_or-made (λ l. l.target) (edges_at graph f) i no_link))
