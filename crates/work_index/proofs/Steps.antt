-- A list that is made file by file.
use Rattle.std.proofs.Common.{◌≡◌, ◌++◌, ◌∷◌, [], ◌+◌, ◌<◌, ◌≤◌, ℕ, suc, Bool, List, length, get_or, drop, map, sym, ap, ◌∙◌, add-one, append_assoc, arith, drop-cons}
use Rattle.std.proofs.lemmas.List.{length-map}
use Rattle.std.proofs.lemmas.List.FromFn.{length-enumerate_from}
use Rattle.std.specs.List.{enumerate_from}
use Rattle.piece_collector.specs.Views.{TextAt}
use Rattle.proto_decls.specs.declared.named_facts.NamedFacts.{NamedFacts}
use Rattle.work_index.specs.Pieces.{AreNumbersIn, source_of, workspace_of}
use Rattle.work_index.specs.Workspace.{SourceAt, named_facts, all_facts}

-- what f makes of each of the files from n on
abbrev pub made_from : {X : Type 0} → Bool → (ℕ × SourceAt → X) → ℕ → List TextAt → List X
made_from r f n ts = map f (enumerate_from n (workspace_of r ts))

split : (ts : List TextAt) (n : ℕ) (t : TextAt) → n < length ts → t ≡ get_or ts n t → drop n ts ≡ t ∷ drop (n + 1) ts
split ts n t there is = rw (add-one n) (drop-cons ts n t there ∙ ap (λ x. x ∷ drop (suc n) ts) (sym is))

-- what is made of one more piece stands behind what was made of those before
pub one_further : {X : Type 0} (all_of : List TextAt → List X) (f : TextAt → X) → ((t : TextAt) (ts : List TextAt) → all_of (t ∷ ts) ≡ f t ∷ all_of ts)
    → (k : ℕ) (ts : List TextAt) (t : TextAt) (old new all : List X) → k < length ts → t ≡ get_or ts k t → new ≡ old ++ f t ∷ [] → old ++ all_of (drop k ts) ≡ all → new ++ all_of (drop (k + 1) ts) ≡ all
one_further all_of f first k ts t old new all there is added before =
    let after : old ++ (f t ∷ all_of (drop (k + 1) ts)) ≡ all =
    ap (λ rest. old ++ rest) (sym (first t (drop (k + 1) ts))) ∙ ap (λ rest. old ++ all_of rest) (sym (split ts k t there is)) ∙ before in
    rw added (append_assoc old (f t ∷ []) (all_of (drop (k + 1) ts)) ∙ after)

-- what f makes of one more file stands behind what it made of those before, the first of which has the number n
pub one_more : {X : Type 0} (r : Bool) (f : ℕ × SourceAt → X) (n k : ℕ) (ts : List TextAt) (t : TextAt) (old new all : List X) → k < length ts → t ≡ get_or ts k t
    → new ≡ old ++ f (n + k, source_of r t) ∷ [] → old ++ made_from r f (n + k) (drop k ts) ≡ all → new ++ made_from r f (n + (k + 1)) (drop (k + 1) ts) ≡ all
one_more r f n k ts t old new all there is added before =
    let after : old ++ made_from r f (n + k) (t ∷ drop (k + 1) ts) ≡ all = ap (λ rest. old ++ made_from r f (n + k) rest) (sym (split ts k t there is)) ∙ before in
    let next : n + (k + 1) ≡ n + k + 1 = omega arith in
    rw (added, next) (append_assoc old (f (n + k, source_of r t) ∷ []) (made_from r f (n + k + 1) (drop (k + 1) ts)) ∙ after)

-- the places of files that are all of a table, counted from 0
pub all_numbered : (r : Bool) (ts : List TextAt) (index : List NamedFacts) → index ≡ all_facts (workspace_of r ts) → length ts ≤ 18446744073709551615 → AreNumbersIn (length index) 0 (length ts)
all_numbered r ts index all held =
    let long : length index ≡ length ts = ap length all ∙ (length-map (workspace_of r ts) named_facts ∙ length-map ts _) in
    record { within = omega (arith, long); held = omega (arith, long, held) }

pub length_made : {X : Type 0} (r : Bool) (f : ℕ × SourceAt → X) (ts : List TextAt) → length (made_from r f 0 ts) ≡ length ts
length_made r f ts = length-map (enumerate_from 0 (workspace_of r ts)) f ∙ length-enumerate_from 0 (workspace_of r ts) ∙ length-map ts _
