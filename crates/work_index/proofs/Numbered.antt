-- What is made of each file of a workspace, by its number.
use Rattle.std.proofs.Common.{◌≡◌, ◌<◌, ℕ, Bool, List, length, get_or, map, sym, ap, ◌∙◌, arith, zero-add}
use Rattle.std.specs.List.{enumerate_from}
use Rattle.std.proofs.lemmas.List.{length-map, get_or-map}
use Rattle.std.proofs.lemmas.List.FromFn.{length-enumerate_from, get_or-enumerate_from}
use Rattle.piece_collector.specs.Views.{TextAt}
use Rattle.work_index.specs.Pieces.{source_of, workspace_of}
use Rattle.work_index.specs.Workspace.{SourceAt, Workspace, no_file}

-- what f makes of each file
abbrev pub made : {X : Type 0} → (ℕ × SourceAt → X) → Workspace → List X
made f w = map f (enumerate_from 0 w)

pub made_length : {X : Type 0} (f : ℕ × SourceAt → X) (w : Workspace) → length (made f w) ≡ length w
made_length f w = length-map (enumerate_from 0 w) f ∙ length-enumerate_from 0 w

pub made_at : {X : Type 0} (f : ℕ × SourceAt → X) (w : Workspace) (n : ℕ) (d : X) → n < length w → get_or (made f w) n d ≡ f (n, get_or w n no_file)
made_at f w n d there =
    let within : n < length (enumerate_from 0 w) = omega (arith, there, length-enumerate_from 0 w) in
    get_or-map f (enumerate_from 0 w) n (0, no_file) d within ∙ ap f (get_or-enumerate_from 0 w n (0, no_file) there ∙ ap (λ k. (k, get_or w n no_file)) (zero-add n))

pub pieces_length : (r : Bool) (ts : List TextAt) → length (workspace_of r ts) ≡ length ts
pieces_length r ts = length-map ts _

pub piece_at : (r : Bool) (ts : List TextAt) (n : ℕ) (t : TextAt) → n < length ts → t ≡ get_or ts n t → get_or (workspace_of r ts) n no_file ≡ source_of r t
piece_at r ts n t there is = get_or-map (source_of r) ts n t no_file there ∙ sym (ap (source_of r) is)
