use Rattle.std.proofs.Common.{◌≡◌, ◌∙◌, ◌⊎◌, inl, inr, ⊎_elim, ap, ◌≤◌, ℕ, List, All, false, set, take, drop, length, get_or, arith}
use Rattle.std.specs.List.{insert}
use Rattle.std.proofs.lemmas.Bool.{cases_eq}
use Rattle.std.proofs.lemmas.List.{get_or-set_other, length-take, set_at}
use Rattle.std.proofs.lemmas.List.Elements.{All-contains}
use Rattle.import_graph.specs.Coming.{HasNumber}
use Rattle.import_graph.specs.declared.components.Components.{Components}
use Rattle.import_graph.proofs.coming.components_with.Goals as goal

-- the place that the new file's number was written to is its own
written : (numbers : List ℕ) (at number : ℕ) → at ≤ length numbers → set (insert numbers at 0) at number ≡ insert numbers at number
written numbers at number le = set_at (take at numbers) 0 (drop at numbers) number at (omega (arith, le, length-take at numbers))

-- a number that is as high as those of the files before it was written is so after that
has_number : (at : ℕ) (own : List ℕ) (old new : Components) (number : ℕ) → at ≤ length old.numbers.items
    → new.numbers.items ≡ set (insert old.numbers.items at 0) at number → new.tied.items ≡ insert old.tied.items at false
    → All (λ t. (t ≡ at) ⊎ (get_or (insert old.numbers.items at 0) t 0 ≤ number)) own → HasNumber at own old new
has_number at own old new number le numbers tied highest = record {
  number = number;
  numbers = numbers ∙ written old.numbers.items at number le;
  highest = λ t has. elim (cases_eq t at) [
    | inl same ↦ inl same
    | inr other ↦ ⊎_elim
        (λ same. inl same)
        (λ below.
        let read : get_or new.numbers.items t 0 ≡ get_or (insert old.numbers.items at 0) t 0 = ap (λ xs. get_or xs t 0) numbers ∙ get_or-set_other (insert old.numbers.items at 0) at t number 0 other in
        inr (omega (arith, read, below)))
        (All-contains (λ t. (t ≡ at) ⊎ (get_or (insert old.numbers.items at 0) t 0 ≤ number)) own t highest has)
  ];
  tied = tied;
}

pub returns : goal.returns
returns c =
    let was = c.args.components.numbers.items in
    let inserted : c.insert.new.self.items ≡ insert was c.args.at 0 = c.in_ok-insert.ensures.items in
    let read : c.as_slice.result.now ≡ insert was c.args.at 0 = c.as_slice.ensures.value ∙ inserted in
    has_number c.args.at c.args.own.now c.args.components _ c.number_above.result (omega (arith, c.requires.place, c.args.components.numbers.ok.0))
    (ap (λ (xs : List ℕ). set xs c.args.at c.number_above.result) inserted)
    c.in_ok-insert-2.ensures.items
    (rw read at c.number_above.ensures)
