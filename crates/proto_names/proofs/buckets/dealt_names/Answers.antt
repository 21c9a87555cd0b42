use Rattle.std.proofs.Common.{◌≡◌, ◌∙◌, ◌++◌, ◌∷◌, List, [], Vec, Global, ℕ, ap, append-nil, append_assoc, length, map, sym, arith}
use Rattle.std.proofs.lemmas.List.{length-map, length_push, map_push, nil_from_length}
use Rattle.proto_names.proofs.Dealing.{dealt_alone, file_dealt}
use Rattle.proto_names.proofs.buckets.dealt_names.Goals as goal

pub deal_names-requires : goal.deal_names-requires
deal_names-requires c =
    omega (arith, c.requires, c.loop-file.invariant.dealt.as_many, length-map c.loop-file.lists.items (λ list. list.items), length-map c.in_ok-lists.lists.items (λ list. list.items), c.in_ok-lists.ensures.0, c.as_slice-2.ensures.len, c.in_ok-counts.ensures)

pub loop-file-preserved : goal.loop-file-preserved
loop-file-preserved c =
    let done : List (Vec ℕ Global) = map (λ e. e.1) c.loop-file.yielded in
    let place : c.in-Some.file ≡ length (map (λ own. own.items) done) =
    omega (arith, c.in-Some.ensures.steps.1, c.loop-file.invariant.number, length-map c.loop-file.yielded (λ e. e.1), length-map done (λ own. own.items)) in
    record {
      left = rw map_push (append_assoc done (c.in-Some.hashes ∷ []) c.next.new.self.iter.rest.items ∙ ap (λ hs. done ++ hs) (sym c.in-Some.ensures.steps.0.0) ∙ c.loop-file.invariant.left);
      number = omega (arith, c.in-Some.ensures.steps.2, c.loop-file.invariant.number, length_push c.loop-file.yielded (c.in-Some.file, c.in-Some.hashes));
      dealt = rw (map_push, map_push)
          (file_dealt (map (λ own. own.items) done) c.in-Some.hashes.items c.in-Some.file _ _ _ place c.loop-file.invariant.dealt
          (rw c.as_slice-in-loop-file.ensures.value at c.in_ok-deal_names.ensures));
    }

pub returns-clause-len : goal.returns-clause-len
returns-clause-len c =
    omega (arith, c.loop-file.invariant.dealt.as_many, length-map c.loop-file.lists.items (λ list. list.items), length-map c.in_ok-lists.lists.items (λ list. list.items), c.in_ok-lists.ensures.0, c.as_slice-2.ensures.len, c.in_ok-counts.ensures)

pub returns-clause-each : goal.returns-clause-each
returns-clause-each c =
    let done : List (Vec ℕ Global) = map (λ e. e.1) c.loop-file.yielded in
    let left : List (Vec ℕ Global) = c.loop-file.file-iterator.iter.rest.items in
    let none : left ≡ [] = nil_from_length left (omega (arith, c.in-None.ensures.steps.0.0, c.loop-file.file-iterator.iter.rest.ok)) in
    let whole : done ≡ c.args.files.items = sym (append-nil done) ∙ ap (λ hs. done ++ hs) (sym none) ∙ c.loop-file.invariant.left in
    dealt_alone (λ list. list.items) _ c.in_ok-lists.lists.items _ c.args.count c.in_ok-lists.ensures.1
    (omega (arith, c.in_ok-lists.ensures.0, c.as_slice-2.ensures.len, c.in_ok-counts.ensures)) (rw whole at c.loop-file.invariant.dealt)
