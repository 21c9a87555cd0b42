use Rattle.std.proofs.Common.{◌≡◌, ◌∙◌, sym, ap, cond, true}
use Rattle.std.specs.Str.{bytes_eq}
use Rattle.std.specs.Cmp.{both_tied}
use Rattle.std.specs.Cmp.Lexicographic.{slice_cmp}
use Rattle.std.specs.Ordering.{is_eq, eq_by_cmp, nat_cmp, ordering_then}
use Rattle.std.proofs.lemmas.Map.Text.{is_eq-slice_cmp}
use Rattle.proto_decls.specs.FullNames.{hash_of, last_of, scope_of}
use Rattle.proto_facts.specs.Seen.{has_full_name}
use Rattle.proto_facts.proofs.Places.{or-is}
use Rattle.proto_facts.proofs.TwiceLemmas.{same_hashed}
use Rattle.proto_facts.proofs.seen.note_full_name.Goals as goal

pub returns-clause-more : goal.returns-clause-more
returns-clause-more c = λ q.
    let name = c.args.name.now in
    let hash = nat_cmp c.hash.result (hash_of q) in
    let last = slice_cmp nat_cmp c.last.result.now (last_of q) in
    let scope = slice_cmp nat_cmp c.scope.result.now (scope_of q) in
    let old = has_full_name c.args.seen.now q in
    let hashes : eq_by_cmp nat_cmp (hash_of name) (hash_of q) ≡ is_eq hash = ap (λ h. is_eq (nat_cmp h (hash_of q))) (sym c.hash.ensures) in
    let lasts : bytes_eq (last_of name) (last_of q) ≡ is_eq last = ap (λ l. bytes_eq l (last_of q)) (sym c.last.ensures) ∙ sym (is_eq-slice_cmp c.last.result.now (last_of q)) in
    let scopes : bytes_eq (scope_of name) (scope_of q) ≡ is_eq scope = ap (λ s. bytes_eq s (scope_of q)) (sym c.scope.ensures) ∙ sym (is_eq-slice_cmp c.scope.result.now (scope_of q)) in
    let same : is_eq (ordering_then (ordering_then hash last) scope) ≡ bytes_eq name q =
    sym (both_tied _ _ (ordering_then hash last) scope (both_tied _ _ hash last hashes lasts) scopes) ∙ same_hashed name q in
    c.in_ok-insert.ensures.updates.0 (hash_of q, record { ref_ptr = (0, 0); now = last_of q }, record { ref_ptr = (0, 0); now = scope_of q })
    ∙ ap (λ b. cond b true old) same
    ∙ or-is (bytes_eq name q) old
