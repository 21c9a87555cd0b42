use Rattle.std.proofs.Common.{◌≤◌, ◌+◌, ◌∙◌, ◌++◌, ap, arith, length, map, sym}
use Rattle.std.proofs.lemmas.List.{length-append, map-append}
use Rattle.std.proofs.lemmas.Simd.{map-map}
use Rattle.proto_names.specs.Entries.{with_renumbered}
use Rattle.proto_names.proofs.Entries.{each_small, followed, holders_within, small_runs}
use Rattle.proto_names.proofs.name_entries.NameEntries.followed_by.Goals as goal

pub push_renumbered-requires : goal.push_renumbered-requires
push_renumbered-requires c =
    let small : c.len-by.result + length c.others.inside.files.items ≤ 18446744073709551615 =
    omega (arith, c.len-by.ensures, c.append.new.self.small, c.append.new.self.ok, ap length c.in_ok-append.ensures.items, length-append c.self.inside.files.items c.others.inside.files.items, c.self.inside.files.ok) in
    (each_small (λ run. run.items) (λ k. c.len-by.result + (let r = k.decl in r.file) ≤ 18446744073709551615) c.others.inside.holders.items
    (small_runs c.others.inside.files.items c.len-by.result (map (λ run. run.items) c.others.inside.holders.items)
    (holders_within c.others.inside.files.items (map (λ run. run.items) c.others.inside.holders.items) c.others.invariant.holders_are) small))

pub invariant_of-result : goal.invariant_of-result
invariant_of-result c =
    followed c.self.inside.files.items c.others.inside.files.items c.append.new.self.items
    (map (λ own. own.items) c.self.inside.hashes.items) (map (λ own. own.items) c.others.inside.hashes.items) (map (λ own. own.items) c.append-2.new.self.items)
    (map (λ run. run.items) c.self.inside.holders.items) (map (λ run. run.items) c.others.inside.holders.items) (map (λ run. run.items) c.push_renumbered.new.found.items) c.len-by.result
    c.in_ok-append.ensures.items (omega (arith, c.len-by.ensures, c.self.inside.files.ok))
    (ap (λ hs. map (λ own. own.items) hs) c.in_ok-append-2.ensures.items ∙ map-append (λ own. own.items) c.self.inside.hashes.items c.others.inside.hashes.items)
    (c.in_ok-push_renumbered.ensures
    ∙ ap (λ l. map (λ run. run.items) c.self.inside.holders.items ++ l) (sym (map-map (λ run. map (with_renumbered c.len-by.result) run) (λ run. run.items) c.others.inside.holders.items)))
    c.self.invariant c.others.invariant
