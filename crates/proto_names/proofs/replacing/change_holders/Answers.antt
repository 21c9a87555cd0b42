use Rattle.std.proofs.Common.{◌++◌}
use Rattle.std.proofs.lemmas.Result.{on_ok_weaker}
use Rattle.proto_names.specs.Files.{name_at}
use Rattle.proto_names.specs.Tables.{by_scope, holder_entries}
use Rattle.proto_names.proofs.ByLast.{scopes_total}
use Rattle.proto_names.proofs.InBuckets.{buckets_moved}
use Rattle.proto_names.proofs.Replaced.{holders_stay}
use Rattle.proto_names.proofs.replacing.change_holders.Goals as goal

pub leave_out-requires : goal.leave_out-requires
leave_out-requires c = let w = c.requires in (by_scope w.old_name, scopes_total w.old_name, (w.stay, w.were))

pub add-requires-clause-total : goal.add-requires-clause-total
add-requires-clause-total c = scopes_total (name_at c.args.files.now)

pub add-requires-clause-buckets : goal.add-requires-clause-buckets
add-requires-clause-buckets c =
    let w = c.requires in
    (w.stay, holders_stay w.old_name (name_at c.args.files.now) w.stay c.leave_out.new.self.list.items w.alike (c.leave_out.ensures (by_scope w.old_name) w.stay (scopes_total w.old_name) w.were))

pub returns : goal.returns
returns c =
    let w = c.requires in
    let left = holders_stay w.old_name (name_at c.args.files.now) w.stay c.leave_out.new.self.list.items w.alike (c.leave_out.ensures (by_scope w.old_name) w.stay (scopes_total w.old_name) w.were) in
    on_ok_weaker c.add.result
    (λ added. buckets_moved (by_scope (name_at c.args.files.now)) (w.stay ++ c.args.come.now) (holder_entries c.args.files.now) c.add.new.self.list.items w.now (added w.stay left)) c.add.ensures
