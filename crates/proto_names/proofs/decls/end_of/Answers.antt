use Rattle.std.proofs.Common.{◌≡◌, ◌<◌, ◌≤◌, Bool, true, false, rules}
use Rattle.std.specs.Prelude.{All, nat_le}
use Rattle.std.specs.List.Sorted.{IsPartitionPoint}
use Rattle.std.proofs.lemmas.List.Elements.{All-weaker}
use Rattle.std.proofs.lemmas.List.Sorted.{IsPartitionPoint-from_clause}
use Rattle.proto_names.specs.declared.decl_ref.DeclRef.{DeclRef}
use Rattle.proto_names.proofs.ChangedDecls.{is_higher, is_no_higher, no_decl_ref, turns_once, turns_there}
use Rattle.proto_names.proofs.decls.end_of.Goals as goal

pub returns : goal.returns
returns c = λ front rest are lower higher.
    let f = c.args.file in
    let test : DeclRef → Bool = λ r. nat_le r.file f in
    let pass : All (λ r. test r ≡ true) front = All-weaker (λ r. r.file ≤ f) (λ r. test r ≡ true) (λ r le. is_no_higher r.file f le) front lower in
    let fail : All (λ r. test r ≡ false) rest = All-weaker (λ r. f < r.file) (λ r. test r ≡ false) (λ r lt. is_higher r.file f lt) rest higher in
    let point : IsPartitionPoint (λ r. test r ≡ true) (λ r. test r ≡ false) c.args.decls.now c.partition_point.result =
    IsPartitionPoint-from_clause test c.args.decls.now c.partition_point.result c.partition_point.ensures.partitioned (rw are (turns_once test front rest pass fail)) (λ a r q k. search rules) in
    turns_there test front rest pass fail c.partition_point.result no_decl_ref (rw are at c.partition_point.ensures.bound) (rw are at point)
