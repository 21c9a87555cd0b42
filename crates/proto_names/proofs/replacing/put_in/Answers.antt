use Rattle.proto_names.proofs.Leaving.{put_into}
use Rattle.proto_names.proofs.replacing.put_in.Goals as goal

pub returns : goal.returns
returns g c = λ entries are.
    put_into (g.O.EntryOrder.order c.args.files.now) c.requires.total entries c.args.one c.args.bucket.now (record { hashes = c.insert.new.self; decls = c.insert-2.new.self }) are c.place_for-place.result
    c.place_for-place.ensures.within c.place_for-place.ensures.between c.in_ok-insert.ensures.items c.in_ok-insert-2.ensures.items
