use Rattle.proto_names.proofs.Leaving.{must_stand, taken_out}
use Rattle.proto_names.proofs.replacing.take_out.Goals as goal

pub returns-in-Some : goal.returns-in-Some
returns-in-Some c = λ order entries total are.
    taken_out order total entries c.args.one c.args.bucket.now (record { hashes = c.remove.new.self; decls = c.remove-in-Some.new.self }) are c.in-Some.place c.in-Some.ensures.within c.in-Some.ensures.there
    c.remove.ensures.items c.remove-in-Some.ensures.items

pub returns-in_default : goal.returns-in_default
returns-in_default c = λ order entries total are. must_stand order total entries c.args.one c.args.bucket.now c.args.bucket.now are c.in_default.ensures.there
