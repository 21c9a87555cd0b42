-- No part is read from no tokens.
use Rattle.std.proofs.Common.{◌≡◌, Bool, true, false, [], None, refl}
use Rattle.proto_tree.specs.Parts.{literal, run, number, one}
use Rattle.proto_tree.specs.Forms.{range, option_part}

pub literal-nil : literal [] ≡ None
unfolding literal run
literal-nil = refl

pub range-nil : (may_be_negative : Bool) → range may_be_negative [] ≡ None
unfolding range number one
range-nil true = refl
range-nil false = refl

pub option_part-nil : option_part [] ≡ None
unfolding option_part one
option_part-nil = refl
