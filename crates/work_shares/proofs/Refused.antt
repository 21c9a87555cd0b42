-- Where a thread was refused, there was something to share.
use Rattle.std.proofs.Common.{◌≡◌, ◌≤◌, ◌<◌, ◌∙◌, Bool, List, [], ◌∷◌, Result, Ok, Err, length, arith, ap, sym, refl}
use Rattle.std.specs.Prelude.{IsErrAnd}
use Rattle.proto_decls.specs.declared.named_facts.NamedFacts.{NamedFacts}
use Rattle.proto_resolve.specs.declared.fault.TableFault.{TableFault}
use Rattle.proto_resolve.specs.declared.fault.TableFault.TheVariants as table
use Rattle.work_shares.specs.declared.fault.AnalyseFault.{AnalyseFault}
use Rattle.work_shares.specs.declared.fault.AnalyseFault.TheVariants.{ThreadRefused}
use Rattle.work_shares.specs.declared.shares.Share.{Share}
use Rattle.work_shares.specs.Fault.{fault_of_table}
use Rattle.work_index.specs.Pieces.{workspace_of}
use Rattle.work_shares.specs.Shares.{pieces_in}
use Rattle.work_index.specs.Workspace.{all_facts}

-- what the exit of a `?` returns
refused_with : {T E : Type 0} (fault e : E) (r : Result T E) → IsErrAnd r (λ y. y ≡ fault) → r ≡ Err e → fault ≡ e
refused_with fault e (Ok x) h is = absurd h
refused_with fault e (Err y) h is = let same : y ≡ e = cc in sym h ∙ same

of_table : (fault : TableFault) → fault_of_table fault ≡ ThreadRefused → fault ≡ table.ThreadRefused
of_table table.Memory is = cc
of_table table.ThreadRefused is = refl

-- the fault of an analysis is a refused thread only where that of the table is
pub refused_by_table : {T : Type 0} (fault : TableFault) (r : Result T AnalyseFault) → IsErrAnd r (λ y. y ≡ fault_of_table fault) → r ≡ Err ThreadRefused → fault ≡ table.ThreadRefused
refused_by_table fault r h is = of_table fault (refused_with (fault_of_table fault) ThreadRefused r h is)

-- files come of a share
pub some_share : (r : Bool) (shares : List Share) (files : List NamedFacts) → files ≡ all_facts (workspace_of r (pieces_in shares)) → 64 ≤ length files → 0 < length shares
some_share r [] files are many = absurd (let none : length files ≡ 0 = ap length are in omega (arith, none, many))
some_share r (s ∷ shares) files are many = omega arith
