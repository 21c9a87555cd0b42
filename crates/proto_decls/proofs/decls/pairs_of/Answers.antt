use Rattle.std.proofs.Common.{sym, arith, take_all}
use Rattle.proto_decls.specs.BytePairs.{HasPairs}
use Rattle.proto_decls.proofs.ApartNames.{joined_again}
use Rattle.proto_decls.proofs.PairLemmas.{All-one_more}
use Rattle.proto_decls.proofs.decls.pairs_of.Goals as goal

pub loop-decl-preserved : goal.loop-decl-preserved
loop-decl-preserved c = record {
  before = c.add_name.ensures.scope;
  all = All-one_more (λ d. HasPairs c.loop-decl.pairs d.full_name) (λ d. HasPairs c.add_name.new.self d.full_name) c.args.decls.now c.loop-decl.decl-index c.decl-item.result
      (λ d. c.add_name.ensures.kept d.full_name) c.loop-decl-test.true (sym c.decl-item.is) c.loop-decl.invariant.all
      (rw (c.parts-name.ensures.scope, c.parts-name.ensures.last, joined_again c.decl-item.result.full_name) at c.add_name.ensures.added);
}

pub returns : goal.returns
returns c =
    let all = take_all c.loop-decl.decl-index c.args.decls.now (omega (arith, c.loop-decl-test.false)) in
    rw all at c.loop-decl.invariant.all
