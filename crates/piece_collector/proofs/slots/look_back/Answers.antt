use Rattle.piece_collector.proofs.Passed.{not_before_start, not_both}
use Rattle.piece_collector.proofs.slots.look_back.Goals as goal

pub returns-then-lt-clause-earlier : goal.returns-then-lt-clause-earlier
returns-then-lt-clause-earlier c = λ q b. not_both _ (not_before_start q _ c.clear.ensures.bytes) b

pub returns-then-lt-clause-path : goal.returns-then-lt-clause-path
returns-then-lt-clause-path c = not_before_start c.args.path.now _ c.clear.ensures.bytes
