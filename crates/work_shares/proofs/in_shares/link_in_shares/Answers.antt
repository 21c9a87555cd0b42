use Rattle.std.proofs.Common.{◌≡◌, ◌∙◌, Bool, true, List, sym, ap, subst, rules}
use Rattle.piece_collector.specs.Board.{Ascends}
use Rattle.piece_collector.specs.Views.{TextAt}
use Rattle.work_index.specs.Pieces.{workspace_of}
use Rattle.work_shares.specs.Shares.{pieces_in, AreConsecutive, AreKept, AreRead}
use Rattle.work_index.specs.Workspace.{all_facts, diagnostics_of, resolution_of}
use Rattle.work_shares.proofs.Joined.{all_joined, all_placed}
use Rattle.work_index.proofs.Steps.{made_from}
use Rattle.work_shares.proofs.in_shares.link_in_shares.Goals as goal

pub table_in_shares-requires-clause-ordered : goal.table_in_shares-requires-clause-ordered
table_in_shares-requires-clause-ordered g c = subst (λ (ts : List TextAt). Ascends ts) (sym c.in_ok-shares.ensures.whole) c.requires.ordered

pub link_all-requires-after_bounds : goal.link_all-requires-after_bounds
link_all-requires-after_bounds g c κs within =
    let ts : List TextAt = c.args.all.pieces.items in
    let r = c.args.all.reads_others in
    let all = c.in_ok-shares-2.ensures.table r c.in_ok-shares.ensures.read ∙ ap (λ us. all_facts (workspace_of r us)) c.in_ok-shares.ensures.whole in
    let places : AreConsecutive 0 c.in_ok-shares-2.shares.items = subst (λ ss. AreConsecutive 0 ss) (sym c.in_ok-shares-2.ensures.shares) c.in_ok-shares.ensures.places in
    all_placed r ts c.in_ok-shares-2.shares.items c.in_ok-shares-2.table all (ap pieces_in c.in_ok-shares-2.ensures.shares ∙ c.in_ok-shares.ensures.whole) places (search rules)

pub returns-clause-table : goal.returns-clause-table
returns-clause-table g c =
    let r = c.args.all.reads_others in
    c.in_ok-shares-2.ensures.table r c.in_ok-shares.ensures.read ∙ ap (λ us. all_facts (workspace_of r us)) c.in_ok-shares.ensures.whole

pub table_in_shares-requires-clause-read : goal.table_in_shares-requires-clause-read
table_in_shares-requires-clause-read g c = (c.args.all.reads_others, c.in_ok-shares.ensures.read)

pub returns-clause-linked : goal.returns-clause-linked
returns-clause-linked g c =
    let ts : List TextAt = c.args.all.pieces.items in
    let r = c.args.all.reads_others in
    let w = workspace_of r ts in
    let all = c.in_ok-shares-2.ensures.table r c.in_ok-shares.ensures.read ∙ ap (λ us. all_facts (workspace_of r us)) c.in_ok-shares.ensures.whole in
    let places : AreConsecutive 0 c.in_ok-shares-2.shares.items = subst (λ ss. AreConsecutive 0 ss) (sym c.in_ok-shares-2.ensures.shares) c.in_ok-shares.ensures.places in
    let whole = ap pieces_in c.in_ok-shares-2.ensures.shares ∙ c.in_ok-shares.ensures.whole in
    let read : AreRead r c.in_ok-shares-2.shares.items = subst (λ ss. AreRead r ss) (sym c.in_ok-shares-2.ensures.shares) c.in_ok-shares.ensures.read in
    let joined = all_joined w r c.in_ok-shares-2.table all ts c.in_ok-shares-2.shares.items _ _ whole read places c.in_ok-answers.ensures.answers c.in_ok-linked.ensures in
    let each : AreKept c.args.all.keeps_links c.in_ok-shares-2.shares.items = subst (λ ss. AreKept c.args.all.keeps_links ss) (sym c.in_ok-shares-2.ensures.shares) c.in_ok-shares.ensures.kept in
    let are_kept : c.args.all.keeps_links ≡ true → AreKept true c.in_ok-shares-2.shares.items = λ kept. subst (λ (k : Bool). AreKept k c.in_ok-shares-2.shares.items) kept each in
    record {
      pieces = joined.pieces_are;
      links = λ kept. joined.links_are (are_kept kept) ∙ ap (λ n. made_from r (resolution_of w) n ts) (sym c.requires.first);
      diagnostics = joined.diagnostics_are ∙ ap (λ n. made_from r (diagnostics_of w) n ts) (sym c.requires.first);
    }
