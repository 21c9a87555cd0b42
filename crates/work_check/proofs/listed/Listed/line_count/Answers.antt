use Rattle.std.proofs.Common.{◌<◌, ◌≤◌, length, arith, ap}
use Rattle.work_index.specs.Workspace.{analysis}
use Rattle.work_check.specs.Listing.{wanted_lines}
use Rattle.work_check.proofs.CountLemmas.{all-counted, more-counted, none-counted}
use Rattle.work_check.proofs.listed.Listed.line_count.Goals as goal

pub loop-number-init : goal.loop-number-init
loop-number-init c =
    let l = c.args.self.now in
    none-counted (wanted_lines l.how (analysis l.files)) l.files

pub loop-number-preserved : goal.loop-number-preserved
loop-number-preserved c =
    let at = c.loop-number in
    let l = c.args.self.now in
    let there : at.number < length l.files = rw c.file_count-number-end.ensures at c.loop-number-test.true in
    more-counted (wanted_lines l.how (analysis l.files)) l.files at.count at.number (length c.diagnostics.result.now) c.saturating_add-count.result there at.invariant (ap length c.diagnostics.ensures) c.saturating_add-count.ensures

pub returns : goal.returns
returns c =
    let at = c.loop-number in
    let l = c.args.self.now in
    let none : length l.files ≤ at.number = omega (arith, c.loop-number-test.false, c.file_count-number-end.ensures) in
    all-counted (wanted_lines l.how (analysis l.files)) l.files at.count at.number none at.invariant
