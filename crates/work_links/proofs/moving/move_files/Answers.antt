use Rattle.std.proofs.Common.{◌≡◌, ◌∙◌, ap, ◌<◌, length, get_or, arith}
use Rattle.std.proofs.lemmas.List.{set-get_or}
use Rattle.std.proofs.lemmas.List.Edits.{map_over_more}
use Rattle.proto_resolve.specs.declared.resolve.Links.{Links}
use Rattle.proto_resolve.specs.declared.uses.NameUse.{NameUse}
use Rattle.work_links.specs.Laws.{decl_moved}
use Rattle.work_links.specs.Touched.{use_after}
use Rattle.work_links.proofs.moving.move_files.Goals as goal
use Rattle.work_links.proofs.moving.move_files.Goals.{in-Some, in_default}

pub loop-at-preserved : goal.loop-at-preserved
loop-at-preserved c =
    let was = c.args.links.now in
    let now = c.loop-at.links in
    let at = c.loop-at.at in
    let one = c.index-as_slice-at.result in
    let after : NameUse → NameUse = use_after (decl_moved c.args.to.now) in
    let within : at < length was.uses = omega arith in
    let stands : one ≡ get_or now.uses at one = rw c.as_slice.ensures at c.index-as_slice-at.is in
    let more = map_over_more after was.uses now.uses at one within c.loop-at.invariant.uses stands in
    elim c.match-moved_use.branch [
      | in-Some w ↦
          let is : w.in-Some.moved ≡ after one = rw w.in-Some.is at c.moved_use.ensures in
          record { uses = cc (more, is, ap (λ (l : Links). l.uses) w.links-is, w.set.ensures); diags = ap (λ (l : Links). l.diags) w.links-is ∙ c.loop-at.invariant.diags }
      | in_default w ↦
          let stays : after one ≡ one = rw w.in_default.is at c.moved_use.ensures in
          record { uses = cc (more, stays, stands, set-get_or now.uses at one, ap (λ (l : Links). l.uses) w.links-is); diags = ap (λ (l : Links). l.diags) w.links-is ∙ c.loop-at.invariant.diags }
    ]
