use Rattle.std.proofs.Common.{◌≡◌, ◌∙◌, ap, ap₂, sym, refl, inl, inr, ℕ, ◌<◌, ◌==◌, List, [], ◌∷◌, map, length, get_or, arith}
use Rattle.std.proofs.lemmas.Bool.{cases_Bool}
use Rattle.std.proofs.lemmas.List.{set-get_or}
use Rattle.std.proofs.lemmas.List.Edits.{map_over_more}
use Rattle.proto_resolve.specs.declared.resolve.Links.{Links}
use Rattle.proto_names.specs.declared.decl_ref.DeclRef.{DeclRef}
use Rattle.proto_resolve.specs.declared.target.Target.{Target}
use Rattle.proto_resolve.specs.declared.target.Target.TheVariants.{Declared, Package}
use Rattle.proto_resolve.specs.declared.uses.NameUse.{NameUse}
use Rattle.work_links.specs.declared.renumbering.Renumbering.{Renumbering}
use Rattle.work_links.specs.Touched.{decl_after, renumbered, target_after, use_after}
use Rattle.work_links.proofs.renumbering.renumber.Goals as goal
use Rattle.work_links.proofs.renumbering.renumber.Goals.{in-Some, in_default}

decl_stays : (by : Renumbering) → ((number : ℕ) → renumbered by number ≡ number) → (r : DeclRef) → decl_after by r ≡ r
decl_stays by still r = elim (cases_Bool (r.file == by.file)) [
  | inl same ↦ rw (same, still r.number) refl
  | inr other ↦ rw other refl
]

target_stays : (move : DeclRef → DeclRef) → ((r : DeclRef) → move r ≡ r) → (t : Target) → target_after move t ≡ t
target_stays move still (Declared r) = ap Declared (still r)
target_stays move still (Package name) = refl

uses_stay : (move : DeclRef → DeclRef) → ((r : DeclRef) → move r ≡ r) → (uses : List NameUse) → map (use_after move) uses ≡ uses
uses_stay move still [] = refl
uses_stay move still (u ∷ uses) =
    let with_target : Target → NameUse = λ t. record { span = u.span; name = u.name; target = t } in
    ap₂ (λ t us. with_target t ∷ us) (target_stays move still u.target) (uses_stay move still uses)

pub returns-then-is_still : goal.returns-then-is_still
returns-then-is_still c =
    let links = c.args.links.now in
    let with_uses : List NameUse → Links = λ us. record { uses = us; diags = links.diags } in
    let by = c.args.by.now in
    ap with_uses (sym (uses_stay (decl_after by) (decl_stays by (c.is_still.ensures c.if-is_still.true)) links.uses))

pub loop-at-preserved : goal.loop-at-preserved
loop-at-preserved c =
    let was = c.args.links.now in
    let now = c.loop-at.links in
    let at = c.loop-at.at in
    let one = c.index-as_slice-at.result in
    let after : NameUse → NameUse = use_after (decl_after c.args.by.now) in
    let within : at < length was.uses = omega arith in
    let stands : one ≡ get_or now.uses at one = rw c.as_slice.ensures at c.index-as_slice-at.is in
    let more = map_over_more after was.uses now.uses at one within c.loop-at.invariant.uses stands in
    elim c.match-moved_use.branch [
      | in-Some w ↦
          let is : w.in-Some.moved ≡ after one = rw w.in-Some.is at c.moved_use.ensures in
          record { uses = cc (more, is, ap (λ (l : Links). l.uses) w.links-is, w.set.ensures); diags = ap (λ (l : Links). l.diags) w.links-is ∙ c.loop-at.invariant.diags }
      | in_default w ↦
          let stays : after one ≡ one = rw w.in_default.is at c.moved_use.ensures in
          record { uses = cc (more, stays, stands, set-get_or now.uses at one, ap (λ (l : Links). l.uses) w.links-is); diags = ap (λ (l : Links). l.diags) w.links-is ∙ c.loop-at.invariant.diags }
    ]
