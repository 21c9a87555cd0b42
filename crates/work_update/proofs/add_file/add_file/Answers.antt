use Rattle.std.proofs.Common.{◌∙◌, sym}
use Rattle.std.specs.List.{insert}
use Rattle.work_index.specs.Pieces.{source_of}
use Rattle.work_update.specs.Arrivals.{Arrives}
use Rattle.work_update.proofs.Arrived.{arrived}
use Rattle.work_update.proofs.add_file.add_file.Goals as goal

pub with_file-requires : goal.with_file-requires
with_file-requires c =
    let arrives : Arrives c.args.earlier (source_of c.args.reads_others c.args.piece.now) = c.requires in (
      insert arrives.old arrives.at (source_of c.args.reads_others c.args.piece.now),
      arrived c.args.earlier (source_of c.args.reads_others c.args.piece.now) arrives c.place_for-at.result c.into_parts-parts.result c.into_parts-parts.ensures.parts
          (λ at f path within ordered. c.place_for-at.ensures at f (path ∙ sym c.path.ensures) within ordered) c.moved_law.ensures c.arrival_law.ensures,
    )

pub of_parts-requires : goal.of_parts-requires
of_parts-requires c =
    let arrives : Arrives c.args.earlier (source_of c.args.reads_others c.args.piece.now) = c.requires in
    let w = insert arrives.old arrives.at (source_of c.args.reads_others c.args.piece.now) in
    let with = arrived c.args.earlier (source_of c.args.reads_others c.args.piece.now) arrives c.place_for-at.result c.into_parts-parts.result c.into_parts-parts.ensures.parts
    (λ at f path within ordered. c.place_for-at.ensures at f (path ∙ sym c.path.ensures) within ordered) c.moved_law.ensures c.arrival_law.ensures in
    (w, c.in_ok-parts.ensures w with)

pub returns : goal.returns
returns c = λ arrives.
    let w = insert arrives.old arrives.at (source_of c.args.reads_others c.args.piece.now) in
    let with = arrived c.args.earlier (source_of c.args.reads_others c.args.piece.now) arrives c.place_for-at.result c.into_parts-parts.result c.into_parts-parts.ensures.parts
    (λ at f path within ordered. c.place_for-at.ensures at f (path ∙ sym c.path.ensures) within ordered) c.moved_law.ensures c.arrival_law.ensures in
    c.of_parts.ensures w (c.in_ok-parts.ensures w with)
