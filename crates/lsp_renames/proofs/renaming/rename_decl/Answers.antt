use Rattle.std.proofs.Common.{◌≡◌, ◌≢◌, ◌∙◌, Ok, Err, sym}
use Rattle.lsp_renames.specs.Renaming.{KeepsMeaning, renamed_decl}
use Rattle.lsp_renames.specs.declared.fault.RenameFault.{RenameFault}
use Rattle.lsp_renames.specs.declared.fault.RenameFault.TheVariants.{MeaningChanges, Memory}
use Rattle.lsp_renames.specs.declared.renaming.Edits.{Edits}
use Rattle.lsp_renames.proofs.RenamedLemmas.{answers-places, answers-refused, err-by, ok-by}
use Rattle.lsp_renames.proofs.renaming.rename_decl.Goals as goal

pub returns-clause-places : goal.returns-clause-places
returns-clause-places c =
    let a = c.args.analysis.now in
    let name = c.args.new_name.now in
    let places = c.in_ok-places.places.items in
    ok-by c.checked.result
    (λ (edits : Edits). edits.places.items ≡ places) (λ (edits : Edits). KeepsMeaning a places name) (λ (edits : Edits). renamed_decl a c.args.decl name ≡ Ok edits.places.items)
    (λ edits same keeps. answers-places a c.args.decl name (sym c.if-not-is_identifier.ensures) (sym c.in_ok-is_taken.ensures ∙ c.if-branch.false) places edits.places.items c.in_ok-places.ensures.all keeps same)
    c.checked.ensures.places c.checked.ensures.keeps

pub returns-clause-refused : goal.returns-clause-refused
returns-clause-refused c =
    let a = c.args.analysis.now in
    let name = c.args.new_name.now in
    let places = c.in_ok-places.places.items in
    err-by c.checked.result
    (λ (fault : RenameFault). fault ≢ Memory → fault ≡ MeaningChanges) (λ (fault : RenameFault). fault ≡ MeaningChanges → KeepsMeaning a places name → ⊥)
    (λ (fault : RenameFault). fault ≢ Memory → renamed_decl a c.args.decl name ≡ Err fault)
    (λ fault why changes other. answers-refused a c.args.decl name (sym c.if-not-is_identifier.ensures) (sym c.in_ok-is_taken.ensures ∙ c.if-branch.false) places fault c.in_ok-places.ensures.all (changes (why other)) (why other))
    c.checked.ensures.refused c.checked.ensures.changes
