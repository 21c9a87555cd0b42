-- What a rename makes of a workspace.
use Rattle.std.proofs.Common.{◌≡◌, ◌∙◌, ℕ, Bool, true, false, cond, List, Option, Some, None, Ok, Err, refl, sym, ap, subst}
use Rattle.std.specs.Prelude.{IfErr, IfOk, Result, not}
use Rattle.std.proofs.lemmas.Bool.{false_from_ne_true}
use Rattle.proto_names.specs.declared.decl_ref.DeclRef.{DeclRef}
use Rattle.work_index.specs.Workspace.{AnalysisData}
use Rattle.lsp_queries.specs.Answers.{sites_of}
use Rattle.work_meaning.specs.Bindings.{same_meaning}
use Rattle.lsp_queries.specs.Files.{place_of}
use Rattle.lsp_queries.specs.Offsets.{symbol_at}
use Rattle.lsp_renames.specs.Renaming.{ChangesMeaning, ChangesMeaningAt, KeepsMeaning, analysis_after, checked, is_identifier, is_taken, new_full_name, renamed_decl, renamed_known, renamed_symbol}
use Rattle.lsp_renames.specs.RenamingLaws.{RefusedForMeaning, RenamesKeepMeaning}
use Rattle.lsp_renames.specs.UnknownUses.{has_unknown_uses}
use Rattle.lsp_renames.specs.declared.fault.RenameFault.{RenameFault}
use Rattle.lsp_renames.specs.declared.fault.RenameFault.TheVariants.{BadName, MeaningChanges, NameTaken, NotRenamable}
use Rattle.lsp_queries.specs.declared.offsets.Symbol.{Symbol}
use Rattle.lsp_queries.specs.declared.offsets.Symbol.TheVariants.{Declared, Package}
use Rattle.lsp_queries.specs.declared.place.Place.{Place}
use Rattle.work_meaning.proofs.Meaning.{same-meaning-law}

abbrev Answer : Type 0
Answer = Result (List Place) RenameFault

-- two facts of a result
pub ok-by : {X E : Type 0} (r : Result X E) (P Q R : X → Type 0) → ((x : X) → P x → Q x → R x) → IfOk r P → IfOk r Q → IfOk r R
ok-by (Ok x) P Q R both p q = both x p q
ok-by (Err e) P Q R both p q = tt

pub err-by : {X E : Type 0} (r : Result X E) (P Q R : E → Type 0) → ((e : E) → P e → Q e → R e) → IfErr r P → IfErr r Q → IfErr r R
err-by (Ok x) P Q R both p q = tt
err-by (Err e) P Q R both p q = both e p q

-- ---- places that are checked

module _ (a : AnalysisData) (places : List Place) (new_name : List ℕ) where
  pub keeps-checked : KeepsMeaning a places new_name → checked a places new_name ≡ Ok places
  unfolding checked
  keeps-checked keeps = ap (λ b. cond {A = Answer} b (Ok places) (Err MeaningChanges)) ((same-meaning-law a (analysis_after a places new_name)).1 keeps)

  pub changes-checked : (KeepsMeaning a places new_name → ⊥) → checked a places new_name ≡ Err MeaningChanges
  unfolding checked
  changes-checked changes =
      ap (λ b. cond {A = Answer} b (Ok places) (Err MeaningChanges))
      (false_from_ne_true (same_meaning a (analysis_after a places new_name)) (λ is. changes ((same-meaning-law a (analysis_after a places new_name)).0 is)))

  by_test : (b : Bool) → same_meaning a (analysis_after a places new_name) ≡ b → (found : List Place) → cond {A = Answer} b (Ok places) (Err MeaningChanges) ≡ Ok found → (places ≡ found) × KeepsMeaning a places new_name
  by_test true is found given = (cc (given), (same-meaning-law a (analysis_after a places new_name)).0 is)
  by_test false is found given = absurd (cc (given))

  pub checked-keeps : (found : List Place) → checked a places new_name ≡ Ok found → (places ≡ found) × KeepsMeaning a places new_name
  unfolding checked
  checked-keeps found given = by_test (same_meaning a (analysis_after a places new_name)) refl found given

  -- the only refusal there
  pub checked-refused : checked a places new_name ≡ Err MeaningChanges → KeepsMeaning a places new_name → ⊥
  checked-refused refused keeps = let kept = keeps-checked keeps in cc (refused, kept)

-- ---- the places of a declaration

module _ (a : AnalysisData) (r : DeclRef) (new_name : List ℕ) where
  abbrev all : List Place
  all = sites_of a r (place_of a r)

  abbrev decl_answer : Bool → Bool → Answer
  decl_answer named taken = cond {A = Answer} (not named) (Err BadName) (cond {A = Answer} taken (Err NameTaken) (checked a all new_name))

  -- what is answered where neither of the other refusals fits
  pub renamed-checked : is_identifier new_name ≡ true → is_taken a r (new_full_name a r new_name) ≡ false → renamed_decl a r new_name ≡ checked a all new_name
  renamed-checked named free = ap (λ b. decl_answer b (is_taken a r (new_full_name a r new_name))) named ∙ ap (decl_answer true) free

  -- the answer is that of the check
  pub answers-places : is_identifier new_name ≡ true → is_taken a r (new_full_name a r new_name) ≡ false → (places found : List Place) → places ≡ all → KeepsMeaning a places new_name → found ≡ places → renamed_decl a r new_name ≡ Ok found
  answers-places named free places found is keeps same =
      renamed-checked named free ∙ ap (λ ps. checked a ps new_name) (sym is) ∙ keeps-checked a places new_name keeps ∙ ap (λ (ps : List Place). Ok ps) (sym same)

  pub answers-refused : is_identifier new_name ≡ true → is_taken a r (new_full_name a r new_name) ≡ false → (places : List Place) (fault : RenameFault) → places ≡ all → (KeepsMeaning a places new_name → ⊥) → fault ≡ MeaningChanges → renamed_decl a r new_name ≡ Err fault
  answers-refused named free places fault is changes why =
      renamed-checked named free ∙ ap (λ ps. checked a ps new_name) (sym is) ∙ changes-checked a places new_name changes ∙ ap (λ (f : RenameFault). Err f) (sym why)

  keeps-by : (named taken : Bool) (places : List Place) → decl_answer named taken ≡ Ok places → KeepsMeaning a places new_name
  keeps-by false taken places is = absurd (cc (is))
  keeps-by true true places is = absurd (cc (is))
  keeps-by true false places is = let h = checked-keeps a all new_name places is in subst (λ ps. KeepsMeaning a ps new_name) h.0 h.1

  refused-by : (named taken : Bool) → is_identifier new_name ≡ named → is_taken a r (new_full_name a r new_name) ≡ taken → decl_answer named taken ≡ Err MeaningChanges → ChangesMeaning a r new_name
  refused-by false taken name free is = absurd (cc (is))
  refused-by true true name free is = absurd (cc (is))
  refused-by true false name free is = record { named = name; free = free; changes = checked-refused a all new_name is }

  decl-keeps : (places : List Place) → renamed_decl a r new_name ≡ Ok places → KeepsMeaning a places new_name
  decl-keeps places is = keeps-by (is_identifier new_name) (is_taken a r (new_full_name a r new_name)) places is

  decl-refused : renamed_decl a r new_name ≡ Err MeaningChanges → ChangesMeaning a r new_name
  decl-refused is = refused-by (is_identifier new_name) (is_taken a r (new_full_name a r new_name)) refl refl is

  decl-changes : ChangesMeaning a r new_name → renamed_decl a r new_name ≡ Err MeaningChanges
  decl-changes h = renamed-checked h.named h.free ∙ changes-checked a all new_name h.changes

  -- ---- unless it may have uses that aren't known

  abbrev known_answer : Bool → Answer
  known_answer unknown = cond {A = Answer} unknown (Err NotRenamable) (renamed_decl a r new_name)

  pub known-decl : has_unknown_uses a r.file ≡ false → renamed_known a r new_name ≡ renamed_decl a r new_name
  known-decl known = ap known_answer known

  pub unknown-refused : has_unknown_uses a r.file ≡ true → renamed_known a r new_name ≡ Err NotRenamable
  unknown-refused unknown = ap known_answer unknown

  known-keeps : (places : List Place) (unknown : Bool) → known_answer unknown ≡ Ok places → KeepsMeaning a places new_name
  known-keeps places true is = absurd (cc (is))
  known-keeps places false is = decl-keeps places is

  known-refused : (unknown : Bool) → has_unknown_uses a r.file ≡ unknown → known_answer unknown ≡ Err MeaningChanges → (has_unknown_uses a r.file ≡ false) × ChangesMeaning a r new_name
  known-refused true so is = absurd (cc (is))
  known-refused false so is = (so, decl-refused is)

-- ---- the symbol at an offset

pub renames-keep_meaning : RenamesKeepMeaning
renames-keep_meaning a file offset new_name places is = by (symbol_at a file offset) is
  where
    by : (o : Option Symbol) → renamed_symbol a o new_name ≡ Ok places → KeepsMeaning a places new_name
    by None is = absurd (cc (is))
    by (Some Package) is = absurd (cc (is))
    by (Some (Declared r)) is = known-keeps a r new_name places (has_unknown_uses a r.file) is

pub refused-for_meaning : RefusedForMeaning
refused-for_meaning a file offset new_name = (
  λ is. by (symbol_at a file offset) refl is,
  λ h. ap (λ o. renamed_symbol a o new_name) h.there ∙ known-decl a h.decl new_name h.known ∙ decl-changes a h.decl new_name h.changes,
)
  where
    by : (o : Option Symbol) → symbol_at a file offset ≡ o → renamed_symbol a o new_name ≡ Err MeaningChanges → ChangesMeaningAt a file offset new_name
    by None there is = absurd (cc (is))
    by (Some Package) there is = absurd (cc (is))
    by (Some (Declared r)) there is = let h = known-refused a r new_name (has_unknown_uses a r.file) refl is in record { decl = r; there = there; known = h.0; changes = h.1 }
