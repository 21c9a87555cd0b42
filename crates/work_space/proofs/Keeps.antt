-- What a workspace keeps beside its files stays true.
use Rattle.std.proofs.Common.{◌≡◌, ℕ, List, [], ◌∷◌, Bool, true, false, cond, Option, Some, None, is_some, length, refl, sym, ap, subst, ◌∙◌, arith}
use Rattle.std.specs.Prelude.{◌==◌, option_and_then, option_map, bytes_eq, IfSome, IsTrue, if◌then◌else◌}
use Rattle.std.specs.Map.{update}
use Rattle.std.proofs.lemmas.Bool.Decides.{nat_tests}
use Rattle.piece_collector.specs.Board.{IsTextsIn}
use Rattle.piece_collector.specs.Views.{BoardView, TextAt, known_text}
use Rattle.work_index.specs.Pieces.{workspace_of}
use Rattle.work_index.specs.Workspace.{AnalysisData, Source, analysis, sources_of}
use Rattle.work_update.specs.Updates.{NameAllChanges, known_source}
use Rattle.work_update.proofs.Updates.{lent_workspace, one_workspace, read_as}
use Rattle.work_files.specs.Files.{OpenDocument, File, Files, file_at, set_file, text_at, workspace, with_open_file, with_document, closed_at, closed_files, AreInPathOrder}
use Rattle.work_space.specs.Kept.{IsOf, IsKept, is_current, source_at}
use Rattle.work_files.specs.Steps.{with_document_at}
use Rattle.work_files.specs.Texts.{open_document, is_open, TextsChangeAt}
use Rattle.work_space.specs.BoardTexts.{text_event, event_at, events_at}
use Rattle.work_space.specs.declared.last_analysis.LastAnalysis.{LastAnalysis}
use Rattle.work_space.proofs.Held.{workspace_of_board}
use Rattle.work_space.proofs.Noted.{known_fresh, known_still, one_change}
use Rattle.work_files.proofs.PathOrder.{from_disk-order}
use Rattle.work_files.proofs.TextChanges.{set-texts, without-texts}

-- ---- the fields of a workspace

-- where the text at a path has become another on the board and in the files
pub keeps : (reads_others : Bool) (path : List ℕ) (t : Option (List ℕ)) (old new : Files) (before after : BoardView) (known later : Option LastAnalysis) → IsKept old before reads_others known → AreInPathOrder new → after.is_lent ≡ false
    → ((q : List ℕ) → known_text q after ≡ update bytes_eq (λ p. known_text p before) path t q) → TextsChangeAt path t old new
    → ((o n : List ℕ → Option Source) → NameAllChanges (path ∷ []) o n → IfSome known (λ k. IsOf k o) → IfSome later (λ k. IsOf k n)) → IsKept new after reads_others later
keeps reads_others path t old new before after known later k order here board changes more = record {
  ordered = order;
  here = here;
  texts = λ q. board q ∙ ap (cond (bytes_eq path q) t) (k.texts q) ∙ sym (changes q);
  is_of = more (source_at reads_others old) (source_at reads_others new) (one_change reads_others path t old new changes) k.is_of;
}

-- what is known of sources is known of sources that are the same at each path
known_of : (known : Option LastAnalysis) (before after : List ℕ → Option Source) → ((q : List ℕ) → after q ≡ before q) → IfSome known (λ k. IsOf k before) → IfSome known (λ k. IsOf k after)
known_of None before after same of = tt
known_of (Some k) before after same of = record { is = of.is; ordered = of.ordered; changes = λ q out. same q ∙ of.changes q out }

-- where no text has
pub keeps_same : (reads_others : Bool) (old new : Files) (board : BoardView) (known : Option LastAnalysis) → IsKept old board reads_others known → AreInPathOrder new → ((q : List ℕ) → text_at q new ≡ text_at q old) → IsKept new board reads_others known
keeps_same reads_others old new board known k order same = record {
  ordered = order;
  here = k.here;
  texts = λ q. k.texts q ∙ sym (same q);
  is_of = known_of known (source_at reads_others old) (source_at reads_others new) (λ q. ap (option_map (read_as reads_others)) (same q)) k.is_of;
}

-- ---- the texts behind what is done to an open document

document-where : (path : List ℕ) (files : Files) (become : File → OpenDocument → Files) (text : Option (List ℕ)) (o : Option File) → file_at path files ≡ o → (d : OpenDocument) → option_and_then (λ f. f.document) o ≡ Some d
    → ((f : File) (e : OpenDocument) → file_at path files ≡ Some f → TextsChangeAt path text files (become f e)) → TextsChangeAt path text files (with_open_file become files o)
document-where path files become text None found d there each = cc
document-where path files become text (Some f) found d there each = by f.document there
  where
    by : (e : Option OpenDocument) → e ≡ Some d → TextsChangeAt path text files (with_document become files f e)
    by None e = cc
    by (Some x) e = each f x found

pub document-texts : (path : List ℕ) (document : OpenDocument) (files : Files) (d : OpenDocument) → open_document path files ≡ Some d → TextsChangeAt path (Some document.text) files (with_document_at path document files)
document-texts path document files d there =
    document-where path files (λ f e. set_file path (record f { document = Some document }) files) (Some document.text) (file_at path files) refl d there (λ f e found. set-texts path (record f { document = Some document }) f files found)

closed-text : (path : List ℕ) (files : Files) (f : File) (k : Option (List ℕ)) → AreInPathOrder files → file_at path files ≡ Some f → f.kept ≡ k → TextsChangeAt path k files (closed_at path files f k)
closed-text path files f None order found is = without-texts path files order
closed-text path files f (Some k) order found is = subst (λ t. TextsChangeAt path t files (set_file path (record f { document = None }) files)) is (set-texts path (record f { document = None }) f files found)

pub close-texts : (path : List ℕ) (files : Files) (d : OpenDocument) → AreInPathOrder files → open_document path files ≡ Some d → TextsChangeAt path (option_and_then (λ f. f.kept) (file_at path files)) files (closed_files path files)
close-texts path files d order there =
    document-where path files (λ f e. closed_at path files f f.kept) (option_and_then (λ f. f.kept) (file_at path files)) (file_at path files) refl d there
    (λ f e found. subst (λ t. TextsChangeAt path t files (closed_at path files f f.kept)) (sym (ap (option_and_then (λ g. g.kept)) found)) (closed-text path files f f.kept order found refl))

pub some_open : (path : List ℕ) (files : Files) → is_some (open_document path files) ≡ true → (d : OpenDocument) × (open_document path files ≡ Some d)
some_open path files there = by (open_document path files) refl there
  where
    by : (o : Option OpenDocument) → open_document path files ≡ o → is_some o ≡ true → (d : OpenDocument) × (open_document path files ≡ Some d)
    by None is e = cc
    by (Some d) is e = (d, is)

-- ---- lending

-- the pieces that a board lends are the files
pub lent_files : (reads_others : Bool) (files : Files) (before lent_board : BoardView) (ts : List TextAt) (known : Option LastAnalysis) → IsKept files before reads_others known → lent_board ≡ record before { is_lent = true } → IsTextsIn lent_board ts
    → workspace_of reads_others ts ≡ sources_of reads_others (workspace files)
lent_files reads_others files before lent_board ts known k is are =
    one_workspace reads_others before (workspace_of reads_others ts) (sources_of reads_others (workspace files)) (lent_workspace reads_others before lent_board ts is are) (workspace_of_board reads_others files before k.ordered k.texts)

-- what is known of the files is known of the texts of the board
pub known_on_board : (reads_others : Bool) (files : Files) (board : BoardView) (known taken : Option LastAnalysis) → IsKept files board reads_others known → taken ≡ known → IfSome taken (λ k. IsOf k (λ path. known_source reads_others path board))
known_on_board reads_others files board known taken k is =
    subst (λ (o : Option LastAnalysis). IfSome o (λ k. IsOf k (λ path. known_source reads_others path board))) (sym is)
    (known_of known (source_at reads_others files) (λ q. known_source reads_others q board) (λ q. ap (option_map (read_as reads_others)) (k.texts q)) k.is_of)

-- where an analysis of the files as they are has become known, and the board is as before
pub keeps_fresh : (reads_others : Bool) (files : Files) (before after : BoardView) (known : Option LastAnalysis) (now : LastAnalysis) (a : AnalysisData) → IsKept files before reads_others known → after ≡ before
    → now.analysis ≡ a → now.changes.items ≡ [] → a ≡ analysis (sources_of reads_others (workspace files)) → IsKept files after reads_others (Some now)
keeps_fresh reads_others files before after known now a k same made current fresh =
    subst (λ b. IsKept files b reads_others (Some now)) (sym same) (record { ordered = k.ordered; here = k.here; texts = k.texts; is_of = known_fresh reads_others files now k.ordered (made ∙ fresh) current })

empty : {X : Type 0} (xs : List X) → IsTrue (length xs == 0) → xs ≡ []
empty [] is = refl
empty (x ∷ xs) is = absurd (grind (arith, nat_tests))

-- an analysis that is current is that of the files
pub known_now : (reads_others : Bool) (files : Files) (board : BoardView) (known : Option LastAnalysis) (k : LastAnalysis) → IsKept files board reads_others known → known ≡ Some k → IsTrue (is_current known) → k.analysis ≡ analysis (sources_of reads_others (workspace files))
known_now reads_others files board known k kept is current =
    let of : IsOf k (source_at reads_others files) = subst (λ (o : Option LastAnalysis). IfSome o (λ k. IsOf k (source_at reads_others files))) is kept.is_of in
    known_still reads_others files k kept.ordered of (empty k.changes.items (subst (λ (o : Option LastAnalysis). IsTrue (is_current o)) is current))

-- where no file is left
pub keeps_nothing : (reads_others : Bool) (files : Files) (board : BoardView) → files ≡ [] → board.is_lent ≡ false → ((q : List ℕ) → known_text q board ≡ None) → IsKept files board reads_others None
keeps_nothing reads_others files board none here texts = record {
  ordered = subst AreInPathOrder (sym none) (from_disk-order []);
  here = here;
  texts = λ q. texts q ∙ sym (ap (text_at q) none);
  is_of = tt;
}

-- ---- events

pub event_open : (path : List ℕ) (old new : Files) (t : Option (List ℕ)) → is_open path old ≡ true → text_at path new ≡ t → events_at path old new ≡ text_event path t ∷ []
event_open path old new t there is = ap (λ b. if b then event_at path new ∷ [] else []) there ∙ ap (λ u. text_event path u ∷ []) is
