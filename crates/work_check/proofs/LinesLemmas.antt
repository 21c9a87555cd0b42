-- The lines of the files of a workspace, which gather in a room or come of threads.
use Rattle.std.proofs.Common.{◌≡◌, ℕ, ◌+◌, ◌<◌, ◌≤◌, Bool, true, false, List, [], ◌∷◌, ◌++◌, length, take, drop, get_or, map, refl, ap, sym, ◌∙◌, append_assoc, append-nil, flat_map, add-one, drop-cons, Option, Result, Ok, Err}
use Rattle.std.specs.Prelude.{OnOk, OnErr}
use Rattle.std.specs.Io.KnownBytes.{Appends}
use Rattle.std.specs.List.{enumerate_from}
use Rattle.std.proofs.KnownBytes.{Appends-trans, Appends-nil}
use Rattle.std.proofs.lemmas.List.{drop_all, map-id, take-append-drop}
use Rattle.std.proofs.lemmas.Grind.{flat_map-append}
use Rattle.proto_decls.specs.declared.diagnostic.Diag.{Diag}
use Rattle.check_lines.specs.Lines.{ListedFileData, line_as, written, is_array, without_first, cut, opening, closing, document}
use Rattle.check_lines.specs.declared.format.Format.{Format}
use Rattle.check_lines.specs.declared.format.Format.TheVariants.{Plain, Gnu, Github, Json, Sarif}
use Rattle.work_index.specs.Workspace.{SourceAt, Workspace, analysis, no_file}
use Rattle.work_config.specs.Sending.{SendsPrefix}
use Rattle.work_config.proofs.SendingLemmas.{front-behind}
use Rattle.work_check.specs.Listing.{file_lines, listed_file, wanted_diags}
use Rattle.work_check.specs.Steps.{Sent, still_first, left_from, lines_at, AreLinesBetween}
use Rattle.work_check.specs.declared.listed.Listed.{Listed}

-- ---- lines that gather in a room, and go out whenever it is full

room-cut : (room lines left more : List ℕ) → left ≡ lines ++ more → room ++ left ≡ (room ++ lines) ++ more
room-cut room lines left more cut = ap (λ l. room ++ l) cut ∙ sym (append_assoc room lines more)

-- nothing went out
pub sent-none : (v : Option (List ℕ)) (all : List ℕ) → Sent v v all all
sent-none v all = record { front = []; joined = refl; appended = Appends-nil v }

-- the lines that come next were added to the room
pub sent-next : (old now new : Option (List ℕ)) (all room rest lines left more : List ℕ) → left ≡ lines ++ more
    → Sent old now all (room ++ left) → Sent now new (room ++ lines) rest → Sent old new all (rest ++ more)
sent-next old now new all room rest lines left more cut sent next = record {
  front = sent.front ++ next.front;
  joined = sent.joined ∙ ap (λ l. sent.front ++ l) (room-cut room lines left more cut ∙ ap (λ l. l ++ more) next.joined ∙ append_assoc next.front rest more) ∙ sym (append_assoc sent.front next.front (rest ++ more));
  appended = Appends-trans old now new sent.front next.front sent.appended next.appended;
}

-- of the room and the lines that come next a part went out
pub part-next : (old now new : Option (List ℕ)) (all room lines left more : List ℕ) → left ≡ lines ++ more
    → Sent old now all (room ++ left) → SendsPrefix now new (room ++ lines) → SendsPrefix old new all
part-next old now new all room lines left more cut sent part =
    front-behind old now new sent.front (room ++ lines) more all (sent.joined ∙ ap (λ l. sent.front ++ l) (room-cut room lines left more cut)) sent.appended part

-- no line is to be added
pub sent-last : (old new : Option (List ℕ)) (all room left : List ℕ) → left ≡ [] → Sent old new all (room ++ left) → Sent old new all room
sent-last old new all room left none sent =
    record { front = sent.front; joined = sent.joined ∙ ap (λ l. sent.front ++ l) (ap (λ l. room ++ l) none ∙ append-nil room); appended = sent.appended }

-- at an error the last room went out in part
pub part-last : {A E : Type 0} (r : Result A E) (old now new : Option (List ℕ)) (all room : List ℕ) → Sent old now all room → OnErr r (SendsPrefix now new room) → OnErr r (SendsPrefix old new all)
part-last (Ok x) old now new all room sent part = tt
part-last (Err e) old now new all room sent part =
    front-behind old now new sent.front room [] all (sent.joined ∙ ap (λ l. sent.front ++ l) (sym (append-nil room))) sent.appended part

-- ---- lines of which the first may do without its first byte

pub cut-append : (first : Bool) (xs ys : List ℕ) → cut first (xs ++ ys) ≡ cut first xs ++ cut (still_first first xs) ys
cut-append false xs ys = refl
cut-append true [] ys = refl
cut-append true (x ∷ xs) ys = refl

pub still-append : (first : Bool) (xs ys : List ℕ) → still_first first (xs ++ ys) ≡ still_first (still_first first xs) ys
still-append false xs ys = refl
still-append true [] ys = refl
still-append true (x ∷ xs) ys = refl

-- no line came
pub still-none : (first : Bool) → still_first first [] ≡ first
still-none false = refl
still-none true = refl

-- lines and those behind them, given whether the first of all is still to come in between
pub cut-next : (first now : Bool) (lines left more : List ℕ) → left ≡ lines ++ more → now ≡ still_first first lines → cut first left ≡ cut first lines ++ cut now more
cut-next first now lines left more joined is = ap (cut first) joined ∙ cut-append first lines more ∙ ap (λ b. cut first lines ++ cut b more) (sym is)

pub still-next : (first now : Bool) (lines left more : List ℕ) → left ≡ lines ++ more → now ≡ still_first first lines → still_first first left ≡ still_first now more
still-next first now lines left more joined is = ap (still_first first) joined ∙ still-append first lines more ∙ ap (λ b. still_first b more) (sym is)

-- what stands before all lines, the lines, and what stands behind them
pub document-is : (format : Format) (lines : List ℕ) → document format lines ≡ opening format ++ (cut (is_array format) lines ++ closing format)
document-is Plain lines = sym (append-nil lines)
document-is Gnu lines = sym (append-nil lines)
document-is Github lines = sym (append-nil lines)
document-is Json lines = sym (append-nil lines)
document-is Sarif lines = append_assoc (opening Sarif) (without_first lines) (closing Sarif)

-- the room that was left went out
pub all-last : {A E : Type 0} (r : Result A E) (old now new : Option (List ℕ)) (all room : List ℕ) → Sent old now all room → OnOk r (Appends now new room) → OnOk r (Appends old new all)
all-last (Ok x) old now new all room sent went = rw sent.joined (Appends-trans old now new sent.front room sent.appended went)
all-last (Err e) old now new all room sent went = tt

-- the lines went out, behind what stands before them
pub lines-sent : (format : Format) (lines : List ℕ) (old before now : Option (List ℕ)) → Appends old before (opening format) → Appends before now (cut (is_array format) lines)
    → Sent old now (document format lines) (closing format)
lines-sent format lines old before now first next = record {
  front = opening format ++ cut (is_array format) lines;
  joined = document-is format lines ∙ sym (append_assoc (opening format) (cut (is_array format) lines) (closing format));
  appended = Appends-trans old before now (opening format) (cut (is_array format) lines) first next;
}

-- the lines of a part, and those of the others
pub written-cut : (file : ListedFileData) (ds part more : List Diag) → ds ≡ part ++ more → written file ds ≡ written file part ++ written file more
written-cut file ds part more cut = ap (written file) cut ∙ flat_map-append (line_as file.format file) part more

-- ---- the lines of the files, one file after the other

pub split : (w : Workspace) (n : ℕ) (d : SourceAt) → n < length w → drop n w ≡ get_or w n d ∷ drop (n + 1) w
split w n d there = rw (add-one n) (drop-cons w n d there)

-- those of the next file come first
left-more : (l : Listed) (n : ℕ) → n < length l.files → left_from n l ≡ lines_at l n ++ left_from (n + 1) l
left-more l n there = ap (λ rest. flat_map (file_lines l.how l.roots.items (analysis l.files)) (enumerate_from n rest)) (split l.files n no_file there)

-- the lines of the next file, and those of the files behind it
pub file-cut : (l : Listed) (n : ℕ) (lines : List ℕ) → n < length l.files → lines ≡ lines_at l n → left_from n l ≡ lines ++ left_from (n + 1) l
file-cut l n lines there of = left-more l n there ∙ ap (λ front. front ++ left_from (n + 1) l) (sym of)

-- the lines of one more file were added to the room
pub sent-more : (l : Listed) (n : ℕ) (old now new : Option (List ℕ)) (all room rest lines : List ℕ) (first first_now : Bool) → n < length l.files → lines ≡ lines_at l n → first_now ≡ still_first first lines
    → Sent old now all (room ++ cut first (left_from n l)) → Sent now new (room ++ cut first lines) rest → Sent old new all (rest ++ cut first_now (left_from (n + 1) l))
sent-more l n old now new all room rest lines first first_now there of is =
    sent-next old now new all room rest (cut first lines) (cut first (left_from n l)) (cut first_now (left_from (n + 1) l))
    (cut-next first first_now lines (left_from n l) (left_from (n + 1) l) (file-cut l n lines there of) is)

-- of the room and the lines of the next file a part went out
pub sent-part : (l : Listed) (n : ℕ) (old now new : Option (List ℕ)) (all room lines : List ℕ) (first : Bool) → n < length l.files → lines ≡ lines_at l n
    → Sent old now all (room ++ cut first (left_from n l)) → SendsPrefix now new (room ++ cut first lines) → SendsPrefix old new all
sent-part l n old now new all room lines first there of =
    part-next old now new all room (cut first lines) (cut first (left_from n l)) (cut (still_first first lines) (left_from (n + 1) l))
    (cut-next first (still_first first lines) lines (left_from n l) (left_from (n + 1) l) (file-cut l n lines there of) refl)

-- behind the last file there are none
pub none-left : (l : Listed) (n : ℕ) → length l.files ≤ n → left_from n l ≡ []
none-left l n none = ap (λ rest. flat_map (file_lines l.how l.roots.items (analysis l.files)) (enumerate_from n rest)) (drop_all n l.files none)

cut_none : (first : Bool) → cut first [] ≡ []
cut_none false = refl
cut_none true = refl

-- the lines of all files were added
pub sent-all : (l : Listed) (n : ℕ) (old new : Option (List ℕ)) (all room : List ℕ) (first : Bool) → length l.files ≤ n → Sent old new all (room ++ cut first (left_from n l)) → Sent old new all room
sent-all l n old new all room first none = sent-last old new all room (cut first (left_from n l)) (ap (cut first) (none-left l n none) ∙ cut_none first)

-- the lines of the file with a number, and its diagnostics
pub lines-at : (l : Listed) (n : ℕ) (file : ListedFileData) (diags : List Diag) → file ≡ listed_file l.how l.roots.items (n, get_or l.files n no_file)
    → diags ≡ wanted_diags l.how (analysis l.files) (n, get_or l.files n no_file) → written file diags ≡ lines_at l n
lines-at l n file diags f d = ap (λ g. written g diags) f ∙ ap (written (listed_file l.how l.roots.items (n, get_or l.files n no_file))) d

-- what holds anyway holds at an error
pub on_err : {A E P : Type 0} (r : Result A E) → P → OnErr r P
on_err (Ok x) p = tt
on_err (Err e) p = p

-- ---- the lines of consecutive files, which threads make

-- the lines of one more file
pub lines-more : (l : Listed) (first n : ℕ) (before after : List ℕ) → n < length l.files → AreLinesBetween first n l before → after ≡ before ++ lines_at l n → AreLinesBetween first (n + 1) l after
lines-more l first n before after there b a = record {
  joined = b.joined ∙ ap (λ rest. before ++ rest) (left-more l n there) ∙ sym (append_assoc before (lines_at l n) (left_from (n + 1) l)) ∙ ap (λ front. front ++ left_from (n + 1) l) (sym a);
}

-- a list that was walked up to one of its items
pub walked-to : {A : Type 0} (xs done : List A) (x : A) → map (λ y. y) done ≡ take (length done) xs → (length done < length xs) × (x ≡ get_or xs (length done) x)
    → xs ≡ done ++ (x ∷ drop (length done + 1) xs)
walked-to xs done x so_far turn =
    let n = length done in
    let front : take n xs ≡ done = sym so_far ∙ map-id done in
    let back : drop n xs ≡ x ∷ drop (n + 1) xs = rw (add-one n) (drop-cons xs n x turn.0) ∙ ap (λ y. y ∷ drop (n + 1) xs) (sym turn.1) in
    sym (take-append-drop n xs) ∙ ap (λ l. l ++ drop n xs) front ∙ ap (λ l. done ++ l) back

-- their lines
pub shares-cut : {A : Type 0} (f : A → List ℕ) (xs done more : List A) (x : A) → xs ≡ done ++ (x ∷ more) → flat_map f xs ≡ flat_map f done ++ (f x ++ flat_map f more)
shares-cut f xs done more x cut = ap (flat_map f) cut ∙ flat_map-append f done (x ∷ more)

-- their lines, of which the first of all may do without its first byte
pub shares-first : {A : Type 0} (f : A → List ℕ) (first : Bool) (xs done more : List A) (x : A) → xs ≡ done ++ (x ∷ more)
    → cut first (flat_map f xs) ≡ cut first (flat_map f done) ++ (cut (still_first first (flat_map f done)) (f x) ++ cut (still_first (still_first first (flat_map f done)) (f x)) (flat_map f more))
shares-first f first xs done more x joined =
    let now = still_first first (flat_map f done) in
    ap (cut first) (shares-cut f xs done more x joined) ∙ cut-append first (flat_map f done) (f x ++ flat_map f more) ∙ ap (λ l. cut first (flat_map f done) ++ l) (cut-append now (f x) (flat_map f more))

one-more : {A : Type 0} (f : A → List ℕ) (done : List A) (x : A) → flat_map f (done ++ (x ∷ [])) ≡ flat_map f done ++ f x
one-more f done x = flat_map-append f done (x ∷ []) ∙ ap (λ l. flat_map f done ++ l) (append-nil (f x))

-- the lines of one more share went out
pub shares-more : {A : Type 0} (f : A → List ℕ) (first now : Bool) (done : List A) (x : A) (old at new : Option (List ℕ)) → now ≡ still_first first (flat_map f done)
    → Appends old at (cut first (flat_map f done)) → Appends at new (cut now (f x)) → Appends old new (cut first (flat_map f (done ++ (x ∷ []))))
shares-more f first now done x old at new is sent next =
    rw (ap (cut first) (one-more f done x) ∙ cut-append first (flat_map f done) (f x) ∙ ap (λ b. cut first (flat_map f done) ++ cut b (f x)) (sym is))
    (Appends-trans old at new (cut first (flat_map f done)) (cut now (f x)) sent next)

pub still-more : {A : Type 0} (f : A → List ℕ) (first now next : Bool) (done : List A) (x : A) → now ≡ still_first first (flat_map f done) → next ≡ still_first now (f x)
    → next ≡ still_first first (flat_map f (done ++ (x ∷ [])))
still-more f first now next done x is after =
    after ∙ ap (λ b. still_first b (f x)) is ∙ sym (still-append first (flat_map f done) (f x)) ∙ ap (still_first first) (sym (one-more f done x))
