-- From a header part and a body to what the stream begins with.
use Rattle.std.proofs.Common.{◌≡◌, ℕ, zero, suc, ◌+◌, ◌<◌, ◌≤◌, ◌⊎◌, ⊎_elim, append-nil, Result, true, false, Bool, cond, List, [], ◌∷◌, ◌++◌, length, take, drop, arith, ap, sym, ◌∙◌, refl, Option, None, Some, Ok, Err, inl, inr, append_assoc, length-append, eqb, nat_lt, nat_le}
use Rattle.std.specs.Prelude.{IfSome}
use Rattle.std.proofs.lemmas.List.{take_at, drop_at, drop_all}
use Rattle.std.proofs.lemmas.Bool.Decides.{nat_tests}
use Rattle.std.proofs.lemmas.Bool.{lt-ltb, cases_lt}
use Rattle.std.specs.Global.{Vec}
use Rattle.std.specs.Io.KnownBytes.{Consumes, Keeps}
use Rattle.lsp_frame.specs.Header.{body_length}
use Rattle.lsp_frame.specs.declared.reader.Frame.TheVariants.{Body, End}
use Rattle.lsp_frame.specs.declared.fault.FrameFault.{FrameFault}
use Rattle.lsp_frame.specs.declared.fault.FrameFault.TheVariants.{BadHeader, NoLength, BadLength, BodyTooLong, HeaderTooLong, Truncated, Read, Memory}
use Rattle.lsp_frame.specs.Stream.{header_len, without_header, StreamEnd, InputEnd, BadFrame, Whole, NoFrame, first_frame, behind_header, left_behind, left_of_body, max_header}
use Rattle.lsp_frame.specs.Reading.{Answers, BreaksOff, RunsOut, Shows, ShowsEnd, HasCause}
use Rattle.lsp_frame.specs.StreamLaws.{IsFrame}
use Rattle.lsp_frame.specs.Steps.{TakesHeader, TakesBody, TakesAtMost, StopsInHeader, StopsInBody, FillsInHeader, FillsInBody, IsOutside}
use Rattle.lsp_frame.specs.declared.counts.Counts.{Counts}
use Rattle.lsp_frame.proofs.StreamLemmas.{frames-whole, frames-end}
use Rattle.lsp_frame.proofs.Faults.{IsOfHeader}
use Rattle.lsp_frame.proofs.FoundHeaders.{header_at, header_kept}
use Rattle.lsp_frame.proofs.Shown.{shown}
use Rattle.std.proofs.KnownBytes.{Consumes-kept, Consumes-trans}

first_frame-none : (bytes : List ℕ) (end : StreamEnd) → header_len bytes ≡ None → without_header bytes ≡ end → first_frame bytes ≡ NoFrame end
unfolding first_frame
first_frame-none bytes end e f = rw e (ap NoFrame f)

pub first_frame-some : (header rest : List ℕ) → header_len (header ++ rest) ≡ Some (length header) → first_frame (header ++ rest) ≡ behind_header rest (body_length header)
unfolding first_frame
first_frame-some header rest e = rw (e, take_at header rest (length header) refl, drop_at header rest (length header) refl) refl

left_behind-none : (bytes : List ℕ) → header_len bytes ≡ None → left_behind bytes ≡ drop max_header bytes
unfolding left_behind
left_behind-none bytes e = rw e refl

left_behind-some : (header rest : List ℕ) → header_len (header ++ rest) ≡ Some (length header) → left_behind (header ++ rest) ≡ left_of_body rest (body_length header)
unfolding left_behind
left_behind-some header rest e = rw (e, take_at header rest (length header) refl, drop_at header rest (length header) refl) refl

-- the bytes end so, and this is left of them
shows_end : (bytes : List ℕ) (left : Option (List ℕ)) (end : StreamEnd) → first_frame bytes ≡ NoFrame end → left ≡ Some (left_behind bytes) → ShowsEnd bytes left end
shows_end bytes left end first is_left = record { first = first; none = frames-end bytes end first; is_left = is_left }

show : (bytes : List ℕ) (left : Option (List ℕ)) (fault : FrameFault) → first_frame bytes ≡ NoFrame (BadFrame fault) → left ≡ Some (left_behind bytes) → Shows bytes left fault
show bytes left BadHeader e l = shows_end bytes left _ e l
show bytes left NoLength e l = shows_end bytes left _ e l
show bytes left BadLength e l = shows_end bytes left _ e l
show bytes left BodyTooLong e l = shows_end bytes left _ e l
show bytes left HeaderTooLong e l = shows_end bytes left _ e l
show bytes left Truncated e l = shows_end bytes left _ e l
show bytes left Read e l = let known = shown bytes Read e in absurd (omega (arith, known.1))
show bytes left Memory e l = let known = shown bytes Memory e in absurd (omega (arith, known.1))

-- no header part, of these bytes and with these left
show_headless : (bytes : List ℕ) (left : Option (List ℕ)) (fault : FrameFault) → header_len bytes ≡ None → without_header bytes ≡ BadFrame fault → left ≡ Some (drop max_header bytes) → Shows bytes left fault
show_headless bytes left fault none end is_left = show bytes left fault (first_frame-none bytes _ none end) (is_left ∙ ap Some (sym (left_behind-none bytes none)))

-- bytes without a header part, fewer than the longest has, need more
unfinished_header : (taken : List ℕ) → length taken < 8192 → (without_header taken ≡ InputEnd) ⊎ (without_header taken ≡ BadFrame Truncated)
unfinished_header [] few = inl refl
unfinished_header (x ∷ taken) few = inr (by_tests (nat_le 8192 (suc (length taken))) (eqb (suc (length taken)) 0) (grind (arith, nat_tests)) (grind (arith, nat_tests)))
  where
    by_tests : (long none : Bool) → long ≡ false → none ≡ false → cond long (BadFrame HeaderTooLong) (cond none InputEnd (BadFrame Truncated)) ≡ BadFrame Truncated
    by_tests true none l n = cc
    by_tests false true l n = cc
    by_tests false false l n = refl

-- bytes without a header part, at most those of the longest, are all needed
needed_headless : (taken : List ℕ) → header_len taken ≡ None → length taken ≤ 8192 → left_behind taken ≡ []
needed_headless taken none few = left_behind-none taken none ∙ drop_all max_header taken few

-- so are those up to the end of a header part
needed_header : (taken : List ℕ) → header_len taken ≡ Some (length taken) → left_behind taken ≡ []
needed_header taken found =
    ap left_behind (sym (append-nil taken)) ∙ left_behind-some taken [] (ap header_len (append-nil taken) ∙ found) ∙ none_left (body_length taken)
  where
    none_left : (announced : Result ℕ FrameFault) → left_of_body [] announced ≡ []
    none_left (Err fault) = refl
    none_left (Ok n) = refl

-- and those of a body
needed_body : (header body : List ℕ) (n : ℕ) → header_len (header ++ body) ≡ Some (length header) → body_length header ≡ Ok n → left_behind (header ++ body) ≡ []
needed_body header body n found is = left_behind-some header body found ∙ ap (left_of_body body) is

-- the source failed before the end of a header part
broken_header : (bytes : List ℕ) (left : Option (List ℕ)) → StopsInHeader bytes left → BreaksOff bytes left
broken_header bytes None h = absurd h.consumed
broken_header bytes (Some rest) h = record {
  taken = h.taken;
  rest = rest;
  joined = h.consumed;
  is_left = refl;
  end = without_header h.taken;
  first = first_frame-none h.taken (without_header h.taken) h.none refl;
  unfinished = unfinished_header h.taken h.short;
  needed = needed_headless h.taken h.none (omega (arith, h.short));
}

short : (rest : List ℕ) (n : ℕ) → length rest < n → behind_header rest (Ok n) ≡ NoFrame (BadFrame Truncated)
short rest n lt = rw (lt-ltb (length rest) n lt) refl

pub whole : (body rest : List ℕ) (n : ℕ) → length body ≡ n → behind_header (body ++ rest) (Ok n) ≡ Whole body rest
whole body rest n len =
    let fits : nat_lt (length (body ++ rest)) n ≡ false = not_short (length body) (length rest) (length (body ++ rest)) n len (length-append body rest) in
    rw (fits, take_at body rest n len, drop_at body rest n len) refl
  where
    not_short : (b r l n : ℕ) → b ≡ n → l ≡ b + r → nat_lt l n ≡ false
    not_short b r l n e f = grind (arith, nat_tests)

-- no whole frame begins the bytes, or they are one
abbrev IsWithin : List ℕ → Type 0
IsWithin taken = ((end : StreamEnd) × (first_frame taken ≡ NoFrame end)) ⊎ ((body : List ℕ) × IsFrame taken body)

-- bytes that end with their header part
within_header : (taken : List ℕ) (announced : Result ℕ FrameFault) → body_length taken ≡ announced → first_frame taken ≡ behind_header [] (body_length taken) → IsWithin taken
within_header taken (Err fault) is first = inl (BadFrame fault, first ∙ ap (behind_header []) is)
within_header taken (Ok zero) is first = inr ([], first ∙ ap (behind_header []) is)
within_header taken (Ok (suc n)) is first = inl (BadFrame Truncated, first ∙ ap (behind_header []) is ∙ short [] (suc n) (omega arith))

-- memory was refused within a header part, or at its last byte
full_header : (bytes : List ℕ) (left : Option (List ℕ)) → FillsInHeader bytes left → RunsOut bytes left
full_header bytes None h = absurd h.consumed
full_header bytes (Some rest) h = record {
  taken = h.taken;
  rest = rest;
  joined = h.consumed;
  is_left = refl;
  within =
      ⊎_elim (λ none. inl (without_header h.taken, first_frame-none h.taken (without_header h.taken) none refl))
      (λ found. within_header h.taken (body_length h.taken) refl
      (ap first_frame (sym (append-nil h.taken)) ∙ first_frame-some h.taken [] (ap header_len (append-nil h.taken) ∙ found)))
      h.ends;
  needed = ⊎_elim (λ none. needed_headless h.taken none h.within) (λ found. needed_header h.taken found) h.ends;
}

headless : (bytes : List ℕ) (left : Option (List ℕ)) (fault : FrameFault) → TakesHeader bytes left (Err fault) → Shows bytes left fault
headless bytes left BadHeader h = show_headless bytes left BadHeader h.0 h.1 h.2
headless bytes left NoLength h = show_headless bytes left NoLength h.0 h.1 h.2
headless bytes left BadLength h = show_headless bytes left BadLength h.0 h.1 h.2
headless bytes left BodyTooLong h = show_headless bytes left BodyTooLong h.0 h.1 h.2
headless bytes left HeaderTooLong h = show_headless bytes left HeaderTooLong h.0 h.1 h.2
headless bytes left Truncated h = show_headless bytes left Truncated h.0 h.1 h.2
headless bytes left Read h = broken_header bytes left h
headless bytes left Memory h = full_header bytes left h

pub no_header : (a b : Option (List ℕ)) (fault : FrameFault) → IfSome a (λ bytes. TakesHeader bytes b (Err fault)) → IfSome a (λ bytes. Answers bytes b (Err fault))
no_header None b fault h = tt
no_header (Some bytes) b fault h = headless bytes b fault h

empty : (bytes : List ℕ) → without_header bytes ≡ InputEnd → bytes ≡ []
empty [] e = refl
empty (x ∷ bytes) e = by_tests (nat_le 8192 (suc (length bytes))) (eqb (suc (length bytes)) 0) (grind (arith, nat_tests)) e
  where
    by_tests : (long none : Bool) → none ≡ false → cond long (BadFrame HeaderTooLong) (cond none InputEnd (BadFrame Truncated)) ≡ InputEnd → (x ∷ bytes) ≡ []
    by_tests true none n e = cc
    by_tests false true n e = cc
    by_tests false false n e = cc

pub at_end : (a b : Option (List ℕ)) → IfSome a (λ bytes. TakesHeader bytes b (Ok None)) → IfSome a (λ bytes. Answers bytes b (Ok End))
at_end None b h = tt
at_end (Some bytes) b h = (empty bytes h.1, shows_end bytes b InputEnd (first_frame-none bytes InputEnd h.0 h.1) (h.2 ∙ ap Some (sym (left_behind-none bytes h.0))))

-- a header part was taken
abbrev pub HasHeader : Option (List ℕ) → Option (List ℕ) → List ℕ → Type 0
HasHeader a b header = IfSome a (λ bytes. (header_len bytes ≡ Some (length header)) × Consumes (Some bytes) b header)

first_frame-after : (bytes header rest : List ℕ) → header_len bytes ≡ Some (length header) → bytes ≡ header ++ rest → first_frame bytes ≡ behind_header rest (body_length header)
first_frame-after bytes header rest e j = ap first_frame j ∙ first_frame-some header rest (ap header_len (sym j) ∙ e)

left-after : (bytes header rest : List ℕ) → header_len bytes ≡ Some (length header) → bytes ≡ header ++ rest → left_behind bytes ≡ left_of_body rest (body_length header)
left-after bytes header rest e j = ap left_behind j ∙ left_behind-some header rest (ap header_len (sym j) ∙ e)

pub bad_header : (a b : Option (List ℕ)) (header : List ℕ) (fault : FrameFault) → HasHeader a b header → body_length header ≡ Err fault → IfSome a (λ bytes. Answers bytes b (Err fault))
bad_header None b header fault h e = tt
bad_header (Some bytes) None header fault h e = absurd h.1
bad_header (Some bytes) (Some rest) header fault h e =
    show bytes (Some rest) fault (first_frame-after bytes header rest h.0 h.1 ∙ ap (behind_header rest) e) (ap Some (sym (left-after bytes header rest h.0 h.1 ∙ ap (left_of_body rest) e)))

-- a header part has its end, whatever follows it
header_again : (bytes header rest more : List ℕ) → header_len bytes ≡ Some (length header) → bytes ≡ header ++ rest → header_len (header ++ more) ≡ Some (length header)
header_again bytes header rest more found is =
    let at = header_at bytes (length header) found in
    let front : take (length header) bytes ≡ header = ap (take (length header)) is ∙ take_at header rest (length header) refl in
    rw front at (header_kept bytes more (length header) at)

-- the source failed before the end of a body
broken_body : (bytes header rest : List ℕ) (c : Option (List ℕ)) (n : ℕ) → header_len bytes ≡ Some (length header) → bytes ≡ header ++ rest → body_length header ≡ Ok n → StopsInBody rest n c → BreaksOff bytes c
broken_body bytes header rest None n found is e t = absurd t.consumed
broken_body bytes header rest (Some last) n found is e t =
    let again = header_again bytes header rest t.taken found is in
    record {
      taken = header ++ t.taken;
      rest = last;
      joined = is ∙ ap (λ l. header ++ l) t.consumed ∙ sym (append_assoc header t.taken last);
      is_left = refl;
      end = BadFrame Truncated;
      first = first_frame-some header t.taken again ∙ ap (behind_header t.taken) e ∙ short t.taken n t.short;
      unfinished = inr refl;
      needed = needed_body header t.taken n again e;
    }

-- memory was refused within a body, or at its last byte
within_body : (header body : List ℕ) (n : ℕ) → first_frame (header ++ body) ≡ behind_header body (Ok n) → length body ≤ n → IsWithin (header ++ body)
within_body header body n first fits =
    ⊎_elim (λ few. inl (BadFrame Truncated, first ∙ short body n few))
    (λ many. inr (body, first ∙ ap (λ b. behind_header b (Ok n)) (sym (append-nil body)) ∙ whole body [] n (omega (arith, fits, many))))
    (cases_lt (length body) n)

full_body : (bytes header rest : List ℕ) (c : Option (List ℕ)) (n : ℕ) → header_len bytes ≡ Some (length header) → bytes ≡ header ++ rest → body_length header ≡ Ok n → FillsInBody rest n c → RunsOut bytes c
full_body bytes header rest None n found is e t = absurd t.consumed
full_body bytes header rest (Some last) n found is e t =
    let again = header_again bytes header rest t.taken found is in
    record {
      taken = header ++ t.taken;
      rest = last;
      joined = is ∙ ap (λ l. header ++ l) t.consumed ∙ sym (append_assoc header t.taken last);
      is_left = refl;
      within = within_body header t.taken n (first_frame-some header t.taken again ∙ ap (behind_header t.taken) e) t.within;
      needed = needed_body header t.taken n again e;
    }

no_body : (bytes rest : List ℕ) (c : Option (List ℕ)) (n : ℕ) (fault : FrameFault) → first_frame bytes ≡ behind_header rest (Ok n) → left_behind bytes ≡ [] → (StopsInBody rest n c → BreaksOff bytes c) → (FillsInBody rest n c → RunsOut bytes c) → TakesBody rest n c (Err fault) → Shows bytes c fault
no_body bytes rest c n BadHeader e l broken full h = cc
no_body bytes rest c n NoLength e l broken full h = cc
no_body bytes rest c n BadLength e l broken full h = cc
no_body bytes rest c n BodyTooLong e l broken full h = cc
no_body bytes rest c n HeaderTooLong e l broken full h = cc
no_body bytes rest c n Truncated e l broken full h = show bytes c Truncated (e ∙ short rest n h.1) (h.2 ∙ ap Some (sym l))
no_body bytes rest c n Read e l broken full h = broken h
no_body bytes rest c n Memory e l broken full h = full h

pub short_body : (a b c : Option (List ℕ)) (header : List ℕ) (n : ℕ) (fault : FrameFault) → HasHeader a b header → body_length header ≡ Ok n → IfSome b (λ rest. TakesBody rest n c (Err fault)) → IfSome a (λ bytes. Answers bytes c (Err fault))
short_body None b c header n fault h e t = tt
short_body (Some bytes) None c header n fault h e t = absurd h.1
short_body (Some bytes) (Some rest) c header n fault h e t =
    no_body bytes rest c n fault (first_frame-after bytes header rest h.0 h.1 ∙ ap (behind_header rest) e) (left-after bytes header rest h.0 h.1 ∙ ap (left_of_body rest) e) (broken_body bytes header rest c n h.0 h.1 e)
    (full_body bytes header rest c n h.0 h.1 e) t

-- the source failed behind these bytes of a body, or memory was refused
pub stopped_in_body : (a b c : Option (List ℕ)) (items : List ℕ) (n room : ℕ) (fault : FrameFault) → Consumes a b items → (fault ≡ Read → Keeps b c) → (fault ≡ Memory → TakesAtMost b c room) → IsOutside fault → length items < n → room + length items ≤ n → IfSome a (λ bytes. TakesBody bytes n c (Err fault))
stopped_in_body None b c items n room fault taken kept full outside few fits = tt
stopped_in_body (Some bytes) b c items n room Read taken kept full outside few fits = record { taken = items; consumed = Consumes-kept (Some bytes) b c items taken (kept refl); short = few }
stopped_in_body (Some bytes) b c items n room Memory taken kept full outside few fits =
    let more = full refl in
    record { taken = items ++ more.0; consumed = Consumes-trans (Some bytes) b c items more.0 taken more.1; within = omega (arith, length-append items more.0, more.2, fits) }
stopped_in_body (Some bytes) b c items n room BadHeader taken kept full (inl e) few fits = cc
stopped_in_body (Some bytes) b c items n room BadHeader taken kept full (inr e) few fits = cc
stopped_in_body (Some bytes) b c items n room NoLength taken kept full (inl e) few fits = cc
stopped_in_body (Some bytes) b c items n room NoLength taken kept full (inr e) few fits = cc
stopped_in_body (Some bytes) b c items n room BadLength taken kept full (inl e) few fits = cc
stopped_in_body (Some bytes) b c items n room BadLength taken kept full (inr e) few fits = cc
stopped_in_body (Some bytes) b c items n room BodyTooLong taken kept full (inl e) few fits = cc
stopped_in_body (Some bytes) b c items n room BodyTooLong taken kept full (inr e) few fits = cc
stopped_in_body (Some bytes) b c items n room HeaderTooLong taken kept full (inl e) few fits = cc
stopped_in_body (Some bytes) b c items n room HeaderTooLong taken kept full (inr e) few fits = cc
stopped_in_body (Some bytes) b c items n room Truncated taken kept full (inl e) few fits = cc
stopped_in_body (Some bytes) b c items n room Truncated taken kept full (inr e) few fits = cc

pub whole_frame : (a b c : Option (List ℕ)) (header : List ℕ) (n : ℕ) (body : Vec ℕ) → HasHeader a b header → body_length header ≡ Ok n → IfSome b (λ rest. TakesBody rest n c (Ok body)) → IfSome a (λ bytes. Answers bytes c (Ok (Body body)))
whole_frame None b c header n body h e t = tt
whole_frame (Some bytes) None c header n body h e t = absurd h.1
whole_frame (Some bytes) (Some rest) None header n body h e t = absurd t.1
whole_frame (Some bytes) (Some rest) (Some last) header n body h e t =
    let first = first_frame-after bytes header rest h.0 h.1 ∙ ap (behind_header rest) e ∙ ap (λ r. behind_header r (Ok n)) t.1 ∙ whole body.items last n t.0 in
    record { rest = last; first = first; others = frames-whole bytes body.items last first; is_left = refl }

pub header_cause : (old new : Counts) (fault : FrameFault) → IsOfHeader fault → HasCause old new fault
header_cause old new BadHeader h = tt
header_cause old new NoLength h = tt
header_cause old new BadLength h = tt
header_cause old new BodyTooLong h = tt
header_cause old new HeaderTooLong h = tt
header_cause old new Truncated h = tt
header_cause old new Read h = absurd h
header_cause old new Memory h = tt
