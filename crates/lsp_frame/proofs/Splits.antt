-- A stream is whole frames and a rest.
use Rattle.std.proofs.Common.{◌≡◌, ℕ, zero, suc, ◌<◌, ◌≤◌, true, false, Bool, cond, List, [], ◌∷◌, ◌++◌, length, take, drop, arith, ap, sym, ◌∙◌, refl, Option, None, Some, Result, Ok, Err, append_assoc, append-nil, take-append-drop, nat_lt}
use Rattle.std.proofs.lemmas.Bool.{ltb-false}
use Rattle.std.proofs.lemmas.List.{length-take-le}
use Rattle.lsp_frame.specs.Header.{body_length}
use Rattle.lsp_frame.specs.declared.fault.FrameFault.{FrameFault}
use Rattle.lsp_frame.specs.declared.fault.FrameFault.TheVariants.{Truncated}
use Rattle.lsp_frame.specs.Stream.{header_len, without_header, StreamEnd, BadFrame, FirstFrame, Whole, NoFrame, first_frame, behind_header, frames, with_body}
use Rattle.lsp_frame.specs.StreamLaws.{InTurn, IsFrame, AreFrames}
use Rattle.lsp_frame.proofs.FoundHeaders.{HeaderAt, header_at, header_kept}
use Rattle.lsp_frame.proofs.StreamLemmas.{first_frame-shorter, whole-cases, frames-whole, frames-end}
use Rattle.lsp_frame.proofs.Fronts.{first_frame-some, whole}

-- the bytes begin with a frame, which is one whatever is behind it
pub record BeginsWith (bytes body rest : List ℕ) : Type 0 where
  pub frame : List ℕ
  pub joined : bytes ≡ frame ++ rest
  pub whatever : (behind : List ℕ) → first_frame (frame ++ behind) ≡ Whole body behind

not_whole : (end : StreamEnd) (body rest : List ℕ) → NoFrame end ≡ Whole body rest → ⊥
not_whole end body rest e = cc

begins : (bytes body rest : List ℕ) (n : ℕ) (announced : Result ℕ FrameFault) → HeaderAt bytes n → body_length (take n bytes) ≡ announced → behind_header (drop n bytes) announced ≡ Whole body rest → BeginsWith bytes body rest
begins bytes body rest n (Err fault) h a e = absurd (not_whole (BadFrame fault) body rest e)
begins bytes body rest n (Ok len) h a e = by_test (nat_lt (length (drop n bytes)) len) refl e
  where
    by_test : (short : Bool) → nat_lt (length (drop n bytes)) len ≡ short → cond short (NoFrame (BadFrame Truncated)) (Whole (take len (drop n bytes)) (drop len (drop n bytes))) ≡ Whole body rest → BeginsWith bytes body rest
    by_test true is f = absurd (not_whole (BadFrame Truncated) body rest f)
    by_test false is f =
        let cut = whole-cases false (take len (drop n bytes)) (drop len (drop n bytes)) body rest (BadFrame Truncated) f in
        let enough : len ≤ length (drop n bytes) = ltb-false (length (drop n bytes)) len is in
        let size : length body ≡ len = ap length (sym cut.0) ∙ length-take-le len (drop n bytes) enough in
        let behind_is : drop n bytes ≡ body ++ rest = sym (take-append-drop len (drop n bytes)) ∙ ap (λ l. l ++ drop len (drop n bytes)) cut.0 ∙ ap (λ l. body ++ l) cut.1 in
        record {
          frame = take n bytes ++ body;
          joined = sym (take-append-drop n bytes) ∙ ap (λ l. take n bytes ++ l) behind_is ∙ sym (append_assoc (take n bytes) body rest);
          whatever = λ behind.
              ap first_frame (append_assoc (take n bytes) body behind) ∙ first_frame-some (take n bytes) (body ++ behind) (header_kept bytes (body ++ behind) n h) ∙ ap (behind_header (body ++ behind)) a ∙ whole body behind len size;
        }

pub begins_with : (bytes body rest : List ℕ) → first_frame bytes ≡ Whole body rest → BeginsWith bytes body rest
unfolding first_frame
begins_with bytes body rest e = by_header (header_len bytes) refl
  where
    by_header : (found : Option ℕ) → header_len bytes ≡ found → BeginsWith bytes body rest
    by_header None is = absurd (not_whole (without_header bytes) body rest (rw is at e))
    by_header (Some n) is = begins bytes body rest n (body_length (take n bytes)) (header_at bytes n is) refl (rw is at e)

-- calls in turn give the frames
pub in_turn : (bytes : List ℕ) (bodies : List (List ℕ)) (end : StreamEnd) → InTurn bytes bodies end → frames bytes ≡ record { bodies = bodies; end = end }
in_turn bytes [] end h = frames-end bytes end h
in_turn bytes (body ∷ bodies) end h = frames-whole bytes body h.0 h.1 ∙ ap (with_body body) (in_turn h.0 bodies end h.2)

frame_before : (frame behind body : List ℕ) → IsFrame frame body → first_frame (frame ++ behind) ≡ Whole body behind
frame_before frame behind body h =
    let begin = begins_with frame body [] h in
    ap (λ f. first_frame (f ++ behind)) (begin.joined ∙ append-nil begin.frame) ∙ begin.whatever behind

-- whole frames and a rest are answered in turn
frames_in_turn : (bytes : List ℕ) (bodies : List (List ℕ)) (rest : List ℕ) (end : StreamEnd) → AreFrames bytes bodies rest → first_frame rest ≡ NoFrame end → InTurn bytes bodies end
frames_in_turn bytes [] rest end are e = ap first_frame are ∙ e
frames_in_turn bytes (body ∷ bodies) rest end are e =
    (are.1, ap first_frame are.3 ∙ frame_before are.0 are.1 body are.2, frames_in_turn are.1 bodies rest end are.4 e)

pub only_frames : (bytes : List ℕ) (bodies : List (List ℕ)) (rest : List ℕ) (end : StreamEnd) → AreFrames bytes bodies rest → first_frame rest ≡ NoFrame end → frames bytes ≡ record { bodies = bodies; end = end }
only_frames bytes bodies rest end are e = in_turn bytes bodies end (frames_in_turn bytes bodies rest end are e)

-- what is answered in turn is whole frames and a rest
turns_are_frames : (bytes : List ℕ) (bodies : List (List ℕ)) (end : StreamEnd) → InTurn bytes bodies end → (rest : List ℕ) × AreFrames bytes bodies rest × (first_frame rest ≡ NoFrame end)
turns_are_frames bytes [] end h = (bytes, refl, h)
turns_are_frames bytes (body ∷ bodies) end h =
    let others = turns_are_frames h.0 bodies end h.2 in
    let begin = begins_with bytes body h.0 h.1 in
    let alone : first_frame begin.frame ≡ Whole body [] = ap first_frame (sym (append-nil begin.frame)) ∙ begin.whatever [] in
    (others.0, (begin.frame, h.0, alone, begin.joined, others.1), others.2)

turns : (n : ℕ) (bytes : List ℕ) → length bytes < n → (bodies : List (List ℕ)) × (end : StreamEnd) × InTurn bytes bodies end
turns zero bytes lt = absurd (omega (arith, lt))
turns (suc n) bytes lt = by_front (first_frame bytes) refl (λ rest shorter. turns n rest (omega (arith, lt, shorter)))
  where
    by_front : (begin : FirstFrame) → first_frame bytes ≡ begin → ((rest : List ℕ) → length rest < length bytes → (bodies : List (List ℕ)) × (end : StreamEnd) × InTurn rest bodies end) → (bodies : List (List ℕ)) × (end : StreamEnd) × InTurn bytes bodies end
    by_front (NoFrame end) is others = ([], end, is)
    by_front (Whole body rest) is others = let more = others rest (first_frame-shorter bytes body rest is) in (body ∷ more.0, more.1, (rest, is, more.2))

-- each stream is whole frames and a rest
pub all_frames : (bytes : List ℕ) → (rest : List ℕ) × AreFrames bytes (frames bytes).bodies rest × (first_frame rest ≡ NoFrame (frames bytes).end)
all_frames bytes =
    let run = turns (suc (length bytes)) bytes (omega arith) in
    let is = in_turn bytes run.0 run.1 run.2 in
    rw is (turns_are_frames bytes run.0 run.1 run.2)
