-- What rounds of work do
use Rattle.std.proofs.Common.{◌≡◌, ℕ, zero, suc, ◌≤◌, Bool, true, false, cond, List, ◌∷◌, ◌++◌, length, Option, Some, None, refl, sym, ap, ◌∙◌, subst, option_map, IsTrue, arith}
use Rattle.std.specs.Prelude.{option_and_then}
use Rattle.std.specs.Str.{bytes_eq}
use Rattle.std.specs.Option.{option_to_list}
use Rattle.std.specs.List.{filter}
use Rattle.std.specs.Cmp.Lexicographic.{bytes_decides}
use Rattle.piece_collector.specs.Events.{Event, NextJob, Offer}
use Rattle.piece_collector.specs.History.{Out, Held, Standing, wants, first_wanted, paths, history, stands_at}
use Rattle.piece_collector.specs.Board.{IsFirstWanted}
use Rattle.piece_collector.specs.Laws.{JobsGoToTheFirstWanted}
use Rattle.collector_laws.specs.TextLaws.{stamped_after, EachEventGivesTheStamps}
use Rattle.collector_laws.specs.WorkLaws.{in_state, PiecesMakeTheirPathsHeld, JobsMakeTheirPathsOut, NoJobChangesNothing, IsOut, NoneIsOut, CompleteIsNoneWantedAndNoneOut, right_piece, after_round, after_rounds, RoundsAreForTheFirstWanted, RoundsMakeTheirPathsHeld, RoundsChangeNoText, RoundsLeaveNoneOut, RoundsEnd, RoundsComplete}
use Rattle.collector_laws.proofs.Firsts.{none_first, first_is_in, count_paths, at_most_all, none_pass, fewer}

module _ (law : JobsGoToTheFirstWanted) where
  pub rounds_are : RoundsAreForTheFirstWanted
  rounds_are = record {
    given = λ o es p x first is.
        ap (λ g. option_to_list (option_and_then (right_piece o es) g) ++ NextJob ∷ es) ((law o es (Some p)).0 first)
        ∙ ap (λ s. option_to_list (option_map {U = Event} (λ x. Offer p x.stamp x.text) s) ++ NextJob ∷ es) is;
    none = λ o es first. ap (λ g. option_to_list (option_and_then (right_piece o es) g) ++ NextJob ∷ es) ((law o es None).0 first);
  }

  -- what holds after a round, by whether a path is wanted
  by_round : (P : List Event → Type 0) (o : ℕ) (es : List Event) → (IsFirstWanted o es None → P (NextJob ∷ es))
      → ((p : List ℕ) (x : Standing) → IsFirstWanted o es (Some p) → stands_at o es p ≡ Some x → P (Offer p x.stamp x.text ∷ NextJob ∷ es)) → P (after_round o es)
  by_round P o es none given = by (first_wanted o (history o es)) ((law o es (first_wanted o (history o es))).1 refl)
    where
      there : (p : List ℕ) (s : Option Standing) → stands_at o es p ≡ s → IsTrue (wants s) → IsFirstWanted o es (Some p) → P (option_to_list (option_map {U = Event} (λ x. Offer p x.stamp x.text) s) ++ NextJob ∷ es)
      there p None e w first = absurd (cc)
      there p (Some x) e w first = given p x first e

      by : (g : Option (List ℕ)) → IsFirstWanted o es g → P (option_to_list (option_and_then (right_piece o es) g) ++ NextJob ∷ es)
      by None first = none first
      by (Some p) first = there p (stands_at o es p) refl first.0 first

  module _ (piece : PiecesMakeTheirPathsHeld) (job : JobsMakeTheirPathsOut) (no_job : NoJobChangesNothing) where
    -- a job and the right piece for it
    done : (o : ℕ) (es : List Event) (p : List ℕ) (x : Standing) → IsFirstWanted o es (Some p) → stands_at o es p ≡ Some x
        → (q : List ℕ) → stands_at o (Offer p x.stamp x.text ∷ NextJob ∷ es) q ≡ cond (bytes_eq p q) (Some (in_state Held x)) (stands_at o es q)
    done o es p x first is q = piece o (NextJob ∷ es) p (in_state Out x) out q ∙ by (bytes_eq p q) (job o es p first q)
      where
        out : stands_at o (NextJob ∷ es) p ≡ Some (in_state Out x)
        out = job o es p first p ∙ (ap (λ b. cond b (option_map (in_state Out) (stands_at o es p)) (stands_at o es p)) ((bytes_decides p p).1 refl) ∙ ap (option_map (in_state Out)) is)

        by : (b : Bool) → stands_at o (NextJob ∷ es) q ≡ cond b (option_map (in_state Out) (stands_at o es p)) (stands_at o es q)
            → cond b (Some (in_state Held x)) (stands_at o (NextJob ∷ es) q) ≡ cond b (Some (in_state Held x)) (stands_at o es q)
        by true e = refl
        by false e = e

    pub rounds_hold : RoundsMakeTheirPathsHeld
    rounds_hold o es p first q = there (stands_at o es p) refl first.0
      where
        there : (s : Option Standing) → stands_at o es p ≡ s → IsTrue (wants s) → stands_at o (after_round o es) q ≡ cond (bytes_eq p q) (option_map (in_state Held) s) (stands_at o es q)
        there None e w = absurd (cc)
        there (Some x) e w = ap (λ es. stands_at o es q) (rounds_are.given o es p x first e) ∙ done o es p x first e q

    round_none_out : (o : ℕ) (es : List Event) → NoneIsOut o es → NoneIsOut o (after_round o es)
    round_none_out o es h = by_round (NoneIsOut o) o es
        (λ first q. subst (λ s. ¬ IsOut s) (sym (no_job o es first q)) (h q))
        (λ p x first is q. subst (λ s. ¬ IsOut s) (sym (done o es p x first is q)) (by (bytes_eq p q) x q))
      where
        by : (b : Bool) (x : Standing) (q : List ℕ) → ¬ IsOut (cond b (Some (in_state Held x)) (stands_at o es q))
        by true x q = λ e. cc (e)
        by false x q = h q

    pub rounds_none_out : RoundsLeaveNoneOut
    rounds_none_out zero o es h = h
    rounds_none_out (suc n) o es h = rounds_none_out n o (after_round o es) (round_none_out o es h)

    -- how many paths are wanted, each as often as a text of it was set
    abbrev wanted : ℕ → List Event → ℕ
    wanted o es = length (filter (λ p. wants (stands_at o es p)) (paths (history o es)))

    round_fewer : (n o : ℕ) (es : List Event) → wanted o es ≤ suc n → wanted o (after_round o es) ≤ n
    round_fewer n o es h = by_round (λ fs. wanted o fs ≤ n) o es
        (λ first. let e = none_pass (λ q. wants (stands_at o (NextJob ∷ es) q)) (λ q. ap wants (no_job o es first q) ∙ first q) (paths (history o es)) in omega (arith, e))
        (λ p x first is.
        let i = first_is_in _ p ((law o es (Some p)).0 first) in
        let f = fewer (λ q. wants (stands_at o es q)) (λ q. wants (stands_at o (Offer p x.stamp x.text ∷ NextJob ∷ es) q)) p (λ q. ap wants (done o es p x first is q) ∙ by p q x) (paths (history o es)) i in
        omega (arith, f, h))
      where
        by : (p q : List ℕ) (x : Standing) → wants (cond (bytes_eq p q) (Some (in_state Held x)) (stands_at o es q)) ≡ cond (bytes_eq p q) false (wants (stands_at o es q))
        by p q x = elim (bytes_eq p q) as (λ b. wants (cond b (Some (in_state Held x)) (stands_at o es q)) ≡ cond b false (wants (stands_at o es q))) [ true ↦ refl | false ↦ refl ]

    none_wanted : (o : ℕ) (es : List Event) → wanted o es ≡ 0 → IsFirstWanted o es None
    none_wanted o es e = (law o es None).1 (none_first (filter (λ p. wants (stands_at o es p)) (paths (history o es))) e)

    wanted_end : (n o : ℕ) (es : List Event) → wanted o es ≤ n → IsFirstWanted o (after_rounds n o es) None
    wanted_end zero o es h = none_wanted o es (omega (arith, h))
    wanted_end (suc n) o es h = wanted_end n o (after_round o es) (round_fewer n o es h)

    pub rounds_end : RoundsEnd
    rounds_end n o es h =
        let all = at_most_all (λ p. wants (stands_at o es p)) (paths (history o es)) in
        let count = count_paths (history o es) in
        wanted_end n o es (omega (arith, h, all, count))

    pub rounds_complete : CompleteIsNoneWantedAndNoneOut → RoundsComplete
    rounds_complete complete n o es h none = (complete o (after_rounds n o es)).1 (rounds_end n o es h, rounds_none_out n o es none)

  module _ (stamps : EachEventGivesTheStamps) where
    round_texts : (o : ℕ) (es : List Event) (p : List ℕ) → stamped_after o (after_round o es) p ≡ stamped_after o es p
    round_texts o es p = by_round (λ fs. stamped_after o fs p ≡ stamped_after o es p) o es
        (λ first. stamps o NextJob es p)
        (λ q x first is. stamps o (Offer q x.stamp x.text) (NextJob ∷ es) p ∙ stamps o NextJob es p)

    pub rounds_texts : RoundsChangeNoText
    rounds_texts zero o es p = refl
    rounds_texts (suc n) o es p = rounds_texts n o (after_round o es) p ∙ round_texts o es p
