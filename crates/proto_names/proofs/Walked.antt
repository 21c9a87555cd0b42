-- Lists that a walk changes in place, element by element.
use Rattle.std.proofs.Common.{◌≡◌, ◌∙◌, sym, ap, ap₂, ◌<◌, ◌+◌, ◌-◌, ℕ, List, [], ◌∷◌, ◌++◌, map, take, drop, get_or, set, length, arith}
use Rattle.std.proofs.lemmas.List.{drop-set-lt, drop_more, get_or-drop, length-drop, map-append, take_more, take_more_set}
use Rattle.proto_names.specs.declared.hashed.HashedDecls.{HashedDecls}
use Rattle.proto_names.specs.declared.moving.Change.{Change}
use Rattle.proto_names.specs.Moved.{moved, AreMoved}

-- those from a place on are as they were
module _ {X : Type 0} (old new : List X) (i : ℕ) (left : drop i new ≡ drop i old) (d : X) (lt : i < length new) where
  as_many_left : length old - i ≡ length new - i
  as_many_left = sym (length-drop i old) ∙ sym (ap length left) ∙ length-drop i new

  pub still_long : i < length old
  still_long = omega (arith, lt, as_many_left)

  pub still_there : get_or new i d ≡ get_or old i d
  still_there =
      let start : i ≡ i + 0 = omega arith in
      ap (λ k. get_or new k d) start ∙ sym (get_or-drop i new 0 d) ∙ ap (λ (xs : List X). get_or xs 0 d) left ∙ get_or-drop i old 0 d ∙ ap (λ k. get_or old k d) (sym start)

  pub less_left : (e : X) → drop (i + 1) (set new i e) ≡ drop (i + 1) old
  less_left e = drop-set-lt (i + 1) new i e (omega arith) ∙ sym (ap (drop 1) (drop_more new i d lt)) ∙ ap (drop 1) left ∙ ap (drop 1) (drop_more old i d still_long)

  -- what is said of those before it, and of one more
  pub one_more : {Y : Type 0} (f g : X → Y) (e : X) → map f (take i new) ≡ map g (take i old) → f e ≡ g (get_or new i d) → map f (take (i + 1) (set new i e)) ≡ map g (take (i + 1) old)
  one_more f g e done is =
      ap (map f) (take_more_set new i e lt) ∙ map-append f (take i new) (e ∷ [])
      ∙ ap₂ (λ ys y. ys ++ y ∷ []) done (is ∙ ap g still_there)
      ∙ sym (map-append g (take i old) (get_or old i d ∷ [])) ∙ ap (map g) (sym (take_more old i d still_long))

  pub one_more_mapped : (f : X → X) (e : X) → take i new ≡ map f (take i old) → e ≡ f (get_or new i d) → (take (i + 1) (set new i e) ≡ map f (take (i + 1) old)) × (drop (i + 1) (set new i e) ≡ drop (i + 1) old)
  one_more_mapped f e done is = (
    take_more_set new i e lt ∙ ap₂ (λ (xs : List X) (x : X). xs ++ x ∷ []) done (is ∙ ap f still_there)
        ∙ sym (map-append f (take i old) (get_or old i d ∷ []))
        ∙ ap (map f) (sym (take_more old i d still_long)),
    less_left e,
  )

-- one more bucket has its declarations by other numbers
module _ (change : Change) (at : ℕ) (old new : List HashedDecls) (i : ℕ) (done : AreMoved change at (take i old) (take i new)) (left : drop i new ≡ drop i old) (d : HashedDecls) (lt : i < length new) where
  pub one_more_bucket : (e : HashedDecls) → e.hashes.items ≡ (let b = get_or new i d in b.hashes.items) → e.decls.items ≡ map (moved change at) (let b = get_or new i d in b.decls.items)
      → AreMoved change at (take (i + 1) old) (take (i + 1) (set new i e)) × (drop (i + 1) (set new i e) ≡ drop (i + 1) old)
  one_more_bucket e hashes decls = (
    record {
      hashes_stay = one_more old new i left d lt (λ b. b.hashes.items) (λ b. b.hashes.items) e done.hashes_stay hashes;
      decls_are = one_more old new i left d lt (λ b. b.decls.items) (λ b. map (moved change at) b.decls.items) e done.decls_are decls;
    },
    less_left old new i left d lt e,
  )
