-- What one of many joined threads promised.
use Rattle.std.proofs.Common.{◌≡◌, ℕ, ◌<◌, List, map, length, sym, ap, ◌∙◌, subst, arith, Some, slice_get}
use Rattle.std.specs.Option.{option_map}
use Rattle.std.proofs.lemmas.Option.{same_Some, slice_get-map, slice_get_within, slice_get_read, get_or_from_slice_get}
use Rattle.std.specs.declared.thread.PromisedHandle.{PromisedHandle}
use Rattle.std.specs.declared.thread.Promise as Promise
use Rattle.std.specs.PromisedHandle.{KeepsEach}

-- where two lists have the same image, so has what stands at one place of both
pub same_at : {A B C : Type 0} (f : A → C) (h : B → C) (xs : List A) (ys : List B) (i : ℕ) (x : A) (y : B)
    → map f xs ≡ map h ys → slice_get xs i ≡ Some x → slice_get ys i ≡ Some y → f x ≡ h y
same_at f h xs ys i x y e here there =
    same_Some (f x) (h y)
    (sym (slice_get-map f xs i ∙ ap (option_map f) here) ∙ (ap (λ zs. slice_get zs i) e ∙ (slice_get-map h ys i ∙ ap (option_map h) there)))

module _ {T P : Type 0} (g : Promise.Ghosts P T) where
  -- the answer at a place keeps the promise of the handle there
  pub record KeptAt (hs : List (PromisedHandle T P)) (i : ℕ) (r : T) : Type 0 where
    pub handle : PromisedHandle T P
    pub stands : slice_get hs i ≡ Some handle
    pub kept : g.kept_by handle.promise r

  pub kept_at : (hs : List (PromisedHandle T P)) (rs : List T) (n : ℕ) → n ≡ length hs → length rs ≡ n → KeepsEach g n hs rs
      → (i : ℕ) (r : T) → slice_get rs i ≡ Some r → KeptAt hs i r
  kept_at hs rs n count len keeps i r at =
      let low : i < n = omega (arith, len, slice_get_within rs i r at) in
      let k = (keeps i r low).1 in
      record {
        handle = k.handle;
        stands = slice_get_read hs n i k.handle count low k.handle_is;
        kept = subst (g.kept_by k.handle.promise) (get_or_from_slice_get rs i r r at) k.kept;
      }
