-- A configuration that can be used: its files are good, and in the order of their roots.
use Rattle.std.proofs.Common.{◌≡◌, ℕ, ◌+◌, ◌<◌, List, [], ◌∷◌, map, length, Bool, true, false, not, cond, Option, Some, None, option_map, refl, sym, ap, ◌∙◌}
use Rattle.std.specs.Ordering.{nat_cmp}
use Rattle.std.specs.List.{All, position, position_from}
use Rattle.std.specs.List.Sorted.{IsNonDecreasingBy, IsPermutation, IsStableByKey}
use Rattle.std.proofs.lemmas.Bool.{and_parts, ltb-true}
use Rattle.std.proofs.lemmas.Iterator.Adapters.{position_from-zero}
use Rattle.std.proofs.lemmas.List.Elements.{All-nil, All-cons}
use Rattle.workspace_uri.specs.Uri.{are_roots}
use Rattle.work_files.specs.Disk.{disk_view}
use Rattle.work_files.specs.declared.disk.DiskFile.{DiskFile}
use Rattle.work_config.specs.Configuration.{is_good_file, in_root_order, refusal}
use Rattle.work_config.specs.declared.fault.ServeFault.TheVariants.{BadPath}
use Rattle.work_config.proofs.RootOrder.{sorted_stably, keys_seen}

-- a file that is bad beside so many roots
abbrev bad : ℕ → DiskFile → Bool
bad roots f = not (is_good_file roots (disk_view f))

position-map : (roots : ℕ) (fs : List DiskFile) (i : ℕ) → position_from (λ f. not (is_good_file roots f)) i (map disk_view fs) ≡ position_from (bad roots) i fs
position-map roots [] i = refl
position-map roots (f ∷ fs) i = ap (λ r. cond (bad roots f) (Some i) r) (position-map roots fs (i + 1))

position-map-all : (roots : ℕ) (fs : List DiskFile) → position (λ f. not (is_good_file roots f)) (map disk_view fs) ≡ position (bad roots) fs
position-map-all roots fs = position_from-zero (λ f. not (is_good_file roots f)) (map disk_view fs) ∙ position-map roots fs 0 ∙ sym (position_from-zero (bad roots) fs)

-- beside good roots the first bad file counts
pub refusal_of : (roots : List (List ℕ)) (fs : List DiskFile) (reads_others : Bool) (count : ℕ) (first : Option ℕ) → are_roots roots ≡ true → count ≡ length roots → first ≡ position (bad count) fs
    → refusal (record { roots = roots; files = map disk_view fs; reads_others = reads_others }) ≡ option_map BadPath first
refusal_of roots fs reads_others count first good as_many is = rw good (ap (option_map BadPath) (position-map-all (length roots) fs ∙ ap (λ n. position (bad n) fs) (sym as_many) ∙ sym is))

one-low : (roots : ℕ) (f : DiskFile) (fs : List DiskFile) (i : ℕ) (good : Bool) → is_good_file roots (disk_view f) ≡ good → cond (not good) (Some i) (position_from (bad roots) (i + 1) fs) ≡ None
    → (position_from (bad roots) (i + 1) fs ≡ None → All (λ f. f.root < roots) fs) → All (λ f. f.root < roots) (f ∷ fs)
one-low roots f fs i true is none others = All-cons (λ f. f.root < roots) f fs (ltb-true f.root roots (and_parts _ _ is).0) (others none)
one-low roots f fs i false is none others = cc

all-low : (roots : ℕ) (fs : List DiskFile) (i : ℕ) → position_from (bad roots) i fs ≡ None → All (λ f. f.root < roots) fs
all-low roots [] i none = All-nil (λ f. f.root < roots)
all-low roots (f ∷ fs) i none = one-low roots f fs i (is_good_file roots (disk_view f)) refl none (all-low roots fs (i + 1))

-- good files that were sorted stably by their roots
pub in_order : (roots : List (List ℕ)) (old new : List DiskFile) (reads_others : Bool) → position (bad (length roots)) old ≡ None
    → IsPermutation old new → IsNonDecreasingBy (λ f. f.root) new → IsStableByKey (λ f. f.root) nat_cmp old new → map disk_view new ≡ in_root_order (record { roots = roots; files = map disk_view old; reads_others = reads_others })
in_order roots old new reads_others none same sorted stable =
    ap (map disk_view) (sorted_stably (λ (f : DiskFile). f.root) old new stable (length roots) same sorted (all-low (length roots) old 0 (sym (position_from-zero (bad (length roots)) old) ∙ none)))
    ∙ keys_seen disk_view (λ f. f.root) 0 (length roots) old
