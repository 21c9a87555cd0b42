-- An object from which a member was removed.
use Rattle.std.proofs.Common.{◌≡◌, ◌≢◌, ℕ, List, [], ◌∷◌, Bool, true, false, cond, Some, is_eq, nat_cmp, string_bytes, refl, sym, ap, ◌∙◌}
use Rattle.std.proofs.lemmas.Map.Text.{is_eq-slice_cmp}
use Rattle.std.proofs.lemmas.Slice.Eq.{bytes_eq-Decides}
use Rattle.std.specs.Cmp.Lexicographic.{slice_cmp}
use Rattle.std.specs.Map.{remove_entry}
use Rattle.std.specs.BTreeMap.{is_at}
use Rattle.std.specs.Ordering.{match_ordering}
use Rattle.serde_json.specs.Find.{get_member}
use Rattle.serde_json.specs.View.{view, members_view}
use Rattle.serde_json.proofs.Views.{Entry, member_later}

removed_at : (b : Bool) (other name : List ℕ) (e : Entry) (es rest : List Entry) → is_eq (slice_cmp nat_cmp name (string_bytes e.0)) ≡ b → other ≢ name
    → get_member other (members_view rest) ≡ get_member other (members_view es)
    → get_member other (members_view (cond b es (e ∷ rest))) ≡ get_member other (members_view (e ∷ es))
removed_at true other name e es rest here apart same =
    let key : name ≡ string_bytes e.0 = (bytes_eq-Decides name (string_bytes e.0)).0 (sym (is_eq-slice_cmp name (string_bytes e.0)) ∙ here) in
    sym (member_later other e es (λ h. apart (h ∙ sym key)))
removed_at false other name e es rest here apart same = ap (λ r. match_ordering (slice_cmp nat_cmp other (string_bytes e.0)) r (Some (view e.1)) r) same

-- the other names keep their values
pub get_member-remove_entry : (other name : List ℕ) (es : List Entry) → other ≢ name
    → get_member other (members_view (remove_entry (is_at (λ k. slice_cmp nat_cmp name (string_bytes k))) es)) ≡ get_member other (members_view es)
get_member-remove_entry other name [] apart = refl
get_member-remove_entry other name (e ∷ es) apart = removed_at _ other name e es _ refl apart (get_member-remove_entry other name es apart)
