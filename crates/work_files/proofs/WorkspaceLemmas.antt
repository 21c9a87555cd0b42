-- The workspace beside the files that it is made of.
use Rattle.std.proofs.Common.{◌≡◌, ℕ, List, [], ◌∷◌, Bool, true, false, cond, Option, Some, None, is_none, option_map, nat_cmp, refl, sym, ap, ◌∙◌}
use Rattle.std.specs.List.{cons_option}
use Rattle.std.specs.Prelude.{option_and_then}
use Rattle.std.specs.Cmp.Lexicographic.{slice_cmp}
use Rattle.std.specs.Map.{lookup}
use Rattle.std.specs.BTreeMap.{is_at}
use Rattle.std.proofs.lemmas.Bool.{and_parts}
use Rattle.std.proofs.lemmas.Map.Text.{is_eq-slice_cmp}
use Rattle.std.proofs.lemmas.Slice.Eq.{bytes_eq-Decides}
use Rattle.work_files.specs.Files.{File, Files, file_at, text_of, text_at, workspace, are_apart}

none-is : (o : Option File) → is_none o ≡ true → o ≡ None
none-is None e = refl
none-is (Some f) e = cc

module _ (path : List ℕ) where
  same-path : (key : List ℕ) → is_at (slice_cmp nat_cmp path) key ≡ true → path ≡ key
  same-path key here = (bytes_eq-Decides path key).0 (sym (is_eq-slice_cmp path key) ∙ here)

  text-step : (e : List ℕ × File) (es : Files) (text : Option (List ℕ)) (here : Bool) → text_of e.1 ≡ text → is_at (slice_cmp nat_cmp path) e.0 ≡ here → file_at e.0 es ≡ None
      → lookup (is_at (slice_cmp nat_cmp path)) (workspace es) ≡ text_at path es
      → lookup (is_at (slice_cmp nat_cmp path)) (cons_option (option_map (λ t. (e.0, t)) text) (workspace es)) ≡ option_and_then text_of (cond here (Some e.1) (file_at path es))
  text-step e es (Some t) true is at other rest = rw at (sym is)
  text-step e es (Some t) false is at other rest = rw at rest
  text-step e es None false is at other rest = rest
  text-step e es None true is at other rest = rest ∙ ap (option_and_then text_of) (ap (λ p. file_at p es) (same-path e.0 at) ∙ other) ∙ sym is

  pub text_of_workspace : (files : Files) → are_apart files ≡ true → lookup (is_at (slice_cmp nat_cmp path)) (workspace files) ≡ text_at path files
  text_of_workspace [] apart = refl
  text_of_workspace (e ∷ es) apart =
      let both = and_parts (is_none (file_at e.0 es)) (are_apart es) apart in
      text-step e es (text_of e.1) (is_at (slice_cmp nat_cmp path) e.0) refl refl (none-is (file_at e.0 es) both.0) (text_of_workspace es both.1)
