-- A root's decoded path ends with a slash, so a text is cut there between characters.
use Rattle.std.proofs.Common.{◌≡◌, ℕ, ◌+◌, ◌-◌, ◌≤◌, List, [], ◌∷◌, ◌++◌, length, take, drop, get_or, Bool, true, false, cond, Some, None, refl, sym, ap, ◌∙◌, subst, arith, length-append, nat_eq}
use Rattle.std.specs.Prelude.{IsUtf8, IsCharBoundary}
use Rattle.std.specs.Str.{is_utf8}
use Rattle.std.specs.List.{starts_with, ends_with}
use Rattle.std.specs.Cmp.Lexicographic.{same_text}
use Rattle.std.proofs.lemmas.Bool.{and_parts, and_right}
use Rattle.std.proofs.lemmas.List.{take-append-drop, get_or-take, get_or-append_right}
use Rattle.std.proofs.lemmas.Option.{option_and_then_some, cond_some}
use Rattle.std.proofs.lemmas.Str.{IsUtf8-from_is_utf8, is_utf8-from_IsUtf8, IsCharBoundary-after_ascii}
use Rattle.percent_encoding.specs.Percent.{percent_decode, is_escape}
use Rattle.url.specs.Parts.{Parts}
use Rattle.workspace_uri.specs.Path.{is_workspace_path}
use Rattle.workspace_uri.specs.Uri.{url_of, is_root, folder_in, folder_of, below}

not_text_by : (path : List ℕ) (b : Bool) → is_utf8 path ≡ b → ¬ IsUtf8 path → b ≡ false
not_text_by path true e other = absurd (other (IsUtf8-from_is_utf8 path e))
not_text_by path false e other = refl

pub below_no_text : (root path : List ℕ) → ¬ IsUtf8 path → None ≡ below root path
below_no_text root path other = rw (not_text_by path (is_utf8 path) refl other) refl

pub below_here : (root path rest : List ℕ) → IsUtf8 path → starts_with nat_eq path root ≡ true → rest ≡ drop (length root) path → is_workspace_path rest ≡ true → Some rest ≡ below root path
below_here root path rest text starts is good =
    let behind : is_workspace_path (drop (length root) path) ≡ true = subst (λ r. is_workspace_path r ≡ true) is good in
    rw (is_utf8-from_IsUtf8 path text, starts, behind) (ap Some is)

pub decode_step : (e : Bool) (v b : ℕ) (xs ys xs' ys' : List ℕ) → xs ≡ xs' ++ 47 ∷ [] → ys ≡ ys' ++ 47 ∷ [] → cond e (v ∷ xs) (b ∷ ys) ≡ cond e (v ∷ xs') (b ∷ ys') ++ 47 ∷ []
decode_step true v b xs ys xs' ys' p q = ap (λ l. v ∷ l) p
decode_step false v b xs ys xs' ys' p q = ap (λ l. b ∷ l) q

no_escape : (b c : ℕ) → is_escape b c 47 ≡ false
no_escape b c = and_right _ _ refl

pub percent_decode_slash : (front : List ℕ) → percent_decode (front ++ 47 ∷ []) ≡ percent_decode front ++ 47 ∷ []
unfolding percent_decode
percent_decode_slash [] = refl
percent_decode_slash (b ∷ []) = refl
percent_decode_slash (b ∷ c ∷ []) = rw (no_escape b c) refl
percent_decode_slash (b ∷ high ∷ low ∷ rest) = decode_step (is_escape b high low) _ _ _ _ _ _ (percent_decode_slash rest) (percent_decode_slash (high ∷ low ∷ rest))

-- the list ends with a slash
pub record EndsInSlash (xs : List ℕ) : Type 0 where
  pub front : List ℕ
  pub is : xs ≡ front ++ 47 ∷ []

EndsInSlash-decode : (xs : List ℕ) → EndsInSlash xs → EndsInSlash (percent_decode xs)
EndsInSlash-decode xs e = record { front = percent_decode e.front; is = ap percent_decode e.is ∙ percent_decode_slash e.front }

pub EndsInSlash-from_ends_with : (xs : List ℕ) → ends_with nat_eq xs (47 ∷ []) ≡ true → EndsInSlash xs
EndsInSlash-from_ends_with xs e =
    let last : 47 ∷ [] ≡ drop (length xs - 1) xs = same_text (47 ∷ []) (drop (length xs - 1) xs) (sym e) in
    record { front = take (length xs - 1) xs; is = sym (take-append-drop (length xs - 1) xs) ∙ ap (λ l. take (length xs - 1) xs ++ l) (sym last) }

EndsInSlash-folder_in : (url : Parts) (root : List ℕ) → folder_in url ≡ Some root → EndsInSlash root
EndsInSlash-folder_in url root e =
    let parts = cond_some (is_root url) (percent_decode url.path) root e in
    let ends = (and_parts _ _ parts.0).1 in
    subst EndsInSlash parts.1 (EndsInSlash-decode url.path (EndsInSlash-from_ends_with url.path ends))

pub EndsInSlash-folder_of : (text root : List ℕ) → folder_of text ≡ Some root → EndsInSlash root
EndsInSlash-folder_of text root e = option_and_then_some folder_in (url_of text) root e (λ url is named. EndsInSlash-folder_in url root named)

last_is : (front root : List ℕ) → root ≡ front ++ 47 ∷ [] → get_or root (length front) 0 ≡ 47
last_is front root e = ap (λ l. get_or l (length front) 0) e ∙ get_or-append_right front (47 ∷ []) (length front) (length front) 0 refl (omega arith)
    ∙ (let none : length front - length front ≡ 0 = omega arith in ap (λ k. get_or (47 ∷ []) k 0) none)

pub boundary : (root path : List ℕ) → EndsInSlash root → IsUtf8 path → starts_with nat_eq path root ≡ true → length root ≤ length path → IsCharBoundary path (length root)
boundary root path ends text starts fits =
    let len : length root ≡ length ends.front + 1 = ap length ends.is ∙ length-append ends.front (47 ∷ []) in
    let head : root ≡ take (length root) path = same_text root (take (length root) path) (sym starts) in
    let here : get_or path (length ends.front) 0 ≡ 47 =
    sym (get_or-take (length root) path (length ends.front) 0 (omega arith)) ∙ ap (λ l. get_or l (length ends.front) 0) (sym head) ∙ last_is ends.front root ends.is in
    subst (IsCharBoundary path) (sym len) (IsCharBoundary-after_ascii path (length ends.front) text (omega arith) (omega arith))
