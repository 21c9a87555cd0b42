-- The URL of a root is valid, since the parser has made it.
use Rattle.std.proofs.Common.{◌≡◌, ℕ, ◌+◌, ◌-◌, ◌<◌, ◌==◌, Bool, true, false, not, ◌&&◌, nat_lt, List, [], ◌∷◌, ◌++◌, length, get_or, take, drop, All, Option, Some, None, Result, Ok, Err, IfSome, ◌||◌, is_some, unwrap_or, codes, refl, sym, ap, ◌∙◌, subst, inl, inr}
use Rattle.std.specs.List.{prefix_len, suffix_len}
use Rattle.std.specs.Result.{result_ok}
use Rattle.std.proofs.lemmas.Bool.{and_parts, and_right, cases_Bool, cond_both, cond-false, true≢false}
use Rattle.std.proofs.lemmas.List.Elements.{All-nil, All-cons, All-head, All-tail, All-push, All-take, All-drop, All-filter}
use Rattle.std.proofs.lemmas.Option.{same_Some}
use Rattle.std.proofs.lemmas.Slice.Eq.{bytes_eq-Decides}
use Rattle.percent_encoding.proofs.PercentLemmas.{IsByte}
use Rattle.url.specs.declared.error.ParseError.{ParseError}
use Rattle.url.specs.declared.error.ParseError.TheVariants.{EmptyHost}
use Rattle.url.specs.declared.host.Host.{Host}
use Rattle.url.specs.declared.host.Host.TheVariants.{Domain, Ipv4, Ipv6}
use Rattle.url.specs.declared.scheme.SchemeType.TheVariants.{File, NotSpecial}
use Rattle.url.proofs.InputLemmas.{is_empty-nil}
use Rattle.url.proofs.LayoutLemmas.{IsValidHead_same}
use Rattle.url.specs.Input.{is_empty, trim_c0_control_and_space, strip_tabs_and_new_lines, is_tab_or_new_line, is_c0_control_or_space, trim_start, lowercase, split_once, rsplit_once}
use Rattle.url.specs.Scheme.{scheme_type, is_special, is_file, is_slash, scheme_len}
use Rattle.url.specs.Host.{is_empty_host, parse_file_host, parse_host, IsHostOf}
use Rattle.url.specs.Path.{segment_len, is_windows_drive_letter, push_segment, parse_segments, parse_path, parse_path_start, escape_end, IsSegmentList}
use Rattle.url.specs.Parts.{Parts, kind_of, has_host, IsValid, IsValidHead, IsValidPath}
use Rattle.url.specs.Head.{with_authority}
use Rattle.url.specs.Parser.{Parsed, and_then, split_port, parse_port, lacks_host, with_path, parse_authority, after_double_slash, parse_non_special, leading_slashes, file_with_host, after_file_double_slash, parse_file, parse_not_file, parse_body, with_tail, before_tail, parse_parts, split_scheme, parse_by_scheme, parse_url}
use Rattle.url.proofs.PathLemmas.{IsNoSlash, no_segments, push_segment_valid, push_last_nonempty}
use Rattle.url.proofs.SchemeLemmas.{IsScheme_file, scheme_type_file}
use Rattle.url.proofs.SetterLemmas.{empty_domain, valid_with_authority}
use Rattle.url.proofs.ParsedCanonical.{before_special}
use Rattle.url.proofs.ValidLemmas.{IsValid-with_tail}
use Rattle.workspace_uri.specs.Uri.{url_of, is_root}

-- a step that went well came after one that did
from_ok : {T U : Type 0} (r : Parsed T) (next : T → Parsed U) (y : U) → and_then r next ≡ Ok y → (x : T) × (r ≡ Ok x) × (next x ≡ Ok y)
from_ok (Ok x) next y is = (x, refl, is)
from_ok (Err e) next y is = cc (is)

same_Ok : {T : Type 0} (x y : T) → (let a : Parsed T = Ok x in let b : Parsed T = Ok y in a ≡ b) → x ≡ y
same_Ok x y is = cc (is)

no_Err : {T : Type 0} (e : ParseError) (y : T) → (let a : Parsed T = Err e in let b : Parsed T = Ok y in a ≡ b) → ⊥
no_Err e y is = cc (is)

-- ---- paths

segments_valid : (path s bytes : List ℕ) → IsSegmentList File path → All IsByte s → All (IsNoSlash File) s → All IsByte bytes → IsSegmentList File (parse_segments File path s bytes) × (0 < length (parse_segments File path s bytes))
unfolding parse_segments
segments_valid path s [] list small whole rest = (push_segment_valid File path s true small whole list, push_last_nonempty File path s)
segments_valid path s (b ∷ bytes) list small whole rest =
    elim (cases_Bool (is_slash File b)) [
      | inl slash ↦ rw slash (segments_valid (push_segment File path s false) [] bytes (push_segment_valid File path s false small whole list) (All-nil IsByte) (All-nil (IsNoSlash File)) (All-tail IsByte b bytes rest))
      | inr other ↦ rw other (segments_valid path (s ++ b ∷ []) bytes list (All-push IsByte s b small (All-head IsByte b bytes rest)) (All-push (IsNoSlash File) s b whole other) (All-tail IsByte b bytes rest))
    ]

abbrev pub IsGoodPath : List ℕ → Type 0
IsGoodPath path = IsSegmentList File path × (0 < length path)

path_valid : (bytes : List ℕ) → All IsByte bytes → IsGoodPath (parse_path File [] bytes)
path_valid bytes small = segments_valid [] [] bytes (no_segments File) (All-nil IsByte) (All-nil (IsNoSlash File)) small

start_valid : (bytes : List ℕ) → All IsByte bytes → IsGoodPath (parse_path_start File [] bytes)
unfolding parse_path_start
start_valid bytes small =
    subst IsGoodPath (sym (cond-false _ _ _ (and_right (is_empty bytes) false refl)))
    (cond_both (is_slash File (get_or bytes 0 0)) (parse_path File [] (drop 1 bytes)) (parse_path File [] bytes) IsGoodPath
    (λ slash. path_valid (drop 1 bytes) (All-drop IsByte 1 bytes small)) (λ other. path_valid bytes small))

-- ---- the body of a URL with the scheme `file`

record IsFileBody (u : Parts) : Type 0 where
  host : Host (List ℕ)
  path : List ℕ
  is : u ≡ with_path (file_with_host host) path
  good : IsGoodPath path

behind_slashes : (bytes : List ℕ) (u : Parts) → All IsByte bytes → after_file_double_slash bytes ≡ Ok u → IsFileBody u
unfolding after_file_double_slash
behind_slashes bytes u small is =
    let len = segment_len File bytes in
    elim (cases_Bool (is_windows_drive_letter (take len bytes))) [
      | inl drive ↦
          let there = rw drive at is in
          record { host = Domain []; path = parse_path File [] bytes; is = sym (same_Ok _ u there); good = path_valid bytes small }
      | inr other ↦
          let read = from_ok (parse_file_host (take len bytes)) (λ host. Ok (with_path (file_with_host host) (parse_path_start File [] (drop len bytes)))) u (rw other at is) in
          record { host = read.0; path = parse_path_start File [] (drop len bytes); is = sym (same_Ok _ u read.2); good = start_valid (drop len bytes) (All-drop IsByte len bytes small) }
    ]

file_body : (body : List ℕ) (u : Parts) → All IsByte body → parse_file None body ≡ Ok u → IsFileBody u
unfolding parse_file
file_body body u small is =
    let slashes = leading_slashes File body in
    let rest = All-drop IsByte slashes body small in
    elim (cases_Bool (slashes == 2)) [
      | inl two ↦ behind_slashes (drop slashes body) u rest (rw two at is)
      | inr other ↦ record { host = Domain []; path = parse_path File [] (drop slashes body); is = sym (same_Ok _ u (rw other at is)); good = path_valid (drop slashes body) rest }
    ]

no_host : (host : Host (List ℕ)) → is_empty_host host ≡ true → host ≡ Domain []
no_host (Domain domain) empty = ap Domain (is_empty-nil domain empty)
no_host (Ipv4 address) empty = cc (empty)
no_host (Ipv6 address) empty = cc (empty)

pub bare_is_valid : (path : List ℕ) → IsGoodPath path → (let u = with_path (file_with_host (Domain [])) path in IsValidHead u × IsValidPath u)
bare_is_valid path good =
    let head = valid_with_authority (codes "file") [] [] (Domain []) None IsScheme_file (subst (λ k. IsHostOf k (Domain [])) (sym scheme_type_file) empty_domain) tt (λ _. (refl, refl, refl)) in (
      IsValidHead_same (file_with_host (Domain [])) (with_path (file_with_host (Domain [])) path) refl head,
      inl (subst (λ k. IsSegmentList k path) (sym scheme_type_file) good.0, λ special. good.1),
    )

body_is_valid : (u : Parts) → IsFileBody u → has_host u ≡ false → IsValidHead u × IsValidPath u
body_is_valid u is none =
    let empty : is_empty_host is.host ≡ true = turned (is_empty_host is.host) (ap has_host (sym is.is) ∙ none) in
    let bare : u ≡ with_path (file_with_host (Domain [])) is.path = is.is ∙ ap (λ h. with_path (file_with_host h) is.path) (no_host is.host empty) in
    subst (λ v. IsValidHead v × IsValidPath v) (sym bare) (bare_is_valid is.path is.good)
  where
    turned : (b : Bool) → not b ≡ false → b ≡ true
    turned true h = refl
    turned false h = cc (h)

-- ---- a body of another scheme keeps it

authority_scheme : (scheme bytes : List ℕ) (u : Parts) → parse_authority scheme bytes ≡ Ok u → u.scheme ≡ scheme
unfolding parse_authority
authority_scheme scheme bytes u is =
    let at = rsplit_once 64 bytes in
    let host_port = split_port at.1 in
    elim (cases_Bool (lacks_host at.0 host_port.0 host_port.1)) [
      | inl lacks ↦ absurd (no_Err EmptyHost u (rw lacks at is))
      | inr has ↦
          let userinfo = split_once 58 (unwrap_or at.0 []) in
          let made = λ (host : Host (List ℕ)) (port : Option ℕ). with_authority scheme userinfo.0 (unwrap_or userinfo.1 []) host port in
          let host = from_ok (parse_host (scheme_type scheme) host_port.0) (λ host. and_then (parse_port scheme (unwrap_or host_port.1 [])) (λ port. Ok (made host port))) u (rw has at is) in
          let port = from_ok (parse_port scheme (unwrap_or host_port.1 [])) (λ port. Ok (made host.0 port)) u host.2 in
          ap (λ (v : Parts). v.scheme) (sym {a = made host.0 port.0} (same_Ok (made host.0 port.0) u port.2))
    ]

double_scheme : (scheme bytes : List ℕ) (u : Parts) → after_double_slash scheme bytes ≡ Ok u → u.scheme ≡ scheme
unfolding after_double_slash
double_scheme scheme bytes u is =
    let kind = scheme_type scheme in
    let len = segment_len kind bytes in
    let read = from_ok (parse_authority scheme (take len bytes)) (λ head. Ok (with_path head (parse_path_start kind [] (drop len bytes)))) u is in
    ap (λ (v : Parts). v.scheme) (sym (same_Ok _ u read.2)) ∙ authority_scheme scheme (take len bytes) read.0 read.1

non_special_scheme : (scheme body : List ℕ) (u : Parts) → parse_non_special scheme body ≡ Ok u → u.scheme ≡ scheme
unfolding parse_non_special
non_special_scheme scheme body u is =
    let slashes = leading_slashes NotSpecial body in
    elim (cases_Bool (slashes == 2)) [
      | inl two ↦ double_scheme scheme (drop 2 body) u (rw two at is)
      | inr other ↦
          let rest = rw other at is in
          elim (cases_Bool (slashes == 1)) [
            | inl one ↦ ap (λ (v : Parts). v.scheme) (sym (same_Ok _ u (rw one at rest)))
            | inr none ↦ ap (λ (v : Parts). v.scheme) (sym (same_Ok _ u (rw none at rest)))
          ]
    ]

not_file_scheme : (scheme body : List ℕ) (u : Parts) → parse_not_file scheme None body ≡ Ok u → u.scheme ≡ scheme
not_file_scheme scheme body u is =
    elim (cases_Bool (is_special (scheme_type scheme))) [
      | inl special ↦ double_scheme scheme _ u (rw special at is)
      | inr other ↦ non_special_scheme scheme body u (rw other at is)
    ]

-- ---- the whole

whole_body : (scheme body : List ℕ) (u : Parts) → All IsByte body → parse_body scheme None body ≡ Ok u → u.scheme ≡ codes "file" → has_host u ≡ false → IsValidHead u × IsValidPath u
unfolding parse_body
whole_body scheme body u small is named none =
    elim (cases_Bool (is_file (scheme_type scheme))) [
      | inl file ↦ body_is_valid u (file_body body u small (rw file at is)) none
      | inr other ↦
          let same : scheme ≡ codes "file" = sym (not_file_scheme scheme body u (rw other at is)) ∙ named in
          absurd (true≢false (sym (ap (λ t. is_file (scheme_type t)) same ∙ ap is_file scheme_type_file) ∙ other))
    ]

-- what stands behind the path changes neither scheme nor host
before_keeps : (u : Parts) (query fragment : Option (List ℕ)) → (let v = before_tail u query fragment in (v.scheme ≡ u.scheme) × (has_host v ≡ has_host u))
before_keeps u query fragment =
    cond_both (not (is_special (kind_of u)) && (is_some query || is_some fragment)) (with_path u (escape_end u.path)) u (λ (v : Parts). (v.scheme ≡ u.scheme) × (has_host v ≡ has_host u))
    (λ tail. (refl, refl)) (λ none. (refl, refl))

whole_url : (scheme body : List ℕ) (query fragment : Option (List ℕ)) (url : Parts) → All IsByte body → parse_parts scheme None body query fragment ≡ Ok url → url.scheme ≡ codes "file" → has_host url ≡ false → IsValid url
unfolding parse_parts
whole_url scheme body query fragment url small is named none =
    let read = from_ok (parse_body scheme None body) (λ u. Ok (with_tail (before_tail u query fragment) query fragment)) url is in
    let u = read.0 in
    let made : with_tail (before_tail u query fragment) query fragment ≡ url = same_Ok _ url read.2 in
    let kept = before_keeps u query fragment in
    let scheme_is : u.scheme ≡ codes "file" = sym kept.0 ∙ ap (λ (v : Parts). v.scheme) made ∙ named in
    let bare : has_host u ≡ false = sym kept.1 ∙ ap has_host made ∙ none in
    let valid = whole_body scheme body u small read.1 scheme_is bare in
    let before : before_tail u query fragment ≡ u = before_special u query fragment (ap (λ t. is_special (scheme_type t)) scheme_is ∙ ap is_special scheme_type_file) in
    subst IsValid (ap (λ v. with_tail v query fragment) (sym before) ∙ made) (IsValid-with_tail u query fragment valid.0 valid.1)

by_scheme : (split : Option (List ℕ × List ℕ)) (body : List ℕ) (query fragment : Option (List ℕ)) (url : Parts) → IfSome split (λ s. All IsByte s.1) → parse_by_scheme split None body query fragment ≡ Ok url
    → url.scheme ≡ codes "file" → has_host url ≡ false → IsValid url
by_scheme None body query fragment url small is named none = cc (is)
by_scheme (Some split) body query fragment url small is named none = whole_url (lowercase split.0) split.1 query fragment url small is named none

-- ---- the parts of bytes are bytes

front_of_split : (separator : ℕ) (xs : List ℕ) → All IsByte xs → All IsByte (split_once separator xs).0
unfolding split_once
front_of_split separator [] small = small
front_of_split separator (x ∷ xs) small =
    elim (cases_Bool (x == separator)) [
      | inl found ↦ rw found (All-nil IsByte)
      | inr other ↦ rw other (All-cons IsByte x (split_once separator xs).0 (All-head IsByte x xs small) (front_of_split separator xs (All-tail IsByte x xs small)))
    ]

behind_scheme : (bytes : List ℕ) → All IsByte bytes → IfSome (split_scheme bytes) (λ s. All IsByte s.1)
unfolding split_scheme
behind_scheme bytes small =
    let len = scheme_len bytes in
    cond_both (nat_lt 0 len && (get_or bytes len 0 == 58)) (Some (take len bytes, drop (len + 1) bytes)) None (λ split. IfSome split (λ s. All IsByte s.1)) (λ found. All-drop IsByte (len + 1) bytes small) (λ none. tt)

cleaned : (text : List ℕ) → All IsByte text → All IsByte (strip_tabs_and_new_lines (trim_c0_control_and_space text))
unfolding strip_tabs_and_new_lines trim_c0_control_and_space
cleaned text small =
    let from = trim_start is_c0_control_or_space text in
    let first = All-drop IsByte (prefix_len is_c0_control_or_space text) text small in
    let n = length from - suffix_len is_c0_control_or_space from in
    All-filter (λ b. not (is_tab_or_new_line b)) IsByte (take n from) (All-take IsByte n from first)

pub parsed_url : {E : Type 0} (r : Result Parts E) (url : Parts) → result_ok r ≡ Some url → r ≡ Ok url
parsed_url (Ok x) url is = ap Ok (same_Some x url is)
parsed_url (Err e) url is = cc (is)

-- the URL of a text that is a root's is valid
pub root_is_valid : (text : List ℕ) (url : Parts) → All IsByte text → url_of text ≡ Some url → is_root url ≡ true → IsValid url
unfolding parse_url
root_is_valid text url small is root =
    let hash = split_once 35 (strip_tabs_and_new_lines (trim_c0_control_and_space text)) in
    let question = split_once 63 hash.0 in
    let bytes = front_of_split 63 hash.0 (front_of_split 35 _ (cleaned text small)) in
    let local = and_parts _ _ (and_parts _ _ (and_parts _ _ (and_parts _ _ root).0).0).0 in
    by_scheme (split_scheme question.0) question.0 question.1 hash.1 url (behind_scheme question.0 bytes) (parsed_url (parse_url None text) url is)
    ((bytes_eq-Decides url.scheme (codes "file")).0 local.0) (turned (has_host url) local.1)
  where
    turned : (b : Bool) → not b ≡ true → b ≡ false
    turned false h = refl
    turned true h = cc (h)
