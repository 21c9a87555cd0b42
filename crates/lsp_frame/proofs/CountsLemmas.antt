-- Counts over several calls.
use Rattle.std.proofs.Common.{ℕ, ◌≤◌, inl, inr, arith}
use Rattle.lsp_frame.specs.Counts.{NoneFell, RoseBy, HasFailed, max_interruptions}
use Rattle.lsp_frame.specs.declared.counts.Counts.{Counts}

pub NoneFell-refl : (a : Counts) → NoneFell a a
NoneFell-refl a = record { errors = omega arith; interruptions = omega arith }

pub NoneFell-trans : {a b c : Counts} → NoneFell a b → NoneFell b c → NoneFell a c
NoneFell-trans p q = record { errors = omega (arith, p.errors, q.errors); interruptions = omega (arith, p.interruptions, q.interruptions) }

RoseBy-before : (n a b c : ℕ) → a ≤ b → RoseBy n b c → RoseBy n a c
RoseBy-before n a b c le h = elim h [ inl rose ↦ inl (omega (arith, le, rose)) | inr most ↦ inr most ]

-- a failure after other calls
pub HasFailed-after : {a b c : Counts} → NoneFell a b → HasFailed b c → HasFailed a c
HasFailed-after {a} {b} {c} p h = elim h [
  | inl errors ↦ inl (RoseBy-before 1 a.errors b.errors c.errors p.errors errors)
  | inr interruptions ↦ inr (RoseBy-before max_interruptions a.interruptions b.interruptions c.interruptions p.interruptions interruptions.0, interruptions.1)
]
