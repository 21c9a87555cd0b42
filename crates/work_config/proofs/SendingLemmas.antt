-- A prefix of what is to be sent.
use Rattle.std.proofs.Common.{◌≡◌, ℕ, ◌+◌, ◌≤◌, List, ◌++◌, take, length, refl, ap, ◌∙◌, arith, length-append, Option}
use Rattle.std.specs.Io.KnownBytes.{Appends}
use Rattle.std.proofs.KnownBytes.{Appends-trans, Appends-nil}
use Rattle.std.proofs.Math.Seq.{take-append-add}
use Rattle.std.proofs.lemmas.List.{take-append-le, take_at}
use Rattle.work_config.specs.Sending.{SendsPrefix}

-- what went out is the front of all
pub front-of : (v w : Option (List ℕ)) (sent more all : List ℕ) → all ≡ sent ++ more → Appends v w sent → SendsPrefix v w all
front-of v w sent more all is s = (length sent, omega (arith, ap length is, length-append sent more), rw (is, take_at sent more (length sent) refl) s)

pub nothing_sent : (v : Option (List ℕ)) (all : List ℕ) → SendsPrefix v v all
nothing_sent v all = (0, omega arith, Appends-nil v)

-- a front of a part, behind what went out before
pub front-behind : (v w x : Option (List ℕ)) (sent part more all : List ℕ) → all ≡ sent ++ (part ++ more) → Appends v w sent → SendsPrefix w x part → SendsPrefix v x all
front-behind v w x sent part more all is s p =
    let cut : take (length sent + p.0) all ≡ sent ++ take p.0 part = ap (take (length sent + p.0)) is ∙ take-append-add sent (part ++ more) p.0 ∙ ap (λ l. sent ++ l) (take-append-le p.0 part more p.1) in
    (length sent + p.0, omega (arith, ap length is, length-append sent (part ++ more), length-append part more, p.1), rw cut (Appends-trans v w x sent (take p.0 part) s p.2))
