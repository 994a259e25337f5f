-- Any two results that `fcode_screen` may hand back and leave are equal: the contract is a relation and no equation. Assumes nothing.
use Rattle.std.specs.Prelude.{ℕ, ◌≡◌, List}
use Rattle.std.proofs.Common.{sym, ap, ◌∙◌}
use Rattle.screen.proofs.Exact.Exactly.{one_result}
use Rattle.host.specs.Host.{HostScreened}
use Rattle.screen.specs.Promise.{verdict_number}

pub one_screened : {rom before after after' : List ℕ} {number number' : ℕ} → HostScreened rom before number after
    → HostScreened rom before number' after' → (number ≡ number') × (after ≡ after')
one_screened (v, e, p) (w, f, q) = let k = one_result p q in (e ∙ ap verdict_number k.0 ∙ sym f, k.1)
