-- The digits of a number, as an order's line writes it.
use Rattle.std.proofs.Common.{◌≡◌, ℕ, ◌<◌, ◌^◌, All, eqb, false, get_or, arith, ne_eqb}
use Rattle.std.specs.Fmt.{decimal}
use Rattle.row_text.proofs.Lemmas.{decimal-above}

-- no digit is a space
pub decimal-no-space : (n : ℕ) → n < 2 ^ 64 → All (λ x. eqb x 32 ≡ false) (decimal n)
decimal-no-space n small k e lt =
    let above : 32 < get_or (decimal n) k e = decimal-above n small k e lt in
    ne_eqb (get_or (decimal n) k e) 32 (λ h. omega arith)
