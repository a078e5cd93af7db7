-- What the loop over the numbered lines of some bytes takes at each turn, and what it has taken at its end.
use Rattle.std.proofs.Common.{◌≡◌, ℕ, Bool, false, eqb, List, Option, Some, None, Bor, length}
use Rattle.std.specs.Fn.{CalledAt}
use Rattle.std.specs.Iterator.{Yields}
use Rattle.std.specs.Iterator.Adapters.{enumerate_count, enumerate_source, enumerate_steps}
use Rattle.std.specs.List.{enumerate_from}
use Rattle.std.specs.Slice.Iter as slice
use Rattle.std.proofs.lemmas.Iterator.Consumers.{YieldsList-at, YieldsList-end, YieldsList-from_enumerate, YieldsList-turn}
use Rattle.std.proofs.lemmas.Iterator.Splits.{YieldsList-from_slice_split}
use Rattle.serial_tool.specs.Lists.{lines_of}
use Rattle.serial_tool.proofs.Listing.{IsNext}
use denote.Param.Members.{Mut}

-- the closure is true at a line feed alone
abbrev pub FindsLines : {F : Type 0} → Mut F (Bor ℕ × Unit {0}) Bool → F → Type 0
FindsLines {F} g f = (y : ℕ) (b : Bool) (q : F) → CalledAt g f y b q → (q ≡ f) × (b ≡ eqb y 10)

pub next-line : {F : Type 0} {g : Mut F (Bor ℕ × Unit {0}) Bool} {f : F} {s e : _} {sp : _} (bytes : List ℕ)
    (xs : List (ℕ × Bor (List ℕ))) (t : _) → Yields (enumerate_steps (slice.split_steps g)) s xs t
    → (r : Option (ℕ × Bor (List ℕ))) (u : _) (x : ℕ × Bor (List ℕ)) → r ≡ Some x → enumerate_steps (slice.split_steps g) t r u
    → s ≡ e → enumerate_source e ≡ sp → enumerate_count e ≡ 0
    → slice.split_rest sp ≡ bytes → slice.split_done sp ≡ false → slice.split_callee sp ≡ f → FindsLines g f
    → IsNext bytes (length xs) (x.0, x.1.now)
next-line {g = g} {f = f} bytes xs t y r u x is step into source count rest done closure law =
    let lines = YieldsList-from_slice_split g (λ b. eqb b 10) {f = f} bytes rest done closure law in
    let road = YieldsList-at into (YieldsList-from_enumerate (YieldsList-at source lines) count) in
    YieldsList-turn road xs t y r u x is step

pub last-line : {F : Type 0} {g : Mut F (Bor ℕ × Unit {0}) Bool} {f : F} {s e : _} {sp : _} (bytes : List ℕ)
    (xs : List (ℕ × Bor (List ℕ))) (t : _) → Yields (enumerate_steps (slice.split_steps g)) s xs t
    → (r : Option (ℕ × Bor (List ℕ))) (u : _) → r ≡ None → enumerate_steps (slice.split_steps g) t r u
    → s ≡ e → enumerate_source e ≡ sp → enumerate_count e ≡ 0
    → slice.split_rest sp ≡ bytes → slice.split_done sp ≡ false → slice.split_callee sp ≡ f → FindsLines g f
    → length xs ≡ length (enumerate_from 0 (lines_of bytes))
last-line {g = g} {f = f} bytes xs t y r u is step into source count rest done closure law =
    let lines = YieldsList-from_slice_split g (λ b. eqb b 10) {f = f} bytes rest done closure law in
    let road = YieldsList-at into (YieldsList-from_enumerate (YieldsList-at source lines) count) in
    (YieldsList-end road xs t y r u is step).1
