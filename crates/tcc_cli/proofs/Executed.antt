-- A list that is executed, and why it isn't.
use Rattle.std.proofs.Common.{◌≡◌, ℕ, List, inl, inr, sym, subst}
use Rattle.image_load.specs.Contents.{Contents, started}
use Rattle.image_load.specs.Start.{Start}
use Rattle.schedule_text.specs.declared.fault.TextFault.{TextFault}
use Rattle.schedule_text.specs.declared.fault.TextFault.TheVariants.{Line, Memory}
use Rattle.serial_tool.specs.Lists.{IsFirstFault, IsList, IsReadFault}
use Rattle.serial_tool.specs.Runs.{IsRunFault}
use Rattle.serial_tool.specs.declared.reading.Listed.{Listed}
use Rattle.tcc_cli.specs.Failing.{IsListRefused, text_refusal}
use Rattle.tcc_cli.specs.Lists.{AreRefused}
use Rattle.tcc_cli.specs.declared.refusal.Refusal.{Refusal}
use Rattle.tcc_cli.specs.declared.refusal.Refusal.TheVariants as why

pub list-unread : (l : Contents) (cores : ℕ) (bytes : List ℕ) (f : TextFault) (r : Refusal) → cores ≡ l.settings.cores
    → IsReadFault cores bytes f
    → r ≡ text_refusal f → IsListRefused (started l) bytes r
unfolding started
list-unread l cores bytes (Line k) r same h is =
    subst (IsListRefused (started l) bytes) (sym is) (inl (subst (λ n. IsFirstFault n bytes k) same h))
list-unread l cores bytes Memory r same h is = subst (IsListRefused (started l) bytes) (sym is) tt

pub list-read : (l : Contents) (cores : ℕ) (bytes : List ℕ) (orders there : List Listed) → cores ≡ l.settings.cores
    → IsList cores bytes orders
    → there ≡ orders → IsList (started l).settings.cores bytes there
unfolding started
list-read l cores bytes orders there same h is =
    subst (λ os. IsList l.settings.cores bytes os) (sym is) (subst (λ n. IsList n bytes orders) same h)

-- the first of some orders can't be executed, or memory ran out
pub orders-stuck : (s : Start) (orders : List Listed) (f : TextFault) (r : Refusal) → IsRunFault s orders f → r ≡ text_refusal f
    → AreRefused s orders r
orders-stuck s orders (Line k) r stuck is = subst (AreRefused s orders) (sym is) stuck
orders-stuck s orders Memory r stuck is = subst (AreRefused s orders) (sym is) tt

-- and they are those of the list
pub list-stuck : (l : Contents) (cores : ℕ) (bytes : List ℕ) (orders there : List Listed) (r : Refusal) → cores ≡ l.settings.cores
    → IsList cores bytes orders → there ≡ orders → AreRefused (started l) there r → IsListRefused (started l) bytes r
list-stuck l cores bytes orders there (why.Schedule line) same h is stuck =
    inr (there, list-read l cores bytes orders there same h is, stuck)
list-stuck l cores bytes orders there why.Memory same h is stuck = tt
list-stuck l cores bytes orders there why.Words same h is stuck = stuck
list-stuck l cores bytes orders there (why.Value field) same h is stuck = stuck
list-stuck l cores bytes orders there (why.Image fault) same h is stuck = stuck
list-stuck l cores bytes orders there (why.Store name) same h is stuck = stuck
list-stuck l cores bytes orders there why.Output same h is stuck = stuck
