-- One more order of a serial execution of the code's plain machine.
use Rattle.image_load.specs.Contents.{started}
use Rattle.std.proofs.Common.{ℕ, ◌≡◌, ◌+◌, ◌<◌, ◌≤◌, true, List, [], ◌∷◌, ◌++◌, Option, Some, None, IsSomeAnd, map, take, length, get_or}
use Rattle.std.proofs.Common.{nat_lt, refl, add-one, ◌∙◌}
use Rattle.std.proofs.Math.Seq.{take-suc}
use Rattle.std.proofs.lemmas.Bool.{lt-ltb}
use Rattle.std.proofs.lemmas.List.{map-append}
use Rattle.std.proofs.lemmas.Option.{slice_get-get_or}
use Rattle.rv_code.specs.Machine.{program}
use Rattle.rv_plain.specs.PlainState.{PlainState, plain_of, order_of, transaction_of, serial_of, Did}
use Rattle.rv_plain.specs.Serials.{tid_before, IsSerialFault}
use Rattle.rv_plain.specs.declared.plain.Done.{Done}
use Rattle.rv_plain.specs.declared.plain.Order.{Order as CodeOrder}
use Rattle.rv_plain.specs.declared.plain.SerialFault.TheVariants.{NotRising, NotEnding}
use Rattle.tcc_base.specs.declared.access.Commit.{Commit}
use Rattle.rules_program.proofs.Lemmas.{serial-append, serial-snoc, last_tid-snoc}
use Rattle.rules_program.specs.Orders.{last_tid}
use Rattle.rules_program.specs.Plain.{Plain, Attempt, Order, transaction, commit_of, serial}
use Rattle.rules_program.specs.Program.{Program}

abbrev pub no_order : CodeOrder
no_order = record { tid = record { 0 = 0 }; core = record { 0 = 0 }; n = 0 }

abbrev pub commit : CodeOrder → Done → Commit
commit o d = record { tid = o.tid; core = o.core; n = o.n; loads = d.loads; stores = d.stores; console = d.console }

orders-next : (orders : List CodeOrder) (i : ℕ) → i < length orders
    → map order_of (take (i + 1) orders) ≡ map order_of (take i orders) ++ order_of (get_or orders i no_order) ∷ []
orders-next orders i lt =
    rw (add-one i, take-suc orders i no_order lt) (map-append order_of (take i orders) (get_or orders i no_order ∷ []))

pub tid_before-next : (last : ℕ) (orders : List CodeOrder) (i : ℕ) → i < length orders
    → tid_before last orders (i + 1) ≡ (get_or orders i no_order).tid.0
tid_before-next last orders i lt =
    rw (orders-next orders i lt) (last_tid-snoc last (map order_of (take i orders)) (order_of (get_or orders i no_order)))

-- one more order that isn't a transaction
serial-none : (base : ℕ) (p : Program) (last : ℕ) (os : List Order) (o : Order) (m : Plain) (r : Plain × List Commit)
    → serial base p last os m ≡ Some r → nat_lt (last_tid last os) o.tid ≡ true → transaction base p r.0 o.core o.n ≡ None
    → serial base p last (os ++ o ∷ []) m ≡ None
unfolding serial
serial-none base p last os o m r is rises none = serial-append base p last os (o ∷ []) m ∙ rw (is, rises, none) refl

-- one more order that is one
serial-done : (base : ℕ) (p : Program) (last : ℕ) (os : List Order) (o : CodeOrder) (m mid after : Plain) (commits : List Commit) (d : Done)
    → serial base p last os m ≡ Some (mid, commits) → nat_lt (last_tid last os) o.tid.0 ≡ true
    → IsSomeAnd (transaction base p mid o.core.0 o.n) (λ r.
    (after ≡ r.0) × (d.loads ≡ r.1.loads) × (d.stores ≡ r.1.stores) × (d.console ≡ r.1.console))
    → serial base p last (os ++ order_of o ∷ []) m ≡ Some (after, commits ++ commit o d ∷ [])
unfolding commit_of
serial-done base p last os o m mid after commits d is rises did = go (transaction base p mid o.core.0 o.n) refl did
  where
    go : (t : Option (Plain × Attempt)) → transaction base p mid o.core.0 o.n ≡ t
        → IsSomeAnd t (λ r. (after ≡ r.0) × (d.loads ≡ r.1.loads) × (d.stores ≡ r.1.stores) × (d.console ≡ r.1.console))
        → serial base p last (os ++ order_of o ∷ []) m ≡ Some (after, commits ++ commit o d ∷ [])
    go None e h = absurd h
    go (Some r) e h =
        rw (h.0, h.1, h.2, h.3) (serial-snoc base p last os (order_of o) m (mid, commits) r is rises e)

pub executed-next : (s mid after : PlainState) (last : ℕ) (orders : List CodeOrder) (i : ℕ) (commits : List Commit) (d : Done)
    → i < length orders → serial_of s last (take i orders) ≡ Some (plain_of mid, commits) → mid.loaded ≡ s.loaded
    → tid_before last orders i < (get_or orders i no_order).tid.0
    → Did mid (get_or orders i no_order).core.0 (get_or orders i no_order).n after d
    → serial_of s last (take (i + 1) orders) ≡ Some (plain_of after, commits ++ commit (get_or orders i no_order) d ∷ [])
unfolding plain_of
executed-next s mid after last orders i commits d lt is same rises did =
    rw (orders-next orders i lt) (
    serial-done s.loaded.settings.base (program (started s.loaded)) last (map order_of (take i orders))
    (get_or orders i no_order) (plain_of s) (plain_of mid) (plain_of after) commits d is (lt-ltb _ _ rises)
    (rw same at did)
    )

pub none-next : (s mid : PlainState) (last : ℕ) (orders : List CodeOrder) (i : ℕ) (commits : List Commit)
    → i < length orders → serial_of s last (take i orders) ≡ Some (plain_of mid, commits) → mid.loaded ≡ s.loaded
    → tid_before last orders i < (get_or orders i no_order).tid.0
    → transaction_of mid (get_or orders i no_order).core.0 (get_or orders i no_order).n ≡ None
    → IsSerialFault s last orders (NotEnding i)
unfolding plain_of
none-next s mid last orders i commits lt is same rises none = (
  rw is refl,
  rw (slice_get-get_or orders i no_order lt) rises,
  rw (orders-next orders i lt) (
      serial-none s.loaded.settings.base (program (started s.loaded)) last (map order_of (take i orders))
      (order_of (get_or orders i no_order)) (plain_of s) (plain_of mid, commits) is (lt-ltb _ _ rises) (rw same at none)
      ),
)

pub not_rising : (s mid : PlainState) (last : ℕ) (orders : List CodeOrder) (i : ℕ) (commits : List Commit)
    → i < length orders → serial_of s last (take i orders) ≡ Some (plain_of mid, commits)
    → (get_or orders i no_order).tid.0 ≤ tid_before last orders i → IsSerialFault s last orders (NotRising i)
not_rising s mid last orders i commits lt is h = (rw is refl, rw (slice_get-get_or orders i no_order lt) h)
