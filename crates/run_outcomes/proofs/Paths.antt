-- The transactions that led to a state are a serial execution from the start to it.
use Rattle.std.proofs.Common.{ℕ, ◌≡◌, ◌+◌, ◌<◌, List, [], ◌∷◌, ◌++◌, reverse, Option, Some, None, IsSomeAnd, refl, sym, ◌∙◌, ap}
use Rattle.std.proofs.Common.{subst, true, false, nat_lt, length, map, drop, add-zero, ◌-◌, ◌≤◌, ◌==◌, zero, suc, Result, Ok, Err, IfOk}
use Rattle.std.proofs.Common.{Bool, if◌then◌else◌, arith}
use Rattle.std.proofs.lemmas.List.{reverse-append, length-reverse, length-drop, drop_more, map-append}
use Rattle.std.proofs.lemmas.Bool.Decides.{nat_tests}
use Rattle.image_load.specs.Contents.{Contents, started}
use Rattle.run_outcomes.specs.Explored.{AreFound, AreLed, IsWay, state_at, way_at, no_way}
use Rattle.run_outcomes.specs.States.{machine_of}
use Rattle.run_outcomes.specs.Ways.{LeadFrom, back_from, orders_from, orders_to}
use Rattle.run_outcomes.specs.declared.search.Way.{Way}
use Rattle.run_outcomes.specs.declared.states.Snapshot.{Snapshot}
use Rattle.rv_code.specs.Machine.{program}
use Rattle.rv_plain.specs.Machine.{plain_start}
use Rattle.rv_plain.specs.PlainState.{order_of}
use Rattle.rv_plain.specs.declared.plain.Order.{Order as CodeOrder}
use Rattle.tcc_base.specs.declared.access.Commit.{Commit}
use Rattle.rules_program.proofs.Lemmas.{serial-snoc}
use Rattle.rules_program.specs.Orders.{last_tid}
use Rattle.rules_program.specs.Plain.{Plain, Attempt, Order, transaction, serial}
use Rattle.rules_program.specs.Program.{Program}

reverse-cons : (w : Way) (ws : List Way) → reverse (w ∷ ws) ≡ reverse ws ++ w ∷ []
reverse-cons w ws = reverse-append (w ∷ []) ws

abbrev order_at : (tid : ℕ) → Way → Order
order_at tid w = record { tid = tid; core = w.core.0; n = w.n }

pub orders_from-snoc : (t : ℕ) (ws : List Way) (w : Way)
    → orders_from t (ws ++ w ∷ []) ≡ orders_from t ws ++ record { tid = t + length ws; core = w.core.0; n = w.n } ∷ []
unfolding orders_from
orders_from-snoc t [] w = ap (λ n. order_at n w ∷ []) (sym (add-zero t))
orders_from-snoc t (x ∷ ws) w =
    let e : t + 1 + length ws ≡ t + length (x ∷ ws) = omega arith in
    ap (λ os. order_at t x ∷ os) (orders_from-snoc (t + 1) ws w
    ∙ ap (λ n. orders_from (t + 1) ws ++ order_at n w ∷ []) e)

last_tid-orders : (t : ℕ) (ws : List Way) → last_tid t (orders_from (t + 1) ws) ≡ t + length ws
unfolding orders_from
last_tid-orders t [] = omega arith
last_tid-orders t (x ∷ ws) =
    let e : t + 1 + length ws ≡ t + length (x ∷ ws) = omega arith in last_tid-orders (t + 1) ws ∙ e

pub lead-more : (ways : List Way) (from to : ℕ) (back : List Way) → 0 < from → LeadFrom ways from to back
    → LeadFrom ways (way_at ways from).from to (back ++ way_at ways from ∷ [])
lead-more ways from to [] positive h = (subst (λ k. 0 < k) h positive, ap (way_at ways) h, refl)
lead-more ways from to (w ∷ back) positive h = (h.0, h.1, lead-more ways from w.from back positive h.2)

-- one transaction more at the end of a serial execution
snoc-leads : (base : ℕ) (p : Program) (os : List Order) (o : Order) (start m to : Plain) (x : Option (Plain × List Commit))
    → serial base p 0 os start ≡ x → IsSomeAnd x (λ r. m ≡ r.0) → nat_lt (last_tid 0 os) o.tid ≡ true
    → (y : Option (Plain × Attempt)) → transaction base p m o.core o.n ≡ y → IsSomeAnd y (λ r. to ≡ r.0)
    → IsSomeAnd (serial base p 0 (os ++ o ∷ []) start) (λ r. to ≡ r.0)
snoc-leads base p os o start m to None e h rises y d g = absurd h
snoc-leads base p os o start m to (Some r) e h rises None d g = absurd g
snoc-leads base p os o start m to (Some r) e h rises (Some z) d g =
    let does : transaction base p r.0 o.core o.n ≡ Some z = subst (λ q. transaction base p q o.core o.n ≡ Some z) h d in
    rw (serial-snoc base p 0 os o start r z e rises does) g

pub path-leads : (l : Contents) (states : List Snapshot) (ways back : List Way) (to : ℕ) → AreFound l states → AreLed l states ways
    → to < length states → LeadFrom ways 0 to back
    → IsSomeAnd (serial l.settings.base (program (started l)) 0 (orders_from 1 (reverse back)) (plain_start (started l)))
    (λ r. machine_of l (state_at states to) ≡ r.0)
unfolding serial orders_from
path-leads l states ways [] to found led lt h =
    subst (λ k. machine_of l (state_at states k) ≡ plain_start (started l)) h found.first
path-leads l states ways (w ∷ back) to found led lt h =
    let base = l.settings.base in
    let p = program (started l) in
    let start = plain_start (started l) in
    let way : IsWay l states w to = subst (λ x. IsWay l states x to) (sym h.1) (led.led to h.0 lt) in
    let from : w.from < length states = omega (arith, way.before) in
    let os = orders_from 1 (reverse back) in
    let o = order_at (1 + length (reverse back)) w in
    let rises : nat_lt (last_tid 0 os) (1 + length (reverse back)) ≡ true =
    rw (last_tid-orders 0 (reverse back)) (grind (arith, nat_tests)) in
    rw (reverse-cons w back, orders_from-snoc 1 (reverse back) w)
    (snoc-leads base p os o start (machine_of l (state_at states w.from)) (machine_of l (state_at states to))
    (serial base p 0 os start) refl (path-leads l states ways back w.from found led from h.2) rises
    (transaction base p (machine_of l (state_at states w.from)) w.core.0 w.n) refl way.leads)

pub orders-step : (back : List Way) (orders : List CodeOrder) (k : ℕ) → 0 < k → k ≤ length back
    → map order_of orders ≡ orders_from 1 (reverse (drop k back))
    → map order_of (orders ++ record {
      tid = record { 0 = length back - (k - 1) };
      core = (way_at back (k - 1)).core;
      n = (way_at back (k - 1)).n;
    } ∷ []) ≡ orders_from 1 (reverse (drop (k - 1) back))
orders-step back orders k positive le is =
    let lt : k - 1 < length back = omega arith in
    let e : k - 1 + 1 ≡ k = omega arith in
    let w = way_at back (k - 1) in
    let o : CodeOrder = record { tid = record { 0 = length back - (k - 1) }; core = w.core; n = w.n } in
    let dropped : drop (k - 1) back ≡ w ∷ drop k back =
    drop_more back (k - 1) no_way lt ∙ ap (λ j. w ∷ drop j back) e in
    let count : 1 + length (reverse (drop k back)) ≡ length back - (k - 1) =
    omega (arith, length-reverse (drop k back), length-drop k back, positive, le) in
    map-append order_of orders (o ∷ [])
    ∙ ap (λ os. os ++ order_at (length back - (k - 1)) w ∷ []) is
    ∙ ap (λ n. orders_from 1 (reverse (drop k back)) ++ order_at n w ∷ []) (sym count)
    ∙ sym (orders_from-snoc 1 (reverse (drop k back)) w)
    ∙ ap (orders_from 1) (sym (reverse-cons w (drop k back)))
    ∙ ap (λ ws. orders_from 1 (reverse ws)) (sym dropped)

pub way-if : {E : Type 0} (l : Contents) (states : List Snapshot) (ways back : List Way) (to : ℕ) (r : Result (List CodeOrder) E)
    → AreFound l states × AreLed l states ways → to < length states → LeadFrom ways 0 to back
    → IfOk r (λ orders. map order_of orders ≡ orders_from 1 (reverse back))
    → IfOk r (λ orders. IsSomeAnd (serial l.settings.base (program (started l)) 0 (map order_of orders) (plain_start (started l)))
    (λ x. machine_of l (state_at states to) ≡ x.0))
way-if l states ways back to (Err e) known lt lead is = tt
way-if l states ways back to (Ok orders) known lt lead is =
    rw is (path-leads l states ways back to known.0 known.1 lt lead)

-- each transaction begins at a state before the one to which it leads
abbrev pub AreBefore : List Way → Type 0
AreBefore ways = (i : ℕ) → 0 < i → i < length ways → (way_at ways i).from < i

-- the transactions that lead to a state are just those by which it and those before it were found
pub back-only : (ways : List Way) (most k : ℕ) (back : List Way) → AreBefore ways → k < length ways → k ≤ most → LeadFrom ways 0 k back
    → back ≡ back_from ways most k
unfolding back_from
back-only ways zero k [] before inside few h = refl
back-only ways zero k (w ∷ back) before inside few h = absurd (let positive = h.0 in omega (arith, positive, few))
back-only ways (suc most) k [] before inside few h =
    let none : (k == 0) ≡ true = rw (← h) refl in
    rw none refl
back-only ways (suc most) k (w ∷ back) before inside few h =
    let some : (k == 0) ≡ false = let positive = h.0 in grind (arith, nat_tests, positive) in
    let earlier : w.from < k = subst (λ x. x.from < k) (sym h.1) (before k h.0 inside) in
    rw (some, ← h.1)
    (ap (λ ws. w ∷ ws) (back-only ways most w.from back before (omega (arith, earlier, inside)) (omega (arith, earlier, few)) h.2))

back-leads : (ways : List Way) (most k : ℕ) → AreBefore ways → k < length ways → k ≤ most → LeadFrom ways 0 k (back_from ways most k)
unfolding back_from
back-leads ways zero k before inside few = omega (arith, few)
back-leads ways (suc most) k before inside few =
    go (k == 0) refl
    (λ earlier. back-leads ways most (way_at ways k).from before (omega (arith, earlier, inside)) (omega (arith, earlier, few)))
  where
    go : (b : Bool) → (k == 0) ≡ b
        → ((way_at ways k).from < k → LeadFrom ways 0 (way_at ways k).from (back_from ways most (way_at ways k).from))
        → LeadFrom ways 0 k (if b then [] else way_at ways k ∷ back_from ways most (way_at ways k).from)
    go true e later = grind (arith, nat_tests, e)
    go false e later =
        let some : 0 < k = grind (arith, nat_tests, e) in (some, refl, later (before k some inside))

before-led : (l : Contents) (states : List Snapshot) (ways : List Way) → AreLed l states ways → AreBefore ways
before-led l states ways led i positive inside =
    (led.led i positive (subst (λ n. i < n) led.counted inside)).before

pub orders-if : {E : Type 0} (l : Contents) (states : List Snapshot) (ways back : List Way) (to : ℕ) (r : Result (List CodeOrder) E)
    → AreLed l states ways → to < length states → LeadFrom ways 0 to back
    → IfOk r (λ orders. map order_of orders ≡ orders_from 1 (reverse back))
    → IfOk r (λ orders. map order_of orders ≡ orders_to ways to)
orders-if l states ways back to (Err e) led lt lead is = tt
orders-if l states ways back to (Ok orders) led lt lead is =
    let inside : to < length ways = subst (λ n. to < n) (sym led.counted) lt in
    is ∙ ap (λ ws. orders_from 1 (reverse ws)) (back-only ways to to back (before-led l states ways led) inside (omega arith) lead)

-- the orders to a state lead there
pub orders_to-lead : (l : Contents) (states : List Snapshot) (ways : List Way) (to : ℕ) → AreFound l states → AreLed l states ways
    → to < length states
    → IsSomeAnd (serial l.settings.base (program (started l)) 0 (orders_to ways to) (plain_start (started l)))
    (λ r. machine_of l (state_at states to) ≡ r.0)
orders_to-lead l states ways to found led lt =
    let inside : to < length ways = subst (λ n. to < n) (sym led.counted) lt in
    path-leads l states ways (back_from ways to to) to found led lt
    (back-leads ways to to (before-led l states ways led) inside (omega arith))
