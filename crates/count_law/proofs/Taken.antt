-- What is told of a message that a core takes keeps what holds of its counts.
use Rattle.std.proofs.Common.{◌≡◌, ◌==◌, ◌<◌, ◌++◌, ℕ, Bool, true, false, not, List, [], ◌∷◌, Option, Some, None, IfSome, nat_lt, ◌&&◌}
use Rattle.std.proofs.Common.{if◌then◌else◌, refl, sym, subst, arith}
use Rattle.std.proofs.lemmas.Bool.Decides.{nat_tests}
use Rattle.tcc_base.specs.declared.access.Commit.{Commit as Noted}
use Rattle.base_lemmas.proofs.Lemmas.{eq-self}
use Rattle.rules_maps.specs.Nodes.{Node, Core, Msg, TidGrant, Inv}
use Rattle.rules_maps.specs.Shape.{Shape}
use Rattle.rules_tcc.specs.Attempt.{Out}
use Rattle.rules_tcc.specs.CoreDeliver.{core_deliver}
use Rattle.rules_tcc.specs.State.{CoreState, Phase, DoomedTid}
use Rattle.watch.specs.Facts.{Fact, Took, Dropped, Violated}
use Rattle.watch.specs.Messages.{taken, is_of_use, violated, grant_given_up, given_up, tid_in, committer, commit_of, words_read}
use Rattle.watch_count.specs.Tables.{core_after}
use Rattle.watch_count.specs.declared.tables.CoreCounts.{CoreCounts}
use Rattle.count_law.proofs.Delivered.{TakenOut, is_none, taken_well, deliver-stays}
use Rattle.count_law.proofs.Executed.{started, Started}
use Rattle.count_law.proofs.Kept.{Kept, violated-kept, all_leave, all-leave-kept, leave-append}
use Rattle.count_law.proofs.Rows.{fact_after, row_after, row_after-append}
use Rattle.count_law.proofs.Told.{Own, kept-at, own-counts, quiet-own}

pub kept-append : (a : Node) (j n x y : ℕ) (fs gs : List Fact) (k : CoreCounts)
    → Kept n x y (row_after a j gs (row_after a j fs k)) → Kept n x y (row_after a j (fs ++ gs) k)
kept-append a j n x y fs gs k h = subst (λ r. Kept n x y r) (sym (row_after-append a j fs gs k)) h

taken-leave : (j : ℕ) (src : Node) (m : Msg) (s : CoreState) → all_leave j (taken src m s) ≡ true
unfolding taken all_leave
taken-leave j src m s = go (is_of_use src m s)
  where
    go : (b : Bool) → all_leave j (if b then Took m ∷ [] else Dropped m ∷ []) ≡ true
    go true = refl
    go false = refl

grant-leaves : (c j : ℕ) (m : Msg) (q : Phase) → all_leave j (grant_given_up c m q) ≡ true
unfolding all_leave
grant-leaves c j (TidGrant t) DoomedTid = refl
grant-leaves c j _ _ = refl

given-up-leaves : (c j : ℕ) (t : Option ℕ) → all_leave j (given_up c t) ≡ true
unfolding all_leave
given-up-leaves c j None = refl
given-up-leaves c j (Some t) = refl

violated-others : (c j : ℕ) (cs : List Noted) (m : Msg) (s t : CoreState) → not (c == j) ≡ true → all_leave j (violated c cs m s t) ≡ true
unfolding all_leave
violated-others c j cs (Inv l w u) s t o = go (nat_lt 0 s.n && t.n == 0)
  where
    lost : Fact
    lost = Violated c (committer (commit_of u cs)) u l (words_read l w s) s.n s.phase

    go : (b : Bool) → all_leave j (if b then lost ∷ given_up c (tid_in s.phase) else []) ≡ true
    go true = let rest = given-up-leaves c j (tid_in s.phase) in grind (arith, nat_tests, o, rest)
    go false = refl
violated-others c j cs _ s t o = refl

-- an attempt that was undone is lost, and else the core has as many instructions
violated-told : (c x y : ℕ) (cs : List Noted) (m : Msg) (s t : CoreState) (o : Option Noted) (k : CoreCounts)
    → taken_well m s.n t.n t.phase o ≡ true → Kept s.n x y k → Kept t.n x y (row_after (Core c) c (violated c cs m s t) k)
unfolding row_after
violated-told c x y cs (Inv l w u) s t o k e h = go (nat_lt 0 s.n && t.n == 0) refl
  where
    lost : Fact
    lost = Violated c (committer (commit_of u cs)) u l (words_read l w s) s.n s.phase

    go : (b : Bool) → (nat_lt 0 s.n && t.n == 0) ≡ b
        → Kept t.n x y (row_after (Core c) c (if b then lost ∷ given_up c (tid_in s.phase) else []) k)
    go true f =
        let some : 0 < s.n = grind (arith, nat_tests, f) in
        let none : 0 ≡ t.n = grind (arith, nat_tests, f) in
        let ended = violated-kept s.n x y c (committer (commit_of u cs)) u l (words_read l w s) s.phase k some h in
        all-leave-kept (Core c) c t.n x y (given_up c (tid_in s.phase)) (fact_after (Core c) c lost k)
        (given-up-leaves c c (tid_in s.phase))
        (own-counts t.n x y lost k (c == c) (eq-self c) (kept-at 0 t.n x x y y (core_after lost k) none refl refl ended))
    go false f =
        let all : s.n ≡ t.n = grind (arith, nat_tests, e, f) in kept-at s.n t.n x x y y k all refl refl h
violated-told c x y cs _ s t o k e h =
    let all : s.n ≡ t.n = grind (arith, nat_tests, e) in kept-at s.n t.n x x y y k all refl refl h

well-none : (m : Msg) (n n' : ℕ) (q : Phase) (o : Option Noted) → taken_well m n n' q o ≡ true → (is_none o && started q n') ≡ true
well-none (Inv l w u) n n' q o e = grind (arith, nat_tests, e)
well-none _ n n' q o e = grind (arith, nat_tests, e)

pub deliver-own : (sh : Shape) (c : ℕ) (cs : List Noted) (src : Node) (m : Msg) (s : CoreState) → Started s
    → IfSome (core_deliver sh s src m) (λ o. Own c s o (taken src m s ++ (violated c cs m s o.core ++ grant_given_up c m s.phase)))
deliver-own sh c cs src m s f = go (core_deliver sh s src m) (deliver-stays sh s src m f)
  where
    go : (o : Option Out) → TakenOut m s.n o
        → IfSome o (λ o. Own c s o (taken src m s ++ (violated c cs m s o.core ++ grant_given_up c m s.phase)))
    go None e = tt
    go (Some o) e =
        let well = well-none m s.n o.core.n o.core.phase o.commit e in
        let lost = violated c cs m s o.core in
        let last = grant_given_up c m s.phase in
        quiet-own c s o (taken src m s ++ (lost ++ last)) (grind (arith, nat_tests, well)) (grind (arith, nat_tests, well))
        (λ x y k h. kept-append (Core c) c o.core.n x y (taken src m s) (lost ++ last) k
        (kept-append (Core c) c o.core.n x y lost last (row_after (Core c) c (taken src m s) k)
        (all-leave-kept (Core c) c o.core.n x y last (row_after (Core c) c lost (row_after (Core c) c (taken src m s) k))
        (grant-leaves c c m s.phase)
        (violated-told c x y cs m s o.core o.commit (row_after (Core c) c (taken src m s) k) e
        (all-leave-kept (Core c) c s.n x y (taken src m s) k (taken-leave c src m s) h)))))
        (λ j other. leave-append j (taken src m s) (lost ++ last) (taken-leave j src m s)
        (leave-append j lost last (violated-others c j cs m s o.core other) (grant-leaves c j m s.phase)))
