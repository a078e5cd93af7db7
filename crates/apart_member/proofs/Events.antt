-- What the parts of a member do, as events of the rules.
use Rattle.std.proofs.Common.{◌≡◌, ℕ, ◌<◌, ◌+◌, Bool, true, false, ◌&&◌, List, [], ◌∷◌, ◌++◌, Option, Some, None, is_some, if◌then◌else◌}
use Rattle.std.proofs.Common.{refl, ap, sym, ◌∙◌, arith}
use Rattle.std.specs.Prelude.{nat_lt}
use Rattle.std.proofs.lemmas.Bool.Decides.{nat_tests}
use Rattle.image_load.specs.Contents.{Contents, started}
use Rattle.rv_code.specs.Machine.{program}
use Rattle.tcc_base.specs.Settings.{Settings}
use Rattle.tcc_base.specs.declared.names.CoreId.{CoreId}
use Rattle.tcc_base.specs.declared.names.NodeId.{NodeId}
use Rattle.tcc_base.specs.declared.names.NodeId.TheVariants as code_node
use Rattle.tcc_base.specs.declared.names.Tid.{Tid}
use Rattle.rules_maps.specs.Bridge.{node_of}
use Rattle.rules_maps.specs.Nodes.{Node, Core, Event, Exec, Evict, Deliver, Msg, TidGrant, TidReq, node_eq}
use Rattle.tcc_msg.specs.Plain.{sends_of}
use Rattle.tcc_msg.specs.declared.msg.Msg.{Msg as CodeMsg}
use Rattle.tcc_msg.specs.declared.msg.Msg.TheVariants as code
use Rattle.tcc_msg.specs.declared.outgoing.Outgoing.{Outgoing}
use Rattle.rules_tcc.specs.Attempt.{Out}
use Rattle.rules_tcc.specs.CoreDeliver.{core_deliver}
use Rattle.rules_tcc.specs.CoreEvict.{core_evict}
use Rattle.rules_tcc.specs.CoreExec.{core_exec}
use Rattle.rules_tcc.specs.DirDeliver.{Answer, dir_deliver}
use Rattle.rules_tcc.specs.DirDeliver as rules
use Rattle.rules_tcc.specs.Local.{AtCore, AtDir, AtVendor, acted, answer_acted, at_node, grant_acted, takes}
use Rattle.rules_tcc.specs.Sends.{to}
use Rattle.rules_tcc.specs.State.{DirState}
use Rattle.rules_tcc.specs.Step.{is_node, names_nodes}
use Rattle.rules_tcc.specs.VendorDeliver.{vendor_deliver}
use Rattle.commit_engine.specs.Sent.{followed}
use Rattle.core_node.specs.Answers.{Happened}
use Rattle.core_node.specs.View.{core_of, IsKnown}
use Rattle.core_node.specs.declared.state.Core.{Core as CoreData}
use Rattle.directory.specs.Data.{DirData, dir_of}
use Rattle.directory.specs.Gives.{Gives, acts, answer_of, is_taken}
use Rattle.directory.specs.declared.handled.Handled.{Handled}
use Rattle.directory.specs.declared.handled.Handled.TheVariants.{Handled as Done, Waits, Asked, Dropped}
use Rattle.apart_member.specs.Acting.{ActsAs, TakesAs, IsFrom, consumes, happens_at}

-- ---- a core

pub acted-some : (b : Bool) (o : Option Out) → is_some (acted b o) ≡ is_some o
acted-some b None = refl
acted-some b (Some o) = refl

-- what is sent is what the rule sends, where nothing was sent before
sent-alone : (before out : Outgoing) (o : Out) → before.list.items ≡ []
    → sends_of out.list.items ≡ followed (sends_of before.list.items) o.sends → sends_of out.list.items ≡ o.sends
unfolding followed sends_of
sent-alone before out o e s = s ∙ ap (λ xs. followed (sends_of xs) o.sends) e

did : (b : Bool) (o : Option Out) (before : Outgoing) (new : CoreData) (out : Outgoing) → before.list.items ≡ [] → Happened o before new out
    → acted b o ≡ Some (record { state = AtCore (core_of new); sends = sends_of out.list.items; consumes = b })
did b None before new out e h = absurd h
did b (Some o) before new out e h =
    λ i. Some (record { state = AtCore ((sym h.core) i); sends = (sym (sent-alone before out o e h.sends)) i; consumes = b })

-- the events of a core by its own settings and number
module _ (k : Contents) (s : Settings) (e : Event) (x : Option Msg) (old new : CoreData) (before out : Outgoing) where
  pub exec-did : (id c : ℕ) → k.settings ≡ s → e ≡ Exec c → at_node e ≡ Core id → before.list.items ≡ []
      → Happened (core_exec s (program (started k)) id (core_of old)) before new out
      → ActsAs k (AtCore (core_of old)) (AtCore (core_of new)) e x out.list.items false
  exec-did id c same is at empty h =
      let named : Core c ≡ Core id = ap at_node (sym is) ∙ at in
      let number : c ≡ id = cc in
      (λ i. happens_at k (AtCore (core_of old)) (is i) x)
      ∙ (λ i. acted false (core_exec (same i) (program (started k)) (number i) (core_of old)))
      ∙ did false (core_exec s (program (started k)) id (core_of old)) before new out empty h

  pub evict-did : (c set way : ℕ) → k.settings ≡ s → e ≡ Evict c set way → before.list.items ≡ []
      → Happened (core_evict s set way (core_of old)) before new out
      → ActsAs k (AtCore (core_of old)) (AtCore (core_of new)) e x out.list.items false
  evict-did c set way same is empty h =
      (λ i. happens_at k (AtCore (core_of old)) (is i) x)
      ∙ (λ i. acted false (core_evict (same i) set way (core_of old)))
      ∙ did false (core_evict s set way (core_of old)) before new out empty h

  pub deliver-did : (src dst : Node) (n : ℕ) (m : Msg) → k.settings ≡ s → e ≡ Deliver src dst n → x ≡ Some m → before.list.items ≡ []
      → Happened (core_deliver s (core_of old) src m) before new out
      → ActsAs k (AtCore (core_of old)) (AtCore (core_of new)) e x out.list.items true
  deliver-did src dst n m same is told empty h =
      (λ i. happens_at k (AtCore (core_of old)) (is i) (told i))
      ∙ (λ i. acted true (core_deliver (same i) (core_of old) src m))
      ∙ did true (core_deliver s (core_of old) src m) before new out empty h

-- what it names exists
pub way-there : (s : Settings) (e : Event) (c set way : ℕ) → e ≡ Evict c set way → names_nodes s e ≡ true → (set < s.sets) × (way < s.ways)
unfolding names_nodes
way-there s e c set way is n =
    let h : (nat_lt c s.cores && (nat_lt set s.sets && nat_lt way s.ways)) ≡ true = ap (names_nodes s) (sym is) ∙ n in
    (grind (arith, nat_tests), grind (arith, nat_tests))

pub source-there : (s : Settings) (e : Event) (src dst : Node) (k : ℕ) → e ≡ Deliver src dst k → names_nodes s e ≡ true
    → is_node s src ≡ true
unfolding names_nodes
source-there s e src dst k is n = first (is_node s src) (is_node s dst) (ap (names_nodes s) (sym is) ∙ n)
  where
    first : (a b : Bool) → (a && b) ≡ true → a ≡ true
    first true b h = refl
    first false b h = absurd (cc)

pub known : (s : Settings) (n : NodeId) → is_node s (node_of n) ≡ true → IsKnown s n
known s (code_node.Core c) e = tt
known s (code_node.Dir d) e = grind (arith, nat_tests)
known s code_node.Vendor e = tt

-- ---- a directory

nothing-is : sends_of [] ≡ (λ dst. [])
unfolding sends_of
nothing-is = refl

pub gives-answers : (old new : DirData) (before after : List (NodeId × CodeMsg)) (h : Handled) (rule : DirState → Answer) → before ≡ []
    → Gives old new before after h rule
    → (ram : ℕ → ℕ) → TakesAs (dir_of ram old) (rule (dir_of ram old)) (dir_of ram new) (sends_of after) (consumes h)
gives-answers old new before after h rule empty g ram = by h (g.answer ram) g.still
  where
    sent : sends_of g.sent ≡ sends_of after
    sent = ap sends_of (sym (g.behind ∙ ap (λ xs. xs ++ g.sent) empty))

    none : after ≡ [] → sends_of after ≡ (λ dst. [])
    none e = ap sends_of e ∙ nothing-is

    by : (h : Handled) → rule (dir_of ram old) ≡ answer_of h (dir_of ram new) (sends_of g.sent)
        → (acts h ≡ false → (new ≡ old) × (after ≡ before))
        → TakesAs (dir_of ram old) (rule (dir_of ram old)) (dir_of ram new) (sends_of after) (consumes h)
    by Done is still taken =
        ap (answer_acted (dir_of ram old)) is ∙ (λ i. Some (record { state = AtDir (dir_of ram new); sends = sent i; consumes = true }))
    by Asked is still taken =
        ap (answer_acted (dir_of ram old)) is ∙ (λ i. Some (record { state = AtDir (dir_of ram new); sends = sent i; consumes = false }))
    by Waits is still taken = absurd (let q = ap is_taken is in cc)
    by Dropped is still taken = ap (answer_acted (dir_of ram old)) is
        ∙ (λ i. Some (record {
          state = AtDir (dir_of ram ((sym (still refl).0) i));
          sends = (sym (none ((still refl).1 ∙ empty))) i;
          consumes = true;
        }))

-- the rules' event is that of the message from a core
pub from-core : (k : Contents) (old : DirState) (c : ℕ) (e : Event) (x : Option Msg) (m : Msg) → IsFrom c e → x ≡ Some m
    → happens_at k (AtDir old) e x ≡ answer_acted old (dir_deliver k.settings old c m)
from-core k old c (Deliver src dst n) x m is told = λ i. takes k.settings (AtDir old) (is i) (told i)
from-core k old c (Exec b) x m is told = absurd is
from-core k old c (Evict b v w) x m is told = absurd is

pub answer-some : (s : DirState) (a : Answer) → is_some (answer_acted s a) ≡ is_taken a
answer-some s rules.Waits = refl
answer-some s rules.Drops = refl
answer-some s (rules.Asks t sends) = refl
answer-some s (rules.Takes t sends) = refl

-- it exists
pub from-there : (s : Settings) (e : Event) (c : ℕ) → IsFrom c e → names_nodes s e ≡ true → c < s.cores
unfolding names_nodes
from-there s (Deliver src dst k) c is n = within (is_node s src) (is_node s dst) refl n
  where
    within : (a b : Bool) → is_node s src ≡ a → (a && b) ≡ true → c < s.cores
    within true b e h = let there : nat_lt c s.cores ≡ true = ap (is_node s) (sym is) ∙ e in grind (arith, nat_tests)
    within false b e h = absurd (cc)
from-there s (Exec b) c is n = absurd is
from-there s (Evict b x y) c is n = absurd is

-- ---- the vendor

-- the one message that is sent
pub grant-sends : (core : CoreId) (tid : Tid) (t : ℕ) (xs : List (NodeId × CodeMsg)) → tid.0 ≡ t
    → xs ≡ (code_node.Core core, code.TidGrant tid) ∷ [] → sends_of xs ≡ to (Core core.0) (TidGrant t ∷ [])
unfolding sends_of
grant-sends core tid t xs e is = ap sends_of is ∙ (λ i dst. one (node_eq dst (Core core.0)) i)
  where
    one : (b : Bool) → (if b then TidGrant tid.0 ∷ [] else []) ++ [] ≡ (if b then TidGrant t ∷ [] else [])
    one true = ap (λ n. TidGrant n ∷ []) e
    one false = refl

granted : (t c : ℕ) (m : Msg) → is_some (grant_acted (vendor_deliver t c m)) ≡ true
    → grant_acted (vendor_deliver t c m)
    ≡ Some (record { state = AtVendor (t + 1); sends = to (Core c) (TidGrant t ∷ []); consumes = true })
granted t c TidReq h = refl
granted t c m h = absurd (cc)
