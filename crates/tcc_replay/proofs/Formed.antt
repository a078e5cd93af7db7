-- What a machine took is a well-formed schedule: each event names what the machine has.
use Rattle.std.proofs.Common.{◌≡◌, ℕ, zero, suc, ◌+◌, ◌<◌, ◌≤◌, Bool, true, false, ◌&&◌, List, [], ◌∷◌, ◌++◌, length, map}
use Rattle.std.proofs.Common.{Option, Some, None, refl, ◌∙◌, arith}
use Rattle.std.specs.Prelude.{All, nat_lt, slice_index_or, if◌then◌else◌}
use Rattle.std.proofs.lemmas.List.Elements.{All-cons, All-nil}
use Rattle.image_load.specs.Contents.{Contents, started}
use Rattle.rv_code.specs.Machine.{program}
use Rattle.rules_riscv.specs.Starting.{world_at_start}
use Rattle.schedule_text.specs.WellFormed.{IsNode, Names, one_is_core}
use Rattle.tcc_base.specs.Limits.{run_limit}
use Rattle.tcc_base.specs.Settings.{Settings, IsAllowed}
use Rattle.tcc_base.specs.declared.names.NodeId.{NodeId}
use Rattle.tcc_base.specs.declared.names.NodeId.TheVariants.{Core, Dir, Vendor}
use Rattle.base_lemmas.proofs.Lemmas.{and-left, and-right, lt-from}
use Rattle.theorem_bounds.specs.Bounds.{IsBounded}
use Rattle.theorem_bounds.proofs.Lemmas.{link_short, riscv_bounded_after}
use Rattle.rules_maps.specs.Messages.{fits}
use Rattle.rules_maps.specs.Bridge.{node_of}
use Rattle.rules_maps.specs.Nodes.{Event as RuleEvent, Msg, Node}
use Rattle.tcc_msg.specs.Plain.{event_of}
use Rattle.tcc_msg.specs.declared.event.Event.{Event}
use Rattle.tcc_msg.specs.declared.event.Event.TheVariants.{Exec, Evict, Deliver}
use Rattle.rules_program.specs.Program.{Program}
use Rattle.rules_tcc.specs.Links.{in_flight}
use Rattle.rules_tcc.specs.State.{Link}
use Rattle.rules_tcc.specs.Step.{History, Stepped, and_then, happens, if_in_flight, is_node, names_nodes, next_history, recorded, run}
use Rattle.rules_tcc.specs.Step.{run_from}
use Rattle.rules_tcc.specs.Step.{step}
use Rattle.net_core.specs.Machine.{history_of}
use Rattle.net_core.proofs.Lemmas.{run-on}
use Rattle.tcc_replay.specs.Replayed.{TakenHasText}

-- ---- one event

in-front : (l : Link) (k : ℕ) (m : Msg) → slice_index_or l k None ≡ Some m → k < length l
in-front [] k m e = absurd (cc)
in-front (x ∷ l) zero m e = omega arith
in-front (x ∷ l) (suc k) m e = let r = in-front l k m e in omega (arith, r)

one-core : (sh : Settings) (src dst : NodeId) (m : Msg) → fits sh (node_of src) (node_of dst) m ≡ true → one_is_core src dst ≡ true
unfolding fits
one-core sh (Core c) (Core d) m e = absurd (cc)
one-core sh (Core c) (Dir d) m e = refl
one-core sh (Core c) Vendor m e = refl
one-core sh (Dir d) (Core c) m e = refl
one-core sh Vendor (Core c) m e = refl
one-core sh (Dir c) (Dir d) m e = absurd (cc)
one-core sh (Dir c) Vendor m e = absurd (cc)
one-core sh Vendor (Dir d) m e = absurd (cc)
one-core sh Vendor Vendor m e = absurd (cc)

has-node : (sh : Settings) (n : NodeId) → is_node sh (node_of n) ≡ true → IsNode sh n
has-node sh (Core c) e = lt-from c.0 sh.cores e
has-node sh (Dir d) e = lt-from d.0 sh.dirs e
has-node sh Vendor e = tt

all-there : (b : Bool) (o : Option Stepped) (h g : History) → recorded h (if b then o else None) ≡ Some g → b ≡ true
all-there true o h g e = refl
all-there false o h g e = absurd (cc)

flying : (sh : Settings) (src dst : Node) (k : ℕ) (h g : History) (b : Bool) (fly : Option Msg)
    → recorded h (if b then if_in_flight sh h.world src dst k fly else None) ≡ Some g → (P : Type 0) → ((m : Msg) → fly ≡ Some m → P) → P
flying sh src dst k h g false fly e P found = absurd (cc)
flying sh src dst k h g true None e P found = absurd (cc)
flying sh src dst k h g true (Some m) e P found = found m refl

named : (sh : Settings) (p : Program) (es : List RuleEvent) (h g : History) (e : Event) → IsAllowed sh → IsBounded sh es h
    → length es ≤ run_limit → next_history sh p h (event_of e) ≡ Some g → Names sh e
unfolding next_history step names_nodes happens
named sh p es h g (Exec core) k b few n =
    lt-from core.0 sh.cores (all-there (nat_lt core.0 sh.cores) (happens sh p h.world (event_of (Exec core))) h g n)
named sh p es h g (Evict core set way) k b few n =
    let there = all-there (nat_lt core.0 sh.cores && (nat_lt set sh.sets && nat_lt way sh.ways))
    (happens sh p h.world (event_of (Evict core set way))) h g n in
    let frame = and-right (nat_lt core.0 sh.cores) (nat_lt set sh.sets && nat_lt way sh.ways) there in (
      lt-from core.0 sh.cores (and-left (nat_lt core.0 sh.cores) (nat_lt set sh.sets && nat_lt way sh.ways) there),
      lt-from set sh.sets (and-left (nat_lt set sh.sets) (nat_lt way sh.ways) frame),
      lt-from way sh.ways (and-right (nat_lt set sh.sets) (nat_lt way sh.ways) frame),
    )
named sh p es h g (Deliver name) k b few n =
    let src = node_of name.src in
    let dst = node_of name.dst in
    let there = all-there (is_node sh src && is_node sh dst) (happens sh p h.world (event_of (Deliver name))) h g n in
    flying sh src dst name.seq h g (is_node sh src && is_node sh dst) (in_flight h.world.net src dst name.seq) n (Names sh (Deliver name))
    (λ m fly.
    let short = link_short sh es h src dst k b few in
    let front = in-front (h.world.net src dst) name.seq m fly in (
      has-node sh name.src (and-left (is_node sh src) (is_node sh dst) there),
      has-node sh name.dst (and-right (is_node sh src) (is_node sh dst) there),
      one-core sh name.src name.dst m (b.messages src dst name.seq m fly).fits,
      omega (arith, short, front),
    ))

-- ---- one after another

past : (o : Option History) (f : History → Option History) (g : History) (P : Type 0) → and_then f o ≡ Some g
    → ((k : History) → o ≡ Some k → f k ≡ Some g → P) → P
past None f g P e on = absurd (cc)
past (Some k) f g P e on = on k refl e

one-longer : (xs : List RuleEvent) (e : RuleEvent) → length (xs ++ e ∷ []) ≡ length xs + 1
one-longer [] e = refl
one-longer (x ∷ xs) e = let r = one-longer xs e in omega (arith, r)

bounded : (c : Contents) (es : List RuleEvent) (h : History) → IsAllowed c.settings
    → run c.settings (program (started c)) (world_at_start (started c)) es ≡ Some h → IsBounded c.settings es h
unfolding started
bounded c es h k e = riscv_bounded_after (started c) es h k e

all-named : (c : Contents) (before : List RuleEvent) (es : List Event) (h g : History) → IsAllowed c.settings
    → run c.settings (program (started c)) (world_at_start (started c)) before ≡ Some h → length before + length es ≤ run_limit
    → run_from c.settings (program (started c)) (map event_of es) h ≡ Some g → All (Names c.settings) es
unfolding run_from
all-named c before [] h g k r few rest = All-nil (Names c.settings)
all-named c before (e ∷ es) h g k r few rest =
    past (next_history c.settings (program (started c)) h (event_of e)) (run_from c.settings (program (started c)) (map event_of es)) g
    (All (Names c.settings) (e ∷ es)) rest
    (λ f here more.
    let long = one-longer before (event_of e) in
    All-cons (Names c.settings) e es
    (named c.settings (program (started c)) before h f e k (bounded c before h k r) (omega (arith, few)) here)
    (all-named c (before ++ event_of e ∷ []) es f g k
    (run-on c.settings (program (started c)) (world_at_start (started c)) before (event_of e) h r ∙ here) (omega (arith, few, long)) more))

pub has-text : TakenHasText
unfolding run run_from
has-text r k few = record {
  allowed = k.allowed;
  count = omega (arith, k.count, few);
  named = all-named r.machine.cores.code [] r.taken (record { world = world_at_start (started r.machine.cores.code); commits = [] })
      (history_of r.machine) k.allowed refl (omega (arith, k.count, few)) k.is_run;
}
