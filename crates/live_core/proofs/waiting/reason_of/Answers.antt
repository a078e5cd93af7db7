-- The reason of a message is that of its kind.
use Rattle.std.proofs.Common.{◌≡◌, ◌≢◌, ◌∙◌, ℕ, List, None, ap, sym, refl}
use Rattle.tcc_base.specs.declared.names.DirId.{DirId}
use Rattle.tcc_base.specs.declared.names.LineAddr.{LineAddr}
use Rattle.tcc_base.specs.declared.names.Mask.{Mask}
use Rattle.tcc_base.specs.declared.names.Tid.{Tid}
use Rattle.rules_maps.specs.Shape.{Shape}
use Rattle.tcc_msg.specs.Plain.{msg_of}
use Rattle.tcc_msg.specs.declared.msg.Msg.{Msg}
use Rattle.tcc_msg.specs.declared.msg.Msg.TheVariants as code
use Rattle.rules_tcc.specs.State.{DirState}
use Rattle.net_core.specs.Machine.{Machine, settings_of, world_of}
use Rattle.live_core.specs.Reasons.{reason_of}
use Rattle.live_core.proofs.waiting.reason_of.Goals as goal

-- the message is of this kind
same : (m : Machine) (d : DirId) (x y : Msg) → x ≡ y
    → reason_of (settings_of m) ((world_of m).dirs d.0) (msg_of y) ≡ reason_of (settings_of m) ((world_of m).dirs d.0) (msg_of x)
same m d x y e = ap (λ z. reason_of (settings_of m) ((world_of m).dirs d.0) (msg_of z)) (sym e)

pub returns-in-Probe : goal.returns-in-Probe
unfolding reason_of
returns-in-Probe c = c.probe_waits.ensures ∙ same c.args.system.now c.args.dir c.args.msg.now _ c.in-Probe.is

pub returns-in-LoadReq : goal.returns-in-LoadReq
unfolding reason_of
returns-in-LoadReq c = c.load_waits.ensures ∙ same c.args.system.now c.args.dir c.args.msg.now _ c.in-LoadReq.is

pub returns-in-Mark : goal.returns-in-Mark
unfolding reason_of
returns-in-Mark c = c.mark_waits.ensures ∙ same c.args.system.now c.args.dir c.args.msg.now _ c.in-Mark.is

pub returns-in-Commit : goal.returns-in-Commit
unfolding reason_of
returns-in-Commit c = c.commit_waits.ensures ∙ same c.args.system.now c.args.dir c.args.msg.now _ c.in-Commit.is

pub returns-in-WriteBack : goal.returns-in-WriteBack
unfolding reason_of
returns-in-WriteBack c = c.words_wait.ensures ∙ same c.args.system.now c.args.dir c.args.msg.now _ c.in-WriteBack.is

pub returns-in-Flush : goal.returns-in-Flush
unfolding reason_of
returns-in-Flush c = c.words_wait-in-Flush.ensures ∙ same c.args.system.now c.args.dir c.args.msg.now _ c.in-Flush.is

-- the other kinds never wait
never : (sh : Shape) (s : DirState) (m : Msg) → ((t : Tid) → m ≢ code.Probe t) → ((l : LineAddr) (t : Tid) → m ≢ code.LoadReq l t)
    → ((l : LineAddr) (a : Mask) (t : Tid) → m ≢ code.Mark l a t) → ((t : Tid) (n : ℕ) → m ≢ code.Commit t n)
    → ((a : Mask) (l : LineAddr) (ws : List ℕ) (t : Tid) → m ≢ code.WriteBack a l ws t)
    → ((a : Mask) (l : LineAddr) (ws : List ℕ) (t : Tid) → m ≢ code.Flush a l ws t) → None ≡ reason_of sh s (msg_of m)
unfolding reason_of
never sh s (code.Probe t) p l k n w f = absurd (p t refl)
never sh s (code.LoadReq x t) p l k n w f = absurd (l x t refl)
never sh s (code.Mark x a t) p l k n w f = absurd (k x a t refl)
never sh s (code.Commit t c) p l k n w f = absurd (n t c refl)
never sh s (code.WriteBack a x ws t) p l k n w f = absurd (w a x ws t refl)
never sh s (code.Flush a x ws t) p l k n w f = absurd (f a x ws t refl)
never sh s m p l k n w f = refl

pub returns-in_default : goal.returns-in_default
returns-in_default c =
    let d = c.in_default in
    never (settings_of c.args.system.now) ((world_of c.args.system.now).dirs c.args.dir.0) c.args.msg.now
    d.not-Probe d.not-LoadReq d.not-Mark d.not-Commit d.not-WriteBack d.not-Flush
