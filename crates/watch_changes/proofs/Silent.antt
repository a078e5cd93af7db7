-- Messages that change nothing of lines.
use Rattle.std.proofs.Common.{◌≡◌, ℕ, Bool, false, List, refl}
use Rattle.tcc_base.specs.declared.names.LineAddr.{LineAddr}
use Rattle.tcc_base.specs.declared.names.Mask.{Mask}
use Rattle.tcc_base.specs.declared.names.Tid.{Tid}
use Rattle.rules_maps.specs.Lines.{Lines}
use Rattle.rules_maps.specs.Words.{those}
use Rattle.tcc_msg.specs.Plain.{msg_of}
use Rattle.tcc_msg.specs.declared.msg.Msg.{Msg}
use Rattle.tcc_msg.specs.declared.msg.Msg.TheVariants as code
use Rattle.watch_changes.specs.Touched.{may_change, may_come_home}

pub home-silent : (m : Msg) (n : ℕ)
    → ((k : Mask) (l : LineAddr) (ws : List ℕ) (t : Tid) → m ≡ code.WriteBack k l ws t → ⊥)
    → ((k : Mask) (l : LineAddr) (ws : List ℕ) (t : Tid) → m ≡ code.Flush k l ws t → ⊥)
    → those (may_come_home (msg_of m)) n ≡ those (λ j. false) n
unfolding may_come_home
home-silent code.TidReq n p q = refl
home-silent (code.TidGrant t) n p q = refl
home-silent (code.LoadReq l t) n p q = refl
home-silent (code.Fill l ws) n p q = refl
home-silent (code.Skip t) n p q = refl
home-silent (code.Probe t) n p q = refl
home-silent (code.ProbeReply t s) n p q = refl
home-silent (code.Mark l k t) n p q = refl
home-silent (code.Commit t c) n p q = refl
home-silent (code.Abort t) n p q = refl
home-silent (code.WriteBack k l ws t) n p q = absurd (p k l ws t refl)
home-silent (code.Flush k l ws t) n p q = absurd (q k l ws t refl)
home-silent (code.DataReq l) n p q = refl
home-silent (code.Inv l k t) n p q = refl
home-silent (code.InvAck l b) n p q = refl

pub known-silent : (m : Msg) (ls : Lines) (n : ℕ)
    → ((l : LineAddr) (t : Tid) → m ≡ code.LoadReq l t → ⊥)
    → ((l : LineAddr) (k : Mask) (t : Tid) → m ≡ code.Mark l k t → ⊥)
    → ((t : Tid) (c : ℕ) → m ≡ code.Commit t c → ⊥)
    → ((t : Tid) → m ≡ code.Abort t → ⊥)
    → ((k : Mask) (l : LineAddr) (ws : List ℕ) (t : Tid) → m ≡ code.WriteBack k l ws t → ⊥)
    → ((k : Mask) (l : LineAddr) (ws : List ℕ) (t : Tid) → m ≡ code.Flush k l ws t → ⊥)
    → ((l : LineAddr) (b : Bool) → m ≡ code.InvAck l b → ⊥)
    → those (may_change (msg_of m) ls) n ≡ those (λ j. false) n
unfolding may_change
known-silent code.TidReq ls n load mark commit abort back flush ack = refl
known-silent (code.TidGrant t) ls n load mark commit abort back flush ack = refl
known-silent (code.LoadReq l t) ls n load mark commit abort back flush ack = absurd (load l t refl)
known-silent (code.Fill l ws) ls n load mark commit abort back flush ack = refl
known-silent (code.Skip t) ls n load mark commit abort back flush ack = refl
known-silent (code.Probe t) ls n load mark commit abort back flush ack = refl
known-silent (code.ProbeReply t s) ls n load mark commit abort back flush ack = refl
known-silent (code.Mark l k t) ls n load mark commit abort back flush ack = absurd (mark l k t refl)
known-silent (code.Commit t c) ls n load mark commit abort back flush ack = absurd (commit t c refl)
known-silent (code.Abort t) ls n load mark commit abort back flush ack = absurd (abort t refl)
known-silent (code.WriteBack k l ws t) ls n load mark commit abort back flush ack = absurd (back k l ws t refl)
known-silent (code.Flush k l ws t) ls n load mark commit abort back flush ack = absurd (flush k l ws t refl)
known-silent (code.DataReq l) ls n load mark commit abort back flush ack = refl
known-silent (code.Inv l k t) ls n load mark commit abort back flush ack = refl
known-silent (code.InvAck l b) ls n load mark commit abort back flush ack = absurd (ack l b refl)
