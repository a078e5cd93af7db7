-- The node does an event, and what always holds of it is kept.
use Rattle.std.proofs.Common.{◌≡◌, ℕ, ◌<◌, ◌≤◌, ◌+◌, ◌^◌, Bool, true, false, List, [], ◌∷◌, ◌++◌, length, map, Option, Some, None}
use Rattle.std.proofs.Common.{append-nil, refl, ap, sym, ◌∙◌, arith}
use Rattle.std.specs.Prelude.{option_map, Result, Ok, Err, OnErr, is_err}
use Rattle.std.proofs.lemmas.List.{length_push}
use Rattle.std.proofs.lemmas.List.Elements.{All-push}
use Rattle.image_load.specs.Contents.{started}
use Rattle.tcc_base.specs.Limits.{run_limit}
use Rattle.tcc_base.specs.declared.names.NodeId.{NodeId}
use Rattle.base_lemmas.proofs.Lemmas.{node_eq-refl}
use Rattle.rules_maps.specs.Bridge.{node_of}
use Rattle.rules_maps.specs.Nodes.{Node, Event, Exec, Evict, Deliver, node_eq}
use Rattle.tcc_msg.specs.Plain.{event_of, sends_of}
use Rattle.tcc_msg.specs.declared.msg.Msg.{Msg}
use Rattle.rules_tcc.specs.Step.{names_nodes}
use Rattle.rules_tcc.specs.Local.{Mail, Side, at_node, mailed}
use Rattle.rules_apart.specs.Filled.{filled}
use Rattle.rules_apart.specs.declared.logs.Logged.{Logged}
use Rattle.apart_member.specs.Acting.{acted_by}
use Rattle.apart_member.specs.Data.{MemberData, state_of}
use Rattle.apart_node.specs.Acts.{Loses, Performs}
use Rattle.apart_node.specs.Choice.{stamp_after}
use Rattle.apart_node.specs.Deeds.{IsFor, IsPossible, IsWaiting, mail_in}
use Rattle.apart_node.specs.Moves.{Both, Room, SameSent}
use Rattle.apart_node.specs.Node.{CameBefore, IsNode, IsRun, NodeData, got_from, here, last_stamp, run_alone}
use Rattle.apart_node.specs.Ports.{PortData, RoomData, handed_to, port_to, sent_at}
use Rattle.apart_node.specs.declared.choosing.Deed.{Deed}
use Rattle.apart_node.specs.declared.room.Waiting.{Waiting}
use Rattle.apart_node.proofs.Keeping.Gathering.{run-same}
use Rattle.apart_node.proofs.Keeping.Handling.{Handles, handles-for, loses-ahead, loses-fresh, loses-got}
use Rattle.apart_node.proofs.Porting.SeveralMoves.{links-refl, room-refl}
use Rattle.apart_node.proofs.Running.Local.{after, run-push}
use Rattle.apart_node.proofs.Running.Stamps.{last-push, rises-push}

-- why the node can do the event
pub record MayPerform (mid : NodeData) (e : Event) (m : Option Mail) : Type 0 where
  pub few : length mid.log < run_limit
  pub early : stamp_after (last_stamp mid.log) m ≤ 2 ^ 62
  pub at : at_node e ≡ here mid
  pub names : names_nodes mid.member.code.settings e ≡ true
  pub handles : Handles mid.room (stamp_after (last_stamp mid.log) m) e m

above-last : (t : ℕ) (m : Option Mail) → t < stamp_after t m
above-last t None = omega arith
above-last t (Some x) = omega arith

module _ (mid new : NodeData) (e : Event) (m : Option Mail) (p : Performs mid e m new) (f : MayPerform mid e m) (w : IsNode mid) where
  same-got : (src : Node) → got_from new src ≡ got_from mid src
  same-got src = loses-got p.did.consumes e src (port_to mid.room src) (port_to new.room src) (p.room.ports src)

  same-from : got_from new ≡ got_from mid
  same-from = λ i src. (same-got src) i

  side-after : Side
  side-after = after w.side p.did p.entry.stamp e

  here-test : node_eq (at_node e) (here mid) ≡ true
  here-test = rw f.at (node_eq-refl (here mid))

  run-longer : run_alone (started mid.member.code) (here mid) (got_from mid) (mid.log ++ p.entry ∷ []) ≡ Some side-after
  unfolding side-after started
  run-longer =
      run-push (started mid.member.code) (here mid) (got_from mid) mid.log p.entry e m w.side p.did p.event f.handles.handles w.run.run
      here-test f.names
      (f.handles.open' w.side.gone w.run.fresh) (rw w.run.state p.acts)

  run-after : IsRun new side-after
  unfolding side-after
  run-after = record {
    run = run-same (started mid.member.code) (started new.member.code) (here mid) (here new) (got_from mid) (got_from new)
        (mid.log ++ p.entry ∷ []) new.log
        (Some side-after) (ap started p.code) (ap node_of p.node) p.log
        (ap (λ from. map (filled from) (mid.log ++ p.entry ∷ [])) same-from) run-longer;
    state = sym p.state;
    sent = λ dst. ap (λ l. l ++ mailed p.entry.stamp (p.did.sends dst)) (w.run.sent dst) ∙ sym (p.sent dst);
    fresh = λ src. loses-fresh p.did.consumes e w.side.gone src (port_to mid.room src) (port_to new.room src) (p.room.ports src)
        (w.run.fresh src);
    ahead = λ src k l. loses-ahead p.did.consumes e w.side.gone (got_from mid) src k f.handles.within (rw (same-got src) at l)
        (w.run.ahead src k (rw (same-got src) at l));
  }

  stored-after : CameBefore (got_from mid) p.entry.stamp (event_of p.entry.event)
  stored-after = rw (p.stamp, p.event) f.handles.before

  pub performs-keep : IsNode new
  performs-keep = record {
    side = side-after;
    run = run-after;
    stored = rw (p.log, same-from) (All-push (λ x. CameBefore (got_from mid) x.stamp (event_of x.event)) mid.log p.entry w.stored
        stored-after);
    rises = rw p.log (rises-push mid.log p.entry w.rises (rw p.stamp (above-last (last_stamp mid.log) m)));
    stamps = rw (p.log, last-push 0 mid.log p.entry, p.stamp) f.early;
    done = rw (p.done, p.log) (omega (arith, w.done, length_push mid.log p.entry));
    few = rw p.log (let l = f.few in omega (arith, l, length_push mid.log p.entry));
    settings = p.room.settings ∙ (w.settings ∙ ap (λ c. c.settings) (sym p.code));
    own = p.room.own ∙ (w.own ∙ sym p.node);
  }

-- ---- the parts of an event

-- what the calls on the parts tell
pub record Parts (mid : NodeData) (e : Event) (m : Option Mail) (member : MemberData) (acted room : RoomData) (entry : Logged)
    (c : Bool) : Type 0 where
  pub flushed : mid.room.unsent ≡ []
  pub acts : acted_by mid.member e (option_map (λ x. x.msg) m) ≡ Some (record {
    state = state_of member;
    sends =
        sends_of acted.unsent;
    consumes = c;
  })
  pub ports : acted ≡ record mid.room { unsent = acted.unsent }
  pub code : member.code ≡ mid.member.code
  pub node : member.node ≡ mid.member.node
  pub done : member.done ≡ mid.member.done + 1
  pub event : event_of entry.event ≡ e
  pub stamp : entry.stamp ≡ stamp_after (last_stamp mid.log) m
  pub loses : Room (Loses c e) acted room
  pub same : SameSent entry.stamp acted room

same-port : (a b : RoomData) (u : List (NodeId × Msg)) (dst : Node) → b ≡ record a { unsent = u } → port_to b dst ≡ port_to a dst
unfolding port_to
same-port a b u dst e = rw e

none-mailed : (t : ℕ) (dst : Node) → mailed t (sends_of [] dst) ≡ []
unfolding mailed sends_of
none-mailed t dst = refl

sent-more : (a b : RoomData) (t u : ℕ) (dst : Node) → a.unsent ≡ [] → b ≡ record a { unsent = b.unsent }
    → handed_to b t dst ≡ handed_to a u dst ++ mailed t (sends_of b.unsent dst)
sent-more a b t u dst e q =
    ap (λ o. sent_at o ++ mailed t (sends_of b.unsent dst)) (same-port a b b.unsent dst q)
    ∙ ap (λ l. l ++ mailed t (sends_of b.unsent dst)) (sym (ap (λ l. sent_at (port_to a dst) ++ mailed u (sends_of l dst)) e
    ∙ (ap (λ l. sent_at (port_to a dst) ++ l) (none-mailed u dst) ∙ append-nil (sent_at (port_to a dst)))))

both-from : (P : PortData → PortData → Type 0) (a b o : Option PortData) → a ≡ b → Both P a o → Both P b o
both-from P a b o e h = rw e at h

pub performs-parts : (mid : NodeData) (e : Event) (m : Option Mail) (member : MemberData) (r room : RoomData) (entry : Logged) (c : Bool)
    → Parts mid e m member r room entry c → Performs mid e m (record { member = member; log = mid.log ++ entry ∷ []; room = room })
performs-parts mid e m member r room entry c p = record {
  did = record { state = state_of member; sends = sends_of r.unsent; consumes = c };
  acts = p.acts;
  state = refl;
  code = p.code;
  node = p.node;
  done = p.done;
  entry = entry;
  event = p.event;
  stamp = p.stamp;
  log = refl;
  sent = λ dst. ap (λ t. handed_to room t dst) (last-push 0 mid.log entry)
      ∙ (p.same dst ∙ sent-more mid.room r entry.stamp (last_stamp mid.log) dst p.flushed p.ports);
  room = record {
    settings = p.loses.settings ∙ ap (λ x. x.settings) p.ports;
    own = p.loses.own ∙ ap (λ x. x.own) p.ports;
    ports = λ n. both-from (Loses c e n) (port_to r n) (port_to mid.room n) (port_to room n) (same-port mid.room r r.unsent n p.ports)
        (p.loses.ports n);
  };
}

-- nothing was consumed
pub none-lost : (e : Event) (r : RoomData) → Room (Loses false e) r r
none-lost e r = room-refl (Loses false e) r (λ n p. record { links = links-refl p; got = refl; pool = refl })

pub may-perform : (n : NodeData) (d : Deed) → IsPossible n d → MayPerform n (event_of d.event) (mail_in d.waiting)
may-perform n d p = record {
  few = p.few;
  early = p.early;
  at = p.may.at;
  names = p.may.names;
  handles = handles-for n.room (here n) (last_stamp n.log) (event_of d.event) d.waiting p.waits;
}

pub waiting-is : (r : RoomData) (own : Node) (e : Event) (o : Option Waiting) (w : Waiting) → o ≡ Some w → IsFor r own e o
    → IsWaiting r w × (e ≡ Deliver (node_of w.src) own w.letter.number)
waiting-is r own e o w q h = some-for e (rw q at h)
  where
    some-for : (e : Event) → IsFor r own e (Some w) → IsWaiting r w × (e ≡ Deliver (node_of w.src) own w.letter.number)
    some-for (Exec c) h = h
    some-for (Evict c x y) h = h
    some-for (Deliver s d k) h = h

pub on_err-of : {A E : Type 0} (r : Result A E) (P : Type 0) → is_err r ≡ true → OnErr r P → P
on_err-of (Ok x) P e p = absurd (cc)
on_err-of (Err e) P q p = p
