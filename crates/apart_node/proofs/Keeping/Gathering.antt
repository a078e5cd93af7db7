-- Messages move, and what always holds of the node is kept.
use Rattle.std.proofs.Common.{◌≡◌, ℕ, suc, ◌≤◌, Bool, false, List, [], ◌∷◌, ◌++◌, length, map, Option, Some, None, length-append}
use Rattle.std.proofs.Common.{refl, ap, sym, ◌∙◌, subst, arith}
use Rattle.std.specs.Prelude.{slice_get, All, IfSome}
use Rattle.std.proofs.lemmas.List.{length-map, map-append}
use Rattle.std.proofs.lemmas.List.Elements.{All-append, All-cons, All-nil}
use Rattle.image_load.specs.Contents.{started}
use Rattle.image_load.specs.Start.{Start}
use Rattle.rv_code.specs.Machine.{program}
use Rattle.rules_riscv.specs.Starting.{world_at_start}
use Rattle.rules_maps.specs.Bridge.{node_of}
use Rattle.rules_maps.specs.Nodes.{Node}
use Rattle.rules_tcc.specs.Local.{Mail, Side, local, side_start, state_at}
use Rattle.rules_apart.specs.Filled.{filled, mail_of}
use Rattle.rules_apart.specs.declared.logs.Logged.{Logged}
use Rattle.rules_apart.specs.declared.logs.Mail.{Mail as CodeMail}
use Rattle.apart_member.specs.Data.{MemberData}
use Rattle.apart_node.specs.Acts.{Flushes, Gathers, SameMember}
use Rattle.apart_node.specs.Moves.{Both, Grows, SameSent, Stands, numbered}
use Rattle.apart_node.specs.Node.{IsNode, IsRun, NodeData, got_from, last_stamp, run_alone}
use Rattle.apart_node.specs.Ports.{PortData, RoomData, got_at, port_to}
use Rattle.apart_node.proofs.Porting.SeveralMoves.{grows-then, room-refl, room-then, room-weaker, stands-grows, stands-refl}
use Rattle.apart_node.proofs.Running.Stored.{Includes, get-behind, log-filled_more, stored-more}

-- ---- what came

got-grows : (a b : Option PortData) → Both Grows a b → (k : ℕ) (m : Mail) → slice_get (got_at a) k ≡ Some m
    → slice_get (got_at b) k ≡ Some m
got-grows None None h k m e = e
got-grows None (Some q) h k m e = absurd h
got-grows (Some p) None h k m e = absurd h
got-grows (Some p) (Some q) h k m e =
    let l : map mail_of q.inlet.got ≡ map mail_of p.inlet.got ++ map mail_of h.more = ap (map mail_of) h.got
    ∙ map-append mail_of p.inlet.got h.more in
    ap (λ l. slice_get l k) l ∙ get-behind (map mail_of p.inlet.got) (map mail_of h.more) k m e

got-longer : (a b : Option PortData) → Both Grows a b → length (got_at a) ≤ length (got_at b)
got-longer None None h = omega arith
got-longer None (Some q) h = absurd h
got-longer (Some p) None h = absurd h
got-longer (Some p) (Some q) h =
    omega (arith, length-map p.inlet.got mail_of, length-map q.inlet.got mail_of, ap length h.got, length-append p.inlet.got h.more)

numbered-all : (P : ℕ → Type 0) (k : ℕ) (ms : List CodeMail) → ((j : ℕ) → k ≤ j → P j) → All (λ e. P e.0) (numbered k ms)
unfolding numbered
numbered-all P k [] h = All-nil (λ (e : ℕ × CodeMail). P e.0)
numbered-all P k (m ∷ ms) h =
    All-cons (λ (e : ℕ × CodeMail). P e.0) (k, m) (numbered (suc k) ms) (h k (omega arith))
    (numbered-all P (suc k) ms (λ j l. h j (omega arith)))

fresh-grows : (gone : ℕ → Bool) (a b : Option PortData) → Both Grows a b → IfSome a (λ p. All (λ e. gone e.0 ≡ false) p.pool)
    → ((k : ℕ) → length (got_at a) ≤ k → gone k ≡ false) → IfSome b (λ p. All (λ e. gone e.0 ≡ false) p.pool)
fresh-grows gone None None h f l = tt
fresh-grows gone None (Some q) h f l = absurd h
fresh-grows gone (Some p) None h f l = absurd h
fresh-grows gone (Some p) (Some q) h f l =
    rw h.pool (All-append (λ (e : ℕ × CodeMail). gone e.0 ≡ false) p.pool (numbered (length p.inlet.got) h.more) f
    (numbered-all (λ k. gone k ≡ false) (length p.inlet.got) h.more (λ j g. l j (omega (arith, g, length-map p.inlet.got mail_of)))))

-- ---- the node

pub run-same : (s t : Start) (n m : Node) (from more : Node → List Mail) (log log' : List Logged) (o : Option Side) → t ≡ s → m ≡ n
    → log' ≡ log
    → map (filled more) log ≡ map (filled from) log → run_alone s n from log ≡ o → run_alone t m more log' ≡ o
run-same s t n m from more log log' o a b c e h =
    rw (a, b, c) (ap (λ es. local s.settings (program s) n es (side_start (state_at (world_at_start s) n))) e ∙ h)

module _ (old new : NodeData) (g : Gathers old new) where
  includes : Includes (got_from new) (got_from old)
  includes src k m e = got-grows (port_to old.room src) (port_to new.room src) (g.room.ports src) k m e

  run-kept : (side : Side) → IsNode old → IsRun old side → IsRun new side
  run-kept side w h = record {
    run = run-same (started old.member.code) (started new.member.code) (node_of old.member.node) (node_of new.member.node) (got_from old)
        (got_from new)
        old.log new.log (Some side) (ap started g.member.code) (ap node_of g.member.node) g.log
        (log-filled_more (got_from new) (got_from old) old.log includes w.stored) h.run;
    state = h.state ∙ sym g.member.state;
    sent = λ dst. rw g.log (h.sent dst ∙ sym (g.sent dst));
    fresh = λ src. fresh-grows (side.gone src) (port_to old.room src) (port_to new.room src) (g.room.ports src) (h.fresh src) (h.ahead src);
    ahead = λ src k l. h.ahead src k (let n = got-longer (port_to old.room src) (port_to new.room src) (g.room.ports src) in
        omega (arith, l, n));
  }

  pub gathers-keep : IsNode old → IsNode new
  gathers-keep w = record {
    side = w.side;
    run = run-kept w.side w w.run;
    stored = rw g.log (stored-more (got_from new) (got_from old) old.log includes w.stored);
    rises = rw g.log w.rises;
    stamps = rw g.log w.stamps;
    done = rw (g.member.done, g.log) w.done;
    few = rw g.log w.few;
    settings = g.room.settings ∙ (w.settings ∙ ap (λ c. c.settings) (sym g.member.code));
    own = g.room.own ∙ (w.own ∙ sym g.member.node);
  }

-- ---- several steps

pub member-refl : (m : MemberData) → SameMember m m
member-refl m = record { code = refl; node = refl; done = refl; state = refl }

pub flushes-gather : (old new : NodeData) → Flushes old new → Gathers old new
flushes-gather old new f = record {
  member = subst (SameMember old.member) (sym f.member) (member-refl old.member);
  log = f.log;
  room = room-weaker (λ n. Stands) (λ n. Grows) old.room new.room (λ n. stands-grows) f.room;
  sent = f.sent;
}

pub gathers-then : (a b c : NodeData) → Gathers a b → Gathers b c → Gathers a c
gathers-then a b c f g = record {
  member = record {
    code = g.member.code ∙ f.member.code;
    node = g.member.node ∙ f.member.node;
    done = g.member.done ∙ f.member.done;
    state = g.member.state ∙ f.member.state;
  };
  log = g.log ∙ f.log;
  room = room-then (λ n. Grows) (λ n. Grows) (λ n. Grows) a.room b.room c.room (λ n. grows-then) f.room g.room;
  sent = λ dst. let h : SameSent (last_stamp a.log) b.room c.room = rw f.log at g.sent in h dst ∙ f.sent dst;
}

pub gathers-refl : (n : NodeData) → Gathers n n
gathers-refl n = record {
  member = member-refl n.member;
  log = refl;
  room = room-refl (λ n. Grows) n.room (λ n p. stands-grows p p (stands-refl p));
  sent = λ dst. refl;
}

-- a member of the same state, with a room from which nothing is to be sent
pub gathers-same : (n : NodeData) (m : MemberData) (r : RoomData) → SameMember n.member m → n.room.unsent ≡ []
    → r ≡ record n.room { unsent = r.unsent } → r.unsent ≡ []
    → Gathers n (record { member = m; log = n.log; room = r })
gathers-same n m r s e q f =
    let same : r ≡ n.room = q ∙ (ap (λ u. record n.room { unsent = u }) f ∙ ap (λ u. record n.room { unsent = u }) (sym e)) in
    let all : Gathers n (record { member = m; log = n.log; room = n.room }) = record {
      member = s;
      log = refl;
      room = (gathers-refl n).room;
      sent = λ dst. refl;
    } in
    rw same all
