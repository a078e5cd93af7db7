-- What a call did is what a rule gives: from the rule's answer and the parts that changed.
use Rattle.std.proofs.Common.{◌≡◌, ℕ, ◌-◌, Bool, true, false, ◌==◌, nat_lt, if◌then◌else◌, List, [], ◌∷◌, ◌++◌, append-nil, Option, Some}
use Rattle.std.proofs.Common.{None, option_map, Result, Ok, Err, IfOk, refl, ap, sym, subst, ◌∙◌}
use Rattle.std.specs.Prelude.{nat_le}
use Rattle.std.proofs.lemmas.Bool.{false≢true}
use Rattle.tcc_base.specs.declared.names.NodeId.{NodeId}
use Rattle.tcc_base.specs.declared.names.NodeId.TheVariants as node
use Rattle.tcc_base.specs.declared.names.CoreId.{CoreId}
use Rattle.tcc_base.specs.declared.names.LineAddr.{LineAddr}
use Rattle.tcc_base.specs.declared.names.Tid.{Tid}
use Rattle.rules_maps.specs.Words.{eight, word_at}
use Rattle.rules_maps.specs.Masks.{full}
use Rattle.rules_maps.specs.Nodes.{Core, ProbeReply, DataReq, Fill, node_eq}
use Rattle.rules_maps.specs.Shape.{Shape}
use Rattle.rules_maps.specs.Bridge.{node_of}
use Rattle.rules_maps.specs.Serving.{Serving, advance, skipped, kept as kept_skip}
use Rattle.rules_maps.specs.Lines.{Lines, with_sharer, with_owner, with_asked, with_mark, unmarked, has_mark}
use Rattle.rules_tcc.specs.State.{DirState}
use Rattle.rules_tcc.specs.Sends.{nothing, to}
use Rattle.rules_tcc.specs.DirDeliver as rules
use Rattle.tcc_msg.specs.declared.msg.Msg.{Msg}
use Rattle.tcc_msg.specs.declared.msg.Msg.TheVariants as code
use Rattle.tcc_msg.specs.Plain.{msg_of, sends_of}
use Rattle.dir_lines.specs.Kept.{kept}
use Rattle.dir_lines.specs.Pages.{Pages}
use Rattle.dir_lines.specs.Words.{Words, words_at, with_words}
use Rattle.directory.specs.declared.handled.Handled.{Handled}
use Rattle.directory.specs.declared.handled.Handled.TheVariants.{Handled as Done, Waits, Asked, Dropped}
use Rattle.directory.specs.Data.{DirData, dir_of}
use Rattle.directory.specs.Gives.{Gives}
use Rattle.directory.proofs.RuleCases.{skip-other, skipped-served, skipped-higher, abort-served, abort-higher, probe-served, ask-first}
use Rattle.directory.proofs.RuleCases.{acknowledgement-owed}

abbrev pub parts : Pages → Words → Serving → ℕ → DirData
parts ls ws sv n = record { lines = ls; words = ws; serving = sv; owed = n }

abbrev pub Sent : Type 0
Sent = List (NodeId × Msg)

-- the same from an equal value
pub gives-from : {early old new : DirData} {b a : Sent} {h : Handled} {rule : DirState → rules.Answer} → early ≡ old
    → Gives early new b a h rule → Gives old new b a h rule
gives-from {new = new} {b = b} {a = a} {h = h} {rule = rule} e g = subst (λ d. Gives d new b a h rule) e g

-- the same by a rule that answers the same
pub gives-by : {old new : DirData} {b a : Sent} {h : Handled} (rule other : DirState → rules.Answer)
    → ((e : ℕ → ℕ) → other (dir_of e old) ≡ rule (dir_of e old)) → Gives old new b a h rule → Gives old new b a h other
gives-by rule other same g = record { sent = g.sent; behind = g.behind; answer = λ e. same e ∙ g.answer e; still = g.still }

pub gives-ok : {E : Type 0} (old new : DirData) (b a : Sent) (r : Result Handled E) (rule other : DirState → rules.Answer)
    → ((e : ℕ → ℕ) → other (dir_of e old) ≡ rule (dir_of e old))
    → IfOk r (λ h. Gives old new b a h rule) → IfOk r (λ h. Gives old new b a h other)
gives-ok old new b a (Ok h) rule other same g = gives-by rule other same g
gives-ok old new b a (Err x) rule other same g = tt

pub waits : {d : DirData} {b : Sent} {rule : DirState → rules.Answer} → ((e : ℕ → ℕ) → rule (dir_of e d) ≡ rules.Waits)
    → Gives d d b b Waits rule
waits {b = b} h = record { sent = []; behind = sym (append-nil b); answer = h; still = λ _. (refl, refl) }

pub drops : {d : DirData} {b : Sent} {rule : DirState → rules.Answer} → ((e : ℕ → ℕ) → rule (dir_of e d) ≡ rules.Drops)
    → Gives d d b b Dropped rule
drops {b = b} h = record { sent = []; behind = sym (append-nil b); answer = h; still = λ _. (refl, refl) }

pub takes : {old new : DirData} {b a : Sent} {rule : DirState → rules.Answer} (sent : Sent) → a ≡ b ++ sent
    → ((e : ℕ → ℕ) → rule (dir_of e old) ≡ rules.Takes (dir_of e new) (sends_of sent)) → Gives old new b a Done rule
takes sent p h = record { sent = sent; behind = p; answer = h; still = λ f. absurd (false≢true (sym f)) }

pub asks : {old new : DirData} {b a : Sent} {rule : DirState → rules.Answer} (sent : Sent) → a ≡ b ++ sent
    → ((e : ℕ → ℕ) → rule (dir_of e old) ≡ rules.Asks (dir_of e new) (sends_of sent)) → Gives old new b a Asked rule
asks sent p h = record { sent = sent; behind = p; answer = h; still = λ f. absurd (false≢true (sym f)) }

none-sent : nothing ≡ sends_of []
unfolding sends_of
none-sent = λ i n. []

pub takes-quiet : {old new : DirData} {b : Sent} {rule : DirState → rules.Answer}
    → ((e : ℕ → ℕ) → rule (dir_of e old) ≡ rules.Takes (dir_of e new) nothing) → Gives old new b b Done rule
takes-quiet {new = new} {b = b} h = takes [] (sym (append-nil b)) (λ e. h e ∙ ap (λ f. rules.Takes (dir_of e new) f) none-sent)

-- one message to one node
pub sent-one : (d : NodeId) (m : Msg) → to (node_of d) (msg_of m ∷ []) ≡ sends_of ((d, m) ∷ [])
unfolding sends_of
sent-one d m = λ i n. sym (append-nil (if node_eq n (node_of d) then msg_of m ∷ [] else [])) i

pub skip-takes : (ls : Pages) (ws : Words) (sv : Serving) (n : ℕ) (next : Serving) (b : Sent) (t : ℕ) → next ≡ skipped t sv
    → nat_lt t sv.serving ≡ false
    → Gives (parts ls ws sv n) (parts ls ws next n) b b Done (rules.skip t)
unfolding dir_of
skip-takes ls ws sv n next b t p f = takes-quiet (λ e. skip-other t (dir_of e (parts ls ws sv n)) f
    ∙ ap (λ v. rules.Takes (record { words = words_at e ws; serving = v; lines = kept ls; owed = n }) nothing) (sym p))

pub abort-keeps : (ls : Pages) (ws : Words) (sv : Serving) (n : ℕ) (next : Serving) (b : Sent) (t : ℕ) → next ≡ skipped t sv
    → nat_lt t sv.serving ≡ false → (sv.serving == t) ≡ false
    → Gives (parts ls ws sv n) (parts ls ws next n) b b Done (rules.abort t)
unfolding dir_of
abort-keeps ls ws sv n next b t p f g = takes-quiet (λ e. abort-higher t (dir_of e (parts ls ws sv n)) f g
    ∙ ap (λ v. rules.Takes (record { words = words_at e ws; serving = v; lines = kept ls; owed = n }) nothing)
    (sym (p ∙ skipped-higher t sv f g)))

pub abort-moves : (ls : Pages) (ws : Words) (sv : Serving) (n : ℕ) (clear : Pages) (next : Serving) (b : Sent) (t : ℕ)
    → kept clear ≡ unmarked (kept ls) → next ≡ skipped t sv → nat_lt t sv.serving ≡ false → (sv.serving == t) ≡ true
    → Gives (parts ls ws sv n) (parts clear ws next n) b b Done (rules.abort t)
unfolding dir_of rules.moved_on
abort-moves ls ws sv n clear next b t q p f g = takes-quiet (λ e. abort-served t (dir_of e (parts ls ws sv n)) f g
    ∙ (λ i. rules.Takes (record { words = words_at e ws; serving = sym (p ∙ skipped-served t sv f g) i; lines = sym q i; owed = n })
    nothing))

pub probe-answers : (d : DirData) (b a : Sent) (c : CoreId) (t sv : Tid) → sv.0 ≡ d.serving.serving → nat_lt d.serving.serving t.0 ≡ false
    → a ≡ b ++ (node.Core c, code.ProbeReply t sv) ∷ [] → Gives d d b a Done (rules.probe c.0 t.0)
unfolding dir_of
probe-answers d b a c t sv s f p = takes ((node.Core c, code.ProbeReply t sv) ∷ []) p (λ e. probe-served c.0 t.0 (dir_of e d) f
    ∙ (ap (λ k. rules.Takes (dir_of e d) (to (Core c.0) (ProbeReply t.0 k ∷ []))) (sym s)
    ∙ ap (λ g. rules.Takes (dir_of e d) g) (sent-one (node.Core c) (code.ProbeReply t sv))))

pub ask-asks : (ls : Pages) (ws : Words) (sv : Serving) (n : ℕ) (next : Pages) (b a : Sent) (o : CoreId) (l : LineAddr)
    → kept next ≡ with_asked l.0 true (kept ls) → (kept ls).asked l.0 ≡ false → a ≡ b ++ (node.Core o, code.DataReq l) ∷ []
    → Gives (parts ls ws sv n) (parts next ws sv n) b a Asked (rules.ask_owner o.0 l.0)
unfolding dir_of
ask-asks ls ws sv n next b a o l q f p = asks ((node.Core o, code.DataReq l) ∷ []) p (λ e. ask-first o.0 l.0 (dir_of e (parts ls ws sv n)) f
    ∙ (λ i. rules.Asks (record { words = words_at e ws; serving = sv; lines = sym q i; owed = n })
    (sent-one (node.Core o) (code.DataReq l) i)))

pub fill-fills : (ls : Pages) (ws : Words) (sv : Serving) (n : ℕ) (next : Pages) (b a : Sent) (c : CoreId) (l : LineAddr) (xs : List ℕ)
    → kept next ≡ with_sharer l.0 c.0 true (kept ls) → ((e : ℕ → ℕ) → xs ≡ eight (λ k. words_at e ws (word_at l.0 k)))
    → a ≡ b ++ (node.Core c, code.Fill l xs) ∷ []
    → Gives (parts ls ws sv n) (parts next ws sv n) b a Done (λ s. rules.load_unless_owned c.0 l.0 s None)
unfolding dir_of rules.home_words
fill-fills ls ws sv n next b a c l xs q w p = takes ((node.Core c, code.Fill l xs) ∷ []) p (λ e.
    ap (λ ys. rules.Takes (record { words = words_at e ws; serving = sv; lines = with_sharer l.0 c.0 true (kept ls); owed = n })
    (to (Core c.0) (Fill l.0 ys ∷ []))) (sym (w e))
    ∙ (λ i. rules.Takes (record { words = words_at e ws; serving = sv; lines = sym q i; owed = n })
    (sent-one (node.Core c) (code.Fill l xs) i)))

pub mark-marks : (ls : Pages) (ws : Words) (sv : Serving) (n : ℕ) (next : Pages) (b : Sent) (l m : ℕ) → kept next ≡ with_mark l m (kept ls)
    → Gives (parts ls ws sv n) (parts next ws sv n) b b Done (λ s. rules.mark_unless_owned l m s None)
unfolding dir_of
mark-marks ls ws sv n next b l m q =
    takes-quiet (λ e i. rules.Takes (record { words = words_at e ws; serving = sv; lines = sym q i; owed = n }) nothing)

pub home-takes : (ls : Pages) (ws : Words) (sv : Serving) (n : ℕ) (next : Pages) (came : Words) (b : Sent) (l m : ℕ) (xs : List ℕ)
    → kept next ≡ with_asked l false (with_owner l None (kept ls)) → ((e : ℕ → ℕ) → words_at e came ≡ with_words l m xs (words_at e ws))
    → Gives (parts ls ws sv n) (parts next came sv n) b b Done (λ s. rules.Takes (rules.came_home l m xs s) nothing)
unfolding dir_of rules.came_home
home-takes ls ws sv n next came b l m xs q w =
    takes-quiet (λ e i. rules.Takes (record { words = sym (w e) i; serving = sv; lines = sym q i; owed = n }) nothing)

pub acknowledgement-takes : (ls : Pages) (ws : Words) (sv : Serving) (n : ℕ) (next : Pages) (new : DirData) (b : Sent) (c l : ℕ)
    (keeps : Bool)
    → kept next ≡ rules.unless_keeps keeps c l (kept ls)
    → ((e : ℕ → ℕ) → dir_of e new ≡ rules.moved_on_if_settled (dir_of e (parts next ws sv (n - 1)))) → (n == 0) ≡ false
    → Gives (parts ls ws sv n) new b b Done (rules.acknowledgement c l keeps)
unfolding dir_of
acknowledgement-takes ls ws sv n next new b c l keeps q w f =
    takes-quiet (λ e. acknowledgement-owed c l keeps (dir_of e (parts ls ws sv n)) f
    ∙ (ap (λ k. rules.Takes (rules.moved_on_if_settled (record { words = words_at e ws; serving = sv; lines = k; owed = n - 1 })) nothing)
    (sym q)
    ∙ ap (λ s. rules.Takes s nothing) (sym (w e))))
