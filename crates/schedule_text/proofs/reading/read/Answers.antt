use Rattle.std.proofs.Common.{ℕ, ◌≡◌, ◌+◌, ◌++◌, [], ◌∷◌, length, Some, None, cond, ltb, sym, subst, ◌∙◌, List, arith}
use Rattle.std.proofs.lemmas.Grind.{common_steps}
use Rattle.tcc_msg.specs.declared.event.Event.{Event}
use Rattle.schedule_text.specs.Faults.{IsFirstFault}
use Rattle.schedule_text.specs.Reading.{event_at}
use Rattle.std.proofs.lemmas.List.{length_push}
use Rattle.tcc_base.specs.Limits.{text_limit}
use Rattle.schedule_text.proofs.FirstLines.{has_event}
use Rattle.schedule_text.proofs.Texts.{Front, front_more, read_found, read_only, no_last, other_count, more_after}
use Rattle.schedule_text.proofs.reading.read.Goals as goal

pub loop-event-preserved : goal.loop-event-preserved
loop-event-preserved c =
    let past : List Event = c.loop-event.events in
    let event : Event = c.in-Some.event in
    let next : cond (ltb (length past) text_limit) (event_at c.in-Ok.found.0 c.loop-event.rest.now) None
    ≡ Some (event, c.in-Some.after.now) =
    grind (arith, common_steps) in
    let pushed : c.push.new.self ≡ past ++ event ∷ [] = grind (arith, common_steps) in
    subst (λ (es : List Event). Front c.args.bytes.now c.in-Ok.found.0 es c.in-Some.after.now) (sym pushed)
    (front_more c.args.bytes.now c.in-Ok.found.0 past c.loop-event.rest.now event c.in-Some.after.now c.loop-event.invariant next)

pub returns-in_err-push-clause-memory : goal.returns-in_err-push-clause-memory
returns-in_err-push-clause-memory c =
    let past : List Event = c.loop-event.events in
    let event : Event = c.in-Some.event in
    let next : cond (ltb (length past) text_limit) (event_at c.in-Ok.found.0 c.loop-event.rest.now) None
    ≡ Some (event, c.in-Some.after.now) =
    grind (arith, common_steps) in
    let rest : List ℕ = c.loop-event.rest.now in
    let front = front_more c.args.bytes.now c.in-Ok.found.0 past rest event c.in-Some.after.now c.loop-event.invariant next in
    λ _. has_event c.args.bytes.now c.in-Ok.found.0 (past ++ event ∷ []) c.in-Some.after.now front (omega (arith, length_push past event))

-- the last line is missing

pub returns-in_default-end-clause-line : goal.returns-in_default-end-clause-line
returns-in_default-end-clause-line c =
    let no-event : cond (ltb (length c.loop-event.events) text_limit) (event_at c.in-Ok.found.0 c.loop-event.rest.now) None ≡ None =
    grind (arith, common_steps) in
    let line : length c.loop-event.events + 3 ≡ c.len-count.result + 3 = grind (arith, common_steps) in
    subst (λ (k : ℕ). IsFirstFault k c.args.bytes.now) line
    (no_last c.args.bytes.now c.in-Ok.found.0 c.loop-event.events c.loop-event.rest.now c.loop-event.invariant no-event
    c.in_default-end.ensures)

pub returns-in_default-end-clause-only : goal.returns-in_default-end-clause-only
returns-in_default-end-clause-only c = (returns-in_default-end-clause-line c).refused

-- it has another number

pub returns-then-told-count-clause-line : goal.returns-then-told-count-clause-line
returns-then-told-count-clause-line c =
    let no-event : cond (ltb (length c.loop-event.events) text_limit) (event_at c.in-Ok.found.0 c.loop-event.rest.now) None ≡ None =
    grind (arith, common_steps) in
    let count : length c.loop-event.events ≡ c.len-count.result = grind (arith, common_steps) in
    let line : length c.loop-event.events + 3 ≡ c.len-count.result + 3 = omega arith in
    subst (λ (k : ℕ). IsFirstFault k c.args.bytes.now) line
    (other_count c.args.bytes.now c.in-Ok.found.0 c.loop-event.events c.loop-event.rest.now c.in-Some-end.told c.in-Some-end.after.now
    c.loop-event.invariant no-event c.in-Some-end.ensures (λ same. c.if-told-count.true (same ∙ count)))

pub returns-then-told-count-clause-only : goal.returns-then-told-count-clause-only
returns-then-told-count-clause-only c = (returns-then-told-count-clause-line c).refused

-- something follows it

pub returns-then-not-is_empty-clause-line : goal.returns-then-not-is_empty-clause-line
returns-then-not-is_empty-clause-line c =
    let count : length c.loop-event.events ≡ c.len-count.result = grind (arith, common_steps) in
    let line : length c.loop-event.events + 4 ≡ c.len-count.result + 4 = omega arith in
    subst (λ (k : ℕ). IsFirstFault k c.args.bytes.now) line
    (more_after c.args.bytes.now c.in-Ok.found.0 c.loop-event.events c.loop-event.rest.now c.in-Some-end.told c.in-Some-end.after.now
    c.loop-event.invariant c.in-Some-end.ensures (c.if-told-count.false ∙ sym count) (λ none. grind (arith, common_steps)))

pub returns-then-not-is_empty-clause-only : goal.returns-then-not-is_empty-clause-only
returns-then-not-is_empty-clause-only c = (returns-then-not-is_empty-clause-line c).refused

-- nothing does

pub returns-clause-found : goal.returns-clause-found
returns-clause-found c =
    let count : length c.loop-event.events ≡ c.len-count.result = grind (arith, common_steps) in
    let none : length c.in-Some-end.after.now ≡ 0 = grind (arith, common_steps) in
    read_found c.args.bytes.now c.in-Ok.found.0 c.loop-event.events c.loop-event.rest.now c.in-Some-end.told c.in-Some-end.after.now
    c.loop-event.invariant c.in-Some-end.ensures (c.if-told-count.false ∙ sym count) none

pub returns-clause-only : goal.returns-clause-only
returns-clause-only c =
    let count : length c.loop-event.events ≡ c.len-count.result = grind (arith, common_steps) in
    let none : length c.in-Some-end.after.now ≡ 0 = grind (arith, common_steps) in
    read_only c.args.bytes.now c.in-Ok.found.0 c.loop-event.events c.loop-event.rest.now c.in-Some-end.told c.in-Some-end.after.now
    c.loop-event.invariant c.in-Some-end.ensures (c.if-told-count.false ∙ sym count) none
