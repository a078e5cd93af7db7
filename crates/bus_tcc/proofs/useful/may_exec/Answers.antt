-- By the core's phase.
use Rattle.std.proofs.Common.{sym, ◌∙◌, true, false}
use Rattle.base_lemmas.proofs.Lemmas.{and-true}
use Rattle.rules_tcc.specs.State.{Running, AwaitTid, DoomedTid, Probing, Ready, Solo, Halted}
use Rattle.bus_tcc.proofs.Using.{at-overflowing, at-phase}
use Rattle.bus_tcc.proofs.useful.may_exec.Goals as goal

pub returns-in-Running-clause-free : goal.returns-in-Running-clause-free
returns-in-Running-clause-free c = c.requires.can ∙ sym (and-true _) ∙ at-phase _ _ true _ _ Running c.in-Running.ensures

pub returns-in-Running-clause-taken : goal.returns-in-Running-clause-taken
returns-in-Running-clause-taken c = λ h.
    rw (c.goes_on.ensures h, c.requires.can) (at-phase _ _ false _ _ Running c.in-Running.ensures)

pub returns-in-Solo-clause-free : goal.returns-in-Solo-clause-free
returns-in-Solo-clause-free c = c.requires.can ∙ at-phase _ _ true _ _ (Solo c.in-Solo.field-0.0) c.in-Solo.ensures

pub returns-in-Solo-clause-taken : goal.returns-in-Solo-clause-taken
returns-in-Solo-clause-taken c = λ h. c.requires.can ∙ at-phase _ _ false _ _ (Solo c.in-Solo.field-0.0) c.in-Solo.ensures

pub returns-in-AwaitTid-clause-free : goal.returns-in-AwaitTid-clause-free
returns-in-AwaitTid-clause-free c = at-phase _ _ true _ _ AwaitTid c.in-AwaitTid.ensures

pub returns-in-AwaitTid-clause-taken : goal.returns-in-AwaitTid-clause-taken
returns-in-AwaitTid-clause-taken c = λ h. at-phase _ _ false _ _ AwaitTid c.in-AwaitTid.ensures

pub returns-in-DoomedTid-clause-free : goal.returns-in-DoomedTid-clause-free
returns-in-DoomedTid-clause-free c = at-phase _ _ true _ _ DoomedTid c.in-DoomedTid.ensures

pub returns-in-DoomedTid-clause-taken : goal.returns-in-DoomedTid-clause-taken
returns-in-DoomedTid-clause-taken c = λ h. at-phase _ _ false _ _ DoomedTid c.in-DoomedTid.ensures

pub returns-in-Probing-clause-free : goal.returns-in-Probing-clause-free
returns-in-Probing-clause-free c = at-phase _ _ true _ _ (Probing c.in-Probing.field-0.0) c.in-Probing.ensures

pub returns-in-Probing-clause-taken : goal.returns-in-Probing-clause-taken
returns-in-Probing-clause-taken c = λ h. at-phase _ _ false _ _ (Probing c.in-Probing.field-0.0) c.in-Probing.ensures

pub returns-in-Ready-clause-free : goal.returns-in-Ready-clause-free
returns-in-Ready-clause-free c = at-phase _ _ true _ _ (Ready c.in-Ready.field-0.0) c.in-Ready.ensures

pub returns-in-Ready-clause-taken : goal.returns-in-Ready-clause-taken
returns-in-Ready-clause-taken c = λ h. at-phase _ _ false _ _ (Ready c.in-Ready.field-0.0) c.in-Ready.ensures

pub returns-in-Halted-clause-free : goal.returns-in-Halted-clause-free
returns-in-Halted-clause-free c = at-phase _ _ true _ _ Halted c.in-Halted.ensures

pub returns-in-Halted-clause-taken : goal.returns-in-Halted-clause-taken
returns-in-Halted-clause-taken c = λ h. at-phase _ _ false _ _ Halted c.in-Halted.ensures

pub returns-in-Overflowing-clause-free : goal.returns-in-Overflowing-clause-free
returns-in-Overflowing-clause-free c = at-overflowing _ _ _ _ _ c.in-Overflowing.field-0 c.in-Overflowing.ensures

pub returns-in-Overflowing-clause-taken : goal.returns-in-Overflowing-clause-taken
returns-in-Overflowing-clause-taken c = λ h. at-overflowing _ _ _ _ _ c.in-Overflowing.field-0 c.in-Overflowing.ensures
