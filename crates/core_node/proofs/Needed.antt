-- What the rules do by what an instruction needs.
use Rattle.std.proofs.Common.{◌≡◌, ◌≢◌, ℕ, Option, Some, None, refl, ap, sym}
use Rattle.tcc_base.specs.declared.access.Size.{Size}
use Rattle.tcc_base.specs.declared.access.Size.TheVariants.{Byte, Half, Word}
use Rattle.rules_program.specs.Program.{Program, unreserved, Need as Asked, Nothing, Loads, Stores, Changes, Prints, Ends, Halts, Traps}
use Rattle.rules_program.specs.Plain.{Halted, Trapped}
use Rattle.rules_program.specs.Ram.{word_of}
use Rattle.tcc_msg.specs.declared.outgoing.Outgoing.{Outgoing}
use Rattle.rules_maps.specs.Shape.{Shape}
use Rattle.rules_tcc.specs.State.{CoreState}
use Rattle.rules_tcc.specs.Attempt.{Out, moves, finished}
use Rattle.rules_tcc.specs.Execute.{end_transaction, execute_need}
use Rattle.rules_tcc.specs.Sends.{nothing}
use Rattle.rv_decode.specs.declared.instruction.AmoOp.{AmoOp}
use Rattle.rv_exec.specs.declared.need.Need.{Need}
use Rattle.rv_exec.specs.declared.need.Need.TheVariants as code
use Rattle.rv_exec.specs.Needs.{need_of}
use Rattle.core_node.specs.Executing.{DidSome, GoesOn, Notes, concluded}
use Rattle.core_node.specs.declared.state.Core.{Core}
use Rattle.core_node.proofs.Finished.{finished_halts, finished_traps}
use Rattle.core_node.proofs.Programs.{Unnoted, unnoted_load, unnoted_word, unnoted_partial}

-- an instruction that neither ends its transaction nor accesses memory
pub does_plain : (sh : Shape) (p : Program) (id : ℕ) (s : CoreState) (n : Need) → GoesOn (need_of n)
    → ((addr : ℕ) (size : Size) → n ≢ code.Load addr size) → ((addr : ℕ) (size : Size) (value : ℕ) → n ≢ code.Store addr size value)
    → ((addr : ℕ) (op : AmoOp) (value : ℕ) → n ≢ code.Amo addr op value)
    → execute_need sh p id s (need_of n) ≡ Some (moves (finished p (need_of n) 0 s) nothing)
does_plain sh p id s code.Nothing g a b d = refl
does_plain sh p id s (code.Load addr size) g a b d = absurd (a addr size refl)
does_plain sh p id s (code.Store addr size value) g a b d = absurd (b addr size value refl)
does_plain sh p id s (code.Amo addr op value) g a b d = absurd (d addr op value refl)
does_plain sh p id s (code.Console byte) g a b d = refl
does_plain sh p id s code.End g a b d = absurd g
does_plain sh p id s (code.Halt status) g a b d = absurd g
does_plain sh p id s (code.Trap cause) g a b d = absurd g

-- an instruction that ends its transaction
pub does_end : (sh : Shape) (p : Program) (id : ℕ) (s : CoreState) (n : Need) → n ≡ code.End
    → execute_need sh p id s (need_of n) ≡ Some (end_transaction sh id s.phase (finished p Ends 0 s))
does_end sh p id s n e = rw e refl

pub does_halt : (sh : Shape) (p : Program) (id : ℕ) (s : CoreState) (n : Need) (status : ℕ) → n ≡ code.Halt status
    → execute_need sh p id s (need_of n) ≡ Some (end_transaction sh id s.phase (concluded (unreserved s.local) (Halted status) s))
does_halt sh p id s n status e = rw e (ap (λ (t : CoreState). Some (end_transaction sh id s.phase t)) (finished_halts p status 0 s))

pub does_trap : (sh : Shape) (p : Program) (id : ℕ) (s : CoreState) (n : Need) (cause : ℕ) → n ≡ code.Trap cause
    → execute_need sh p id s (need_of n) ≡ Some (end_transaction sh id s.phase (concluded (unreserved s.local) (Trapped cause) s))
does_trap sh p id s n cause e = rw e (ap (λ (t : CoreState). Some (end_transaction sh id s.phase t)) (finished_traps p cause 0 s))

-- nothing is noted of one that doesn't
pub unnoted_goes_on : (sh : Shape) (p : Program) (id : ℕ) (s : CoreState) (n : Asked) → GoesOn n → Unnoted (execute_need sh p id s n)
unnoted_goes_on sh p id s Nothing g = refl
unnoted_goes_on sh p id s (Loads addr size) g = unnoted_load sh p (Loads addr size) (word_of sh.base addr) s
unnoted_goes_on sh p id s (Stores addr Word value) g = unnoted_word sh p (Stores addr Word value) (word_of sh.base addr) value s
unnoted_goes_on sh p id s (Stores addr Half value) g = unnoted_partial sh p (Stores addr Half value) (word_of sh.base addr) s
unnoted_goes_on sh p id s (Stores addr Byte value) g = unnoted_partial sh p (Stores addr Byte value) (word_of sh.base addr) s
unnoted_goes_on sh p id s (Changes addr changed) g = unnoted_partial sh p (Changes addr changed) (word_of sh.base addr) s
unnoted_goes_on sh p id s (Prints byte) g = refl
unnoted_goes_on sh p id s Ends g = absurd g
unnoted_goes_on sh p id s (Halts status) g = absurd g
unnoted_goes_on sh p id s (Traps cause) g = absurd g

pub notes_none : (o : Option Out) (n : ℕ) (before out : Outgoing) (c : Core) → Unnoted o → DidSome o n before c out → Notes None o
notes_none None n before out c u d = absurd d
notes_none (Some x) n before out c u d = sym u
