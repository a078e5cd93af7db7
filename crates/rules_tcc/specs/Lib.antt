-- The protocol as definitions, to be read in this order beside docs/PROTOCOL.md, which has each rule in words and names its definition.
-- A definition stands below those that it uses, so a rule is the last of its group, and what comes before it are its cases.
--
-- The notation, as far as it is needed to read on:
--   `f : A → B → C` and `f a b`           a function of two arguments, and its value; `A → Bool` is a set, `A → B` also a table
--   `λ x. e`                              the function whose value at x is e
--   `f (Mark l m t) = ..`, `f _ = ..`     a function by cases: the first line that fits holds, and `_` fits all
--   `record s { phase = Running }`        s with one field changed; `s.phase` is a field, `p.0` and `p.1` are the parts of a pair
--   `Option`, `Some x`, `None`            a value or none; a rule that gives None isn't enabled
--   `[]`, `x ∷ xs`, `xs ++ ys`            lists; `those p n` are the numbers below n of which p holds, in rising order
--   `put f i v`                           the table f with v at i
--   `a ≡ b`, `×`, `⊎`, `(x : A) → P x`    equality, and, or, for all; these stand in laws alone
--   `&&`, `||`, `not`, `==`, `nat_lt`     tests, whose values are true and false
--   `abbrev`, `unfoldable`                how far a proof sees through a definition; for a reader both are `=`

-- what each node knows, and what is on its way; links; what a node sends
pub mod State
pub mod Links
pub mod Sends
-- a core: its attempt, one instruction, the two ways to commit, and its three kinds of event
pub mod Attempt
pub mod Execute
pub mod Commit
pub mod CoreExec
pub mod CoreEvict
pub mod CoreDeliver
-- a directory and the vendor
pub mod DirDeliver
pub mod VendorDeliver
-- all of it as one step and as a run; what is committed, and when all is done; what may be chosen, and the schedule that is
pub mod Step
pub mod Seen
pub mod Useful
pub mod Picked
-- schedules worked by hand: the programs, how a schedule and its end are written, and the schedules
pub mod Small
pub mod Rows
pub mod Schedules
pub mod Needs
pub mod Told
pub mod Names
pub mod Cases
-- laws of the rules by themselves; nodes that are kept apart, and their logs as one schedule
pub mod Laws
pub mod Local
pub mod Merged
