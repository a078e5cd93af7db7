-- All of it together, along every run.
pub mod AllInvariants
pub mod FactsOfRuns
pub mod AllCarried
pub mod TriedRun
pub mod CounterRun
