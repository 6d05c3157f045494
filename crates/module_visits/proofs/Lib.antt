-- `Hosting`: what hosts in turn keep. `Lending`: what is known between the visits of one visit. `ModuleVisits`, `MemberVisits`: a module's execution and that of
-- some modules in turn, with the counters lent.
pub mod Hosting
pub mod Lending
pub mod ModuleVisits
pub mod MemberVisits
