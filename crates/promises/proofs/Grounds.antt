-- The promise of specs/Grounds, inhabited.
-- Assumes nothing.
use Rattle.sensitivity.proofs.Marks.{sensitive-is}
use Rattle.promises.specs.Grounds.{SensitiveAsTheScopeSays}

pub sensitive_as_the_scope_says : SensitiveAsTheScopeSays
unfolding SensitiveAsTheScopeSays
sensitive_as_the_scope_says p m = sensitive-is p m
