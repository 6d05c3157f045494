-- What is read for the modules from here on is found.
use Rattle.replacement.specs.inner.Passes.{Found}
use Rattle.replacement.proofs.inner.find_latest.Given as goal

abbrev pub invariant-loop-m : goal.invariant-loop-m
invariant-loop-m l = Found l.newer l.found l.m
