-- The statements of specs/Statements, inhabited.
-- Assumes nothing.
use Rattle.tables.specs.Readings.{modules}
use Rattle.sort_modules.specs.Sort.{visited}
use Rattle.import_circles.specs.OfProject.{walked, roots_of, circles_of}
use Rattle.import_circles.proofs.Counts.{walked-inside, roots-inside}
use Rattle.circle_laws.specs.Statements.{search_of, NumberedAsSorted, CirclesAreRings, CirclesStandOnce, NoneReturns, NoneExactlyIfNoneReturns}
use Rattle.circle_laws.proofs.Found.{circles-once, circles-good, none_found}
use Rattle.circle_laws.proofs.Sorted.{numbered-order, none-returns}

pub numbered-as-sorted : NumberedAsSorted
unfolding NumberedAsSorted search_of visited walked roots_of
numbered-as-sorted p ok = numbered-order (walked p) (modules p) (walked-inside p ok) (roots_of p) (roots-inside p ok)

pub circles-are-rings : CirclesAreRings
unfolding CirclesAreRings circles_of
circles-are-rings p ok path h = (circles-good (walked p) (roots_of p) (modules p) path h).ring

pub circles-stand-once : CirclesStandOnce
unfolding CirclesStandOnce circles_of
circles-stand-once p = circles-once (walked p) (modules p) (roots_of p)

pub none-exactly-if-none-returns : NoneExactlyIfNoneReturns
unfolding NoneExactlyIfNoneReturns NoneReturns circles_of
none-exactly-if-none-returns p ok =
    (none-returns (walked p) (modules p) (walked-inside p ok) (roots_of p) (roots-inside p ok), none_found (walked p) (roots_of p) (modules p))
