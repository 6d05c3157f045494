-- The modules of an entry's page, over its two sensitive orders.
-- Assumes nothing.
use Rattle.std.specs.Prelude.{ℕ, not, List, ◌++◌}
use Rattle.lists.specs.Words.{keep, elem}

-- "the others by actual place": those of the actual sensitive order that the expected one hasn't
unfoldable pub others_of : List ℕ → List ℕ → List ℕ
others_of expected actual = keep (λ (m : ℕ). not (elem m expected)) actual

-- "Modules of the expected sensitive order come first in that order, then the others by actual place."
unfoldable pub modules_of : List ℕ → List ℕ → List ℕ
modules_of expected actual = expected ++ others_of expected actual
