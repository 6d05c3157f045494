-- What holds of the import circles of an accepted project.
-- Assumes nothing.
use Rattle.std.specs.Prelude.{◌≡◌, false, ℕ, suc}
use mathlib.Core.List.{List, [], foldl, Memᴰ}
use Rattle.lists.specs.Words.{twice}
use Rattle.walk.specs.Reach.{Reach⁺, ReachAny}
use Rattle.tables.specs.Project.{Project}
use Rattle.tables.specs.Readings.{modules}
use Rattle.tables.specs.Accepted.{Accepted}
use Rattle.sort_modules.specs.Sort.{visited}
use Rattle.circle_search.specs.Circles.{Search, same_list, meet}
use Rattle.import_circles.specs.OfProject.{walked, roots_of, circles_of}
use Rattle.circle_laws.specs.Rings.{Ring}

-- the whole search of a project: its paths are the circles
unfoldable pub search_of : Project → Search
search_of p = foldl (meet (walked p) (suc (modules p))) (record { begun = []; numbered = []; paths = [] }) (roots_of p)

-- "those with a number", in order, are the modules that the sort numbers
unfoldable pub NumberedAsSorted : Type 0
NumberedAsSorted = (p : Project) → Accepted p → (search_of p).numbered ≡ visited p.dynamic p.normal p.record_module p.record_kind p.record_target p.runtime p.entry

-- each path is a ring of walked records
unfoldable pub CirclesAreRings : Type 0
CirclesAreRings = (p : Project) → Accepted p → (path : List ℕ) → Memᴰ path (circles_of p) → Ring (walked p) path

-- no path stands twice
unfoldable pub CirclesStandOnce : Type 0
CirclesStandOnce = (p : Project) → twice same_list (circles_of p) ≡ false

-- no module that the sort reaches has a path of one or more walked records to itself
unfoldable pub NoneReturns : Project → Type 0
NoneReturns p = (m : ℕ) → ReachAny (walked p) (roots_of p) m → Reach⁺ (walked p) m m → ⊥

-- there is no path exactly if none does
unfoldable pub NoneExactlyIfNoneReturns : Type 0
NoneExactlyIfNoneReturns = (p : Project) → Accepted p → (circles_of p ≡ [] → NoneReturns p) × (NoneReturns p → circles_of p ≡ [])
