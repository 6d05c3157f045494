-- The import circles of a project.
-- Assumes nothing.
use Rattle.std.specs.Prelude.{ℕ, List, ◌∷◌}
use Rattle.tables.specs.Project.{Project}
use Rattle.tables.specs.Readings.{modules}
use Rattle.sort_modules.specs.Sort.{statics_of}
use Rattle.circle_search.specs.Circles.{circles}

-- what the sort walks: the targets "over kinds 0 and 1, and 2 if dynamic is 1"
unfoldable pub walked : Project → ℕ → List ℕ
walked p = statics_of p.dynamic p.normal p.record_module p.record_kind p.record_target

-- where it starts: "the runtime .., then the entries in row order"
unfoldable pub roots_of : Project → List ℕ
roots_of p = p.runtime ∷ p.entry

-- the paths that the module sort yields
unfoldable pub circles_of : Project → List (List ℕ)
circles_of p = circles (walked p) (modules p) (roots_of p)
