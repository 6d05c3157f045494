-- The names of rolldown's own modules.
-- Assumes nothing.
use Rattle.std.specs.Prelude.{ℕ, Bool, ◌||◌, List, ◌∷◌}
use Rattle.form.specs.Form.{bytes}
use Rattle.name_order.specs.Sooner.{begins}

-- "names beginning `rolldown:` or byte 0 and `rolldown/`"
abbrev pub is_runtime : List ℕ → Bool
is_runtime name = begins (bytes "rolldown:") name || begins (0 ∷ bytes "rolldown/") name
