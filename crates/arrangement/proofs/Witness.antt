-- An arrangement computed: rolldown's own module first, then the leaves by name (`~` as byte 0, before `!`), one of them twice a member, then the others by number.
-- Assumes nothing.
use Rattle.std.specs.Prelude.{◌≡◌, ℕ, true, List, [], ◌∷◌, ◌++◌}
use mathlib.Core.Path.{refl}
use mathlib.Core.List.{flat_map}
use Rattle.tables.specs.Readings.{rows_of, values_of}
use Rattle.form.specs.Form.{bytes}
use Rattle.names.specs.Names.{lines_of, ended, names_fit, name_of}
use Rattle.name_order.specs.Sooner.{sooner, begins}
use Rattle.merge_sort.specs.Sort.{ahead, sort_with}
use Rattle.module_keys.specs.Keys.{group_by, key_of}
use Rattle.arrangement.specs.Arrangement.{arranged}

-- the names of six modules, `a`, `~rolldown/r`, `!a`, `~a`, `z` and `a~`
abbrev names : List ℕ
names = bytes "a" ++ 10 ∷ (bytes "~rolldown/r" ++ 10 ∷ (bytes "!a" ++ 10 ∷ (bytes "~a" ++ 10 ∷ (bytes "z" ++ 10 ∷ (bytes "a~" ++ 10 ∷ [])))))

pub of-the-form : names_fit 6 names ≡ true
unfolding names_fit ended lines_of
of-the-form = refl

-- all are normal, 4 has a record, 5 has the sensitive flag; 5 has a lower number than 4
pub computed : arranged (key_of names (1 ∷ 1 ∷ 1 ∷ 1 ∷ 1 ∷ 1 ∷ []) (4 ∷ []) (0 ∷ 1 ∷ 0 ∷ 0 ∷ 0 ∷ 1 ∷ []) (0 ∷ 1 ∷ 2 ∷ 3 ∷ 5 ∷ 4 ∷ [])) 2 (0 ∷ 0 ∷ 0 ∷ 0 ∷ 0 ∷ 0 ∷ 0 ∷ 1 ∷ 1 ∷ []) (0 ∷ 4 ∷ 2 ∷ 5 ∷ 3 ∷ 1 ∷ 0 ∷ 4 ∷ 2 ∷ []) ≡ 1 ∷ 3 ∷ 2 ∷ 0 ∷ 0 ∷ 5 ∷ 4 ∷ 2 ∷ 4 ∷ []
unfolding arranged flat_map sort_with ahead sooner key_of group_by begins name_of lines_of values_of rows_of
computed = refl
