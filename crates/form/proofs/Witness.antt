-- 01's listing is of the form: the table and its text.
-- Assumes nothing.
use mathlib.Core.Path.{refl}
use mathlib.Core.List.{List, [], ◌∷◌, flat_map}
use Prim.Native.Nat.{ℕ}
use Rattle.tables.specs.Project.{Project, project, missing}
use Rattle.form.specs.Form.{bytes, spell, number, field, row, transpose, section, sections, render, even, has_text, Renders}

abbrev pub listing : Project
listing =
    project 0 0
    (1 ∷ 1 ∷ 1 ∷ 1 ∷ []) (1 ∷ 1 ∷ 1 ∷ 1 ∷ []) (0 ∷ 1 ∷ 1 ∷ 1 ∷ []) (0 ∷ 0 ∷ 0 ∷ 0 ∷ []) (1 ∷ 1 ∷ 1 ∷ 1 ∷ []) (0 ∷ 0 ∷ 0 ∷ 0 ∷ []) (1 ∷ 0 ∷ 0 ∷ 1 ∷ []) (missing ∷ missing ∷ missing ∷ missing ∷ [])
    (1 ∷ 1 ∷ []) (0 ∷ 0 ∷ []) (2 ∷ 3 ∷ [])
    (1 ∷ 1 ∷ []) (2 ∷ 3 ∷ [])
    [] [] [] [] [] [] [] [] [] [] [] [] []
    (1 ∷ 0 ∷ [])
    (0 ∷ 0 ∷ 1 ∷ 1 ∷ []) (2 ∷ 1 ∷ 0 ∷ 3 ∷ [])
    (0 ∷ []) (1 ∷ [])
    (1 ∷ []) (0 ∷ [])
    []

abbrev pub text : List ℕ
text =
    bytes "runtime dynamic\n0 0\n\nnormal included sensitive reads exports wrap chunk newer\n1 1 0 0 1 0 1 -\n1 1 1 0 1 0 0 -\n1 1 1 0 1 0 0 -\n1 1 1 0 1 0 1 -\n\nmodule kind target\n1 0 2\n1 0 3\n\nmodule dependency\n1 2\n1 3\n\nmodule included\n\nstatement record\n\nowner canonical\n\nsymbol link\n\nstatement form symbol\n\nreference depended\n\norder\n1\n0\n\nchunk member\n0 2\n0 1\n1 0\n1 3\n\nchunk imports\n0 1\n\nentry chunk\n1 0\n\nseed\n\n"

pub renders : Renders text listing
unfolding flat_map spell number field row transpose section sections render even has_text
renders = (refl, refl)
