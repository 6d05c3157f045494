-- 01's text form: a project's fifteen lists as text, the tables that have such a text, and a line of a result.
-- A text is a list of bytes; 10 is the line end LF and 32 a space.
-- Assumes nothing.
use Rattle.std.specs.Prelude.{◌≡◌, Bool, true, cond, ◌&&◌, ℕ, zero, suc, ◌+◌, ◌/◌, ◌%◌, length, get_or, eqb, ltb, leb}
use mathlib.Core.List.{List, [], ◌∷◌, ◌++◌, map, flat_map}
use Prim.Native.Char.{code}
use Prim.Native.String.{String}
use Rattle.lists.specs.Words.{up_to, every}
use Rattle.tables.specs.Project.{Project, missing}

-- a word as bytes
abbrev pub bytes : String → List ℕ
bytes String.[] = []
bytes (String.◌∷◌ c s) = code c ∷ bytes s

-- the decimal digits of n; the first argument bounds the recursion, and n itself is enough
unfoldable pub spell : ℕ → ℕ → List ℕ
spell zero n = (48 + n) ∷ []
spell (suc k) n = cond (ltb n 10) ((48 + n) ∷ []) (spell k (n / 10) ++ ((48 + n % 10) ∷ []))

-- "a number is decimal", without leading zeros
unfoldable pub number : ℕ → List ℕ
number n = spell n n

-- a field: a number, or `-` for the missing mark
unfoldable pub field : ℕ → List ℕ
field v = cond (eqb v missing) (bytes "-") (number v)

-- "one space between fields, LF line ends"
unfoldable pub row : List ℕ → List ℕ
row [] = 10 ∷ []
row (v ∷ []) = field v ++ 10 ∷ []
row (v ∷ u ∷ us) = field v ++ 32 ∷ row (u ∷ us)

-- for each i below n the list of what stands at i in each of the lists
unfoldable pub transpose : ℕ → List (List ℕ) → List (List ℕ)
transpose n lists = map (λ (i : ℕ). map (λ (l : List ℕ). get_or l i 0) lists) (up_to n)

-- how many rows columns have
abbrev pub row_count : List (List ℕ) → ℕ
row_count [] = zero
row_count (c ∷ cs) = length c

-- the rows of columns
abbrev pub rows_of : List (List ℕ) → List (List ℕ)
rows_of columns = transpose (row_count columns) columns

-- "each list: its line of names, its rows, an empty line"
unfoldable pub section : String → List (List ℕ) → List ℕ
section names columns = bytes names ++ 10 ∷ (flat_map row (rows_of columns) ++ 10 ∷ [])

-- one list after the other
unfoldable pub sections : List String → List (List (List ℕ)) → List ℕ
sections [] lists = []
sections (n ∷ ns) [] = []
sections (n ∷ ns) (l ∷ ls) = section n l ++ sections ns ls

-- the lines of names, in order
abbrev pub names : List String
names =
    "runtime dynamic"
    ∷ "normal included sensitive reads exports wrap chunk newer"
    ∷ "module kind target"
    ∷ "module dependency"
    ∷ "module included"
    ∷ "statement record"
    ∷ "owner canonical"
    ∷ "symbol link"
    ∷ "statement form symbol"
    ∷ "reference depended"
    ∷ "order"
    ∷ "chunk member"
    ∷ "chunk imports"
    ∷ "entry chunk"
    ∷ "seed"
    ∷ []

-- the columns of each list, in order; the settings are a list of one row
abbrev pub lists : Project → List (List (List ℕ))
lists p =
    ((p.runtime ∷ []) ∷ (p.dynamic ∷ []) ∷ [])
    ∷ (p.normal ∷ p.included ∷ p.sensitive ∷ p.reads ∷ p.exports ∷ p.wrap ∷ p.chunk ∷ p.newer ∷ [])
    ∷ (p.record_module ∷ p.record_kind ∷ p.record_target ∷ [])
    ∷ (p.dependency_module ∷ p.dependency ∷ [])
    ∷ (p.statement_module ∷ p.statement_included ∷ [])
    ∷ (p.use_statement ∷ p.use_record ∷ [])
    ∷ (p.owner ∷ p.canonical ∷ [])
    ∷ (p.chain_symbol ∷ p.chain_link ∷ [])
    ∷ (p.reference_statement ∷ p.reference_form ∷ p.reference_symbol ∷ [])
    ∷ (p.depended_reference ∷ p.depended ∷ [])
    ∷ (p.order ∷ [])
    ∷ (p.member_chunk ∷ p.member ∷ [])
    ∷ (p.import_chunk ∷ p.imports ∷ [])
    ∷ (p.entry ∷ p.entry_chunk ∷ [])
    ∷ (p.seed ∷ [])
    ∷ []

-- the text of a project
unfoldable pub render : Project → List ℕ
render p = sections names (lists p)

-- columns of equal length, with numbers of 32 bits
unfoldable pub even : List (List ℕ) → Bool
even columns = every (λ (c : List ℕ). eqb (length c) (row_count columns) && every (λ (x : ℕ). leb x missing) c) columns

-- a project that has a text
unfoldable pub has_text : Project → Bool
has_text p = every even (lists p)

-- "the form below": s is the text of the table p
abbrev pub Renders : List ℕ → Project → Type 0
Renders s p = (has_text p ≡ true) × (render p ≡ s)

-- fields with a space before each
unfoldable pub spaced : List ℕ → List ℕ
spaced [] = []
spaced (n ∷ ns) = 32 ∷ (field n ++ spaced ns)

-- a line of a result: its word, its numbers, LF; "an empty list leaves the words before it"
unfoldable pub line : List ℕ → List ℕ → List ℕ
line word numbers = word ++ (spaced numbers ++ 10 ∷ [])
